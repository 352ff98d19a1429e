-- Laws that the proofs of functions cite.
pub mod Largest
pub mod PowerList
pub mod DistanceLaws
pub mod Fourth
pub mod ValueLaws
pub mod Coefficients
pub mod Bounds
pub mod MeanLaws
pub mod Given
