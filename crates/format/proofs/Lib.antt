-- Laws of the definitions in specs/, cited by the functions' proofs and by the formats.
pub mod LayoutLaws
pub mod Parts
pub mod ReadLaws
pub mod WriteLaws
