-- Laws of the definitions in specs/, cited by the functions' proofs and by the crates above.
pub mod HundredthLaws
pub mod PercentLaws
