-- Laws of the definitions in specs/, cited by the functions' proofs and by the crates above.
pub mod FieldLaws
pub mod Inverse
pub mod ReadLaws
pub mod RowLaws
pub mod WriteLaws
