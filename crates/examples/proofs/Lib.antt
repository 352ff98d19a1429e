-- The examples hold.
pub mod Table
pub mod Witness
pub mod Residue
pub mod Windows
pub mod Program
