-- What a residue line is, which lines are refused, and what reading and writing give: document 02, request One.
pub mod Fields
pub mod FieldRows
pub mod Residue
pub mod Read
pub mod Write
pub mod Inverse
pub mod bounds
