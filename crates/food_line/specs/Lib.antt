-- What a line is, which lines are refused, and what reading and writing give: document 01, "The line" and "Refused".
pub mod Amount
pub mod Fields
pub mod FieldRows
pub mod Food
pub mod Read
pub mod Write
pub mod Inverse
pub mod bounds
