-- Rows of a table of refusals, which of them is given, and the numbers of the rows: document 01, "Refused", and document 02, request One.
pub mod Rows
pub mod Refusal
