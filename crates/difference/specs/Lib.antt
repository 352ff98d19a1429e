-- Document 01, from a mean and a reading to what is added to the charts; document 02, request One, from two logs to the same; the analytes and the categories.
-- `bounds` is no part of the rules.
pub mod Analyte
pub mod Largest
pub mod Difference
pub mod Residue
pub mod Contribution
pub mod Standardize
pub mod bounds
