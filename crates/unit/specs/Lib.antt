-- Document 01, section by section, with requests One and Three of document 02. `bounds` is no part of its rules.
pub mod Charts
pub mod Stretch
pub mod Set
pub mod Taken
pub mod Take
pub mod Status
pub mod Reached
pub mod Claim
pub mod Accepted
pub mod Since
pub mod ResidueUnit
pub mod Misidentified
pub mod Months
pub mod bounds
