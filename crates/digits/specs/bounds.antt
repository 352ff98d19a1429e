-- What the proofs need of the code's numbers, and no part of what digits are.
pub mod Found
pub mod Loaded
pub mod Words
