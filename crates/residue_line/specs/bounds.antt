-- What the proofs need of the numbers' bounds, and no part of the documents' rules.
pub mod Types
pub mod Tables
