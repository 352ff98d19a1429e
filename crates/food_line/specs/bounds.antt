-- What the proofs need of the numbers' bounds, and no part of document 01's rules.
pub mod Types
pub mod Tables
