-- Document 01, "The program": the texts that are printed. `bounds` is no part of its rules.
pub mod Text
pub mod Buffer
pub mod bounds
pub mod Examples
