-- Document 01, "The program"; document 02, request Two.
pub mod Lines
pub mod Answer
pub mod Transcript
pub mod Given
pub mod bounds
pub mod Held
pub mod State
pub mod Stands
pub mod Feed
pub mod Finish
pub mod Pieces
pub mod Examples
