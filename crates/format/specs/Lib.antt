-- What every format of a line shares: document 01, rows 1, 2 and 13 of "Refused" and the sentences there on writing.
pub mod Read
pub mod Write
pub mod Tagged
pub mod Layout
pub mod Sound
