-- What is printed for a line.
pub mod Answer
