-- What a row stands for.
pub mod Answer
