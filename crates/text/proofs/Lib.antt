-- What the proofs of the functions cite.
pub mod BufferLaws
pub mod StatusLaws
pub mod PutLaws
