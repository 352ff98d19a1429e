-- What the proofs of the console's functions cite.
pub mod LineLaws
pub mod SplitLaws
pub mod GivenLaws
pub mod AnswerLaws
pub mod HeldLaws
pub mod StandLaws
pub mod PartLaws
pub mod KeptLaws
pub mod FeedLaws
pub mod FinishLaws
pub mod PieceLaws
