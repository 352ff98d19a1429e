-- Laws of the first row that fits, cited by the crates above.
pub mod AnswerLaws
pub mod RowsLaws
