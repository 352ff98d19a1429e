-- What it says of a field that its row does not fit, cited by the crates above.
pub mod DateLaws
pub mod ResidueLaws
