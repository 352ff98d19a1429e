-- Laws that the proofs of `see` and of the unit cite.
pub mod FoodLaws
pub mod ResidueLaws
pub mod SightLaws
