-- Lemmas that know nothing of laboratories.
pub mod Below
pub mod Bools
pub mod Results
pub mod Masks
pub mod Table
pub mod Cond
pub mod Order
pub mod Word
pub mod Lists
pub mod Gathered
pub mod EachLaws
pub mod Lanes
pub mod Joins
pub mod Turns
