-- What a line is to the unit, by analyte category.
pub mod Date
pub mod Food
pub mod Residue
pub mod Rules
pub mod Sight
