-- Document 01, "Refused": rows 3 to 7 of the table; the class of a product that they go by; and those of a residue line, document 02, request One.
pub mod Class
pub mod Refused
pub mod Residue
