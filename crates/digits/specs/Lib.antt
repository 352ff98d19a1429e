-- Lowercase hexadecimal digits and the bytes that they write, slices and words of them, and numbers of a few bytes, the high byte first.
pub mod Digits
pub mod Slices
pub mod Numbers
pub mod Signed
pub mod Word
pub mod Library
pub mod Inverse
pub mod Examples
pub mod bounds
