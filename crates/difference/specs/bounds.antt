-- What the proofs need, and no part of document 01's rules: how far contributions can go, and which means a valid line has. The contracts of
-- private functions ask for it; no open function does.
pub mod Numbers
pub mod Means
