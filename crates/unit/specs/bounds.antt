-- What the proofs need, and no part of document 01's rules: how far the numbers of a unit can go. The contracts of
-- private functions ask for it; no open function does.
pub mod Numbers
