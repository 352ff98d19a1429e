-- Definitions that know nothing of laboratories.
pub mod Each
