-- The chart law, and the claim from its parts.
pub mod Best
pub mod Chart
pub mod Entry
pub mod Years
pub mod Missed
pub mod Window
pub mod Counted
pub mod Charted
pub mod Claim
