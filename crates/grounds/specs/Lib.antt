-- Charts, runs and grounds for probation, over any contributions and limits.
pub mod Chart
pub mod Run
pub mod ChartLaw
pub mod Entry
pub mod Miss
pub mod Window
pub mod Earlier
pub mod Claim
