-- Document 01, "The program": the bytes of an event and of a stage, and what the status says of a chart.
pub mod Event
pub mod Report
pub mod Stage
