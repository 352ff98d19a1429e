-- Document 01, "Stages": the sums of an analyte over a study set, and its criteria.
pub mod Study
