-- Which percents are accepted, and their hundredths: document 01, "The line".
pub mod Percent
