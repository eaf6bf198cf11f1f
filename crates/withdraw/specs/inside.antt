-- How withdrawn facts are found in one go. No public clause cites it.
pub mod Gone
pub mod Stage
