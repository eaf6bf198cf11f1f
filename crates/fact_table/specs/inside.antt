-- How a table finds facts by id, by what they say and by home. No public clause cites it.
pub mod FactIds
pub mod HomeIds
pub mod Index
pub mod Stored
