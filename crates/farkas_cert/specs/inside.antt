-- What no public clause cites.
pub mod Columns
pub mod RowAnswer
pub mod Weighing
