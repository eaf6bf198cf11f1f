-- What no public clause cites.
pub mod Constant
pub mod Stored
