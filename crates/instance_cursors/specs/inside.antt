-- What no public clause cites.
pub mod Found
pub mod Follows
pub mod Stored
pub mod Chosen
