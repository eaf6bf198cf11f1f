-- What no public clause cites.
pub mod Lines
pub mod Held
pub mod Combined
pub mod Steps
