-- What no public clause cites.
pub mod Making
pub mod Together
