-- How a core holds its state. No public clause cites it.
pub mod Parts
pub mod Kept
pub mod Taking
pub mod Premises
pub mod Agreeing
pub mod Publishing
pub mod Quiet
pub mod Standing
pub mod Claiming
pub mod Changing
