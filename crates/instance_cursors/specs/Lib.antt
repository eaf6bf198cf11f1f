pub mod Ways
pub mod Layout
pub mod Turns
pub mod Instances
pub mod Waiting
pub mod Cursors
pub mod Choice
pub mod inside
