pub mod Grammar
pub mod Once
pub mod Request
pub mod Seen
pub mod inside
