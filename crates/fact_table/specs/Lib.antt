pub mod Live
pub mod Table
pub mod inside
