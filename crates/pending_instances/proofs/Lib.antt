pub mod Seen
pub mod Leading
pub mod Numbering
pub mod Opening
pub mod SaidOfPrograms
pub mod Edges
pub mod Starts
pub mod TestTables
