pub mod Inserts
pub mod Parts
pub mod FactMaps
pub mod Found
pub mod Indexes
pub mod Lookups
pub mod Tables
pub mod Marks
