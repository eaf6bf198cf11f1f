pub mod NamedRowsLemmas
pub mod ColumnSums
pub mod Overflows
pub mod Totals
pub mod Refutations
pub mod PointSums
pub mod Integers
pub mod Divisors
pub mod Linear
pub mod Signs
pub mod Weighted
pub mod Derived
pub mod Refuting
pub mod Lists
pub mod Certificates
pub mod Eliminates
pub mod OpenColumns
pub mod Fuel
pub mod Fractions
pub mod Slack
pub mod Moves
pub mod Sides
pub mod Bounds
pub mod Between
pub mod Points
pub mod Combinations
pub mod Checks
pub mod Lengths
pub mod NumberedRows
pub mod Reduced
mod ListedPairs
mod Orders
mod WorkedSystems
