mod Arms
mod CheckLemmas
pub mod CodeLemmas
mod ColumnLemmas
mod ColumnNames
mod ColumnOrder
mod ColumnTexts
mod Compound
mod Creations
mod Declarations
mod Declared
pub mod Exact
pub mod FirstOf
mod Found
mod FoundIn
mod Front
mod Lists
mod Named
mod NamedCode
mod NamedText
mod Needs
mod Numbered
mod OwnNames
pub mod PlanLemmas
mod Postfix
mod Runs
mod ScopeLemmas
mod Scoped
mod TestPostfix
mod WalkLemmas
mod Words
mod WorkedItems
