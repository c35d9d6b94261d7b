-- The theorems on what a table's states do, and on tables that pass.
pub mod Actions
pub mod Facts
pub mod Access
