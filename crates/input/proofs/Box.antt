pub mod Exact
pub mod Worth
