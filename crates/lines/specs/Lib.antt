-- The specifications of the lines of a table.
pub mod Basics
pub mod Limits
pub mod Lines
pub mod Ranges
pub mod Shape
