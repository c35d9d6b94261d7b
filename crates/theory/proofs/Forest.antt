-- The theorems on forests of stacks.
pub mod Joins
pub mod Taken
pub mod Paths
pub mod Covers
pub mod Sizes
pub mod Counts
pub mod Bares
pub mod Growth
pub mod Lowest
pub mod Order
pub mod Agree
