-- What the contracts of the forest say.
pub mod Words
pub mod Trees
pub mod Pools
pub mod Rows
pub mod Joins
pub mod Takes
pub mod Grows
pub mod Picks
pub mod Longs
pub mod Plants
pub mod Prints
pub mod Held
pub mod Starts
pub mod Phases
pub mod Tokens
pub mod Enough
