-- The laws by which the functions meet their contracts, and the theorems.
pub mod Running
pub mod Judging
pub mod Looking
pub mod Theorems
