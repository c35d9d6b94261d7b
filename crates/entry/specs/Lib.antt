-- What the entries for programs in C tell.
pub mod Packed
pub mod Small
