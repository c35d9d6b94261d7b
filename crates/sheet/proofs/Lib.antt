-- The proofs of the reader's functions, and theorems about its contract.
pub mod Theorems
