-- What the proofs of the entries use, and what their contracts determine.
pub mod Packing
pub mod Theorems
