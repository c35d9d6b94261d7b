-- The theorems on derivations, fronts of pieces, what yields tokens, first tokens, closures and unit steps.
pub mod Derive
pub mod Fronts
pub mod Fruitful
pub mod First
pub mod Closure
pub mod Units
