pub mod Box
pub mod Marked
pub mod Cutting
pub mod Boxing
pub mod Showing
pub mod Theorems
