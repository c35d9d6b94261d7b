-- The specifications of the judging program.
pub mod Box
pub mod Marked
pub mod Parts
pub mod Shown
pub mod Told
