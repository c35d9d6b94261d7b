-- The theorems on the judgement as a program.
pub mod Right
