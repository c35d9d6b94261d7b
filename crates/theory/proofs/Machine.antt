-- The theorems on the ordinary machine of a table.
pub mod Valid
pub mod Complete
