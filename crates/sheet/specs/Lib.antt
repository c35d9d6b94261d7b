-- The specifications of the reader of sheets.
pub mod Sheet
pub mod Text
pub mod Scan
pub mod Putting
pub mod Reads
pub mod Tail
pub mod Quoted
pub mod Box
