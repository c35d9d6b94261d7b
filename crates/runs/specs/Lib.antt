-- What the contracts of the run programs' library cite.
pub mod Fields
