-- Degrees and weights, row by row.
pub mod Refusing
pub mod Summing
pub mod Rows
