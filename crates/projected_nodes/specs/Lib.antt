-- Projected nodes in columns.
pub mod Columns
