-- Columns of values and what a round makes of them.
pub mod Columns
pub mod Rounds
pub mod Frontier
