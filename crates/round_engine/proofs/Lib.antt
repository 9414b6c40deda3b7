-- What rounds keep.
pub mod Sums
pub mod Rounding
pub mod Marking
pub mod Settling
pub mod Spreading
pub mod Frontiers
