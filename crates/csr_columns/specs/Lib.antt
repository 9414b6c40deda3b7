-- Rows of arcs, and how offsets keep them.
pub mod Rows
pub mod Offsets
pub mod Laws
pub mod Order
pub mod Parts
pub mod Plain
pub mod ViewParts
pub mod Keeping
pub mod Choosing
pub mod Merging
pub mod Mirror
