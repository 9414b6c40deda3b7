-- How a store keeps its graph, and what it tells of it.
pub mod Missing
pub mod Created
pub mod Edits
pub mod Stored
pub mod Whole
pub mod Told
pub mod Prepared
