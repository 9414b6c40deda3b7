-- How a projection is made of its parts.
pub mod Making
