-- A kernel whose values are lowered along arcs.
pub mod Least
pub mod LeastLaws
