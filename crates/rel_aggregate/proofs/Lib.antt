-- Lemmas on groups of arcs and on values over them.
pub mod Cut
pub mod Known
pub mod Least
pub mod Rest
