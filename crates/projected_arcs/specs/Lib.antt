-- Places of nodes, and arcs in order.
pub mod Places
pub mod Flat
pub mod Types
