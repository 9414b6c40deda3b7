-- What holds of arcs that are grouped, and why they are refused.
pub mod Groups
pub mod Refusals
