-- A run that finds degrees.
pub mod Weights
pub mod Runs
