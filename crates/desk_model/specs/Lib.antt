-- The machine: its state, its steps and its histories.
pub mod State
pub mod Jobs
pub mod Graphs
pub mod Replies
pub mod Step
pub mod Valid
pub mod History
pub mod Isolation
pub mod Going
pub mod Script
pub mod WorkedRows
