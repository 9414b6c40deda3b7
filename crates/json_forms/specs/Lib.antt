-- What values of JSON mean.
pub mod Arguments
pub mod Elements
pub mod Faults
pub mod Fields
pub mod Forms
