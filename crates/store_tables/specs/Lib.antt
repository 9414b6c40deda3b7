-- How the rows, slots, numbers under names and links of a store are kept.
pub mod Joined
pub mod Slots
pub mod NameRows
pub mod Counted
pub mod Links
