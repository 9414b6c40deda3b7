pub mod BoolFacts
pub mod Joining
pub mod ListFacts
pub mod SlotLemmas
pub mod Placing
pub mod SearchLemmas
pub mod LinkLemmas
pub mod CensusLemmas
