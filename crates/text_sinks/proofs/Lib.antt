pub mod ToldLemmas
pub mod PartLemmas
