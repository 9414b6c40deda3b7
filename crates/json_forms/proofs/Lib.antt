-- Lemmas on the definitions of specs/.
pub mod DistinctLemmas
pub mod ItemLemmas
