-- Lemmas on projections.
pub mod ArcLemmas
pub mod IdLemmas
pub mod NodeLemmas
pub mod PartLemmas
