-- Lemmas on projected arcs.
pub mod EndLemmas
pub mod FlatOrder
pub mod GroupedLemmas
pub mod KeptLemmas
pub mod KindLemmas
pub mod ListLemmas
pub mod PlaceLemmas
pub mod PlacedLemmas
pub mod RawLemmas
pub mod RelLemmas
pub mod RowLemmas
pub mod SingleLemmas
pub mod Sorting
