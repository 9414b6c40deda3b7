-- Lemmas on projected nodes.
pub mod ColumnLemmas
pub mod KeyLemmas
pub mod NodeLemmas
