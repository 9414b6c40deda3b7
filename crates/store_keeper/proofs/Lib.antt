-- Lemmas on the notes of imports.
pub mod NoteLemmas
