-- Lemmas on the definitions of specs/.
pub mod AscendLemmas
pub mod PartLemmas
pub mod RuleLemmas
