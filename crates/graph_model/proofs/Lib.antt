-- Lemmas on the definitions of specs/.
pub mod LawLemmas
pub mod ListLemmas
pub mod LivingLemmas
pub mod OrderLemmas
pub mod Placed
pub mod ValidLemmas
pub mod IdLemmas
pub mod KeptLemmas
