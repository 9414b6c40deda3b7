pub mod GoingLemmas
