pub mod SettingLemmas
pub mod EditLemmas
pub mod OrderLemmas
pub mod ValidValues
pub mod ValidLaws
pub mod ChangeLemmas
pub mod SourceLemmas
pub mod NameCounts
