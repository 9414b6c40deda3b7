pub mod Effects
pub mod JobLemmas
pub mod JobEffects
pub mod States
pub mod Ready
pub mod Valid
pub mod Isolation
pub mod Going
