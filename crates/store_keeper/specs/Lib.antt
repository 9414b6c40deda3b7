-- What keepers and openers tell, and what those in memory do.
pub mod Held
pub mod Keeping
pub mod MemKeeper
pub mod MemOpener
pub mod Opening
