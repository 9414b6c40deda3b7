-- What a source, a sink and their counts of faults tell, and what runs answer between rounds.
pub mod Faults
pub mod MemSource
pub mod MemSink
pub mod Front
pub mod Counted
pub mod Turned
