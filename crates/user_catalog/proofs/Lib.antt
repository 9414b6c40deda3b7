-- Lemmas on named graphs.
pub mod Places
pub mod Valid
pub mod Refusing
pub mod Finding
pub mod Mapped
