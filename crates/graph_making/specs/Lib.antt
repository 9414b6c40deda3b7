-- What comes of a capture and a specification.
pub mod Making
