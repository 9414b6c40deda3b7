-- What sinks of texts tell, what putting a text does to them, and the text that parts make.
pub mod Told
pub mod Parts
