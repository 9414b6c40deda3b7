-- What the commands read and print.
pub mod Ending
pub mod OnceText
pub mod Printing
pub mod Reading
pub mod Status
pub mod Serving
