-- What lines ask, and the text of answers.
pub mod Answers
pub mod Calls
pub mod Lines
pub mod LineLaws
pub mod Refusals
pub mod WorkedRows
