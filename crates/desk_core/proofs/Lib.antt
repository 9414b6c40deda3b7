pub mod RowLemmas
pub mod KeptRows
pub mod GraphSteps
pub mod StateSteps
pub mod ChangeSteps
pub mod ToldLemmas
