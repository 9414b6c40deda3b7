-- Definitions on projections.
pub mod Fields
pub mod Given
pub mod JsonRows
pub mod KeptArcs
pub mod NativeProjection
pub mod NativeRows
pub mod Projected
pub mod RawArcs
pub mod Words
pub mod WorkedRows
pub mod Written
