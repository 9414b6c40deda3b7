-- Definitions on property graphs, which every crate above cites.
pub mod Arcs
pub mod ById
pub mod Change
pub mod ChangeLaws
pub mod Degrees
pub mod Graph
pub mod Kept
pub mod KeptLaws
pub mod Known
pub mod Lists
pub mod Names
pub mod Neighbours
pub mod Projection
pub mod Refusals
pub mod SmallStore
pub mod SmallView
pub mod View
