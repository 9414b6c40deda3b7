-- Lemmas on the definitions of specs/.
pub mod Arcs
pub mod Bytes
pub mod FirstLine
pub mod FirstArc
pub mod FrontNumbers
pub mod LineBytes
pub mod Lines
pub mod DigitByDigit
pub mod Numbers
pub mod ReadArcs
pub mod RowLines
pub mod Acceptance
pub mod ServingLemmas
pub mod PieceLemmas
pub mod TurnLemmas
