mod HeaderLemmas
pub mod theory
mod MessageIterLemmas
mod KeptErrorLemmas
mod PositionLemmas
mod RecordSearchLemmas
mod NthNameLemmas
mod ReadingItems
mod CursorLemmas
mod SkipLemmas
mod LimitedLemmas
