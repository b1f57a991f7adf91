pub mod theory
mod KnownText
mod LineLemmas
mod SectionTexts
mod ShownHeader
mod WalkLemmas
