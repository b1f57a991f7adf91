-- Crates above cite these lemmas, so a change here affects them.
pub mod JsonTexts
pub mod Lines
pub mod Pieces
pub mod Shapes
