-- Crates above cite these lemmas, so a change here affects them.
pub mod AppendedTexts
pub mod PrintedLines
pub mod ShownRecords
