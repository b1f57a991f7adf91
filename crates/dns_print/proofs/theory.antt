-- Lemmas that other crates cite, so a change here affects them too.
pub mod PlainRuns
pub mod Prints
