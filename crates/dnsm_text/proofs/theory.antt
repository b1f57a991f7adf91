-- Lemmas that other crates cite: a changed statement changes for them too.
pub mod NamePairLemmas
