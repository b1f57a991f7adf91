-- Lemmas that crates above cite. A change here is one for them too.
pub mod RunLemmas
pub mod FormLemmas
