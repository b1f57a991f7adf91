pub mod BuildLemmas
pub mod OptQueryLemmas
