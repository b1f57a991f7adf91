pub mod CallerLemmas
pub mod FaultLemmas
pub mod NumberTextSizes
pub mod PieceLemmas
pub mod SinkLemmas
