pub mod theory
mod TextLemmas
mod KeyLemmas
mod KeySizes
mod SubdomainKeys
mod ReversedKeys
mod NumberLemmas
mod ReadNumbers
mod TextSizes
