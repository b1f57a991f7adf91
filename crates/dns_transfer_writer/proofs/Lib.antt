mod FillLemmas
mod MessageLemmas
mod LongestLemmas
mod RunMaps
mod SoaNumbers
mod SentKinds
mod ReadLemmas
mod WrittenRead
