-- Lemmas that other crates cite, so a change here affects them too.
pub mod AddressLaws
pub mod Ipv6Texts
pub mod LocatorLemmas
pub mod NameLaws
pub mod NameSpaces
pub mod OneWords
pub mod RegisteredLemmas
pub mod SizedLaws
pub mod Words
pub mod WordTexts
