pub mod theory
mod ParserLemmas
mod NameOrderLemmas
mod Orders
mod RootOrders
mod NameTextLemmas
mod OctetTexts
mod NameTextReading
mod PrintedNames
mod FlatNames
mod Suffixes
