-- Lemmas that crates above cite. A change here is one for them too.
pub mod Encodings
pub mod EncodingReading
pub mod Asking
pub mod MessageSizes
pub mod RecordLists
