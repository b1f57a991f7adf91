pub mod Made
pub mod Built
pub mod NewData
pub mod OptQueries
pub mod LastNames
