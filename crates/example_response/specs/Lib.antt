pub mod Questions
pub mod Zones
pub mod Answers
pub mod Laws
pub mod Sets
pub mod Origins
pub mod Filling
pub mod Responses
