pub mod Answering
pub mod Pushing
