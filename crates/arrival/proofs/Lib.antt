pub mod Hops
pub mod Answers
pub mod Walks
