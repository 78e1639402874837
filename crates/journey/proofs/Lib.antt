pub mod Messages
pub mod Refusals
pub mod Promise
