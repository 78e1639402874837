pub mod Journey
pub mod Message
pub mod Promise
