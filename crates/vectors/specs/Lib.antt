pub mod Rounds
pub mod Fill
pub mod Seen
