pub mod Rules
pub mod Refusals
pub mod Decide
pub mod Hop
pub mod Unread
