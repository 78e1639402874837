pub mod Refusals
pub mod Rules
pub mod Decided
pub mod Unread
