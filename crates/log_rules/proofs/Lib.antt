pub mod Records
pub mod Bytes
pub mod Refusals
pub mod Updates
pub mod Order
