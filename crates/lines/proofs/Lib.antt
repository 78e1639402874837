pub mod Placing
pub mod Text
