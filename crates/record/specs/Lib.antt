pub mod Fields
pub mod Open
pub mod Parts
pub mod Restate
pub mod Words
