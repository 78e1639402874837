pub mod Decide
pub mod Hop
