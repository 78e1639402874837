pub mod Refusals
pub mod Sweeps
