pub mod Answer
pub mod Sweep
