pub mod Log
pub mod Refresh
pub mod Claims
pub mod Sound
