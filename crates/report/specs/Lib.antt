pub mod Class
pub mod Health
pub mod Report
pub mod Cabinets
