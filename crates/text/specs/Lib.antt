pub mod Listing
pub mod Fit
