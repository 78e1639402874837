pub mod Bits
pub mod Count
pub mod Strip
pub mod Table
pub mod Reply
pub mod Refusals
