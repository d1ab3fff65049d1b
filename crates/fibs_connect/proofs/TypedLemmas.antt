-- Typed lines, cut out of portions.
pub mod Cuts
pub mod Kept
pub mod Parts
pub mod Spent
pub mod Order
