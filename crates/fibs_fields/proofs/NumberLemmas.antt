-- Numbers and the texts that spell them.
pub mod CappedNumbers
pub mod Digits
pub mod Naturals
pub mod Spelled
pub mod UpToLimit
