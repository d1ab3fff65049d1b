pub mod BeforeRolls
pub mod Lawful
