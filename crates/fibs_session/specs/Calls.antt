-- What the calls of a session and of a client do.
pub mod SessionValue
pub mod FieldSteps
pub mod SessionOf
pub mod Standing
pub mod Doing
pub mod ClientOf
pub mod Feeding
pub mod InputOf
pub mod Writing
pub mod ClientLaws
