-- What a turn of a client with its stream does.
pub mod Acts
pub mod Lines
pub mod Typing
pub mod Script
pub mod Turn
pub mod Answering
pub mod PrintLaw
pub mod NoteLaw
