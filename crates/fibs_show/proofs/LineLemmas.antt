-- Numbers of a board's line; fields at the front of a text, and whole lines of them.
pub mod RightNumbers
pub mod BeginningFields
pub mod StandingFields
