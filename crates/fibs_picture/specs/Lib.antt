-- A board as a picture, which tells its board and fits a terminal; and a board in words.
pub mod Look
pub mod Strip
pub mod Ink
pub mod Marks
pub mod Cell
pub mod Rows
pub mod Picture
pub mod Notes
pub mod Below
pub mod Whole
pub mod Tells
pub mod Fits
pub mod Told
pub mod WatchedTold
pub mod InWords
