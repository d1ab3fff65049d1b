-- Why the calls of a world do what the machine does, and what holds of backgammon by the laws of any game.
pub mod Likeness
pub mod needles
pub mod Outcomes
pub mod RealLaws
