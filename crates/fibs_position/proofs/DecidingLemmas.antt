-- Phases and what a player may decide.
pub mod FirstFit
pub mod PhaseLines
pub mod PhaseTable
pub mod AllowedTable
