-- The numbers and names of the refusals of events.
pub use Rattle.fibs_game.specs.WorldRefusalNames.{refusal_number, refusal_name}
