-- What C gets of a board.
use Rattle.std.specs.Prelude.{◌≡◌, ℕ, ◌+◌, ◌<◌, ◌≤◌, List, length, pos, take, drop, slice_index_or}
use Rattle.fibs_fields.specs.Board.{BoardFields, field_of}
use Rattle.fibs_c.specs.declared.records.boards.BoardRecord.{BoardRecord}

-- a name is at the start of its 64 bytes, and what follows it is as it was
pub record IsNameAs (len : ℕ) (old new name : List ℕ) : Type 0 where
  pub few : len ≤ 64
  pub len_is : len ≡ length name
  pub bytes_are : take len new ≡ name
  pub rest : drop len new ≡ drop len old

-- its fields, in a record that was another
pub record IsBoardAs (old r : BoardRecord) (b : BoardFields) : Type 0 where
  pub player : IsNameAs r.player_len old.player r.player b.player
  pub opponent : IsNameAs r.opponent_len old.opponent r.opponent b.opponent
  pub numbers : (i : ℕ) → i < 50 → slice_index_or r.numbers i (pos 0) ≡ field_of b (i + 4)
