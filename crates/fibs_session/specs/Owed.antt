-- What the layers below promise, as `fibs` needs it to be a game: their laws in one record. No public contract rests
-- on it.
use Rattle.std.specs.Prelude.{◌≡◌, ℕ, ◌≤◌, List, length, All}
use Rattle.fibs_lines.specs.StreamLaws.{EmptyStreamHasNoLine, LinesOnlyGrow, WhatFollowsALineEndReadsAlone, SendableTextIsItsLine}
use Rattle.fibs_fields.specs.Board.{BoardFields, IsBoard, spelling}
use Rattle.fibs_messages.specs.Line.{ReadingValue, IsReading, IsBoardLine, ReadingIsExact}
use Rattle.fibs_fields.specs.FieldRanges.{FieldRanges}
use Rattle.fibs_fields.specs.Printed.{IsPrinted}
use Rattle.fibs_position.specs.Laws.{GoodIsExact, SameGameIsALikeness, AllowedDecides, AllowedIsADecision, AllowedActs, AllowedIsExact, SameGameIsExact, EffectIsExact, EffectIsGood, NoThreeInARow, PhaseIsExact, AllowedIsCarriedOut}
use Rattle.fibs_commands.specs.CommandLaws.{CommandsArePrinted, ReadCommandIsExact, LoginIsOther, StyleIsOther, PlainIsOther, InitialAreOther}

-- the laws of lines, boards, messages, positions and commands
pub record Owed : Type 0 where
  pub empty : EmptyStreamHasNoLine
  pub grow : LinesOnlyGrow
  pub alone : WhatFollowsALineEndReadsAlone
  pub sent : SendableTextIsItsLine
  pub printed : (b : BoardFields) → IsBoard b → All IsPrinted (spelling b)
  pub short : (b : BoardFields) → IsBoard b → length (spelling b) ≤ 329
  pub begins : (b : BoardFields) → IsBoard b → IsBoardLine (spelling b)
  pub reading : ReadingIsExact
  pub one_reading : (line : List ℕ) (v w : ReadingValue) → IsReading line v → IsReading line w → v ≡ w
  pub good_exact : GoodIsExact
  pub likeness : SameGameIsALikeness
  pub game : SameGameIsExact
  pub allowed : AllowedIsExact
  pub decides : AllowedDecides
  pub decision : AllowedIsADecision
  pub acts : AllowedActs
  pub exact : ReadCommandIsExact
  pub commands : CommandsArePrinted
  pub login : LoginIsOther
  pub style : StyleIsOther
  pub plain : PlainIsOther
  pub initial : InitialAreOther
  pub effect : EffectIsExact
  pub effect_good : EffectIsGood
  pub no_three : NoThreeInARow
  pub ranges : FieldRanges
  pub phase : PhaseIsExact
  pub carried : AllowedIsCarriedOut
