-- What becomes of a match of the user that has ended (the project's own).
use Rattle.std.specs.Prelude.{◌≡◌, ◌⊎◌, ◌++◌, ◌==◌, ◌≤◌, ℕ, Bool, true, false, List, [], length, Option, Some, None, IfSome, IsSome, option_map, if◌then◌else◌}
use Rattle.fibs_wording.specs.Matches.{final_score, match_line, unknown}
use Rattle.fibs_wording.specs.declared.matches.Score.{Score}
use Rattle.fibs_terminal.specs.Rematch.{points_of}
use Rattle.fibs_terminal.specs.declared.memory.Memory.{Memory}
use Rattle.fibs_terminal.specs.declared.rematch.Rematch.{Rematch}
use Rattle.fibs_terminal.specs.declared.results.Ended.{Ended}
use Rattle.fibs_terminal.specs.declared.results.Rated.{Rated}
use Rattle.fibs_terminal.specs.declared.results.Results.{Results}

-- ---- the line of a match in the record

-- the line of a match with a score: none if its opponent is not known
abbrev pub scored_line : List ℕ → Option Score → Ended → Option Rated → List ℕ
scored_line date None e now = []
scored_line date (Some score) e now =
    if length e.opponent.items == 0 then [] else
    match_line date e.opponent.items score.length score.own score.other
    (option_map (λ rated. rated.rating) e.before)
    (option_map (λ rated. rated.rating) now)
    (option_map (λ rated. rated.experience) now)

-- the line of a match that has ended, after which the user is rated so, if that is known, is put behind a text: with
-- its opponent, its score and the rating before it; without a clock no date is known
pub record AppendsLine (e : Ended) (now : Option Rated) (old new : List ℕ) : Type 0 where
  pub date : List ℕ
  pub undated : e.time ≡ None → date ≡ unknown
  pub line : new ≡ old ++ scored_line date e.score e now

-- that the record can't be written is said once, and nothing else is said of it
abbrev pub SaysTroubleOnce : Bool → List ℕ → Bool → List ℕ → Type 0
SaysTroubleOnce told text told' text' = ((told' ≡ told) × (text' ≡ text)) ⊎ ((told ≡ false) × (told' ≡ true))

-- ---- what is remembered of it

-- of all that is remembered nothing but the results changes
abbrev pub with_results : Memory → Results → Memory
with_results m results = record m { program = record m.program { results = results } }

-- the same, and how another match is played
abbrev pub with_ended : Memory → Memory → Memory
with_ended old new = record {
  program = record old.program { results = new.program.results };
  here = record old.here { rematch = new.here.rematch };
}

-- after a match that has ended it is still to be said how another one with its opponent, of as many points, is played
abbrev pub IsRematch : Option Ended → Option Rematch → Type 0
IsRematch None r = r ≡ None
IsRematch (Some e) None = ⊥
IsRematch (Some e) (Some r) = (length e.opponent.items ≤ 64 → r.opponent.items ≡ e.opponent.items)
    × (r.points ≡ points_of e.score) × (r.is_said ≡ false)

-- a match has ended, by a text that may say a score: it is that with the opponent on the table, with the score of its
-- last board, or the text's, and the rating before it; and its rating is awaited
pub record EndsMatch (old : Memory) (said : Option Score) (time : Option ℕ) (new : Memory) : Type 0 where
  pub kept : IsSome new.program.results.ended
  pub opponent : length old.here.table.opponent.items ≤ 64
      → IfSome new.program.results.ended (λ e. e.opponent.items ≡ old.here.table.opponent.items)
  pub score : IfSome new.program.results.ended (λ e. e.score ≡ final_score old.program.results.board said)
  pub before : IfSome new.program.results.ended (λ e. e.before ≡ old.program.results.rated)
  pub at : IfSome new.program.results.ended (λ e. e.time ≡ time)
  pub board : new.program.results.board ≡ None
  pub rated : new.program.results.rated ≡ old.program.results.rated
  pub rematch : IsRematch new.program.results.ended new.here.rematch
