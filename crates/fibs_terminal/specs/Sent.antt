-- What a terminal shows of a move that was sent, before a board has confirmed it (the project's own).
use Rattle.std.specs.Prelude.{◌≡◌, ◌⊎◌, ◌++◌, ◌&&◌, ℕ, List, codes, true, false, Some}
use Rattle.fibs_fields.specs.Board.{BoardFields}
use Rattle.fibs_session.specs.History.Machine.{Talk, unconfirmed_now}
use Rattle.fibs_session.specs.Calls.Standing.{ClientValue, StandsAfter}
use Rattle.fibs_wording.specs.declared.environment.settings.Settings.{Settings}
use Rattle.fibs_advice.specs.Leads.{LeadsTo}
use Rattle.fibs_advice.specs.Trials.{tried, tried_on}
use Rattle.fibs_advice.specs.declared.trial.Trial.{Trial}
use Rattle.fibs_terminal.specs.Drawings.{Draws, is_plain}

-- the command of the move was sent on the board that was shown, and no board has confirmed it
abbrev pub IsSentNow : Talk → Trial → Type 0
IsSentNow t x = unconfirmed_now t ≡ Some (tried_on x, tried x)

-- the row that says so
unfoldable pub not_confirmed : List ℕ
not_confirmed = codes "Sent, not confirmed by the server yet.\n"

-- what is written: the picture of the board to which the move leads, and that row; in words the row alone
pub record AddsSent (s : Settings) (x : Trial) (before : List ℕ) (after : List ℕ) : Type 0 where
  pub drawn : s.words ≡ false → (b : BoardFields) × LeadsTo (tried_on x) (tried x) b × ((picture : List ℕ)
      × Draws s false (is_plain s && false) b picture × (after ≡ before ++ (picture ++ not_confirmed)))
  pub told : s.words ≡ true → after ≡ before ++ not_confirmed

-- nothing is written, or so of the move that the client has sent
abbrev pub ShowsSent : ClientValue → Settings → List ℕ → List ℕ → Type 0
ShowsSent client s before after = (after ≡ before) ⊎ ((x : Trial)
    × ((t : Talk) → StandsAfter client t → IsSentNow t x) × AddsSent s x before after)
