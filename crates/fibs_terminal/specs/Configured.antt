-- What a line of the user's own settings changes (the project's own).
use Rattle.std.specs.Prelude.{◌≡◌, ◌⊎◌, ℕ, Bool, true, false, List, Some, unwrap_or}
use Rattle.fibs_position.specs.declared.numbers.Numbers.{Numbers}
use Rattle.fibs_wording.specs.declared.environment.config.Setting.{Setting}
use Rattle.fibs_wording.specs.declared.environment.config.Setting.TheVariants as S
use Rattle.fibs_wording.specs.declared.environment.config.Telling.TheVariants as T
use Rattle.fibs_wording.specs.declared.environment.settings.Settings.{Settings}
use Rattle.fibs_wording.specs.SettingWords.{numbers_in}
use Rattle.fibs_terminal.specs.Again.{after_asked}
use Rattle.fibs_terminal.specs.KeptLists.{AddsName}
use Rattle.fibs_terminal.specs.declared.people.People.{People}
use Rattle.fibs_terminal.specs.declared.reconnecting.Reconnecting.{Reconnecting}

-- how the terminal shows things after one: each changes what it is for, and nothing else
abbrev pub settings_after : Setting → Settings → Settings
settings_after (S.Words T.Long) s = record s { words = true; is_short = false }
settings_after (S.Words T.Short) s = record s { words = true; is_short = true }
settings_after S.NoColour s = record s { colour = false }
settings_after S.NoBell s = record s { bell = false }
settings_after S.NoTitle s = record s { title = false }
settings_after (S.Letters letters) s = record s { letters = Some letters }
settings_after S.HomeAbove s = record s { is_turned = true }
settings_after (S.Numbers numbers) s = record s { numbers = numbers }
settings_after (S.BoardAbove above) s = record s { above = Some above }
settings_after setting s = s

-- who has this name is hidden, unless it is not a valid one; nobody else is
pub record Hides (name : List ℕ) (old new : People) : Type 0 where
  pub names : (new ≡ old) ⊎ AddsName old.gagged.items name new.gagged.items
  pub quiet : new.quiet ≡ old.quiet
  pub arrivals : new.arrivals ≡ old.arrivals

-- whose words are hidden after one
abbrev pub PeopleAfter : Setting → People → People → Type 0
PeopleAfter (S.Gag name) old new = Hides name.now old new
PeopleAfter S.Quiet old new = new ≡ record old { quiet = true; arrivals = false }
PeopleAfter S.Arrivals old new = new ≡ record old { arrivals = true }
PeopleAfter setting old new = new ≡ old

-- a connection that is lost is opened again after one
abbrev pub reconnecting_after : Setting → Reconnecting → Reconnecting
reconnecting_after S.Reconnect r = after_asked false r
reconnecting_after setting r = r

-- no line is kept of a match that has ended after one
abbrev pub off_after : Setting → Bool → Bool
off_after S.NoRecord off = true
off_after setting off = off

-- whose numbers places have after the word that follows `numbers`; any other word changes nothing
abbrev pub numbers_after : List ℕ → Numbers → Numbers
numbers_after word numbers = unwrap_or (numbers_in word) numbers
