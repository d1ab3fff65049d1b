-- The move that `go` sends is the one that `try` showed.
use Rattle.std.proofs.Common.{◌≡◌, ◌≤◌, ◌++◌, ℕ, List, Option, Some, Result, Ok, Err, IfOk, true, false, length, append_assoc, codes, refl, sym, ap, ◌∙◌, inl, arith, [], subst}
use Rattle.std.proofs.lemmas.Bool.{false≢true}
use Rattle.fibs_fields.specs.Board.{BoardFields}
use Rattle.fibs_position.specs.DecisionValue.{IsDecision}
use Rattle.fibs_position.specs.DirectionOf.{direction_of}
use Rattle.fibs_position.specs.declared.direction.Direction.{Direction}
use Rattle.fibs_position.specs.declared.numbers.Numbers.{Numbers}
use Rattle.fibs_commands.specs.CommandLaws.{ReadCommandIsExact}
use Rattle.fibs_commands.specs.CommandReading.{read_command, decision_in, turn_in}
use Rattle.fibs_commands.specs.PlainReading.{read_plain, plain_in, alone_in, saying_in, letter_in}
use Rattle.fibs_session.specs.History.Machine.{Talk, shown_now}
use Rattle.fibs_session.specs.Calls.Standing.{ClientValue, StandsAfter}
use Rattle.fibs_session.specs.Typing.{typed_as, typed_by, typed_in, is_command, order_in, shown_direction, way_now}
use Rattle.fibs_wording.specs.declared.environment.settings.Settings.{Settings}
use Rattle.fibs_terminal.specs.Drawings.{Draws, is_plain}
use Rattle.fibs_terminal.specs.OwnRows.{own_columns}
use Rattle.fibs_connect.specs.declared.wish.Wish.{Wish}
use Rattle.fibs_connect.specs.declared.wish.Wish.TheVariants.{Say}
use Rattle.fibs_advice.specs.Leads.{LeadsTo}
use Rattle.fibs_advice.specs.Trials.{changes_of, tried, tried_on}
use Rattle.fibs_picture.specs.InWords.Rows.{Says}
use Rattle.fibs_advice.specs.declared.trial.Trial.{Trial}
use Rattle.fibs_terminal.specs.Trying.{DrawsTrial, IsCommandOf, IsTriedNow, SendsTried, ShowsTrial, TellsTrial, command_by, go_row, tried_command}

-- what is appended in two parts is appended whole
joined : (before mid after part row : List ℕ) → mid ≡ before ++ part → after ≡ mid ++ row
    → after ≡ before ++ (part ++ row)
joined before mid after part row first second =
    second ∙ ap (λ m. m ++ row) first ∙ append_assoc before part row

-- the board to which a move leads is drawn, and then how it is sent
pub trial_drawn : (s : Settings) (x : Trial) (b : BoardFields) (held before mid row said after : List ℕ) → held ≡ []
    → LeadsTo (tried_on x) (tried x) b → (t : List ℕ) × Draws s false (is_plain s) b t × (mid ≡ before ++ t)
    → row ≡ held ++ go_row (command_by s.numbers x) → said ≡ row → Says (own_columns s) said mid after
    → DrawsTrial s x before after
trial_drawn s x b held before mid row said after none leads drawn is same says = (
  b,
  leads,
  (
    drawn.0,
    drawn.1,
    subst (λ m. Says (own_columns s) (go_row (command_by s.numbers x)) m after) drawn.2
        (subst (λ r. Says (own_columns s) r mid after)
        (same ∙ is ∙ ap (λ h. h ++ go_row (command_by s.numbers x)) none) says),
  ),
)

-- or what the move changes is told, and then how it is sent
pub trial_told : (s : Settings) (x : Trial) (held mid whole said before after : List ℕ) → held ≡ []
    → (b : BoardFields) × LeadsTo (tried_on x) (tried x) b × (mid ≡ held ++ changes_of s.numbers x b)
    → whole ≡ mid ++ go_row (command_by s.numbers x) → said ≡ whole → Says (own_columns s) said before after
    → TellsTrial s x before after
trial_told s x held mid whole said before after none told row same says = (
  told.0,
  told.1,
  subst (λ r. Says (own_columns s) r before after)
      (same
      ∙ joined [] mid whole (changes_of s.numbers x told.0) (go_row (command_by s.numbers x))
      (told.2 ∙ ap (λ h. h ++ changes_of s.numbers x told.0) none) row) says,
)

-- it is shown the one way or the other
pub trial_shown : (s : Settings) (x : Trial) (before after : List ℕ)
    → (s.words ≡ false → DrawsTrial s x before after) → (s.words ≡ true → TellsTrial s x before after)
    → ShowsTrial s x before after
trial_shown s x before after drawn told = record { drawn = drawn; told = told }

-- a command has room in a line
pub short : (a b : List ℕ) → a ≡ b → length b ≤ 512 → length a ≤ 4098
short a b same fits = omega (arith, ap length same, fits)

-- its command is read as that very move
pub command_of_it : (t : Talk) (x : Trial) (line : List ℕ) → ReadCommandIsExact → IsDecision (tried x)
    → shown_now t ≡ Some (tried_on x) → line ≡ tried_command x → IsCommandOf t x line
command_of_it t x line exact valid on same = record {
  text_is = same;
  is_read = ap (λ s. typed_as (read_command (shown_direction s) line) (read_plain line) (order_in line)) on
      ∙ ap (λ d. typed_as d (read_plain line) (order_in line))
      ((exact (direction_of (tried_on x)) line (tried x)).1 (record { valid = valid; text_is = same }));
}

-- it is sent
pub sends_it : (t : Talk) (kept : Option Trial) (x : Trial) (line : List ℕ) → IsTriedNow t kept x → IsCommandOf t x line
    → SendsTried t kept Say line
sends_it t kept x line now is = record {
  either = inl refl;
  says = λ e. (x, now, is);
  sends = λ y here. refl;
}

-- `go` is no command, by whatever numbers
go_is_none : (way : Direction) → is_command (typed_in way (codes "go")) ≡ false
unfolding read_command decision_in turn_in read_plain plain_in alone_in saying_in letter_in
go_is_none way = refl

-- a line that is a command is not `go`
pub never_go : (numbers : Numbers) (t : Talk) (line : List ℕ) → line ≡ codes "go"
    → true ≡ is_command (typed_by numbers t line) → ⊥
never_go numbers t line same known =
    false≢true (sym (known ∙ ap (λ text. is_command (typed_by numbers t text)) same ∙ go_is_none (way_now numbers t)))

-- what never is asks for nothing
pub never_goes : {E : Type 0} (result : Result Wish E) (P : Wish → Talk → Type 0) (client : ClientValue)
    → ((t : Talk) → StandsAfter client t → ⊥)
    → IfOk result (λ wish. (t : Talk) → StandsAfter client t → P wish t)
never_goes (Ok wish) P client never = λ t stands. absurd (never t stands)
never_goes (Err why) P client never = tt

-- what is a command by these numbers is not a line that is none
pub never_known : (numbers : Numbers) (t : Talk) (line text : List ℕ) → text ≡ line
    → true ≡ is_command (typed_by numbers t text) → is_command (typed_by numbers t line) ≡ false → ⊥
never_known numbers t line text same known unknown =
    false≢true (sym (known ∙ ap (λ x. is_command (typed_by numbers t x)) same ∙ unknown))
