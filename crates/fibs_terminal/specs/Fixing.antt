-- How `fix` turns off what the server plays by itself: which lines are typed for the user (the project's own).
use Rattle.std.specs.Prelude.{◌≡◌, ◌<◌, ◌+◌, ◌||◌, ℕ, Bool, true, false, cond, List, [], codes, Option, Some, None, is_none}
use Rattle.fibs_commands.specs.PlainCommands.{automove_off, greedy_off}
use Rattle.fibs_game.specs.declared.refusal.Refusal.{Refusal}
use Rattle.fibs_game.specs.declared.refusal.Refusal.TheVariants.{ServerPlays}
use Rattle.fibs_position.specs.DecisionValue.{roll}
use Rattle.fibs_session.specs.History.Machine.{Talk, answer_now, plain_refusal}
use Rattle.fibs_terminal.specs.Toggles.{after_line as toggled_by, any_on, is_on}
use Rattle.fibs_terminal.specs.declared.fixing.Fixing.{Fixing}
use Rattle.fibs_terminal.specs.declared.fixing.FixLine.{FixLine}
use Rattle.fibs_terminal.specs.declared.fixing.FixLine.TheVariants as L
use Rattle.fibs_terminal.specs.declared.fixing.FixStep.{FixStep}
use Rattle.fibs_terminal.specs.declared.fixing.FixStep.TheVariants as S
use Rattle.fibs_terminal.specs.declared.fixing.TurnOff.{TurnOff}
use Rattle.fibs_terminal.specs.declared.fixing.TurnOff.TheVariants as T
use Rattle.fibs_terminal.specs.declared.toggles.Toggles.{Toggles}

-- all that is typed, each line with its end: none of them decides
abbrev pub line_bytes : FixLine → List ℕ
line_bytes L.Automove = codes "toggle automove\n"
line_bytes L.Greedy = codes "toggle greedy\n"
line_bytes L.SendAutomove = codes "send toggle automove\n"
line_bytes L.SendGreedy = codes "send toggle greedy\n"
line_bytes L.Bye = codes "bye\n"
line_bytes L.Open = codes "open\n"

-- how a setting is turned off that may be on, and whose `toggle` the client takes or not: it knows only what the server
-- has said at the login
abbrev pub turn_of : Bool → Bool → TurnOff
turn_of false taken = T.IsOff
turn_of true true = T.Typed
turn_of true false = T.AsItIs

-- what is turned off first, if anything is on
abbrev pub first_off : TurnOff → TurnOff → Option FixLine
first_off T.Typed greedy = Some L.Automove
first_off T.AsItIs greedy = Some L.SendAutomove
first_off T.IsOff T.Typed = Some L.Greedy
first_off T.IsOff T.AsItIs = Some L.SendGreedy
first_off T.IsOff T.IsOff = None

-- the line that is typed as long as something may be on: `bye` if nothing is, and the client takes no decision before
-- the next login
abbrev pub toggles_line : Option FixLine → Bool → Option FixLine
toggles_line (Some line) plays = Some line
toggles_line None plays = cond plays (Some L.Bye) None

-- the line that is typed when the user may type: none if he has not asked for it, and none between `bye` and the end of
-- the connection
abbrev pub next_line : FixStep → TurnOff → TurnOff → Bool → Option FixLine
next_line S.Toggles automove greedy plays = toggles_line (first_off automove greedy) plays
next_line S.Opens automove greedy plays = Some L.Open
next_line step automove greedy plays = None

-- where it is after that line, if the client may take no decision before the next login
abbrev pub after_toggles : Option FixLine → Bool → FixStep
after_toggles (Some line) plays = S.Toggles
after_toggles None plays = cond plays S.Leaves S.Nothing

-- where it is after each: `bye` and `open` are typed once
abbrev pub after_line : FixStep → TurnOff → TurnOff → Bool → FixStep
after_line S.Toggles automove greedy plays = after_toggles (first_off automove greedy) plays
after_line S.Opens automove greedy plays = S.Nothing
after_line step automove greedy plays = step

-- the connection has ended: it is opened again only after that `bye`, and not if it is opened again otherwise
abbrev pub after_end : FixStep → Bool → FixStep
after_end S.Leaves false = S.Opens
after_end S.Asked false = S.Opens
after_end step otherwise = S.Nothing

-- where it is after a line of the user, by whether that asks for `bye`, and whether it was only answered by the
-- question if he leaves his match: after that question each other line ends it
abbrev pub after_typed : FixStep → Bool → Bool → FixStep
after_typed S.Leaves true true = S.Asked
after_typed S.Asked true false = S.Leaves
after_typed S.Asked false asks = S.Nothing
after_typed step bye asks = step

-- the `bye` that it typed was only answered, and the user has typed nothing since
abbrev pub is_asked : FixStep → Bool
is_asked S.Asked = true
is_asked step = false

-- the client takes no decision before the next login, since at this one the server played for the user: so it refuses
-- to roll
abbrev pub plays_itself : Option Refusal → Bool
plays_itself (Some ServerPlays) = true
plays_itself why = false

-- what the user asks for by `fix`: it begins if the server plays for him, by whichever word he has had it do so, or did
-- at the login; else it goes on as it was
abbrev pub after_asked : Option Refusal → Toggles → Fixing → Fixing
after_asked why toggles f =
    record f { step = cond (plays_itself why || any_on toggles) S.Toggles f.step }

-- what is said then, by whether he has to log in again, and by whether the server plays now
abbrev pub fix_words : Bool → Bool → List ℕ
fix_words true true = codes "fix: turns it off, leaves and logs in again.\n"
fix_words true false = codes "fix: leaves and logs in again.\n"
fix_words false true = codes "fix: turns it off.\n"
fix_words false false = codes "fix: the server plays nothing for you.\n"

-- how automove is turned off now: by whether it is on after all that was said and sent, and by whether the client takes
-- its `toggle`
abbrev pub automove_turn : Talk → Toggles → TurnOff
automove_turn t toggles = turn_of (is_on toggles.automove) (is_none (plain_refusal t automove_off))

-- how greedy is
abbrev pub greedy_turn : Talk → Toggles → TurnOff
greedy_turn t toggles = turn_of (is_on toggles.greedy) (is_none (plain_refusal t greedy_off))

-- before the user types the next line is chosen, which is typed for him
abbrev pub before_typing : Talk → Toggles → Fixing → Fixing
before_typing t toggles f = record {
  step = after_line f.step (automove_turn t toggles) (greedy_turn t toggles) (plays_itself (answer_now t roll));
  line = next_line f.step (automove_turn t toggles) (greedy_turn t toggles) (plays_itself (answer_now t roll));
}

-- a line as the server gets it; `open` goes to no server
abbrev pub sent_line : FixLine → List ℕ
sent_line L.Automove = codes "toggle automove"
sent_line L.Greedy = codes "toggle greedy"
sent_line L.SendAutomove = codes "toggle automove"
sent_line L.SendGreedy = codes "toggle greedy"
sent_line L.Bye = codes "bye"
sent_line L.Open = []

-- one, if it is so
abbrev pub one_if : Bool → ℕ
one_if true = 1
one_if false = 0

-- how many of both settings are on
abbrev pub count_on : Toggles → ℕ
count_on toggles = one_if (is_on toggles.automove) + one_if (is_on toggles.greedy)

-- fewer lines are not answered than are counted
pub record AreFew (toggles : Toggles) : Type 0 where
  pub automove : toggles.automove.unanswered < 255
  pub greedy : toggles.greedy.unanswered < 255

-- each line that is typed as long as something is on turns one setting off, and leaves the other one: so none is typed
-- twice, and after two of them nothing is on, before the server has answered any
abbrev pub TurnsOff : Type 0
TurnsOff = (toggles : Toggles) (automove greedy : Bool) (line : FixLine) → AreFew toggles
    → first_off (turn_of (is_on toggles.automove) automove) (turn_of (is_on toggles.greedy) greedy) ≡ Some line
    → count_on (toggled_by (sent_line line) toggles) + 1 ≡ count_on toggles

-- and nothing is typed for that only if nothing is on
abbrev pub TurnsAllOff : Type 0
TurnsAllOff = (toggles : Toggles) (automove greedy : Bool)
    → first_off (turn_of (is_on toggles.automove) automove) (turn_of (is_on toggles.greedy) greedy) ≡ None
    → count_on toggles ≡ 0

-- what `fix` types turns off what is on, each once
pub record FixTurnsOff : Type 0 where
  pub each : TurnsOff
  pub all : TurnsAllOff
