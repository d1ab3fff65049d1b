-- How the user takes leave of a match: the first line that does is only answered, the second one in a row does it (the
-- project's own).
use Rattle.std.specs.Prelude.{◌≡◌, ◌≢◌, ◌⊎◌, ◌++◌, ◌&&◌, Bool, true, false, not, cond, ℕ, List, [], codes, take, Option, Some, None, Result, IfOk}
use Rattle.std.specs.Str.{bytes_eq}
use Rattle.fibs_position.specs.GameOf.{game_of}
use Rattle.fibs_position.specs.declared.game_board.GameBoard.{GameBoard}
use Rattle.fibs_position.specs.declared.numbers.Numbers.{Numbers}
use Rattle.fibs_session.specs.History.Machine.{Talk}
use Rattle.fibs_session.specs.Calls.Standing.{ClientValue, StandsAfter}
use Rattle.fibs_session.specs.Typing.{is_command, typed_by}
use Rattle.fibs_connect.specs.declared.wish.Wish.{Wish}
use Rattle.fibs_connect.specs.declared.wish.Wish.TheVariants as W
use Rattle.fibs_advice.specs.Situations.{is_match_over}
use Rattle.fibs_advice.specs.Standings.{is_in_match}
use Rattle.fibs_advice.specs.declared.standing.Standing.{Standing}
use Rattle.fibs_terminal.specs.Asking.{GoesOnAs, GoesOut}
use Rattle.fibs_terminal.specs.declared.leaving.Leave.{Leave}
use Rattle.fibs_terminal.specs.declared.leaving.Leave.TheVariants as L
use Rattle.fibs_terminal.specs.declared.memory.Memory.{Memory}

-- the board that is one shows that its match is over
abbrev pub shows_end : Option GameBoard → Bool
shows_end None = false
shows_end (Some board) = is_match_over (game_of board)

-- a match is on: by the texts the user is in one, by the board that came last it is not over, and he has not taken
-- leave of the server on this connection
abbrev pub is_match_on : Memory → Bool
is_match_on m = is_in_match m.here.situation.standing
    && (not (shows_end m.here.table.boards.heard) && not m.program.reconnecting.leaves)

-- the word by which the user takes leave
abbrev pub leave_word : Leave → List ℕ
leave_word L.Quit = codes "quit"
leave_word L.Bye = codes "bye"

-- with whom the match is, of which the user is asked, if the name is known: 24 bytes of it at most
abbrev pub with_words : List ℕ → List ℕ
with_words [] = []
with_words opponent = codes " with " ++ take 24 opponent

-- how it is resumed with an opponent
abbrev pub invite_words : List ℕ → List ℕ
invite_words opponent = codes ": invite " ++ (opponent ++ codes " then resumes it")

-- if the name is known
abbrev pub resumed_words : List ℕ → List ℕ
resumed_words [] = []
resumed_words opponent = invite_words opponent

-- the same word again leaves
abbrev pub again_words : Leave → List ℕ
again_words leave = codes ": " ++ (leave_word leave ++ codes " again leaves.\n")

-- no server is bound to save the match
abbrev pub saved_words : List ℕ → List ℕ
saved_words opponent = codes "Most servers save it" ++ (resumed_words opponent ++ codes ".\n")

-- what the user is asked
abbrev pub leave_words : Leave → List ℕ → List ℕ
leave_words leave opponent = codes "You are in a match" ++ (with_words opponent
    ++ (again_words leave ++ saved_words opponent))

-- by which word a line takes leave: the program ends, or the client is asked to answer `bye`
abbrev pub leave_of : Wish → List ℕ → Option Leave
leave_of W.Quit line = Some L.Quit
leave_of W.Say line = cond (bytes_eq line (codes "bye")) (Some L.Bye) None
leave_of wish line = None

-- the user was asked by the last line about the word by which he takes leave now
abbrev pub is_again : Option Leave → Option Leave → Bool
is_again (Some L.Quit) (Some L.Quit) = true
is_again (Some L.Bye) (Some L.Bye) = true
is_again before now = false

-- a line takes leave by `bye`
abbrev pub is_bye : Option Leave → Bool
is_bye (Some L.Bye) = true
is_bye leave = false

-- about which word he is asked now
abbrev pub asked_first : Bool → Option Leave → Option Leave → Option Leave
asked_first is_on before now = cond (is_on && not (is_again before now)) now None

-- the user is asked about a word: a match is on, he was not asked about it by the last line, this line is that word,
-- and it is only answered
pub record IsAsked (is_on : Bool) (before : Option Leave) (line : List ℕ) (wish : Wish) (word : Leave) : Type 0 where
  pub match_on : is_on ≡ true
  pub first : before ≢ Some word
  pub spelled : line ≡ leave_word word
  pub answered : wish ≡ W.Answered

-- the law of leave: in a match no line takes leave by a word unless the last line has asked about it; and what is
-- remembered after a line is only what this line has asked, so any other one forgets it
pub record TakesLeave (is_on : Bool) (before after : Option Leave) (line : List ℕ) (wish : Wish) : Type 0 where
  pub again : (word : Leave) → is_on ≡ true → leave_of wish line ≡ Some word → before ≡ Some word
  pub asked : (word : Leave) → after ≡ Some word → IsAsked is_on before line wish word

-- the program ends by the line `quit`
abbrev pub Quits : {E : Type 0} → ClientValue → List ℕ → Result Wish E → Type 0
Quits client line result = line ≡ codes "quit" → IfOk result (λ wish. (t : Talk) → StandsAfter client t
    → wish ≡ W.Quit)

-- and by no other one, as it is spelled out
abbrev pub QuitsBy : {E : Type 0} → List ℕ → Result Wish E → Type 0
QuitsBy line result = IfOk result (λ wish. wish ≡ W.Quit → line ≡ codes "quit")

-- it does not end
abbrev pub NeverQuits : {E : Type 0} → Result Wish E → Type 0
NeverQuits result = IfOk result (λ wish. wish ≢ W.Quit)

-- the line `quit` ends the program, unless the user is asked about it
abbrev pub QuitsOrAsks : {E : Type 0} → ClientValue → Option Leave → List ℕ → Result Wish E → Type 0
QuitsOrAsks client after line result = line ≡ codes "quit" → IfOk result (λ wish. (t : Talk) → StandsAfter client t
    → (wish ≡ W.Quit) ⊎ (after ≡ Some L.Quit))

-- so goes each line that is a command by these numbers, as KnownGoesOn says, unless it is a `bye` about which the user
-- is asked
abbrev pub KnownGoesOnOrAsks : {E : Type 0} → ClientValue → Numbers → Standing → Option Leave → List ℕ → List ℕ
    → Result Wish E → Type 0
KnownGoesOnOrAsks client numbers standing asked before after result = IfOk result (λ wish. (t : Talk)
    → StandsAfter client t → is_command (typed_by numbers t before) ≡ true
    → GoesOnAs numbers t standing before after wish ⊎ (GoesOut t before after wish ⊎ (asked ≡ Some L.Bye)))
