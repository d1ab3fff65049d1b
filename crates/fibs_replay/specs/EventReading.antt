-- Which event a line of a script says, as a function: by the first word, and what follows the space after it.
use Rattle.std.specs.Prelude.{◌≡◌, ◌↔◌, ℕ, List, [], Option, None, Some, cond, codes, option_map}
use Rattle.std.specs.Str.{bytes_eq}
use Rattle.fibs_fields.specs.Board.{BoardFields}
use Rattle.fibs_fields.specs.Decimal.{decimal_up_to}
use Rattle.fibs_messages.specs.Line.{ReadingValue, numbered_line, board_line, text_line, malformed_line, reading_value}
use Rattle.fibs_fields.specs.Split.{before, after}
use Rattle.fibs_position.specs.declared.direction.Direction.TheVariants.{Down}
use Rattle.fibs_commands.specs.CommandReading.{read_command}
use Rattle.fibs_commands.specs.PlainReading.{read_plain}
use Rattle.fibs_model.specs.Events.{Event, Open, Click, Plain, Deliver, Lose, Serve, Own, Repeat, Text, Order, Withdraw}
use Rattle.fibs_replay.specs.EventLines.{count_limit, die_limit, SaysEvent}

-- a word alone
unfoldable pub alone_in : List ℕ → Option Event
alone_in word =
    cond (bytes_eq word (codes "open")) (Some Open)
    (cond (bytes_eq word (codes "repeat")) (Some Repeat)
    (cond (bytes_eq word (codes "text")) (Some (Text [])) None))

-- a reading that says a board
abbrev pub said_board : ReadingValue → Option BoardFields
said_board (numbered_line m) = None
said_board (board_line b) = Some b
said_board (text_line text) = None
said_board (malformed_line number k f) = None

-- the board of a line
unfoldable pub board_in : List ℕ → Option BoardFields
board_in line = said_board (reading_value line)

-- one reading, and then another if the first gave something
infixl 10 ◌>>=◌
abbrev pub ◌>>=◌ : {A B : Type 0} → Option A → (A → Option B) → Option B
None >>= f = None
(Some x) >>= f = f x

-- a connection and two dice, each after one space
unfoldable pub serving_in : List ℕ → Option Event
serving_in rest = do
  conn ← decimal_up_to count_limit (before 32 rest)
  dice ← after 32 rest
  one ← decimal_up_to die_limit (before 32 dice)
  last ← after 32 dice
  other ← decimal_up_to die_limit last
  Some (Serve conn one other)

-- an event of the standing order, which is one to roll
unfoldable pub of_roll : Event → List ℕ → Option Event
of_roll e rest = cond (bytes_eq rest (codes "roll")) (Some e) None

-- a word, and what follows the space after it
unfoldable pub joined_in : List ℕ → List ℕ → Option Event
joined_in word rest =
    cond (bytes_eq word (codes "click")) (option_map (λ d. Click d) (read_command Down rest))
    (cond (bytes_eq word (codes "plain")) (option_map (λ p. Plain p) (read_plain rest))
    (cond (bytes_eq word (codes "order")) (of_roll Order rest)
    (cond (bytes_eq word (codes "withdraw")) (of_roll Withdraw rest)
    (cond (bytes_eq word (codes "deliver")) (option_map (λ n. Deliver n) (decimal_up_to count_limit rest))
    (cond (bytes_eq word (codes "lose")) (option_map (λ k. Lose k) (decimal_up_to count_limit rest))
    (cond (bytes_eq word (codes "serve")) (serving_in rest)
    (cond (bytes_eq word (codes "own")) (option_map (λ b. Own b) (board_in rest))
    (cond (bytes_eq word (codes "text")) (Some (Text rest)) None))))))))

-- the event of a word and what follows it, if it has one
abbrev pub event_of_word : List ℕ → Option (List ℕ) → Option Event
event_of_word word None = alone_in word
event_of_word word (Some rest) = joined_in word rest

-- the event of a line
unfoldable pub event_in : List ℕ → Option Event
event_in line = event_of_word (before 32 line) (after 32 line)

-- the function says what the relation says
abbrev pub EventsAreExact : Type 0
EventsAreExact = (line : List ℕ) (e : Event) → (event_in line ≡ Some e) ↔ SaysEvent line e
