-- Which event a line of a script says (the project's own format): a word, and after it the event's parts, each after
-- one space. Numbers are canonical decimals without sign.
use Rattle.std.specs.Prelude.{◌≤◌, ◌++◌, ℕ, List, ◌∷◌, codes, decimal}
use Rattle.fibs_fields.specs.Board.{BoardFields, BoardText}
use Rattle.fibs_position.specs.DecisionValue.{DecisionValue}
use Rattle.fibs_position.specs.declared.direction.Direction.TheVariants.{Down}
use Rattle.fibs_commands.specs.CommandReading.{ReadCommand}
use Rattle.fibs_commands.specs.PlainCommands.{PlainValue}
use Rattle.fibs_commands.specs.PlainReading.{ReadsAs, TextField}
use Rattle.fibs_model.specs.Events.{Event, Open, Click, Plain, Deliver, Lose, Serve, Own, Repeat, Text, Order, Withdraw}

-- the greatest number of a connection, and of bytes
abbrev pub count_limit : ℕ
count_limit = 4294967295

-- the greatest number of a die: which of them are dice is not said by the line
abbrev pub die_limit : ℕ
die_limit = 255

-- the line says this event
pub data SaysEvent : List ℕ → Event → Type 0 where
  says_open : SaysEvent (codes "open") Open
  -- a decision is clicked by its command, in the numbers of a player who goes from 24 down to 1
  says_click : {text : List ℕ} {d : DecisionValue} → ReadCommand text Down d
      → SaysEvent (codes "click " ++ text) (Click d)
  says_plain : {text : List ℕ} {p : PlainValue} → ReadsAs text p → SaysEvent (codes "plain " ++ text) (Plain p)
  -- a standing order is one to roll
  says_order : SaysEvent (codes "order roll") Order
  says_withdraw : SaysEvent (codes "withdraw roll") Withdraw
  says_deliver : {n : ℕ} → n ≤ count_limit → SaysEvent (codes "deliver " ++ decimal n) (Deliver n)
  says_lose : {k : ℕ} → k ≤ count_limit → SaysEvent (codes "lose " ++ decimal k) (Lose k)
  says_serve : {c d1 d2 : ℕ} → c ≤ count_limit → d1 ≤ die_limit → d2 ≤ die_limit
      → SaysEvent (codes "serve " ++ (decimal c ++ 32 ∷ (decimal d1 ++ 32 ∷ decimal d2))) (Serve c d1 d2)
  says_own : {line : List ℕ} {b : BoardFields} → BoardText b line → SaysEvent (codes "own " ++ line) (Own b)
  says_repeat : SaysEvent (codes "repeat") Repeat
  -- what follows `text` and a space, of any bytes; nothing if there is no space
  says_text : {text rest : List ℕ} → TextField text rest → SaysEvent (codes "text" ++ rest) (Text text)
