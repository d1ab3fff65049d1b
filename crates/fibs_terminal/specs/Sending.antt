-- Which typed lines go to the server past the client (the project's own).
use Rattle.std.specs.Prelude.{◌≡◌, ◌⊎◌, ◌++◌, Bool, false, ℕ, List, drop, codes, Option, Some, None, Result, IfOk}
use Rattle.std.specs.List.{prefix_len}
use Rattle.std.specs.Char.{is_ascii_whitespace}
use Rattle.std.specs.Str.{str_eq_ignore_ascii_case}
use Rattle.fibs_fields.specs.Split.{before}
use Rattle.fibs_position.specs.DecisionValue.{DecisionValue}
use Rattle.fibs_position.specs.declared.numbers.Numbers.{Numbers}
use Rattle.fibs_session.specs.History.Machine.{Talk}
use Rattle.fibs_session.specs.Calls.Standing.{ClientValue, StandsAfter}
use Rattle.fibs_session.specs.Typing.{decided, typed_by, typed_decision, typed_now, way_now}
use Rattle.fibs_connect.specs.declared.wish.Wish.{Wish}
use Rattle.fibs_connect.specs.declared.wish.Wish.TheVariants.{Say, Send, Answered}
use Rattle.fibs_advice.specs.Moved.{spelled_in}
use Rattle.fibs_advice.specs.Passing.{GoesPast, IsForbidden}
use Rattle.fibs_advice.specs.declared.standing.Standing.{Standing}

-- the line without the spaces before its first word
abbrev pub from_word : List ℕ → List ℕ
from_word line = drop (prefix_len is_ascii_whitespace line) line

-- its first word is `send`, in any letters
abbrev pub says_send : List ℕ → Bool
says_send line = str_eq_ignore_ascii_case (before 32 (from_word line)) (codes "send")

-- what a decision asks for that is typed without `send`: that the client answers it; or that it goes past the client,
-- exactly if the server has asked for it and the rules allow it on the board that is shown; or nothing, since they
-- forbid it
pub record Decides (t : Talk) (standing : Standing) (d : DecisionValue) (wish : Wish) : Type 0 where
  pub either : (wish ≡ Say) ⊎ ((wish ≡ Send) ⊎ (wish ≡ Answered))
  pub sent : wish ≡ Send → GoesPast t standing d
  pub taken : GoesPast t standing d → wish ≡ Send
  pub forbidden : wish ≡ Answered → IsForbidden t standing d

-- what a line asks for that may be a decision: all other commands are the client's to answer
abbrev pub DecidesIf : Talk → Standing → Option DecisionValue → Wish → Type 0
DecidesIf t standing None wish = wish ≡ Say
DecidesIf t standing (Some d) wish = Decides t standing d wish

-- what goes past it is no decision
abbrev pub SendsNoDecision : {E : Type 0} → ClientValue → List ℕ → Result Wish E → Type 0
SendsNoDecision client line result = IfOk result (λ wish. wish ≡ Send → (t : Talk) → StandsAfter client t
    → decided (typed_now t line) ≡ None)

-- if it is a decision, the server has asked for it, and the rules allow it
abbrev pub WentOnWord : {E : Type 0} → ClientValue → Standing → List ℕ → Result Wish E → Type 0
WentOnWord client standing line result = IfOk result (λ wish. wish ≡ Send → (t : Talk) → StandsAfter client t
    → (d : DecisionValue) → decided (typed_now t line) ≡ Some d → GoesPast t standing d)

-- the law of lines that go past the client: so does each, in whatever spelling, that was typed without the word `send`
abbrev pub SendsOnWord : {E : Type 0} → ClientValue → Standing → List ℕ → List ℕ → Result Wish E → Type 0
SendsOnWord client standing typed line result = says_send typed ≡ false → WentOnWord client standing line result

-- it is said how a line is typed that the client would take: a decision in the numbers that the user reads, so that he
-- types the same decision
pub record SaysWithout (numbers : Numbers) (t : Talk) (line before after : List ℕ) : Type 0 where
  pub said : after ≡ before ++ (codes "Type it without send: "
      ++ (spelled_in (way_now numbers t) line (decided (typed_now t line)) ++ codes "\n"))
  pub same : (d : DecisionValue) → decided (typed_now t line) ≡ Some d
      → typed_by numbers t (spelled_in (way_now numbers t) line (decided (typed_now t line))) ≡ typed_decision d
