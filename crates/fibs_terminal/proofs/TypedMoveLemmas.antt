-- Which move `try` reads, and of which move a broken rule is kept.
use Rattle.std.proofs.Common.{◌≡◌, ◌++◌, ℕ, List, [], Some, Result, Ok, Err, codes, false, inl, inr, refl, subst, sym, ap, ◌∙◌}
use Rattle.std.specs.Prelude.{OnOk}
use Rattle.fibs_commands.specs.Commands.{command_of}
use Rattle.fibs_fields.specs.Board.{BoardFields}
use Rattle.fibs_game.specs.declared.refusal.Refusal.TheVariants.{IllegalPlay}
use Rattle.fibs_position.specs.DecisionValue.{DecisionValue, IsDecision, move}
use Rattle.fibs_position.specs.declared.numbers.Numbers.{Numbers}
use Rattle.fibs_rules.specs.Hop.{Hop}
use Rattle.fibs_rules.specs.PlayValue.{hops_of}
use Rattle.fibs_rules.specs.declared.play.Play.{Play}
use Rattle.fibs_session.specs.History.Machine.{Talk, answer_now, shown_now}
use Rattle.fibs_session.specs.Calls.Standing.{ClientValue, StandsAfter}
use Rattle.fibs_session.specs.Typing.{ShownIsRead, decided, typed_by, typed_decision, way_now}
use Rattle.fibs_advice.specs.BrokenRules.{SaysBroken}
use Rattle.fibs_advice.specs.Spelled.{Spells, first_word, is_talk, small_line, takes_name, word_spelled}
use Rattle.fibs_terminal.specs.TypedMoves.{IsTriedAs, NotesRule, move_line}

-- a rule that is said of a move is kept of the line that is the move
pub rule_noted : {E : Type 0} (r : Result (Unit {0}) E) (client : ClientValue) (numbers : Numbers) (line : List ℕ)
    (play : List Hop) (b : BoardFields) (old new : List ℕ)
    → ((t : Talk) → StandsAfter client t → typed_by numbers t line ≡ typed_decision (move play))
    → ((t : Talk) → StandsAfter client t → answer_now t (move play) ≡ Some IllegalPlay)
    → ((t : Talk) → StandsAfter client t → shown_now t ≡ Some b)
    → OnOk r (SaysBroken numbers b play old new)
    → OnOk r ((t : Talk) → StandsAfter client t → NotesRule t numbers line old new)
rule_noted (Err e) client numbers line play b old new typed refused shown said = tt
rule_noted (Ok u) client numbers line play b old new typed refused shown said = λ t stands. inr (record {
  play = play;
  board = b;
  against = record { typed = typed t stands; refused = refused t stands; shown = shown t stands };
  said = said;
})

-- a line that begins with `move` is no talk, and no name follows its first word
no_talk : (rest : List ℕ) → is_talk (first_word (codes "move " ++ rest)) ≡ false
no_talk rest = refl

no_name : (rest : List ℕ) → takes_name (first_word (codes "move " ++ rest)) ≡ false
no_name rest = refl

-- what is read in the spelling of such a line
read_in : (t : Talk) (numbers : Numbers) (rest old spelled : List ℕ) (d : DecisionValue) → old ≡ [] → ShownIsRead
    → ((p : Play) → IsDecision (move (hops_of p)))
    → Spells t (way_now numbers t) (move_line rest) old spelled → typed_by numbers t spelled ≡ typed_decision d
    → IsTriedAs t numbers rest d
read_in t numbers rest old spelled d empty law valid (inl words) read =
    inr (ap (λ s. decided (typed_by numbers t s)) (sym (words ∙ ap (λ o. o ++ word_spelled (move_line rest)) empty))
    ∙ ap decided read)
read_in t numbers rest old spelled d empty law valid (inr said) read = inl (record {
  steps = said.move.steps;
  play = hops_of said.move.play;
  shown = said.move.shown;
  meant = said.move.meant;
  is = same_decision d (move (hops_of said.move.play)) (sym read ∙ ap (typed_by numbers t) command
      ∙ law numbers t (move (hops_of said.move.play)) (valid said.move.play));
})
  where
    command : spelled ≡ command_of (way_now numbers t) (move (hops_of said.move.play))
    command = said.appended ∙ ap (λ o. o ++ said.command) empty ∙ said.move.is

    same_decision : (a b : DecisionValue) → typed_decision a ≡ typed_decision b → a ≡ b
    same_decision a b same = cc

-- what `try` reads
pub tried_as : (client : ClientValue) (numbers : Numbers) (rest seen old spelled : List ℕ) (d : DecisionValue)
    → seen ≡ codes "move " ++ rest → old ≡ [] → ShownIsRead → ((p : Play) → IsDecision (move (hops_of p)))
    → (is_talk (first_word seen) ≡ false → takes_name (first_word seen) ≡ false → (t : Talk) → StandsAfter client t
    → Spells t (way_now numbers t) (small_line seen) old spelled)
    → ((t : Talk) → StandsAfter client t → typed_by numbers t spelled ≡ typed_decision d)
    → (t : Talk) → StandsAfter client t → IsTriedAs t numbers rest d
tried_as client numbers rest seen old spelled d same empty law valid spells read t stands =
    read_in t numbers rest old spelled d empty law valid
    (subst (λ s. Spells t (way_now numbers t) (small_line s) old spelled) same
    (spells (ap (λ s. is_talk (first_word s)) same ∙ no_talk rest)
    (ap (λ s. takes_name (first_word s)) same ∙ no_name rest) t stands))
    (read t stands)
