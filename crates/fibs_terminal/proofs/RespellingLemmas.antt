-- A line is respelled as it was typed.
use Rattle.std.proofs.Common.{◌≡◌, ◌++◌, ℕ, List, [], Result, Ok, Err, true, false, inl, inr, ap, subst, ◌∙◌}
use Rattle.std.specs.Prelude.{OnOk}
use Rattle.fibs_position.specs.declared.numbers.Numbers.{Numbers}
use Rattle.fibs_session.specs.Calls.Standing.{ClientValue, StandsAfter}
use Rattle.fibs_session.specs.History.Machine.{Talk}
use Rattle.fibs_session.specs.Typing.{way_now}
use Rattle.fibs_advice.specs.Spelled.{Spells, first_word, is_talk, name_spelled, small_line, takes_name, talk_spelled}
use Rattle.fibs_terminal.specs.Respelling.{IsPassedAs, IsSet, IsSpelling, Respells}

-- what is appended to nothing for a line is its spelling
pub spelling_of : (client : ClientValue) (numbers : Numbers) (typed seen old text : List ℕ) → seen ≡ typed → old ≡ []
    → (is_talk (first_word seen) ≡ true → text ≡ old ++ talk_spelled seen)
    → (is_talk (first_word seen) ≡ false → takes_name (first_word seen) ≡ true → text ≡ old ++ name_spelled seen)
    → (is_talk (first_word seen) ≡ false → takes_name (first_word seen) ≡ false → (t : Talk) → StandsAfter client t
    → Spells t (way_now numbers t) (small_line seen) old text)
    → IsSpelling client numbers typed text
spelling_of client numbers typed seen old text same empty talk name spells =
    subst (λ s. IsSpelling client numbers s text) same (record {
      talk = λ is. talk is ∙ ap (λ o. o ++ talk_spelled seen) empty;
      name = λ none is. name none is ∙ ap (λ o. o ++ name_spelled seen) empty;
      plain = λ none no t stands.
          subst (λ o. Spells t (way_now numbers t) (small_line seen) o text) empty (spells none no t stands);
    })

-- a line is set to its spelling
pub set_to : (client : ClientValue) (numbers : Numbers) (typed spelled seen line : List ℕ) → seen ≡ spelled
    → IsSpelling client numbers typed spelled → IsSet seen line → Respells client numbers typed line
set_to client numbers typed spelled seen line same is set = inr (inr (record {
  spelled = spelled;
  spelling = is;
  set = subst (λ s. IsSet s line) same set;
}))

-- or to what goes to the server as it is
passed_as : (client : ClientValue) (numbers : Numbers) (typed spelled line : List ℕ)
    → IsSpelling client numbers typed spelled → IsPassedAs spelled typed line → Respells client numbers typed line
passed_as client numbers typed spelled line is (inl same) = inl same
passed_as client numbers typed spelled line is (inr (inl small)) = inr (inl small.1)
passed_as client numbers typed spelled line is (inr (inr passed)) =
    inr (inr (record { spelled = spelled; spelling = is; set = passed.1 }))

-- if memory sufficed
pub passed : {E : Type 0} (r : Result (Unit {0}) E) (client : ClientValue) (numbers : Numbers)
    (typed spelled seen line : List ℕ) → seen ≡ spelled → IsSpelling client numbers typed spelled
    → OnOk r (IsPassedAs seen typed line) → OnOk r (Respells client numbers typed line)
passed (Ok u) client numbers typed spelled seen line same is said =
    passed_as client numbers typed spelled line is (subst (λ s. IsPassedAs s typed line) same said)
passed (Err e) client numbers typed spelled seen line same is said = tt
