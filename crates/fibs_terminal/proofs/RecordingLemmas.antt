-- The line of a match that has ended.
use Rattle.std.proofs.Common.{◌≡◌, ◌++◌, ◌==◌, ◌∙◌, ℕ, true, false, List, [], length, append-nil, Option, Some, None, option_map, if◌then◌else◌, refl, sym, ap}
use Rattle.fibs_wording.specs.Matches.{match_line, unknown}
use Rattle.fibs_wording.specs.declared.matches.Score.{Score}
use Rattle.fibs_terminal.specs.Recording.{AppendsLine, scored_line}
use Rattle.fibs_terminal.specs.declared.results.Ended.{Ended}
use Rattle.fibs_terminal.specs.declared.results.Rated.{Rated}

-- nothing was put behind a text
nothing : (text line : List ℕ) → line ≡ [] → text ≡ text ++ line
nothing text line none = sym (ap (λ (l : List ℕ). text ++ l) none ∙ append-nil text)

-- there is no line without a score
pub unscored : (e : Ended) (now : Option Rated) (text : List ℕ) → e.score ≡ None → AppendsLine e now text text
unscored e now text none = record {
  date = unknown;
  undated = λ _. refl;
  line = nothing text (scored_line unknown e.score e now)
      (ap (λ (s : Option Score). scored_line unknown s e now) none);
}

-- the line of a score without an opponent
no_line : (date : List ℕ) (score : Option Score) (e : Ended) (now : Option Rated)
    → (length e.opponent.items == 0) ≡ true → scored_line date score e now ≡ []
no_line date None e now is = refl
no_line date (Some score) e now is = ap
    (λ b. if b then [] else match_line date e.opponent.items score.length score.own score.other
    (option_map (λ rated. rated.rating) e.before) (option_map (λ rated. rated.rating) now)
    (option_map (λ rated. rated.experience) now)) is

-- nor is there one without an opponent
pub unnamed : (e : Ended) (now : Option Rated) (text : List ℕ) → (length e.opponent.items == 0) ≡ true
    → AppendsLine e now text text
unnamed e now text is = record {
  date = unknown;
  undated = λ _. refl;
  line = nothing text (scored_line unknown e.score e now) (no_line unknown e.score e now is);
}

-- the line of a score and an opponent
a_line : (date : List ℕ) (old : Option Score) (score : Score) (e : Ended) (now : Option Rated) → old ≡ Some score
    → (length e.opponent.items == 0) ≡ false
    → match_line date e.opponent.items score.length score.own score.other
    (option_map (λ rated. rated.rating) e.before) (option_map (λ rated. rated.rating) now)
    (option_map (λ rated. rated.experience) now) ≡ scored_line date old e now
a_line date old score e now is other =
    sym (ap (λ (s : Option Score). scored_line date s e now) is ∙ ap
    (λ b. if b then [] else match_line date e.opponent.items score.length score.own score.other
    (option_map (λ rated. rated.rating) e.before) (option_map (λ rated. rated.rating) now)
    (option_map (λ rated. rated.experience) now)) other)

-- else it is put behind a text
pub scored : (date : List ℕ) (score : Score) (e : Ended) (now : Option Rated) (old new : List ℕ) → e.score ≡ Some score
    → (length e.opponent.items == 0) ≡ false → (e.time ≡ None → date ≡ unknown)
    → new ≡ old ++ match_line date e.opponent.items score.length score.own score.other
    (option_map (λ rated. rated.rating) e.before) (option_map (λ rated. rated.rating) now)
    (option_map (λ rated. rated.experience) now) → AppendsLine e now old new
scored date score e now old new is other undated more = record {
  date = date;
  undated = undated;
  line = more ∙ ap (λ (l : List ℕ). old ++ l) (a_line date e.score score e now is other);
}
