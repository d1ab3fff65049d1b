-- Why a text says the end of a match, or does not.
use Rattle.std.proofs.Common.{◌≡◌, ◌≢◌, ◌++◌, ◌≤◌, ◌<◌, ℕ, Bool, true, false, List, MatchOption, Option, Some, None, Bor, codes, decimal, subst, sym}
use Rattle.fibs_fields.specs.Split.{after, before}
use Rattle.fibs_wording.specs.Endings.{BeginsOtherwise, SaysScore, SaysWinner, own_win}
use Rattle.fibs_wording.specs.Matches.{is_won}
use Rattle.fibs_wording.specs.declared.matches.Score.{Score}

-- a text that begins in neither way says no end of a match with this opponent
pub nobody_won : (text opponent : List ℕ) → BeginsOtherwise text own_win
    → ((rest : List ℕ) → text ≢ opponent ++ (codes " wins the " ++ rest)) → (won : Bool) (rest : List ℕ)
    → ¬ SaysWinner text opponent won rest
nobody_won text opponent not_own not_other true rest says = not_own rest says
nobody_won text opponent not_own not_other false rest says = not_other rest says.1

-- what a text is from which its front was cut
pub was_cut : (text front : List ℕ) (cut : Option (Bor (List ℕ))) (rest : Bor (List ℕ)) → cut ≡ Some rest
    → MatchOption cut ((other : List ℕ) → text ≢ front ++ other) (λ x. text ≡ front ++ x.now)
    → text ≡ front ++ rest.now
was_cut text front cut rest is tells =
    subst (λ r. MatchOption r ((other : List ℕ) → text ≢ front ++ other) (λ x. text ≡ front ++ x.now)) is tells

-- and one from which it was not
pub not_cut : (text front : List ℕ) (cut : Option (Bor (List ℕ))) → cut ≡ None
    → MatchOption cut ((other : List ℕ) → text ≢ front ++ other) (λ x. text ≡ front ++ x.now)
    → BeginsOtherwise text front
not_cut text front cut is tells =
    subst (λ r. MatchOption r ((other : List ℕ) → text ≢ front ++ other) (λ x. text ≡ front ++ x.now)) is tells

-- nothing is answered
pub none_told : {X : Type 0} (answer : Option X) (A : Type 0) (B : X → Type 0) → answer ≡ None → A
    → MatchOption answer A B
none_told answer A B none is = subst (λ o. MatchOption o A B) (sym none) is

-- the user's points and the opponent's, by whether he has won
abbrev pub ArePoints : Bool → ℕ → ℕ → ℕ × ℕ → Type 0
ArePoints true winner loser points = points ≡ (winner, loser)
ArePoints false winner loser points = points ≡ (loser, winner)

-- those of a match that he has won
pub own_are_points : (won : Bool) (winner loser : ℕ) (points : ℕ × ℕ) → won ≡ true → points ≡ (winner, loser)
    → ArePoints won winner loser points
own_are_points true winner loser points is same = same
own_are_points false winner loser points is same = absurd cc

-- those of one that the opponent has won
pub other_are_points : (won : Bool) (winner loser : ℕ) (points : ℕ × ℕ) → won ≡ false → points ≡ (loser, winner)
    → ArePoints won winner loser points
other_are_points true winner loser points is same = absurd cc
other_are_points false winner loser points is same = same

-- a score of these points
abbrev pub score_of : ℕ → ℕ × ℕ → Score
score_of length points = record { length = length; own = points.0; other = points.1 }

-- a score that is read is said
pub score_said : (won : Bool) (text behind : List ℕ) (length winner loser : ℕ) (points : ℕ × ℕ)
    → ArePoints won winner loser points
    → (before 32 text ≡ decimal length) × (length ≤ 99999999999)
    → after 32 text ≡ Some (codes "point match " ++ behind)
    → (before 45 (before 32 behind) ≡ decimal winner) × (winner ≤ 99999999999)
    → after 45 (before 32 behind) ≡ Some (decimal loser) → loser ≤ 99999999999
    → loser < winner → is_won (score_of length points) ≡ true → SaysScore won text (score_of length points)
score_said true text behind length winner loser points are len follows win lose few more over =
    subst (λ p. is_won (score_of length p) ≡ true → SaysScore true text (score_of length p)) (sym are)
    (λ is. record {
      points = behind;
      match_length = len.0;
      follows = follows;
      winner = win.0;
      loser = lose;
      small = record { length = len.1; own = win.1; other = few };
      more = more;
      over = is;
    }) over
score_said false text behind length winner loser points are len follows win lose few more over =
    subst (λ p. is_won (score_of length p) ≡ true → SaysScore false text (score_of length p)) (sym are)
    (λ is. record {
      points = behind;
      match_length = len.0;
      follows = follows;
      winner = win.0;
      loser = lose;
      small = record { length = len.1; own = few; other = win.1 };
      more = more;
      over = is;
    }) over
