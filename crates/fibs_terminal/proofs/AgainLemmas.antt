-- When a lost connection is opened again.
use Rattle.std.proofs.Common.{◌≡◌, ◌≤◌, ◌++◌, ◌*◌, ◌^◌, ℕ, zero, suc, Bool, true, false, List, [], ◌∷◌, refl, ap, ◌∙◌, arith}
use Rattle.std.specs.Prelude.{◌&&◌, ◌||◌, Result, Ok, Err, OnOk, not, cond, min}
use Rattle.fibs_terminal.specs.declared.reconnecting.Reconnecting.{Reconnecting}
use Rattle.fibs_terminal.specs.Again.{EndsByLeave, EndsByTwo, Happening, OpensAgain, SaysEnd, TriesIfAsked, after_all, after_lost, after_stay, end_words, failed, goes_on, greeted, left, lost, made, next_wait, unmade}

-- a power of 2 is 1 or more
one_or_more : (n : ℕ) → 1 ≤ 2 ^ n
one_or_more zero = omega arith
one_or_more (suc n) = let before = one_or_more n in omega (arith, before)

-- the wait after one that is a number and 60 at most
doubled : (x : ℕ) → 1 ≤ x → next_wait (min x 60) ≡ min (2 * x) 60
doubled x some = omega (arith, some)

-- the next power of 2
power : (n : ℕ) → 2 * 2 ^ n ≡ 2 ^ suc n
power n = omega arith

-- the wait after a power of 2
doubled_power : (n : ℕ) → next_wait (min (2 ^ n) 60) ≡ min (2 ^ suc n) 60
doubled_power n = doubled (2 ^ n) (one_or_more n) ∙ ap (λ x. min x 60) (power n)

-- the waits double
waits : (r : Reconnecting) → goes_on r ≡ true → (n : ℕ)
    → ((failed n (after_lost true r)).tries ≡ true) × ((failed n (after_lost true r)).wait ≡ min (2 ^ n) 60)
waits r on zero = (on, ap (λ b. cond b (next_wait 0) 0) on)
waits r on (suc n) = let h = waits r on n in (
  h.0,
  ap (λ b. cond b (next_wait (failed n (after_lost true r)).wait) 0) h.0 ∙ ap next_wait h.1 ∙ doubled_power n,
)

-- nothing but a wish of the user begins a row of tries
closed : (r : Reconnecting) (hs : List Happening)
    → ((after_all hs (after_stay r)).tries ≡ false) × ((after_all hs (after_stay r)).is_on ≡ false)
closed r [] = (refl, refl)
closed r (lost lasted ∷ hs) =
    let x = after_all hs (after_stay r) in
    let h = closed r hs in
    (ap (λ b. b && (not x.leaves && (x.is_greeted || not x.has_failed))) h.1, h.1)
closed r (unmade ∷ hs) = closed r hs
closed r (made ∷ hs) = (refl, (closed r hs).1)
closed r (greeted ∷ hs) = closed r hs
closed r (left ∷ hs) = closed r hs

-- of two conditions one is not met
not_both : (b : Bool) → b && false ≡ false
not_both true = refl
not_both false = refl

-- who has taken leave gets no new connection
by_leave : EndsByLeave
by_leave r lasted taken =
    ap (λ b. r.is_on && (not b && (r.is_greeted || not r.has_failed))) taken ∙ not_both r.is_on

-- nor after two connections without a greeting
by_two : EndsByTwo
by_two r first second on silent =
    ap (λ b. r.is_on && (not (b && not r.is_greeted))) on ∙ ap (λ b. r.is_on && (not (not b))) silent
    ∙ not_both r.is_on

-- nor without the wish
if_asked : TriesIfAsked
if_asked r lasted off = ap (λ b. b && (not r.leaves && (r.is_greeted || not r.has_failed))) off

-- all of it
pub opens_again : OpensAgain
opens_again = record {
  waits = λ r n on. waits r on n;
  stays = λ r hs. (closed r hs).0;
  leave = by_leave;
  two = by_two;
  asked = if_asked;
}

-- what is said at the end is that the server has closed it, if the user has taken leave
pub ends_so : {E : Type 0} (result : Result (Unit {0}) E) (r : Reconnecting) (has_left fixes : Bool)
    (words before after : List ℕ) → has_left ≡ r.leaves → words ≡ end_words has_left fixes
    → OnOk result (after ≡ before ++ words) → OnOk result (SaysEnd r before after)
ends_so (Ok x) r has_left fixes words before after has is said = λ leaves. (
  fixes,
  said ∙ ap (λ w. before ++ w) (is ∙ ap (λ h. end_words h fixes) (has ∙ leaves)),
)
ends_so (Err x) r has_left fixes words before after has is said = tt
