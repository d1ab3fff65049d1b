-- Several events in a row.
use Rattle.std.proofs.Common.{◌≡◌, ◌<◌, ◌+◌, ℕ, List, [], ◌∷◌, ◌++◌, Some, length, take, drop, map, get_or, zero, suc, sym, ap, subst, ◌∙◌, arith, append_assoc, add-one}
use Rattle.std.proofs.Math.Seq.{drop-cons}
use Rattle.std.proofs.lemmas.List.{length-map, get_or-map}
use Rattle.fibs_fields.specs.Board.{BoardFields}
use Rattle.fibs_model.specs.Events.{Event}
use Rattle.fibs_model.specs.Headline.{Headline}
use Rattle.fibs_model.specs.Laws.{HeadlineHolds}
use Rattle.fibs_model.specs.Refusals.{refusal}
use Rattle.fibs_model.specs.World.{World}
use Rattle.fibs_model.specs.WorldCalls.{WorldStandsAfter, machine_after, Tells, Stops}
use Rattle.fibs_model.specs.WorldOf.{WorldValue}
use Rattle.fibs_game.specs.declared.world_refusal.WorldRefusal.{WorldRefusal}

-- the headline holds of a world that is reached
pub headline_of : HeadlineHolds → (v : WorldValue) (name password : List ℕ) (first : BoardFields) (es : List Event)
    → WorldStandsAfter v name password first es
    → Headline (machine_after name password first es)
unfolding WorldStandsAfter
headline_of law v name password first es h = law name password first es h.is_login h.is_good h.may_be

-- and its log is the machine's
pub log_of : (v : WorldValue) (name password : List ℕ) (first : BoardFields) (es : List Event)
    → WorldStandsAfter v name password first es → v.log ≡ (machine_after name password first es).log
unfolding WorldStandsAfter
log_of v name password first es h = h.stands.log

-- one element more
take_more : {A : Type 0} (xs : List A) (i : ℕ) (x : A) → x ≡ get_or xs i x → i < length xs
    → take (i + 1) xs ≡ take i xs ++ x ∷ []
take_more [] i x e h = absurd (omega arith)
take_more (y ∷ xs) zero x e h = ap (λ z. z ∷ []) (sym e)
take_more (y ∷ xs) (suc i) x e h = ap (λ n. take n (y ∷ xs)) {x = suc i + 1} {y = suc (i + 1)} (omega arith)
    ∙ ap (λ ys. y ∷ ys) (take_more xs i x e (omega (arith, h)))

-- what is left from an element on is the element and what follows it
drop_more : {A : Type 0} (xs : List A) (i : ℕ) (x : A) → x ≡ get_or xs i x → i < length xs
    → drop i xs ≡ x ∷ drop (i + 1) xs
drop_more xs i x e h = drop-cons xs i x h ∙ ap (λ y. y ∷ drop (suc i) xs) (sym e)
    ∙ ap (λ n. x ∷ drop n xs) (sym (add-one i))

module _ {X A : Type 0} (f : X → A) (xs : List X) (i : ℕ) (x : X) (is : x ≡ get_or xs i x) (within : i < length xs)
  where
    at_place : f x ≡ get_or (map f xs) i (f x)
    at_place = ap f is ∙ sym (get_or-map f xs i x (f x) within)

    pub done_more : take (i + 1) (map f xs) ≡ take i (map f xs) ++ f x ∷ []
    done_more = take_more (map f xs) i (f x) at_place (omega (arith, within, length-map xs f))

    pub left_more : drop i (map f xs) ≡ f x ∷ drop (i + 1) (map f xs)
    left_more = drop_more (map f xs) i (f x) at_place (omega (arith, within, length-map xs f))

-- an event was accepted
pub stands_next : (v : WorldValue) (name password : List ℕ) (first : BoardFields) (before done next : List Event)
    (e : Event) → next ≡ done ++ e ∷ []
    → WorldStandsAfter v name password first ((before ++ done) ++ e ∷ [])
    → WorldStandsAfter v name password first (before ++ next)
stands_next v name password first before done next e is h =
    subst (WorldStandsAfter v name password first)
    (append_assoc before done (e ∷ []) ∙ ap (λ xs. before ++ xs) (sym is)) h

-- the first that was not
pub stops : (w : World) (left later : List Event) (e : Event) (why : WorldRefusal) → left ≡ e ∷ later
    → Tells why (refusal w e) → Stops (Some why) w left
stops w left later e why is h = subst (Stops (Some why) w) (sym is) h
