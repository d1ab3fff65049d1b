-- Which bytes of a stream tell that a login was refused, byte by byte.
use Rattle.std.proofs.Common.{◌≡◌, ◌≤◌, ◌<◌, ◌+◌, ◌-◌, ◌&&◌, ◌||◌, ℕ, zero, suc, Bool, true, false, not, List, [], ◌∷◌, ◌++◌, Option, None, Some, length, take, drop, get_or, refl, sym, ap, subst, ◌∙◌, append_assoc, append-nil, length-append, arith, if◌then◌else◌}
use Rattle.std.specs.List.{list_any}
use Rattle.std.proofs.lemmas.List.{drop-append-le, take_all, take-append-le, take_more}
use Rattle.std.proofs.lemmas.List.Folds.{list_any-append}
use Rattle.std.proofs.Math.Seq.{drop-length}
use Rattle.fibs_lines.specs.Lines.{is_line_end}
use Rattle.fibs_events.specs.Asking.{HasHeard, HearsMore, was_told}
use Rattle.fibs_lines.specs.Questions.{asks_again}
use Rattle.fibs_events.specs.declared.asking.Asking.{Asking}
use Rattle.fibs_events.specs.declared.event.Event.{Event}
use Rattle.fibs_events.specs.declared.event.Event.TheVariants as E
use Rattle.fibs_json.specs.Asked.{any_below, asks_still, refusals, refuses_at}
use Rattle.fibs_json.specs.Passing.{IsAsked, Refused, told_text}

-- neither of two, one after the other
not_either : (a u v : Bool) → (a && not (u || v)) ≡ ((a && not u) && not v)
not_either true true v = refl
not_either true false v = refl
not_either false u v = refl

-- what both have in common
in_common : (a b t : Bool) → ((a && t) || (b && t)) ≡ ((a || b) && t)
in_common true b true = refl
in_common true true false = refl
in_common true false false = refl
in_common false b t = refl

-- a test that asks for one thing more
any_below_and : (f g : ℕ → Bool) (t : Bool) (n : ℕ) → ((m : ℕ) → m < n → g m ≡ (f m && t))
    → any_below g n ≡ (any_below f n && t)
any_below_and f g t zero each = refl
any_below_and f g t (suc n) each =
    ap (λ b. b || g n) (any_below_and f g t n (λ m less. each m (omega (arith, less))))
    ∙ ap (λ b. (any_below f n && t) || b) (each n (omega arith))
    ∙ in_common (any_below f n) (f n) t

-- a front that asked does so still after one byte more, if that ends no line
asks_still_more : (t : List ℕ) (x m : ℕ) → m ≤ length t
    → asks_still (t ++ (x ∷ [])) m ≡ (asks_still t m && not (list_any is_line_end (x ∷ [])))
asks_still_more t x m fits =
    ap (λ l. asks_again l && not (list_any is_line_end (drop m (t ++ (x ∷ []))))) (take-append-le m t (x ∷ []) fits)
    ∙ ap (λ l. asks_again (take m t) && not (list_any is_line_end l)) (drop-append-le m t (x ∷ []) fits)
    ∙ ap (λ b. asks_again (take m t) && not b) (list_any-append is_line_end (drop m t) (x ∷ []))
    ∙ not_either (asks_again (take m t)) (list_any is_line_end (drop m t)) (list_any is_line_end (x ∷ []))

-- so does some front
asked_more : (t : List ℕ) (x : ℕ)
    → any_below (asks_still (t ++ (x ∷ []))) (length t + 1)
    ≡ (any_below (asks_still t) (length t + 1) && not (list_any is_line_end (x ∷ [])))
asked_more t x =
    any_below_and (asks_still t) (asks_still (t ++ (x ∷ []))) (not (list_any is_line_end (x ∷ []))) (length t + 1)
    (λ m less. asks_still_more t x m (omega (arith, less)))

-- the whole of a list
take_whole : (l : List ℕ) (n : ℕ) → n ≡ length l → take n l ≡ l
take_whole l n is = take_all n l (omega (arith, is))

-- and nothing after it
drop_whole : (l : List ℕ) (n : ℕ) → n ≡ length l → drop n l ≡ []
drop_whole l n is = ap (λ k. drop k l) is ∙ drop-length l

-- and a test that is met
and_true : (a : Bool) → (a && true) ≡ a
and_true true = refl
and_true false = refl

-- the whole stream asks still if it asks
whole_asks : (s : List ℕ) (n : ℕ) → n ≡ length s → asks_still s n ≡ asks_again s
whole_asks s n is =
    ap (λ l. asks_again l && not (list_any is_line_end (drop n s))) (take_whole s n is)
    ∙ ap (λ l. asks_again s && not (list_any is_line_end l)) (drop_whole s n is)
    ∙ and_true (asks_again s)

-- what is told of a line goes on so
told_more : (a b : Asking) (t : List ℕ) (x : ℕ) (told : Option Event) → IsAsked a t → HearsMore a b (x ∷ []) told
    → b.is_told ≡ any_below (asks_still (t ++ (x ∷ []))) (length (t ++ (x ∷ [])) + 1)
told_more a b t x told at hears =
    let s : List ℕ = t ++ (x ∷ []) in
    let last : length s ≡ length t + 1 = length-append t (x ∷ []) in
    hears.once t at.heard
    ∙ ap (λ u. (u && not (list_any is_line_end (x ∷ []))) || asks_again s) at.told
    ∙ ap (λ u. u || asks_again s) (sym (asked_more t x))
    ∙ ap (λ u. any_below (asks_still s) (length t + 1) || u) (sym (whole_asks s (length t + 1) (sym last)))
    ∙ ap (λ n. any_below (asks_still s) n) {x = suc (length t + 1)} {y = length s + 1}
    (omega (arith, last))

-- a refusal is told exactly where one is
refused_here : (a : Asking) (t : List ℕ) (x : ℕ) → IsAsked a t
    → refuses_at (t ++ (x ∷ [])) (length t + 1) ≡ (asks_again (t ++ (x ∷ [])) && not (was_told a (x ∷ [])))
refused_here a t x at =
    let s : List ℕ = t ++ (x ∷ []) in
    let last : length t + 1 ≡ length s = sym (length-append t (x ∷ [])) in
    ap (λ l. asks_again l && not (any_below (asks_still l) (length t + 1))) (take_whole s (length t + 1) last)
    ∙ ap (λ u. asks_again s && not u) (asked_more t x)
    ∙ ap (λ u. asks_again s && not (u && not (list_any is_line_end (x ∷ [])))) (sym at.told)

-- one byte more was heard
pub asked_one : (a b : Asking) (t : List ℕ) (x : ℕ) (told : Option Event) → IsAsked a t → HearsMore a b (x ∷ []) told
    → IsAsked b (t ++ (x ∷ []))
asked_one a b t x told at hears =
    record { heard = hears.heard t at.heard; told = told_more a b t x told at hears }

-- before any byte nothing is told
pub asked_nothing : (a : Asking) → HasHeard a [] → a.is_told ≡ false → IsAsked a []
asked_nothing a heard told = record { heard = heard; told = told }

-- a refusal stays where it is, whatever follows
refuses_stays : (t p : List ℕ) (n : ℕ) → n ≤ length t → refuses_at (t ++ p) n ≡ refuses_at t n
refuses_stays t p n fits = ap (λ l. asks_again l && not (any_below (asks_still l) n)) (take-append-le n t p fits)

-- so do those of some bytes
pub refusals_stay : (t p object : List ℕ) (start n : ℕ) → start + n ≤ length t
    → refusals (t ++ p) object start n ≡ refusals t object start n
refusals_stay t p object start zero fits = refl
refusals_stay t p object start (suc n) fits =
    ap (λ l. l ++ (if refuses_at (t ++ p) (start + n + 1) then object ++ (10 ∷ []) else []))
    (refusals_stay t p object start n (omega (arith, fits)))
    ∙ ap (λ (b : Bool). refusals t object start n ++ (if b then object ++ (10 ∷ []) else []))
    (refuses_stays t p (start + n + 1) (omega (arith, fits)))

-- those of some bytes and then of others
pub refusals_add : (s object : List ℕ) (start a b : ℕ)
    → refusals s object start (a + b) ≡ refusals s object start a ++ refusals s object (start + a) b
refusals_add s object start a zero =
    ap (λ n. refusals s object start n) {x = a + 0} {y = a} (omega arith) ∙ sym (append-nil (refusals s object start a))
refusals_add s object start a (suc b) =
    ap (λ n. refusals s object start n) {x = a + suc b} {y = suc (a + b)} (omega arith)
    ∙ ap (λ l. l ++ (if refuses_at s (start + (a + b) + 1) then object ++ (10 ∷ []) else []))
    (refusals_add s object start a b)
    ∙ append_assoc (refusals s object start a) (refusals s object (start + a) b)
    (if refuses_at s (start + (a + b) + 1) then object ++ (10 ∷ []) else [])
    ∙ ap (λ n. refusals s object start a ++ (refusals s object (start + a) b
    ++ (if refuses_at s n then object ++ (10 ∷ []) else []))) {x = start + (a + b) + 1} {y = start + a + b + 1}
    (omega arith)

-- it is that of the refusal, if one was told
told_refusal : (object : Event → List ℕ) (t : Bool)
    → told_text object (if t then Some E.LoginRefused else None)
    ≡ (if t then object E.LoginRefused ++ (10 ∷ []) else [])
told_refusal object true = refl
told_refusal object false = refl

-- one byte more was heard, and what it tells is printed
pub refusals_one : (object : Event → List ℕ) (a b : Asking) (t : List ℕ) (x start n : ℕ) (told : Option Event)
    → start + n ≡ length t → IsAsked a t → HearsMore a b (x ∷ []) told
    → refusals (t ++ (x ∷ [])) (object E.LoginRefused) start (n + 1)
    ≡ refusals t (object E.LoginRefused) start n ++ told_text object told
refusals_one object a b t x start n told place at hears =
    let s : List ℕ = t ++ (x ∷ []) in
    let one : List ℕ = object E.LoginRefused in
    let is : told_text object told ≡ (if refuses_at s (start + n + 1) then one ++ (10 ∷ []) else []) =
    ap (told_text object) (hears.tells t at.heard)
    ∙ told_refusal object (asks_again s && not (was_told a (x ∷ [])))
    ∙ ap (λ (b : Bool). if b then one ++ (10 ∷ []) else []) (sym (refused_here a t x at))
    ∙ ap (λ m. if refuses_at s m then one ++ (10 ∷ []) else []) {x = length t + 1}
    {y = start + n + 1} (omega (arith, place)) in
    ap (λ m. refusals s one start m) {x = n + 1} {y = suc n} (omega arith)
    ∙ ap (λ l. l ++ (if refuses_at s (start + n + 1) then one ++ (10 ∷ []) else []))
    (refusals_stay t (x ∷ []) one start n (omega (arith, place)))
    ∙ ap (λ l. refusals t one start n ++ l) (sym is)

-- nothing is heard
pub refused_nothing : (a : Asking) (object : List ℕ) → Refused a a [] object []
refused_nothing a object = λ s at. (subst (IsAsked a) (sym (append-nil s)) at, refl)

-- one byte more is heard
refused_more : (object : Event → List ℕ) (a b c : Asking) (bytes : List ℕ) (x : ℕ) (told : Option Event)
    (added : List ℕ) → Refused a b bytes (object E.LoginRefused) added → HearsMore b c (x ∷ []) told
    → Refused a c (bytes ++ (x ∷ [])) (object E.LoginRefused) (added ++ told_text object told)
refused_more object a b c bytes x told added first hears = λ s at.
    let before = first s at in
    let one : List ℕ = object E.LoginRefused in
    let here = refusals_one object b c (s ++ bytes) x (length s) (length bytes) told (sym (length-append s bytes))
    before.0 hears in (
      subst (IsAsked c) (append_assoc s bytes (x ∷ [])) (asked_one b c (s ++ bytes) x told before.0 hears),
      ap (λ l. l ++ told_text object told) before.1
          ∙ sym here
          ∙ ap (λ t. refusals t one (length s) (length bytes + 1)) (append_assoc s bytes (x ∷ []))
          ∙ ap (λ n. refusals (s ++ (bytes ++ (x ∷ []))) one (length s) n) (sym (length-append bytes (x ∷ []))),
    )

-- the next byte of a list is heard
pub refused_next : (object : Event → List ℕ) (a b c : Asking) (bytes old now next : List ℕ) (at : ℕ)
    (told : Option Event) → at < length bytes
    → (added : List ℕ) × (now ≡ old ++ added) × Refused a b (take at bytes) (object E.LoginRefused) added
    → HearsMore b c (get_or bytes at 0 ∷ []) told → next ≡ now ++ told_text object told
    → (added : List ℕ) × (next ≡ old ++ added) × Refused a c (take (at + 1) bytes) (object E.LoginRefused) added
refused_next object a b c bytes old now next at told less so_far hears gained =
    let added = so_far.0 in
    let x : ℕ = get_or bytes at 0 in
    let grown : take at bytes ++ (x ∷ []) ≡ take (at + 1) bytes = sym (take_more bytes at 0 less) in (
      added ++ told_text object told,
      gained ∙ ap (λ l. l ++ told_text object told) so_far.1 ∙ append_assoc old added (told_text object told),
      subst (λ l. Refused a c l (object E.LoginRefused) (added ++ told_text object told)) grown
          (refused_more object a b c (take at bytes) x told added so_far.2 hears),
    )
