-- A typed line is read part by part.
use Rattle.std.proofs.Common.{◌≡◌, ℕ, ◌<◌, ◌-◌, Bool, true, false, not, nat_lt, List, [], ◌++◌, length, length-take, take, Option, Some, None, refl, ap, sym, ◌∙◌, arith, append_assoc, append-nil, length-append}
use Rattle.std.proofs.lemmas.Bool.Decides.{nat_tests}
use Rattle.std.proofs.lemmas.List.{take-take}
use Rattle.std.specs.Prelude.{◌==◌, is_some}
use Rattle.std.specs.Io.KnownBytes.{Consumes, IsAtEnd, prepend_known}
use Rattle.std.specs.Str.Lines.{strip_carriage_return}
use Rattle.fibs_fields.specs.Split.{before, after}
use Rattle.fibs_connect.specs.TypedLines.{kept_typed, without_end, rest_or_nothing}
use Rattle.fibs_connect.specs.TypedReads.{TakesLine}
use Rattle.fibs_connect.proofs.TypedLemmas.Cuts.{before-all, before-more, after-more, after-front, before-front, cut-length}
use Rattle.fibs_connect.proofs.TypedLemmas.Kept.{kept-more, kept-line}

-- of what was to come a part without a line end was taken, and kept as far as there is room
pub record Parts (start now : Option (List ℕ)) (line : List ℕ) : Type 0 where
  pub part : List ℕ
  pub endless : after 10 part ≡ None
  pub kept : line ≡ take 4098 part
  pub took : Consumes start now part

-- more that waited is kept
more_kept : (start now : Option (List ℕ)) (line run new : List ℕ) (k : Parts start now line)
    → new ≡ line ++ take (4098 - length line) run → new ≡ take 4098 (k.part ++ run)
more_kept start now line run new k e =
    e ∙ ap (λ (l : List ℕ). l ++ take (4098 - length l) run) k.kept ∙ kept-more 4098 k.part run

-- what waited is taken, and more has come
pub parts_more : (start left still : Option (List ℕ)) (line waiting new next : List ℕ)
    → Parts start (prepend_known waiting left) line → after 10 waiting ≡ None
    → new ≡ line ++ take (4098 - length line) (before 10 waiting) → Consumes left still next
    → Parts start (prepend_known next still) new
parts_more start left still line waiting new next k none grows took = record {
  part = k.part ++ waiting;
  endless = after-more 10 k.part waiting k.endless ∙ none;
  kept = more_kept start (prepend_known waiting left) line waiting new k (grows
      ∙ ap (λ (l : List ℕ). line ++ take (4098 - length line) l) (before-all 10 waiting none));
  took = go start left still k.took took;
}
  where
    go : (a b c : Option (List ℕ)) → Consumes a (prepend_known waiting b) k.part → Consumes b c next
        → Consumes a (prepend_known next c) (k.part ++ waiting)
    go None b c h t = tt
    go (Some typed) None c h t = absurd h
    go (Some typed) (Some xs) None h t = absurd t
    go (Some typed) (Some xs) (Some ys) h t = h ∙ ap (λ (l : List ℕ). k.part ++ (waiting ++ l)) t
        ∙ sym (append_assoc k.part waiting (next ++ ys))

-- the line ends in what waited
pub parts_end : (start left : Option (List ℕ)) (line waiting new whole rest : List ℕ)
    → Parts start (prepend_known waiting left) line → Some rest ≡ after 10 waiting
    → new ≡ line ++ take (4098 - length line) (before 10 waiting) → whole ≡ strip_carriage_return new
    → TakesLine start (prepend_known rest left) (kept_typed whole) true
parts_end start left line waiting new whole rest k found grows strips = go start left k.took
  where
    go : (a b : Option (List ℕ)) → Consumes a (prepend_known waiting b) k.part
        → TakesLine a (prepend_known rest b) (kept_typed whole) true
    go None b h = tt
    go (Some typed) None h = absurd h
    go (Some typed) (Some xs) h =
        let cut : after 10 typed ≡ Some (rest ++ xs) = ap (after 10) h
        ∙ after-more 10 k.part (waiting ++ xs) k.endless ∙ after-front 10 waiting xs rest (sym found) in
        let front : before 10 typed ≡ k.part ++ before 10 waiting =
        ap (before 10) h ∙ before-more 10 k.part (waiting ++ xs) k.endless
        ∙ ap (λ (l : List ℕ). k.part ++ l) (before-front 10 waiting xs rest (sym found)) in
        let kept : new ≡ take 4098 (before 10 typed) =
        more_kept start (prepend_known waiting left) line (before 10 waiting) new k grows
        ∙ ap (take 4098) (sym front) in
        let some = cut-length 10 waiting rest (sym found) in
        let long = ap (λ (l : List ℕ). length l) h in (
          ap (take 4097) (strips ∙ ap strip_carriage_return kept) ∙ kept-line 4097 (before 10 typed)
              ∙ ap (λ (o : Option (List ℕ)). take 4097 (without_end (before 10 typed) o)) (sym cut),
          ap rest_or_nothing (sym cut),
          grind (arith, nat_tests, some, long, length-append),
        )

-- a front of at least one byte is empty if the text is
longer_by : (n : ℕ) (l : List ℕ) → 0 < n → nat_lt 0 (length (take n l)) ≡ nat_lt 0 (length l)
longer_by n l some = grind (arith, nat_tests, length-take n l)

-- a front of a text is empty if the text is
longer : (l : List ℕ) → nat_lt 0 (length (take 4098 l)) ≡ nat_lt 0 (length l)
longer l = longer_by 4098 l (omega arith)

-- nothing follows what waited
pub parts_last : (start left : Option (List ℕ)) (line waiting new : List ℕ) (found : Bool)
    → Parts start (prepend_known waiting left) line → after 10 waiting ≡ None
    → new ≡ line ++ take (4098 - length line) (before 10 waiting) → IsAtEnd left → found ≡ nat_lt 0 (length new)
    → TakesLine start (prepend_known [] left) (kept_typed new) found
parts_last start left line waiting new found k none grows over some = go start left k.took over
  where
    all : new ≡ take 4098 (k.part ++ waiting)
    all = more_kept start (prepend_known waiting left) line waiting new k (grows
        ∙ ap (λ (l : List ℕ). line ++ take (4098 - length line) l) (before-all 10 waiting none))

    endless : after 10 (k.part ++ waiting) ≡ None
    endless = after-more 10 k.part waiting k.endless ∙ none

    go : (a b : Option (List ℕ)) → Consumes a (prepend_known waiting b) k.part → IsAtEnd b
        → TakesLine a (prepend_known [] b) (kept_typed new) found
    go None b h o = tt
    go (Some typed) None h o = absurd h
    go (Some typed) (Some xs) h o =
        let whole : typed ≡ k.part ++ waiting = h ∙ ap (λ (l : List ℕ). k.part ++ (waiting ++ l)) o
        ∙ ap (λ (l : List ℕ). k.part ++ l) (append-nil waiting) in
        let cut : after 10 typed ≡ None = ap (after 10) whole ∙ endless in
        let front : before 10 typed ≡ k.part ++ waiting = ap (before 10) whole
        ∙ before-all 10 (k.part ++ waiting) endless in (
          ap (take 4097) (all ∙ ap (take 4098) (sym front)) ∙ take-take 4097 4098 (before 10 typed) (omega arith)
              ∙ ap (λ (o : Option (List ℕ)). take 4097 (without_end (before 10 typed) o)) (sym cut),
          o ∙ ap rest_or_nothing (sym cut),
          some ∙ ap (λ (l : List ℕ). nat_lt 0 (length l)) all ∙ longer (k.part ++ waiting)
              ∙ ap (λ (l : List ℕ). nat_lt 0 (length l)) (sym whole),
        )

-- what is found not to be there is nothing
none_of : (o : Option (List ℕ)) → false ≡ is_some o → o ≡ None
none_of None e = refl
none_of (Some l) e = absurd (cc)

-- the same by what a reader answers: a line end was found or not, and what waits then
pub line_ended : (start left : Option (List ℕ)) (line waiting new whole now : List ℕ)
    → Parts start (prepend_known waiting left) line → true ≡ is_some (after 10 waiting)
    → now ≡ rest_or_nothing (after 10 waiting) → new ≡ line ++ take (4098 - length line) (before 10 waiting)
    → whole ≡ strip_carriage_return new
    → TakesLine start (prepend_known now left) (kept_typed whole) true
line_ended start left line waiting new whole now k found then grows strips = go (after 10 waiting) refl
  where
    go : (o : Option (List ℕ)) → o ≡ after 10 waiting → TakesLine start (prepend_known now left) (kept_typed whole) true
    go None e = absurd (cc)
    go (Some rest) e = rw (then ∙ ap rest_or_nothing (sym e))
        (parts_end start left line waiting new whole rest k e grows strips)

-- at the end of the input what waited is the last line, if it is not empty
pub line_last : (start left : Option (List ℕ)) (line waiting new now : List ℕ) (empty : Bool)
    → Parts start (prepend_known waiting left) line → false ≡ is_some (after 10 waiting)
    → now ≡ rest_or_nothing (after 10 waiting) → new ≡ line ++ take (4098 - length line) (before 10 waiting)
    → IsAtEnd left → empty ≡ (length new == 0)
    → TakesLine start (prepend_known now left) (kept_typed new) (not empty)
line_last start left line waiting new now empty k found then grows over is =
    let none = none_of (after 10 waiting) found in
    let some : not empty ≡ nat_lt 0 (length new) = grind (arith, nat_tests) in
    rw (then ∙ ap rest_or_nothing none) (parts_last start left line waiting new (not empty) k none grows over some)

-- without a line end the line goes on with what is read next
pub line_goes_on : (start left still : Option (List ℕ)) (line waiting new next : List ℕ)
    → Parts start (prepend_known waiting left) line → false ≡ is_some (after 10 waiting)
    → new ≡ line ++ take (4098 - length line) (before 10 waiting) → Consumes left still next
    → Parts start (prepend_known next still) new
line_goes_on start left still line waiting new next k found grows took =
    parts_more start left still line waiting new next k (none_of (after 10 waiting) found) grows took
