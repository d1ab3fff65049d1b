-- What is kept, while a stream goes on.
use Rattle.std.proofs.Common.{◌≡◌, ◌≢◌, ℕ, zero, suc, ◌+◌, ◌-◌, ◌<◌, ◌≤◌, Bool, true, false, List, [], ◌∷◌, ◌++◌, take, drop, get_or, refl, sym, ap, subst, ◌∙◌, arith, length-append, append_assoc, length, zero-le}
use Rattle.std.specs.Prelude.{◌||◌, nat_lt}
use Rattle.std.proofs.Math.Seq.{take-add}
use Rattle.std.proofs.lemmas.List.{length-take, append-nil, take_all, take_more, take_rest}
use Rattle.fibs_lines.specs.Lines.{plain, kept_limit, rest_of, lines_of}
use Rattle.fibs_lines.specs.Progress.{IsRun, Kept, KeptAfter, Advances, data_of, telnet_after}
use Rattle.fibs_lines.proofs.Parts.{has_end}
use Rattle.fibs_lines.specs.declared.telnet.Telnet.{Telnet}
use Rattle.fibs_lines.specs.declared.telnet.Telnet.TheVariants.{Data, Command, Negotiation}
use Rattle.fibs_lines.proofs.Streams.{data_along, telnet_along, plain-append, telnet_of-append, lines_of_more, rest_of_more}
use Rattle.fibs_lines.proofs.RunLemmas.{has_end_run, data_along_run, telnet_along_run}

-- the front of a list that grows
pub take-grown : (room : ℕ) (r q : List ℕ) → take room r ++ take (room - length (take room r)) q ≡ take room (r ++ q)
take-grown zero r q = refl
take-grown (suc room) [] q = ap (λ n. take n q) {y = suc room} (omega arith)
take-grown (suc room) (x ∷ r) q =
    ap (λ l. x ∷ l)
    (ap (λ n. take room r ++ take n q) {y = room - length (take room r)} (omega arith) ∙ take-grown room r q)

-- whether it is longer
pub over-grown : (room : ℕ) (r q : List ℕ)
    → (nat_lt room (length r) || nat_lt (room - length (take room r)) (length q)) ≡ nat_lt room (length (r ++ q))
over-grown room r q = let a = length-take room r in let b = length-append r q in grind arith

-- what is kept at the front, when a stream goes on
grown-head : (room : ℕ) (old new r q : List ℕ) → old ≡ take room r → new ≡ old ++ take (room - length old) q
    → new ≡ take room (r ++ q)
grown-head room old new r q e h = h ∙ ap (λ l. l ++ take (room - length l) q) e ∙ take-grown room r q

-- whether there is more than is kept, when a stream goes on
grown-over : (room : ℕ) (old new : Bool) (head r q : List ℕ) → head ≡ take room r → old ≡ nat_lt room (length r)
    → new ≡ (old || nat_lt (room - length head) (length q)) → new ≡ nat_lt room (length (r ++ q))
grown-over room old new head r q e f h =
    h ∙ ap (λ b. b || nat_lt (room - length head) (length q)) f
    ∙ ap (λ l. nat_lt room (length r) || nat_lt (room - length l) (length q)) e ∙ over-grown room r q

-- two advances in a row are one
pub Advances-then : (u v w : Kept) (t t' : List ℕ) → Advances u v t → Advances v w t' → Advances u w (t ++ t')
Advances-then u v w t t' a b = record {
  stands = λ s h. subst (KeptAfter w) (append_assoc s t t') (b.stands (s ++ t) (a.stands s h));
  same_lines = λ s h. ap lines_of (sym (append_assoc s t t')) ∙ b.same_lines (s ++ t) (a.stands s h) ∙ a.same_lines s h;
}

-- what new keeps of t after old
pub record Grows (old new : Kept) (t : List ℕ) : Type 0 where
  pub telnet : new.telnet ≡ telnet_along old.telnet t
  pub unended : has_end (data_along old.telnet t) ≡ false
  pub head : new.head ≡ old.head ++ take (kept_limit + 1 - length old.head) (data_along old.telnet t)
  pub over : new.over ≡ (old.over || nat_lt (kept_limit + 1 - length old.head) (length (data_along old.telnet t)))

-- what is kept of t after old is an advance over t
pub Advances-grown : (old new : Kept) (t : List ℕ) → Grows old new t → Advances old new t
Advances-grown old new t g = record {
  stands = λ s h.
      let gives : plain (s ++ t) ≡ plain s ++ data_along old.telnet t =
      plain-append s t ∙ ap (λ k. plain s ++ data_along k t) (sym h.telnet) in
      let rest = rest_of_more s t (data_along old.telnet t) gives g.unended in
      record {
        telnet = g.telnet ∙ ap (λ k. telnet_along k t) h.telnet ∙ sym (telnet_of-append s t);
        head = grown-head (kept_limit + 1) old.head new.head (rest_of s) (data_along old.telnet t) h.head g.head
            ∙ ap (take (kept_limit + 1)) (sym rest);
        over =
            grown-over (kept_limit + 1) old.over new.over old.head (rest_of s) (data_along old.telnet t) h.head h.over
            g.over ∙ ap (λ r. nat_lt (kept_limit + 1) (length r)) (sym rest);
      };
  same_lines = λ s h.
      let gives : plain (s ++ t) ≡ plain s ++ data_along old.telnet t =
      plain-append s t ∙ ap (λ k. plain s ++ data_along k t) (sym h.telnet) in
      lines_of_more s t (data_along old.telnet t) gives g.unended;
}

-- data that nothing interrupts
pub Advances-run : (old new : Kept) (q : List ℕ) → IsRun q → old.telnet ≡ Data → new.telnet ≡ Data
    → new.head ≡ old.head ++ take (kept_limit + 1 - length old.head) q
    → new.over ≡ (old.over || nat_lt (kept_limit + 1 - length old.head) (length q)) → Advances old new q
Advances-run old new q run was is head over =
    let gives : data_along old.telnet q ≡ q = ap (λ k. data_along k q) was ∙ data_along_run q run in
    Advances-grown old new q (record {
      telnet = is ∙ sym (telnet_along_run q run) ∙ ap (λ k. telnet_along k q) (sym was);
      unended = rw gives (has_end_run q run);
      head = rw gives head;
      over = rw gives over;
    })

-- what fits is not too much
not_over : (b : Bool) (room n : ℕ) → n ≤ room → b ≡ (b || nat_lt room n)
not_over true room n h = refl
not_over false room n h = grind arith

-- data that nothing interrupts and that fits
pub Advances-fitting : (old new : Kept) (bytes : List ℕ) (n : ℕ) → IsRun (take n bytes) → old.telnet ≡ Data
    → new.telnet ≡ Data → length old.head + n ≤ 16385 → new.head ≡ old.head ++ take n bytes → new.over ≡ old.over
    → Advances old new (take n bytes)
Advances-fitting old new bytes n run was is fits head over =
    let room = kept_limit + 1 - length old.head in
    let short : length (take n bytes) ≤ room = omega (arith, length-take n bytes, fits) in
    Advances-run old new (take n bytes) run was is
    (head ∙ ap (λ l. old.head ++ l) (sym (take_all room (take n bytes) short)))
    (over ∙ not_over old.over room (length (take n bytes)) short)

-- an advance over a front, and one over a part of what follows it
pub Advances-parts : (u v w : Kept) (bytes : List ℕ) (n run : ℕ) → Advances u v (take n bytes)
    → Advances v w (take run (take (length bytes - n) (drop n bytes))) → Advances u w (take (n + run) bytes)
Advances-parts u v w bytes n run a b =
    let rest = take (length bytes - n) (drop n bytes) in
    let same : take n bytes ++ take run rest ≡ take (n + run) bytes =
    ap (λ l. take n bytes ++ take run l) (take_rest bytes n) ∙ sym (take-add n run bytes) in
    subst (Advances u w) same (Advances-then u v w (take n bytes) (take run rest) a b)

-- the byte 255 ends no line
unended_255 : has_end (255 ∷ []) ≡ false
unfolding has_end
unended_255 = refl

-- no data ends no line
unended_nil : has_end [] ≡ false
unfolding has_end
unended_nil = refl

-- inside of a command only the byte 255 is data
data_within : (k : Telnet) (b x : ℕ) → k ≢ Data → data_of k b ≡ x ∷ [] → x ≡ 255
data_within Data b x begun gives = absurd (begun refl)
data_within Command b x begun gives = grind arith
data_within Negotiation b x begun gives = grind arith

-- a byte of a command that gives data
pub Advances-escaped : (old new : Kept) (b x : ℕ) → old.telnet ≢ Data → data_of old.telnet b ≡ x ∷ []
    → new.telnet ≡ telnet_after old.telnet b
    → new.head ≡ old.head ++ take (kept_limit + 1 - length old.head) (x ∷ [])
    → new.over ≡ (old.over || nat_lt (kept_limit + 1 - length old.head) 1) → Advances old new (b ∷ [])
Advances-escaped old new b x begun gives is head over =
    let only : data_along old.telnet (b ∷ []) ≡ x ∷ [] = rw gives refl in
    Advances-grown old new (b ∷ []) (record {
      telnet = is;
      unended = rw (only, data_within old.telnet b x begun gives) unended_255;
      head = rw only head;
      over = rw only over;
    })

-- a byte that gives no data
pub Advances-silent : (old new : Kept) (b : ℕ) → data_of old.telnet b ≡ [] → new.telnet ≡ telnet_after old.telnet b
    → new.head ≡ old.head → new.over ≡ old.over → Advances old new (b ∷ [])
Advances-silent old new b gives is head over =
    let nothing : data_along old.telnet (b ∷ []) ≡ [] = rw gives refl in
    Advances-grown old new (b ∷ []) (record {
      telnet = is;
      unended = rw nothing unended_nil;
      head =
          rw nothing
          (head ∙ sym (append-nil old.head)
          ∙ ap (λ l. old.head ++ l) (sym (take_all (kept_limit + 1 - length old.head) [] zero-le)));
      over = rw nothing (over ∙ or_none old.over (kept_limit + 1 - length old.head));
    })
  where
    or_none : (b : Bool) (n : ℕ) → b ≡ (b || nat_lt n 0)
    or_none true n = refl
    or_none false n = grind arith

-- the first byte of a command
pub Advances-opened : (old new : Kept) (b : ℕ) → b ≡ 255 → old.telnet ≡ Data → new.telnet ≡ Command
    → new.head ≡ old.head → new.over ≡ old.over → Advances old new (b ∷ [])
Advances-opened old new b at was is head over =
    Advances-silent old new b (rw (was, at) refl) (is ∙ rw (was, at) refl) head over

-- a part of a piece, and more of it
pub Advances-taken : (u v w : Kept) (piece : List ℕ) (at more : ℕ) → Advances u v (take at piece)
    → Advances v w (take more (drop at piece))
    → Advances u w (take (at + more) piece)
Advances-taken u v w piece at more a b =
    subst (Advances u w) (sym (take-add at more piece)) (Advances-then u v w _ _ a b)

-- a part of a piece, and the byte after it
pub Advances-next : (u v w : Kept) (piece : List ℕ) (at : ℕ) → at < length piece → Advances u v (take at piece)
    → Advances v w (get_or piece at 0 ∷ [])
    → Advances u w (take (at + 1) piece)
Advances-next u v w piece at h a b = subst (Advances u w) (sym (take_more piece at 0 h)) (Advances-then u v w _ _ a b)
