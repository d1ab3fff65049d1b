-- What is printed for a stream with the objects of its events and of refused logins.
use Rattle.std.proofs.Common.{◌≡◌, ◌≤◌, ◌+◌, ◌-◌, ℕ, List, [], ◌∷◌, ◌++◌, Option, None, Some, length, take, refl, sym, ap, subst, ◌∙◌, append_assoc, append-nil, length-append, arith}
use Rattle.fibs_lines.specs.Feeding.{Feeds, lent_lines}
use Rattle.fibs_lines.specs.Lines.{ReadLine, lines_of, value_of}
use Rattle.fibs_lines.specs.declared.line.Line.{Line}
use Rattle.fibs_lines.specs.declared.lines.Fed.{Fed}
use Rattle.fibs_lines.proofs.StreamLawProofs.{empty_stream_has_no_line}
use Rattle.fibs_events.specs.InOrder.{events_of}
use Rattle.fibs_events.specs.declared.asking.Asking.{Asking}
use Rattle.fibs_events.specs.declared.event.Event.TheVariants as E
use Rattle.fibs_json.specs.Asked.{refusals}
use Rattle.fibs_json.specs.Counting.{one_more}
use Rattle.fibs_json.specs.Eventful.{EventfulLine, EventfulText, event_lines, refusal_object}
use Rattle.fibs_json.specs.Events.{event_object}
use Rattle.fibs_json.specs.Passing.{AnyAt, EventfulAt, IsAsked, IsPlaceIn, Refused}
use Rattle.fibs_json.specs.Places.{BeginsAt, EachPlaced, in_64_bits}
use Rattle.fibs_json.specs.declared.place.Place.{Place}
use Rattle.fibs_json.proofs.AskedLemmas.{refusals_add, refusals_stay}
use Rattle.fibs_json.proofs.PlaceLemmas.{Stays, begins_first, begins_kept, begins_next, counts_more, each_ends, each_of_nothing, each_passes, fronts_end_none, object_placed, placed_kept}

-- what is printed for a line stays
events_stay : Stays EventfulLine
events_stay s piece before line text h =
    let start = h.0 in
    let end = h.1 in
    let begins : BeginsAt s before start = h.4 in
    let ends : BeginsAt s (before + 1) end = h.5 in (
      start,
      end,
      h.2,
      h.3,
      begins_kept s piece before start begins,
      begins_kept s piece (before + 1) end ends,
      placed_kept s piece before line h.2 h.6,
      h.7,
      h.8 ∙ ap (λ l. l ++ (h.2 ++ event_lines (in_64_bits (before + 1)) (events_of h.3)))
          (sym (refusals_stay s piece (refusal_object before) start (end - start)
          (omega (arith, begins.within, ends.within)))),
    )

-- the number of a line is that of its place
number_same : (p : Place) (s : List ℕ) → IsPlaceIn p s → one_more p.lines ≡ in_64_bits (length (lines_of s) + 1)
number_same p s at = ap one_more at.lines ∙ counts_more (length (lines_of s)) 1

-- the refusals that the bytes of a line tell, and then those that further bytes of it tell
refusals_go : (s part object : List ℕ) (start : ℕ) → start ≤ length s
    → refusals s object start (length s - start) ++ refusals (s ++ part) object (length s) (length part)
    ≡ refusals (s ++ part) object start (length (s ++ part) - start)
refusals_go s part object start within =
    ap (λ l. l ++ refusals (s ++ part) object (length s) (length part))
    (sym (refusals_stay s part object start (length s - start) (omega (arith, within))))
    ∙ ap (λ n. refusals (s ++ part) object start (length s - start) ++ refusals (s ++ part) object n (length part))
    {x = length s} {y = start + (length s - start)} (omega (arith, within))
    ∙ sym (refusals_add (s ++ part) object start (length s - start) (length part))
    ∙ ap (λ n. refusals (s ++ part) object start n) {x = length s - start + length part}
    {y = length (s ++ part) - start} (omega (arith, within, length-append s part))

-- what is printed so far, and then the refusals that further bytes of the line tell
text_goes : (s part shown text refused : List ℕ) (start : ℕ) (p : Place) → IsPlaceIn p s → start ≤ length s
    → text ≡ shown ++ refusals s (refusal_object (length (lines_of s))) start (length s - start)
    → refused ≡ refusals (s ++ part) (event_object (one_more p.lines) E.LoginRefused) (length s) (length part)
    → text ++ refused
    ≡ shown ++ refusals (s ++ part) (refusal_object (length (lines_of s))) start (length (s ++ part) - start)
text_goes s part shown text refused start p at within is told =
    let object : List ℕ = refusal_object (length (lines_of s)) in
    let here : refused ≡ refusals (s ++ part) object (length s) (length part) =
    told
    ∙ ap (λ n. refusals (s ++ part) (event_object n E.LoginRefused) (length s) (length part)) (number_same p s at) in
    ap (λ l. l ++ refused) is
    ∙ ap (λ l. (shown ++ refusals s object start (length s - start)) ++ l) here
    ∙ append_assoc shown (refusals s object start (length s - start))
    (refusals (s ++ part) object (length s) (length part))
    ∙ ap (λ l. shown ++ l) (refusals_go s part object start within)

-- bytes were read that end no line
text_passes : (p : Place) (s piece text refused : List ℕ) (fed : Fed) → fed.line ≡ None → IsPlaceIn p s
    → EventfulText s text → Feeds s piece fed
    → refused ≡ refusals (s ++ take fed.used piece) (event_object (one_more p.lines) E.LoginRefused) (length s)
    (length (take fed.used piece)) → EventfulText (s ++ take fed.used piece) (text ++ refused)
text_passes p s piece text refused fed none at h feeds told =
    let part : List ℕ = take fed.used piece in
    let shown = h.0 in
    let start = h.1 in
    let begins : BeginsAt s (length (lines_of s)) start = h.3 in
    let same : lines_of (s ++ part) ≡ lines_of s =
    feeds.gains ∙ ap (λ l. lines_of s ++ lent_lines l) none ∙ append-nil (lines_of s) in (
      shown,
      start,
      subst (λ l. EachPlaced EventfulLine (s ++ part) l) (append-nil shown)
          (each_passes EventfulLine events_stay s piece shown fed h.2 feeds none),
      subst (λ ls. BeginsAt (s ++ part) (length ls) start) (sym same)
          (begins_kept s part (length (lines_of s)) start begins),
      text_goes s part shown text refused start p at begins.within h.4 told
          ∙ ap (λ (ls : List ReadLine). shown ++ refusals (s ++ part) (refusal_object (length ls)) start
          (length (s ++ part) - start)) (sym same),
    )

-- bytes were read that end a line
text_ends : (p : Place) (s piece text refused one : List ℕ) (fed : Fed) (line : Line) → fed.line ≡ Some line
    → IsPlaceIn p s → EventfulText s text → Feeds s piece fed
    → refused ≡ refusals (s ++ take fed.used piece) (event_object (one_more p.lines) E.LoginRefused) (length s)
    (length (take fed.used piece)) → EventfulAt p (value_of line) one
    → EventfulText (s ++ take fed.used piece) (text ++ (refused ++ (one ++ (10 ∷ []))))
text_ends p s piece text refused one fed line some at h feeds told said =
    let part : List ℕ = take fed.used piece in
    let all : List ℕ = s ++ part in
    let before : ℕ = length (lines_of s) in
    let shown = h.0 in
    let start = h.1 in
    let begins : BeginsAt s before start = h.3 in
    let gains : lines_of all ≡ lines_of s ++ (value_of line ∷ []) =
    feeds.gains ∙ ap (λ l. lines_of s ++ lent_lines l) some in
    let count : length (lines_of all) ≡ before + 1 =
    ap (λ (ls : List ReadLine). length ls) gains ∙ length-append (lines_of s) (value_of line ∷ []) in
    let ends : BeginsAt all (before + 1) (length all) =
    begins_next s part (value_of line) gains (fronts_end_none s piece fed feeds) in
    let refused_all : List ℕ = refusals all (refusal_object before) start (length all - start) in
    let printed : EventfulLine all before (value_of line) (refused_all ++ one) = (
      start,
      length all,
      said.0,
      said.1,
      begins_kept s part before start begins,
      ends,
      object_placed p s part (value_of line) said.0 at said.2,
      said.3,
      ap (λ l. refused_all ++ l) said.4
          ∙ ap (λ n. refused_all ++ (said.0 ++ event_lines n (events_of said.1))) (number_same p s at),
    ) in (
      shown ++ ((refused_all ++ one) ++ (10 ∷ [])),
      length all,
      each_ends EventfulLine events_stay s piece shown (refused_all ++ one) fed line h.2 feeds some printed,
      subst (λ n. BeginsAt all n (length all)) (sym count) ends,
      sym (append_assoc text refused (one ++ (10 ∷ [])))
          ∙ ap (λ l. l ++ (one ++ (10 ∷ []))) (text_goes s part shown text refused start p at begins.within h.4 told)
          ∙ append_assoc shown refused_all (one ++ (10 ∷ []))
          ∙ ap (λ l. shown ++ l) (sym (append_assoc refused_all one (10 ∷ [])))
          ∙ sym (append-nil (shown ++ ((refused_all ++ one) ++ (10 ∷ []))))
          ∙ ap (λ n. (shown ++ ((refused_all ++ one) ++ (10 ∷ [])))
          ++ refusals all (refusal_object (length (lines_of all))) (length all) n) {x = 0} {y = length all - length all}
          (omega arith),
    )

-- a printer of events has heard the bytes of an answer
pub asked_at : (p q : Place) (a b : Asking) (piece refused added : List ℕ) (fed : Fed) (line : Option Line)
    → fed.line ≡ line
    → Refused a b (take fed.used piece) (event_object (one_more p.lines) E.LoginRefused) refused
    → AnyAt EventfulAt p line added
    → ((s t : List ℕ) → IsPlaceIn p s → Feeds s t fed → IsPlaceIn q (s ++ take fed.used t)) → (s text : List ℕ)
    → IsPlaceIn p s × IsAsked a s → EventfulText s text → Feeds s piece fed
    → (IsPlaceIn q (s ++ take fed.used piece) × IsAsked b (s ++ take fed.used piece))
    × EventfulText (s ++ take fed.used piece) (text ++ (refused ++ added))
asked_at p q a b piece refused added fed None is told at passes s text reads prints feeds =
    let heard = told s reads.1 in (
      (passes s piece reads.0 feeds, heard.0),
      subst (λ l. EventfulText (s ++ take fed.used piece) (text ++ l))
          (sym (append-nil refused) ∙ ap (λ l. refused ++ l) (sym at))
          (text_passes p s piece text refused fed is reads.0 prints feeds heard.1),
    )
asked_at p q a b piece refused added fed (Some line) is told at passes s text reads prints feeds =
    let heard = told s reads.1 in (
      (passes s piece reads.0 feeds, heard.0),
      subst (λ l. EventfulText (s ++ take fed.used piece) (text ++ (refused ++ l))) (sym at.2)
          (text_ends p s piece text refused at.0 fed line is reads.0 prints feeds heard.1 at.1),
    )

-- of the empty stream nothing is printed
pub text_of_nothing : EventfulText [] []
text_of_nothing = (
  [],
  0,
  each_of_nothing EventfulLine,
  subst (λ n. BeginsAt [] n 0) (sym (ap (λ (ls : List ReadLine). length ls) empty_stream_has_no_line.0)) begins_first,
  refl,
)
