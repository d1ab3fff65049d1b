-- The way of a world to rest.
use Rattle.std.proofs.Common.{◌≡◌, ℕ, ◌+◌, ◌<◌, ◌≤◌, List, [], ◌∷◌, ◌++◌, Option, Some, None, length, refl, sym, ◌∙◌, ap, subst, arith, append-nil, append_assoc, length-append, Bool, true, false, not, ◌&&◌, zero, suc, nat_eq, nat_lt, nat_le, if◌then◌else◌, inl, inr}
use Rattle.std.proofs.lemmas.Bool.Decides.{eqb_tells, nat_tests}
use Rattle.fibs_fields.specs.Board.{BoardFields}
use Rattle.fibs_position.specs.BoardEffect.{IsDie, is_die}
use Rattle.fibs_commands.specs.Logins.{login_text}
use Rattle.fibs_session.specs.History.Words.{last, open_now, shown}
use Rattle.fibs_model.specs.Acts.{acts_after}
use Rattle.fibs_model.specs.Agrees.{AgreesHolds, BoardsAgree}
use Rattle.fibs_model.specs.CanRest.{EachNext, LeadsToRest, ThisWayLeadsToRest, asked_now, next_to_rest}
use Rattle.fibs_model.specs.Events.{Event}
use Rattle.fibs_model.specs.Headline.{IsAtRest}
use Rattle.fibs_model.specs.Refusals.{refusal}
use Rattle.fibs_model.specs.Runs.{AllAccepted, MayBe, after_all, world_after}
use Rattle.fibs_model.specs.Wires.{next_line}
use Rattle.fibs_model.specs.World.{World, after, start}
use Rattle.fibs_game.specs.declared.world_refusal.WorldRefusal.{WorldRefusal}
use Rattle.fibs_game.specs.declared.world_refusal.WorldRefusal.TheVariants.{NotOpen, BadDice}
use Rattle.fibs_model.specs.Settling.{Settled, settle_refusal}
use Rattle.fibs_model.specs.WorldCalls.{WorldStandsAfter, machine_after, Agrees}
use Rattle.fibs_model.specs.LinksOf.{LinkValue, kept_of, link_at, no_link}
use Rattle.fibs_model.specs.WorldOf.{WorldValue, StandsFor}
use Rattle.fibs_game.proofs.past.Lists.{and_left, and_right}
use Rattle.fibs_model.proofs.Likeness.Stepping.{IsTold, if_told, stands_for}

-- events after events
all_append : (login : List ℕ) (w : World) (xs ys : List Event)
    → after_all login w (xs ++ ys) ≡ after_all login (after_all login w xs) ys
all_append login w [] ys = refl
all_append login w (e ∷ xs) ys = all_append login (after login w e) xs ys

-- the same, from the first board on
after_several : (login : List ℕ) (first : BoardFields) (before es : List Event)
    → world_after login first (before ++ es) ≡ after_all login (world_after login first before) es
unfolding world_after
after_several login first before es = all_append login (start first) before es

-- the last of events that are accepted is not refused
last_accepted : (login : List ℕ) (w : World) (es : List Event) (e : Event) → AllAccepted login w (es ++ e ∷ [])
    → refusal (after_all login w es) e ≡ None
last_accepted login w [] e h = h.0
last_accepted login w (x ∷ es) e h = last_accepted login (after login w x) es e h.1

-- the same, from the first board on
last_may_be : (login : List ℕ) (first : BoardFields) (es : List Event) (e : Event) → MayBe login first (es ++ e ∷ [])
    → refusal (world_after login first es) e ≡ None
unfolding MayBe world_after
last_may_be login first es e h = last_accepted login (start first) es e h

-- one more event that comes next
each_more : (login : List ℕ) (d1 d2 : ℕ) (w : World) (es : List Event) (e : Event) → EachNext login d1 d2 w es
    → next_to_rest d1 d2 (after_all login w es) ≡ Some e → EachNext login d1 d2 w (es ++ e ∷ [])
each_more login d1 d2 w [] e h n = (n, tt)
each_more login d1 d2 w (x ∷ es) e h n = (h.0, each_more login d1 d2 (after login w x) es e h.1 n)

-- if no connection is open, nothing comes next
pub closed_next : (d1 d2 : ℕ) (v : WorldValue) (login : List ℕ) (w : World) → StandsFor v login w → v.current ≡ 0
    → next_to_rest d1 d2 w ≡ None
unfolding next_line
closed_next d1 d2 v login w stands closed =
    let none : kept_of (w.links (open_now w.log)) ≡ no_link =
    stands.links (open_now w.log) ∙ ap (link_at v.links) (sym stands.current ∙ closed) in
    let asked : (w.links (open_now w.log)).asked ≡ [] = ap (λ (l : LinkValue). l.asked) none in
    let coming : (w.links (open_now w.log)).coming ≡ [] = ap (λ (l : LinkValue). l.coming) none in
    rw (asked, coming) refl

-- a refusal is there, or not
some_none : (why : WorldRefusal) → Some why ≡ None → ⊥
some_none why h = cc

-- the table does not say that memory ran out
pub told_settle : (d1 d2 : ℕ) (w : World) → IsTold (settle_refusal d1 d2 w)
told_settle d1 d2 w =
    if_told (nat_eq (open_now w.log) 0) _ _ tt (if_told (not (is_die d1 && is_die d2)) _ _ tt tt)

-- the test of a die is true of dice alone
die_is : (n : ℕ) → is_die n ≡ true → IsDie n
die_is n h =
    let low = and_left (nat_lt 0 n) (nat_le n 6) h in
    let high = and_right (nat_lt 0 n) (nat_le n 6) h in
    (grind (arith, nat_tests), grind (arith, nat_tests))

-- a number that is not 0
some_number : (n : ℕ) → (n ≡ 0 → ⊥) → 0 < n
some_number zero h = absurd (h refl)
some_number (suc n) h = omega arith

-- if a world can settle, a connection is open, and the dice are dice
pub may_settle : (d1 d2 : ℕ) (w : World) → settle_refusal d1 d2 w ≡ None
    → (0 < open_now w.log) × IsDie d1 × IsDie d2
may_settle d1 d2 w h = elim (eqb_tells (open_now w.log) 0) [
  | inl e ↦ absurd (some_none NotOpen (sym (by_test true e.0) ∙ h))
  | inr m ↦ dice (some_number (open_now w.log) m.1) (is_die d1) (is_die d2) refl refl (sym (by_test false m.0) ∙ h)
]
  where
    by_test : (z : Bool) → nat_eq (open_now w.log) 0 ≡ z
        → settle_refusal d1 d2 w
        ≡ (if z then Some NotOpen else (if not (is_die d1 && is_die d2) then Some BadDice else None))
    by_test z e = ap (λ z. if z then Some NotOpen else (if not (is_die d1 && is_die d2) then Some BadDice else None)) e

    dice : 0 < open_now w.log → (x y : Bool) → is_die d1 ≡ x → is_die d2 ≡ y
        → (if not (x && y) then Some BadDice else None) ≡ None → (0 < open_now w.log) × IsDie d1 × IsDie d2
    dice some false y i1 i2 e = absurd (some_none BadDice e)
    dice some true false i1 i2 e = absurd (some_none BadDice e)
    dice some true true i1 i2 e = (some, die_is d1 i1, die_is d2 i2)

module _ (name password : List ℕ) (first : BoardFields) (before : List Event) (d1 d2 : ℕ) where
  -- a world on its way to rest: it is reached by as many events as were done, each of which came next
  pub record OnItsWay (v : WorldValue) (done : ℕ) : Type 0 where
    pub events : List Event
    pub each : EachNext (login_text name password) d1 d2 (machine_after name password first before) events
    pub many : length events ≡ done
    pub stands : WorldStandsAfter v name password first (before ++ events)

  -- at first nothing was done
  pub way_begins : (v : WorldValue) → WorldStandsAfter v name password first before → OnItsWay v 0
  way_begins v h = record {
    events = [];
    each = tt;
    many = refl;
    stands = subst (WorldStandsAfter v name password first) (sym (append-nil before)) h;
  }

  -- one event more
  more_of : (v : WorldValue) (n : ℕ) (a : OnItsWay v n) (e : Event)
      → next_to_rest d1 d2 (machine_after name password first (before ++ a.events)) ≡ Some e
      → EachNext (login_text name password) d1 d2 (machine_after name password first before) (a.events ++ e ∷ [])
  more_of v n a e next =
      each_more (login_text name password) d1 d2 (machine_after name password first before) a.events e a.each
      (ap (next_to_rest d1 d2) (sym (after_several (login_text name password) first before a.events)) ∙ next)

  -- the next event on the way to rest is done, and the world is one further
  pub way_goes_on : (v v' : WorldValue) (n : ℕ) (a : OnItsWay v n) (e : Event)
      → next_to_rest d1 d2 (machine_after name password first (before ++ a.events)) ≡ Some e
      → WorldStandsAfter v' name password first ((before ++ a.events) ++ e ∷ []) → OnItsWay v' (n + 1)
  way_goes_on v v' n a e next h = record {
    events = a.events ++ e ∷ [];
    each = more_of v n a e next;
    many = length-append a.events (e ∷ []) ∙ ap (λ m. m + 1) a.many;
    stands = subst (WorldStandsAfter v' name password first) (append_assoc before a.events (e ∷ [])) h;
  }

  -- nothing is done if no connection is open, or the dice are none
  pub nothing_done : AgreesHolds → (v : WorldValue) (why : WorldRefusal) → WorldStandsAfter v name password first before
      → Settled v name password first before d1 d2 0 (Some why)
  unfolding WorldStandsAfter way_begins
  nothing_done agrees v why h = record {
    events = [];
    many = refl;
    stands = way.stands;
    next = tt;
    only_wires = tt;
    with_dice = tt;
    few = λ lines are. omega arith;
    rests = λ none. absurd (some_none why none);
    same = λ none. absurd (some_none why none);
    agrees = agrees name password first (before ++ []) h.is_login h.is_good way.stands.may_be;
  }
    where
      way : OnItsWay v 0
      way = way_begins v h

  module _ (agrees : AgreesHolds) (law : ThisWayLeadsToRest) (v0 : WorldValue)
      (h : WorldStandsAfter v0 name password first before)
      (some : 0 < open_now (machine_after name password first before).log) (i1 : IsDie d1) (i2 : IsDie d2) where
    -- the events lead to rest
    leads : (events : List Event)
        → EachNext (login_text name password) d1 d2 (machine_after name password first before) events
        → LeadsToRest (login_text name password) first before d1 d2 events
    unfolding WorldStandsAfter
    leads events each = law name password first before h.is_login h.is_good h.may_be some d1 d2 i1 i2 events each

    -- the last event that came next was not refused, but that memory may have run out
    pub way_refused : (v : WorldValue) (n : ℕ) (a : OnItsWay v n) (e : Event) (why : WorldRefusal)
        → next_to_rest d1 d2 (machine_after name password first (before ++ a.events)) ≡ Some e
        → settle_refusal d1 d2 (machine_after name password first before) ≡ None
        → Agrees (Some why) (refusal (machine_after name password first (before ++ a.events)) e)
        → Agrees (Some why) (settle_refusal d1 d2 (machine_after name password first before))
    way_refused v n a e why next none told =
        let may = (leads (a.events ++ e ∷ []) (more_of v n a e next)).may_be in
        let ok : refusal (machine_after name password first (before ++ a.events)) e ≡ None =
        last_may_be (login_text name password) first (before ++ a.events) e
        (subst (MayBe (login_text name password) first) (sym (append_assoc before a.events (e ∷ []))) may) in
        subst (λ o. Agrees (Some why) o) (ok ∙ sym none) told

    -- if as many events are done as there may be, nothing comes next
    pub way_ends : (v : WorldValue) (n : ℕ) (a : OnItsWay v n)
        → length (asked_now (machine_after name password first before)) + 8 ≤ n
        → next_to_rest d1 d2 (machine_after name password first (before ++ a.events)) ≡ None
    way_ends v n a most =
        go (next_to_rest d1 d2 (machine_after name password first (before ++ a.events))) refl
      where
        go : (o : Option Event)
            → next_to_rest d1 d2 (machine_after name password first (before ++ a.events)) ≡ o → o ≡ None
        go None is = refl
        go (Some e) is =
            let few = (leads (a.events ++ e ∷ []) (more_of v n a e is)).few_by_bytes in
            let one = length-append a.events (e ∷ []) in
            let many = a.many in absurd (omega arith)

    -- what was done settles the world
    pub way_settles : (v : WorldValue) (n : ℕ) (a : OnItsWay v n) (why : Option WorldRefusal)
        → (why ≡ None → next_to_rest d1 d2 (machine_after name password first (before ++ a.events)) ≡ None)
        → Settled v name password first before d1 d2 n why
    unfolding WorldStandsAfter
    way_settles v n a why none = record {
      events = a.events;
      many = a.many;
      stands = a.stands;
      next = a.each;
      only_wires = l.only_wires;
      with_dice = l.with_dice;
      few = λ lines are. let few = l.few lines are in let many = a.many in omega arith;
      rests = λ e. l.rests (none e);
      same = λ e b is. same (l.rests (none e)) b is;
      agrees = agree;
    }
      where
        end : World
        end = machine_after name password first (before ++ a.events)

        l : LeadsToRest (login_text name password) first before d1 d2 a.events
        l = leads a.events a.each

        agree : BoardsAgree (acts_after (login_text name password) first (before ++ a.events))
            (machine_after name password first (before ++ a.events))
        agree = agrees name password first (before ++ a.events) h.is_login h.is_good l.may_be

        same : IsAtRest end → (b : BoardFields) → last (shown (open_now end.log) end.log) ≡ Some b → b ≡ v.server.board
        same r b is =
            agree.same r b (subst (λ c. last (shown c end.log) ≡ Some b) r.is_open is)
            ∙ sym (stands_for v name password first (before ++ a.events) a.stands).board

    -- also if one of them was refused
    pub way_stops : (v : WorldValue) (n : ℕ) (a : OnItsWay v n) (why : WorldRefusal)
        → Settled v name password first before d1 d2 n (Some why)
    way_stops v n a why = way_settles v n a (Some why) (λ e. absurd (some_none why e))
