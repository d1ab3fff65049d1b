-- A seat at the server: the client is online exactly if there is a connection.
use Rattle.std.proofs.Common.{◌≡◌, ℕ, suc, true, false, not, cond, nat_eq, List, [], ◌∷◌, Option, None, Some, inl, refl, sym, ap, subst, ◌∙◌, arith}
use Rattle.fibs_messages.specs.Message.{MessageValue}
use Rattle.fibs_connect.specs.Told.{SaidValue, Joins, opened_said}
use Rattle.fibs_session.specs.Fibs.{fibs}
use Rattle.fibs_session.specs.declared.taken.Outstanding.{Outstanding}
use Rattle.fibs_connect.specs.Turns.Script.{outside}
use Rattle.fibs_connect.specs.Converse.Seats.{TakesTurn, Connects, Opens, OpensAndLoses, seat_of}
use Rattle.fibs_messages.specs.Directory.{IsDirectory}
use Rattle.std.specs.Prelude.{IsSome, OnOk, Result, Ok, Err}
use Rattle.std.proofs.lemmas.Bool.{ne_eqb}
use Rattle.fibs_session.specs.History.Log.{Opened}
use Rattle.fibs_session.specs.History.Words.{connections}
use Rattle.fibs_session.specs.History.Machine.{Talk, Open, Lose, step, stays, opened, is_online}
use Rattle.fibs_session.specs.Calls.Standing.{ClientValue, StandsAfter}
use Rattle.fibs_session.specs.Calls.Doing.{Does}
use Rattle.fibs_connect.specs.declared.turns.Ending.{Ending}
use Rattle.fibs_connect.specs.declared.turns.Ending.TheVariants.{Quiet, Lost}
use Rattle.fibs_engine.specs.Writing.{Broken}
use Rattle.fibs_connect.specs.Turns.Turn.{FitsStream, LeavesAs, TurnedBy, is_there, still_given}
use Rattle.fibs_connect.proofs.TurnLemmas.Turns.{loses_offline}
use Rattle.fibs_game.proofs.past.Past.{open_append}

-- offline it opens
opens_online : (t : Talk) → is_online t ≡ false → is_online (step t Open).talk ≡ true
opens_online t off =
    ap (λ b. is_online (cond b (stays t) (record { talk = opened t; send = t.login ∷ [] })).talk) off
    ∙ ap (λ n. not (nat_eq n 0)) ((open_append fibs) 0 t.log (Opened (suc (connections t.log)) ∷ []))
    ∙ ap (λ b. not b) (ne_eqb (suc (connections t.log)) 0 (omega arith))

-- a client that was offline, and opens a connection, is given a stream
pub seat_opens : (old new : ClientValue) (send : List (List ℕ)) → FitsStream old false → Does old new Open send
    → FitsStream new true
seat_opens old new send fits does = ((step fits.0 Open).talk, does.stands fits.0 fits.1, opens_online fits.0 fits.2)

-- a login that was not written whole ends the connection
pub seat_lost : (e : Ending) (t : Talk) (new : ClientValue) → LeavesAs e Broken t new → FitsStream new false
seat_lost Quiet t new leaves = absurd (cc)
seat_lost (Lost waited) t new leaves = ((step t Lose).talk, leaves.0, loses_offline t)

-- without a connection there is none after a turn
pub seat_away : (e : Ending) (new : ClientValue) → FitsStream new (still_given e false) → FitsStream new false
seat_away Quiet new fits = fits
seat_away (Lost waited) new fits = fits

-- what three clauses say of an answer
pub on_ok_three : {T E P Q R V : Type 0} (r : Result T E) → (P → Q → R → V) → OnOk r P → OnOk r Q → OnOk r R → OnOk r V
on_ok_three (Ok x) f p q v = f p q v
on_ok_three (Err e) f p q v = tt

-- the client of a seat, with a connection or without one
seat_client : {S : Type 0} (remaining contents : S → Option (List ℕ)) (client : ClientValue)
    (players : List MessageValue)
    (stream : Option S) → (seat_of remaining contents client players stream).client ≡ client
seat_client remaining contents client players None = refl
seat_client remaining contents client players (Some s) = refl

-- a new connection was made, or its login was not written whole
pub seat_connects : {S F : Type 0} (Tells : F → List SaidValue → F → Type 0) (remaining contents : S → Option (List ℕ))
    (old client : ClientValue) (known players : List MessageValue) (was stream : Option S) (held now : F)
    → IsDirectory [] players → (IsSome stream → Tells held (opened_said ∷ []) now × Opens old client)
    → (is_there stream ≡ false → OpensAndLoses Tells old client held now)
    → Connects Tells (seat_of remaining contents old known was)
    (seat_of remaining contents client players stream) held now
seat_connects Tells remaining contents old client known players was None held now none opens loses = (
  λ e. absurd cc,
  λ e. inl (
    subst (λ c. OpensAndLoses Tells c client held now) (sym (seat_client remaining contents old known was))
        (loses refl),
    none,
  ),
)
seat_connects Tells remaining contents old client known players was (Some s) held now none opens loses = (
  λ e. let o = opens refl in
      (o.0, subst (λ c. Opens c client) (sym (seat_client remaining contents old known was)) o.1, none),
  λ e. absurd cc,
)

-- a connection that is reported after a flush was opened and lost since the flush
pub loses_since : {F : Type 0} {Tells : F → List SaidValue → F → Type 0} → Joins Tells → (held from now : F)
    (old new : ClientValue) → Tells held [] from → OpensAndLoses Tells old new from now
    → OpensAndLoses Tells old new held now
loses_since joins held from now old new still lost = record {
  mid = lost.mid;
  ending = lost.ending;
  told = joins.joined held from lost.mid [] (opened_said ∷ []) still lost.told;
  ended = lost.ended;
}

-- ---- turns

-- if none was given none is given on
not_given : (e : Ending) → false ≡ still_given e false
not_given Quiet = refl
not_given (Lost waited) = refl

-- a turn after which the connection stays
pub turn_kept : {S F : Type 0} {Tells : F → List SaidValue → F → Type 0} (remaining contents : S → Option (List ℕ))
    (old new : ClientValue)
    (players told : List MessageValue) (s t : S) (stream : Option S) (e : Ending) (said : Option (List ℕ))
    (held now : F)
    → stream ≡ Some s → e ≡ Quiet
    → ((h : Talk) → StandsAfter old h → is_online h ≡ true → TurnedBy Tells h new said (remaining s) (remaining t)
    (outside (contents s) held players) (outside (contents t) now told) e)
    → TakesTurn Tells said (seat_of remaining contents old players stream)
    (seat_of remaining contents new told (Some t)) held
    now
turn_kept {S} {F} {Tells} remaining contents old new players told s t stream e said held now is quiet turned =
    subst (λ o. TakesTurn Tells said (seat_of remaining contents old players o)
    (seat_of remaining contents new told (Some t)) held now) (sym is) (record {
      ending = e;
      left = remaining t;
      wrote = contents t;
      turned = turned;
      connected = sym (ap (λ x. still_given x true) quiet);
      left_as = λ _. refl;
      wrote_as = λ _. refl;
    })

-- a turn after which it is given up
pub turn_given_up : {S F : Type 0} {Tells : F → List SaidValue → F → Type 0} (remaining contents : S → Option (List ℕ))
    (old new : ClientValue)
    (players told : List MessageValue) (s t : S) (stream stays : Option S) (waited : Option Outstanding) (e : Ending)
    (said : Option (List ℕ)) (held now : F)
    → stream ≡ Some s → stays ≡ None → e ≡ Lost waited
    → ((h : Talk) → StandsAfter old h → is_online h ≡ true → TurnedBy Tells h new said (remaining s) (remaining t)
    (outside (contents s) held players) (outside (contents t) now told) e)
    → TakesTurn Tells said (seat_of remaining contents old players stream)
    (seat_of remaining contents new told stays) held now
turn_given_up {S} {F} {Tells} remaining contents old new players told s t stream stays waited e said held now is none
    lost turned =
    subst (λ o. TakesTurn Tells said (seat_of remaining contents old players o)
    (seat_of remaining contents new told stays)
    held now) (sym is)
    (subst (λ o. TakesTurn Tells said (seat_of remaining contents old players (Some s))
    (seat_of remaining contents new told o) held now) (sym none) (record {
      ending = e;
      left = remaining t;
      wrote = contents t;
      turned = turned;
      connected = sym (ap (λ x. still_given x true) lost);
      left_as = λ there. absurd (cc);
      wrote_as = λ there. absurd (cc);
    }))

-- a turn without a connection
pub turn_away : {S F : Type 0} {Tells : F → List SaidValue → F → Type 0} (remaining contents : S → Option (List ℕ))
    (old new : ClientValue) (players : List MessageValue) (stream stays : Option S) (e : Ending)
    (said : Option (List ℕ)) (held now : F)
    → stream ≡ None → stays ≡ None
    → ((h : Talk) → StandsAfter old h → is_online h ≡ false → (known : List MessageValue)
    → TurnedBy Tells h new said None None (outside None held known) (outside None now known) e)
    → TakesTurn Tells said (seat_of remaining contents old players stream)
    (seat_of remaining contents new players stays)
    held now
turn_away {S} {F} {Tells} remaining contents old new players stream stays e said held now is none turned =
    subst (λ o. TakesTurn Tells said (seat_of remaining contents old players o)
    (seat_of remaining contents new players stays) held now) (sym is)
    (subst (λ o. TakesTurn Tells said (seat_of remaining contents old players None)
    (seat_of remaining contents new players o) held now) (sym none) (record {
      ending = e;
      left = None;
      wrote = None;
      turned = λ h at off. turned h at off players;
      connected = not_given e;
      left_as = λ there. absurd (cc);
      wrote_as = λ there. absurd (cc);
    }))
