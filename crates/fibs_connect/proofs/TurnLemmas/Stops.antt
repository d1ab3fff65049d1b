-- If the front end fails, the turn is one of which nobody is told.
use Rattle.std.proofs.Common.{◌≡◌, ℕ, true, List, [], ◌∷◌, ◌++◌, Option, None, Some, Result, Ok, Err, inl, inr, OnErr, IfOk, refl, subst, ◌∙◌, append_assoc}
use Rattle.std.specs.Prelude.{option_map, IsErrAnd}
use Rattle.std.specs.Io.KnownBytes.{Consumes, Keeps, prepend_known}
use Rattle.std.proofs.KnownBytes.{Appends-nil, Consumes-nil}
use Rattle.fibs_lines.specs.StreamLaws.{LinesOnlyGrow}
use Rattle.fibs_messages.specs.Message.{MessageValue}
use Rattle.fibs_session.specs.History.Machine.{Talk, Piece, step, is_online}
use Rattle.fibs_session.specs.History.MachineLaws.{PiecesJoin}
use Rattle.fibs_session.specs.Calls.SessionOf.{ask_of}
use Rattle.fibs_session.specs.Calls.Standing.{ClientValue, StandsAfter}
use Rattle.fibs_session.specs.declared.taken.Outstanding.{Outstanding}
use Rattle.fibs_engine.specs.Writing.{Progress, Whole, Broken}
use Rattle.fibs_connect.specs.Told.{SaidValue, Joins, lost_said}
use Rattle.fibs_connect.specs.declared.fault.FrontFault.{FrontFault}
use Rattle.fibs_connect.specs.declared.turns.Ending.{Ending}
use Rattle.fibs_connect.specs.declared.turns.Ending.TheVariants.{Quiet, Lost}
use Rattle.fibs_connect.specs.Turns.Acts.{only_tell}
use Rattle.fibs_connect.specs.Turns.Answering.{Listened}
use Rattle.fibs_connect.specs.Turns.Lines.{piece_acts}
use Rattle.fibs_connect.specs.Turns.Script.{Outside, outside, Did, Silent, untold}
use Rattle.fibs_connect.specs.Turns.Turn.{StopsAt, Talked, Ended, LeavesAs, TurnedBy, Stopped}
use Rattle.fibs_connect.specs.Turns.Typing.{typed_step, typed_act}
use Rattle.fibs_session.specs.Typing.{typed_now}
use Rattle.fibs_connect.proofs.TurnLemmas.Scripts.{silent_joins, hushed, did_hushed, did_untold}
use Rattle.fibs_connect.proofs.TurnLemmas.Typed.{typed_stays}
use Rattle.fibs_connect.proofs.TurnLemmas.Turns.{Gone, broke_portion, talked_all, turned, turned_whole, turned_typed}

-- what holds in any case holds at a fault
pub on_any_err : {T E P : Type 0} (r : Result T E) → P → OnErr r P
on_any_err (Ok x) p = tt
on_any_err (Err e) p = p

-- all that was read is heard
pub stopped : (e : Ending) (t : Talk) (z : ClientValue) (typed left still wrote now : Option (List ℕ))
    → TurnedBy Silent t z typed left still (untold wrote) (untold now) e → Stopped t z typed left still wrote now
stopped e t z typed left still wrote now turn = record {
  heard = still;
  unheard = [];
  ending = e;
  turned = turn;
  behind = Consumes-nil still;
  stops = inl refl;
}

-- what is read in two parts
read_between : (left still : Option (List ℕ)) (front back : List ℕ) → Consumes left still (front ++ back)
    → Consumes left (prepend_known back still) front × Consumes (prepend_known back still) still back
read_between None None front back h = (tt, tt)
read_between None (Some ys) front back h = (tt, refl)
read_between (Some xs) None front back h = absurd h
read_between (Some xs) (Some ys) front back h = (h ∙ append_assoc front back ys, refl)

-- a line could not be reported, and what was read behind it is not heard
stopped_at : (t : Talk) (z : ClientValue) (left still : Option (List ℕ)) (read : List ℕ) (wrote now : Option (List ℕ))
    → is_online t ≡ true → Consumes left still read
    → Talked t z read Broken (λ script. Did Silent (untold wrote) (untold now) script Whole)
    → Stopped t z None left still wrote now
unfolding turned_whole turned talked_all
stopped_at t z left still read wrote now on took k =
    let parts = read_between left still k.fed k.rest (subst (Consumes left still) k.cut took) in
    record {
      heard = prepend_known k.rest still;
      unheard = k.rest;
      ending = Quiet;
      turned = turned_whole silent_joins t z left (prepend_known k.rest still) k.fed (untold wrote) (untold now) on
          parts.0 (record { stands = k.stands; did = k.did });
      behind = parts.1;
      stops = inr (refl, k.extent.0, k.extent.1);
    }

-- nobody is told that the connection is over
pub lost_untold : (p : Progress) (t : Talk) (z : ClientValue) (waited : Option Outstanding) (wrote : Option (List ℕ))
    → LeavesAs (Lost waited) p t z → Ended Silent p t z (untold wrote) (untold wrote) (Lost waited)
lost_untold p t z waited wrote leaves = record {
  did = did_untold wrote wrote (only_tell (lost_said (option_map ask_of waited))) (Appends-nil wrote);
  leaves = leaves;
}

-- the typed line's act was done before
pub stopped_typed : (t : Talk) (z : ClientValue) (text : List ℕ) (left mid still wrote then now : Option (List ℕ))
    → is_online t ≡ true → Keeps left mid
    → Did Silent (untold wrote) (untold then) (typed_act t (typed_now t text) ∷ []) Whole
    → Stopped (typed_step t (typed_now t text)).talk z None mid still then now
    → Stopped t z (Some text) left still wrote now
unfolding turned_typed
stopped_typed t z text left mid still wrote then now on k did u = record {
  heard = u.heard;
  unheard = u.unheard;
  ending = u.ending;
  turned = turned_typed silent_joins u.ending t z text left mid u.heard (untold wrote) (untold then) (untold now)
      on k did u.turned;
  behind = u.behind;
  stops = subst (λ s. StopsAt u.ending s u.turned.intake.fed u.unheard) (typed_stays t (typed_now t text)).stream
      u.stops;
}

module _ {F : Type 0} (Tells : F → List SaidValue → F → Type 0) where
  -- a fault of the front end is handed on
  pub listened_fault : (r : Result Ending FrontFault) (P : FrontFault → Type 0) (t : Talk) (z : ClientValue)
      (left still : Option (List ℕ)) (a b : Outside F) → IsErrAnd r P → Stopped t z None left still a.wrote b.wrote
      → Listened Tells r t z left still a b
  listened_fault (Ok e) P t z left still a b h s = absurd h
  listened_fault (Err why) P t z left still a b h s = s

  -- all that was read is heard, and then the front end fails
  pub stopped_whole : (t : Talk) (z : ClientValue) (left still : Option (List ℕ)) (read : List ℕ) (a b : Outside F)
      → is_online t ≡ true → Consumes left still read → Gone Tells t z read a b
      → Stopped t z None left still a.wrote b.wrote
  stopped_whole t z left still read a b on took g = stopped Quiet t z None left still a.wrote b.wrote
      (turned_whole silent_joins t z left still read (untold a.wrote) (untold b.wrote) on took
      (record { stands = g.stands; did = hushed Whole a b (piece_acts t read) g.did }))

  -- a line of a portion could not be reported
  pub stopped_portion : Joins Tells → PiecesJoin → LinesOnlyGrow → (t : Talk) (y z : ClientValue)
      (left still : Option (List ℕ)) (read portion : List ℕ) (a b : Outside F) (now : Option (List ℕ))
      → is_online t ≡ true → Consumes left still (read ++ portion) → Gone Tells t y read a b
      → Talked (step t (Piece read)).talk z portion Broken
      (λ script. Did Silent (untold b.wrote) (untold now) script Whole)
      → Stopped t z None left still a.wrote now
  stopped_portion joins join grow t y z left still read portion a b now on took g k =
      stopped_at t z left still (read ++ portion) a.wrote now on took
      (broke_portion joins join grow t y z read portion a b
      (λ script. Did Silent (untold b.wrote) (untold now) script Whole)
      (λ script. Did Silent (untold a.wrote) (untold now) script Whole)
      (λ xs ys first late. did_hushed a b now xs ys first late) on g k)

  -- the connection is over, whether that could be reported or not
  pub listened_lost : Joins Tells → (r : Result Ending FrontFault) (p : Progress) (t : Talk) (y z : ClientValue)
      (left still : Option (List ℕ)) (read : List ℕ) (a : Outside F) (wrote : Option (List ℕ)) (before after : F)
      (players : List MessageValue)
      → is_online t ≡ true → Consumes left still read
      → (k : Talked t y read p (λ script. Did Tells a (outside wrote before players) script p))
      → IfOk r (λ e. (p : Progress) → (t : Talk) → StandsAfter y t → (wrote : Option (List ℕ))
      → (players : List MessageValue)
      → Ended Tells p t z (outside wrote before players) (outside wrote after players) e)
      → (waited : Option Outstanding) × ((t : Talk) → StandsAfter y t → LeavesAs (Lost waited) Broken t z)
      → Listened Tells r t z left still a (outside wrote after players)
  listened_lost joins (Ok e) p t y z left still read a wrote before after players on took k ended lost =
      turned joins p e t y z left still read a (outside wrote before players) (outside wrote after players) on took k
      (ended p (step t (Piece k.fed)).talk k.stands wrote players)
  listened_lost joins (Err why) p t y z left still read a wrote before after players on took k ended lost =
      stopped (Lost lost.0) t z None left still a.wrote wrote
      (turned silent_joins p (Lost lost.0) t y z left still read (untold a.wrote) (untold wrote) (untold wrote) on took
      (record {
        fed = k.fed;
        rest = k.rest;
        cut = k.cut;
        extent = k.extent;
        stands = k.stands;
        did = hushed p a (outside wrote before players) (piece_acts t k.fed) k.did;
      })
      (lost_untold p (step t (Piece k.fed)).talk z lost.0 wrote (lost.1 (step t (Piece k.fed)).talk k.stands)))

  -- what a turn without a typed line has ended as
  pub listened_ok : (r : Result Ending FrontFault) (c z : ClientValue) (left still : Option (List ℕ)) (a b : Outside F)
      → ((t : Talk) → StandsAfter c t → is_online t ≡ true → Listened Tells r t z left still a b)
      → IfOk r (λ e. (t : Talk) → StandsAfter c t → is_online t ≡ true → TurnedBy Tells t z None left still a b e)
  listened_ok (Ok e) c z left still a b h = h
  listened_ok (Err why) c z left still a b h = tt

  -- or that it stopped
  pub listened_err : (r : Result Ending FrontFault) (c z : ClientValue) (left still : Option (List ℕ)) (a b : Outside F)
      → ((t : Talk) → StandsAfter c t → is_online t ≡ true → Listened Tells r t z left still a b)
      → OnErr r ((t : Talk) → StandsAfter c t → is_online t ≡ true → Stopped t z None left still a.wrote b.wrote)
  listened_err (Ok e) c z left still a b h = tt
  listened_err (Err why) c z left still a b h = h
