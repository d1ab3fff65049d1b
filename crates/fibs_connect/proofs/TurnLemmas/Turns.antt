-- What was heard and done, portion by portion, makes up a turn.
use Rattle.std.proofs.Common.{◌≡◌, ◌<◌, ℕ, Bool, true, false, not, if◌then◌else◌, nat_eq, List, [], ◌∷◌, ◌++◌, length, Option, None, Some, refl, sym, ap, subst, ◌∙◌, append_assoc, append-nil, arith, length-append}
use Rattle.std.specs.Io.KnownBytes.{Consumes, Keeps}
use Rattle.std.proofs.KnownBytes.{Consumes-nil, Consumes-trans, Consumes-kept}
use Rattle.fibs_lines.specs.StreamLaws.{LinesOnlyGrow}
use Rattle.fibs_session.specs.Fibs.{fibs}
use Rattle.fibs_session.specs.History.Log.{Lost as LostEntry}
use Rattle.fibs_session.specs.History.Words.{open_now}
use Rattle.fibs_session.specs.History.Machine.{Talk, Piece, Lose, step, stays, does, is_online, unconfirmed_now}
use Rattle.fibs_session.specs.History.MachineLaws.{PiecesJoin, EmptyPieceIsNothing}
use Rattle.fibs_session.specs.Calls.Standing.{ClientValue, StandsAfter}
use Rattle.fibs_connect.specs.declared.turns.Ending.{Ending}
use Rattle.fibs_connect.specs.declared.turns.Ending.TheVariants.{Quiet, Lost}
use Rattle.fibs_engine.specs.Writing.{Progress, Whole, Broken}
use Rattle.fibs_connect.specs.Told.{SaidValue, Joins}
use Rattle.fibs_connect.specs.Turns.Acts.{Act}
use Rattle.fibs_connect.specs.Turns.Lines.{piece_acts}
use Rattle.fibs_connect.specs.Turns.Script.{Outside, Did}
use Rattle.fibs_connect.specs.Turns.Turn.{EndsALine, Extent, IntakeExtent, Talked, Ended, TurnedBy, FitsStream, still_given}
use Rattle.fibs_connect.specs.Turns.Typing.{talk_after, typed_step, typed_act}
use Rattle.fibs_session.specs.Typing.{typed_now}
use Rattle.fibs_connect.proofs.TurnLemmas.Scripts.{did_nothing, did_joined, did_kept, did_same}
use Rattle.fibs_connect.proofs.TurnLemmas.Hearing.{piece_online, piece_stream, no_acts, acts_join, ends_joined}
use Rattle.fibs_connect.proofs.TurnLemmas.Typed.{typed_stays}
use Rattle.fibs_game.proofs.past.Past.{open_append}

-- these bytes were fed to a client that stood after t, and all that their lines call for was done
pub record Gone {F : Type 0} (Tells : F → List SaidValue → F → Type 0) (t : Talk) (now : ClientValue) (bytes : List ℕ)
    (a b : Outside F) : Type 0 where
  pub stands : StandsAfter now (step t (Piece bytes)).talk
  pub did : Did Tells a b (piece_acts t bytes) Whole

-- all these bytes were fed, and this was done with what their lines call for
unfoldable pub talked_all : (t : Talk) (now : ClientValue) (bytes : List ℕ) (Does : List Act → Type 0)
    → StandsAfter now (step t (Piece bytes)).talk → Does (piece_acts t bytes) → Talked t now bytes Whole Does
talked_all t now bytes Does at did = record {
  fed = bytes;
  rest = [];
  cut = sym (append-nil bytes);
  extent = refl;
  stands = at;
  did = did;
}

-- how far a portion was fed is how far a turn took it in
pub intake_extent : (p : Progress) (stream fed rest : List ℕ) → Extent p stream fed rest
    → IntakeExtent p stream fed rest
intake_extent Whole stream fed rest e = e
intake_extent Broken stream fed rest e = e.0

-- what holds cannot also fail
pub never : {b : Bool} {P : Type 0} → b ≡ true → b ≡ false → P
never {b} {P} p q = absurd cc

module _ {F : Type 0} {Tells : F → List SaidValue → F → Type 0} (joins : Joins Tells) where
  -- if nothing was read nothing is to be done
  pub gone_nothing : EmptyPieceIsNothing → (t : Talk) (c : ClientValue) (a : Outside F) → StandsAfter c t
      → Gone Tells t c [] a a
  gone_nothing empty t c a at = record {
    stands = subst (λ s. StandsAfter c s.talk) (sym (empty t)) at;
    did = did_same Whole a a [] (piece_acts t []) (sym (no_acts t)) (did_nothing joins a);
  }

  -- what was written stays, and nothing more was reported
  pub gone_kept : (t : Talk) (c : ClientValue) (bytes : List ℕ) (a b d : Outside F) → Gone Tells t c bytes a b
      → Keeps b.wrote d.wrote → Tells b.front [] d.front → d.players ≡ b.players → Gone Tells t c bytes a d
  gone_kept t c bytes a b d g k rested players =
      record { stands = g.stands; did = did_kept joins Whole a b d (piece_acts t bytes) g.did k rested players }

  module _ (join : PiecesJoin) (grow : LinesOnlyGrow) where
    -- a client that was reached by two pieces is reached by both as one
    two_pieces : (c : ClientValue) (t : Talk) (p q : List ℕ)
        → StandsAfter c (step (step t (Piece p)).talk (Piece q)).talk → StandsAfter c (step t (Piece (p ++ q))).talk
    two_pieces c t p q at = subst (λ s. StandsAfter c s.talk) (sym (join t p q)) at

    -- one piece after another
    pub gone_more : (t : Talk) (now : ClientValue) (p q : List ℕ) (acts : List Act) (a b c : Outside F)
        → Did Tells a b (piece_acts t p) Whole
        → StandsAfter now (step (step t (Piece p)).talk (Piece q)).talk → piece_acts (step t (Piece p)).talk q ≡ acts
        → Did Tells b c acts Whole → Gone Tells t now (p ++ q) a c
    gone_more t now p q acts a b c d at same e = record {
      stands = two_pieces now t p q at;
      did = did_same Whole a c (piece_acts t p ++ acts) (piece_acts t (p ++ q))
          (ap (λ l. piece_acts t p ++ l) (sym same) ∙ sym (acts_join grow t p q))
          (did_joined joins Whole a b c (piece_acts t p) acts d e);
    }

    -- a fault comes at a line after them
    pub broke_at : (t : Talk) (new : ClientValue) (front piece back bytes : List ℕ) (acts : List Act) (a b : Outside F)
        (Late All : List Act → Type 0)
        → ((xs ys : List Act) → Did Tells a b xs Whole → Late ys → All (xs ++ ys))
        → bytes ≡ (front ++ piece) ++ back → is_online t ≡ true → Did Tells a b (piece_acts t front) Whole
        → StandsAfter new (step (step t (Piece front)).talk (Piece piece)).talk
        → piece_acts (step t (Piece front)).talk piece ≡ acts
        → EndsALine (step t (Piece front)).talk.stream piece → 0 < length piece → Late acts
        → Talked t new bytes Broken All
    broke_at t new front piece back bytes acts a b Late All joined cut on d at same ends long e = record {
      fed = front ++ piece;
      rest = back;
      cut = cut;
      extent = (
        ends_joined grow t.stream front piece
            (subst (λ s. EndsALine s piece) (piece_stream t front on) ends) long,
        omega
            (arith, long, length-append front piece),
      );
      stands = two_pieces new t front piece at;
      did = subst All (ap (λ l. piece_acts t front ++ l) (sym same) ∙ sym (acts_join grow t front piece))
          (joined (piece_acts t front) acts d e);
    }

    -- a portion after what was read, done whole
    pub gone_portion : (t : Talk) (y z : ClientValue) (read portion : List ℕ) (a b c : Outside F)
        → Gone Tells t y read a b
        → Talked (step t (Piece read)).talk z portion Whole (λ script. Did Tells b c script Whole)
        → Gone Tells t z (read ++ portion) a c
    gone_portion t y z read portion a b c g k =
        let same : portion ≡ k.fed = k.cut ∙ ap (λ l. k.fed ++ l) k.extent ∙ append-nil k.fed in
        subst (λ l. Gone Tells t z (read ++ l) a c) (sym same)
        (gone_more t z read k.fed (piece_acts (step t (Piece read)).talk k.fed) a b c g.did k.stands refl k.did)

    -- and broken
    pub broke_portion : (t : Talk) (y z : ClientValue) (read portion : List ℕ) (a b : Outside F)
        (Late All : List Act → Type 0)
        → ((xs ys : List Act) → Did Tells a b xs Whole → Late ys → All (xs ++ ys))
        → is_online t ≡ true → Gone Tells t y read a b → Talked (step t (Piece read)).talk z portion Broken Late
        → Talked t z (read ++ portion) Broken All
    broke_portion t y z read portion a b Late All joined on g k =
        broke_at t z read k.fed k.rest (read ++ portion) (piece_acts (step t (Piece read)).talk k.fed) a b Late All
        joined (ap (λ l. read ++ l) k.cut ∙ sym (append_assoc read k.fed k.rest)) on
        g.did k.stands refl k.extent.0 k.extent.1 k.did

  -- ---- a turn

  -- it goes on
  pub still_open : (t : Talk) (c : ClientValue) (b : Outside F) → StandsAfter c t → Ended Tells Whole t c b b Quiet
  still_open t c b at = record { did = did_nothing joins b; leaves = (at, refl) }

  -- nothing was typed
  unfoldable pub turned : (p : Progress) (e : Ending) (t : Talk) (y z : ClientValue) (left still : Option (List ℕ))
      (read : List ℕ) (a b c : Outside F) → is_online t ≡ true → Consumes left still read
      → (k : Talked t y read p (λ script. Did Tells a b script p)) → Ended Tells p (step t (Piece k.fed)).talk z b c e
      → TurnedBy Tells t z None left still a c e
  turned p e t y z left still read a b c on took k end = record {
    intake = record {
      read = read;
      took = took;
      fed = k.fed;
      rest = k.rest;
      cut = k.cut;
    };
    progress = p;
    extent = intake_extent p t.stream k.fed k.rest k.extent;
    mid = b;
    did = k.did;
    ended = end;
    offline = never on;
    quiet = never on;
  }

  -- and all that was read was heard
  unfoldable pub turned_whole : (t : Talk) (z : ClientValue) (left still : Option (List ℕ)) (read : List ℕ)
      (a b : Outside F)
      → is_online t ≡ true → Consumes left still read → Gone Tells t z read a b
      → TurnedBy Tells t z None left still a b Quiet
  unfolding talked_all
  turned_whole t z left still read a b on took g = turned Whole Quiet t z z left still read a b b on took
      (talked_all t z read (λ script. Did Tells a b script Whole) g.stands g.did)
      (still_open (step t (Piece read)).talk z b g.stands)

  -- the typed line's act was done, and the turn goes on
  unfoldable pub turned_typed : (e : Ending) (t : Talk) (z : ClientValue) (text : List ℕ)
      (left mid still : Option (List ℕ)) (a b c : Outside F) → is_online t ≡ true → Keeps left mid
      → Did Tells a b (typed_act t (typed_now t text) ∷ []) Whole
      → TurnedBy Tells (typed_step t (typed_now t text)).talk z None mid still b c e
      → TurnedBy Tells t z (Some text) left still a c e
  turned_typed e t z text left mid still a b c on k d u = record {
    intake = record {
      read = u.intake.read;
      took = Consumes-trans left mid still [] u.intake.read
          (Consumes-kept left left mid [] (Consumes-nil left) k) u.intake.took;
      fed = u.intake.fed;
      rest = u.intake.rest;
      cut = u.intake.cut;
    };
    progress = u.progress;
    extent = subst (λ s. IntakeExtent u.progress s u.intake.fed u.intake.rest)
        (typed_stays t (typed_now t text)).stream u.extent;
    mid = u.mid;
    did = did_joined joins u.progress a b u.mid (typed_act t (typed_now t text) ∷ [])
        (piece_acts (typed_step t (typed_now t text)).talk u.intake.fed) d u.did;
    ended = u.ended;
    offline = never on;
    quiet = never on;
  }

  -- nothing was read after the typed line
  pub turned_here : (p : Progress) (e : Ending) (t : Talk) (z : ClientValue) (text : List ℕ)
      (left still : Option (List ℕ)) (a b c : Outside F) → EmptyPieceIsNothing → Keeps left still
      → IntakeExtent p t.stream [] [] → (is_online t ≡ false → e ≡ Quiet)
      → Did Tells a b (typed_act t (typed_now t text) ∷ []) p
      → Ended Tells p (typed_step t (typed_now t text)).talk z b c e → TurnedBy Tells t z (Some text) left still a c e
  turned_here p e t z text left still a b c empty k ext quiet d end =
      let u : Talk = (typed_step t (typed_now t text)).talk in
      record {
        intake = record {
          read = [];
          took = Consumes-kept left left still [] (Consumes-nil left) k;
          fed = [];
          rest = [];
          cut = refl;
        };
        progress = p;
        extent = ext;
        mid = b;
        did = did_same p a b (typed_act t (typed_now t text) ∷ []) (typed_act t (typed_now t text) ∷ piece_acts u [])
            (ap (λ l. typed_act t (typed_now t text) ∷ l) (sym (no_acts u))) d;
        ended = subst (λ s. Ended Tells p s.talk z b c e) (sym (empty u)) end;
        offline = λ off. refl;
        quiet = quiet;
      }

  -- its command was not written whole
  pub turned_broken : (e : Ending) (t : Talk) (z : ClientValue) (text : List ℕ) (left still : Option (List ℕ))
      (a b c : Outside F) → is_online t ≡ true → EmptyPieceIsNothing → Keeps left still
      → Did Tells a b (typed_act t (typed_now t text) ∷ []) Broken
      → Ended Tells Broken (typed_step t (typed_now t text)).talk z b c e
      → TurnedBy Tells t z (Some text) left still a c e
  turned_broken e t z text left still a b c on empty k d end =
      turned_here Broken e t z text left still a b c empty k (λ n lt same. omega (arith, lt)) (never on) d end

  -- offline it is answered, and nothing else is done
  pub turned_offline : (t : Talk) (z : ClientValue) (text : List ℕ) (a b : Outside F) → EmptyPieceIsNothing
      → StandsAfter z (typed_step t (typed_now t text)).talk
      → Did Tells a b (typed_act t (typed_now t text) ∷ []) Whole → TurnedBy Tells t z (Some text) None None a b Quiet
  turned_offline t z text a b empty at d =
      turned_here Whole Quiet t z text None None a b b empty tt refl (λ off. refl) d
      (still_open (typed_step t (typed_now t text)).talk z b at)

  -- nothing was typed, and nothing is there to read
  pub turned_nothing : (t : Talk) (c : ClientValue) (a : Outside F) → EmptyPieceIsNothing → StandsAfter c t
      → TurnedBy Tells t c None None None a a Quiet
  turned_nothing t c a empty at =
      let g = gone_nothing empty t c a at in
      record {
        intake = record {
          read = [];
          took = tt;
          fed = [];
          rest = [];
          cut = refl;
        };
        progress = Whole;
        extent = refl;
        mid = a;
        did = g.did;
        ended = still_open (step t (Piece [])).talk c a g.stands;
        offline = λ off. refl;
        quiet = λ off. refl;
      }

-- ---- the next turn

-- a client that has lost its connection is offline
pub loses_offline : (t : Talk) → is_online (step t Lose).talk ≡ false
loses_offline t = go (is_online t) refl
  where
    go : (b : Bool) → is_online t ≡ b → is_online (step t Lose).talk ≡ false
    go true on = ap (λ b. is_online (if b then does t
        (LostEntry (open_now t.log) (unconfirmed_now t) ∷ []) [] else stays t).talk) on
        ∙ ap (λ n. not (nat_eq n 0)) ((open_append fibs) 0 t.log (LostEntry (open_now t.log) (unconfirmed_now t) ∷ []))
    go false off = ap (λ b. is_online (if b then does t
        (LostEntry (open_now t.log) (unconfirmed_now t) ∷ []) [] else stays t).talk) off ∙ off

-- a typed line neither opens a connection nor ends one
after_online : (t : Talk) (typed : Option (List ℕ)) → is_online (talk_after t typed) ≡ is_online t
after_online t None = refl
after_online t (Some text) = (typed_stays t (typed_now t text)).online

-- a stream is given as before, and after a loss none
pub next_fits : {F : Type 0} {Tells : F → List SaidValue → F → Type 0} (e : Ending) (t : Talk) (new : ClientValue)
    (typed left still : Option (List ℕ)) (a b : Outside F)
    (given : Bool) → is_online t ≡ given → TurnedBy Tells t new typed left still a b e
    → FitsStream new (still_given e given)
next_fits Quiet t new typed left still a b given on u = (
  (step (talk_after t typed) (Piece u.intake.fed)).talk,
  u.ended.leaves.0,
  piece_online
      (talk_after t typed) u.intake.fed ∙ after_online t typed ∙ on,
)
next_fits (Lost waited) t new typed left still a b given on u =
    let v = (step (talk_after t typed) (Piece u.intake.fed)).talk in
    ((step v Lose).talk, u.ended.leaves.0, loses_offline v)
