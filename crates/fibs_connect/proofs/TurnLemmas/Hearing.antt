-- What pieces of the stream call for.
use Rattle.std.proofs.Common.{◌≡◌, ◌<◌, ◌≤◌, ◌+◌, ◌-◌, ℕ, Bool, true, false, not, if◌then◌else◌, nat_eq, List, [], ◌∷◌, ◌++◌, length, take, drop, Option, None, Some, refl, sym, ap, ◌∙◌, append_assoc, append-nil, take-append-drop, arith, length-append, length-take}
use Rattle.std.proofs.Math.Seq.{take-append-add, take-add, drop-append_seam, drop-length}
use Rattle.std.proofs.lemmas.List.{nil_from_length}
use Rattle.fibs_lines.specs.Lines.{ReadLine, lines_of}
use Rattle.fibs_lines.specs.StreamLaws.{LinesOnlyGrow}
use Rattle.fibs_session.specs.History.Log.{Entry}
use Rattle.fibs_session.specs.History.Words.{open_now}
use Rattle.fibs_session.specs.History.Hearing.{Heard, heard, nothing_heard, line_reading}
use Rattle.fibs_session.specs.History.Machine.{Talk, Outcome, Piece, step, stays, is_online, hears, hears_all, heard_by, with_bytes, gained}
use Rattle.fibs_session.specs.Calls.Standing.{ClientValue, StandsAfter}
use Rattle.fibs_session.specs.Calls.Feeding.{FeedAnswers, Gains, in_list}
use Rattle.fibs_session.specs.Calls.SessionOf.{TakenValue}
use Rattle.fibs_session.proofs.History.Joins.{all_open, all_stream, gained_more}
use Rattle.fibs_connect.specs.Turns.Acts.{Act}
use Rattle.fibs_connect.specs.Turns.Lines.{heard_act, taken_act, line_act, line_acts, piece_acts}
use Rattle.fibs_connect.specs.Turns.Turn.{EndsALine}

-- ---- the history after a piece

-- the history after lines that were heard
abbrev log_after : List Entry → List ReadLine → List Entry
log_after log [] = log
log_after log (l ∷ ls) = log_after (log ++ (heard (open_now log) log (line_reading l)).entries) ls

-- the machine that heard lines has that history
all_log : (t : Talk) (ls : List ReadLine) → (hears_all t ls).talk.log ≡ log_after t.log ls
unfolding hears_all
all_log t [] = refl
all_log t (l ∷ ls) = all_log (hears t (heard_by t (line_reading l))).talk ls

-- one line alone hands out the commands of its answer
one_send : (t : Talk) (l : ReadLine) → (hears_all t (l ∷ [])).send ≡ (heard_by t (line_reading l)).send
unfolding hears_all
one_send t l = append-nil (heard_by t (line_reading l)).send

-- the acts of lines in two parts are those of the first and then, by the history after it, of the second
acts_append : (log : List Entry) (ls ms : List ReadLine)
    → line_acts log (ls ++ ms) ≡ line_acts log ls ++ line_acts (log_after log ls) ms
acts_append log [] ms = refl
acts_append log (l ∷ ls) ms = ap (λ acts. line_act log l ∷ acts)
    (acts_append (log ++ (heard (open_now log) log (line_reading l)).entries) ls ms)

-- the acts of a piece, if the client is online as said
abbrev acts_if : Bool → Talk → List ℕ → List Act
acts_if b t bytes = if b then line_acts t.log (gained t.stream bytes) else []

-- what a piece does, if the client is online as said
abbrev reads_if : Bool → Talk → List ℕ → Outcome
reads_if b t bytes = if b then hears_all (with_bytes t bytes) (gained t.stream bytes) else stays t

-- online a piece calls for the acts of the lines that it gives
online_acts : (t : Talk) (bytes : List ℕ) → is_online t ≡ true
    → piece_acts t bytes ≡ line_acts t.log (gained t.stream bytes)
online_acts t bytes on = ap (λ b. acts_if b t bytes) on

-- offline a piece calls for nothing
offline_acts : (t : Talk) (bytes : List ℕ) → is_online t ≡ false → piece_acts t bytes ≡ []
offline_acts t bytes off = ap (λ b. acts_if b t bytes) off

-- online the lines that a piece gives are heard
online_reads : (t : Talk) (bytes : List ℕ) → is_online t ≡ true
    → step t (Piece bytes) ≡ hears_all (with_bytes t bytes) (gained t.stream bytes)
online_reads t bytes on = ap (λ b. reads_if b t bytes) on

-- offline a piece changes nothing
offline_reads : (t : Talk) (bytes : List ℕ) → is_online t ≡ false → step t (Piece bytes) ≡ stays t
offline_reads t bytes off = ap (λ b. reads_if b t bytes) off

-- a piece neither opens nor loses
pub piece_online : (t : Talk) (bytes : List ℕ) → is_online (step t (Piece bytes)).talk ≡ is_online t
piece_online t bytes = go (is_online t) refl
  where
    go : (b : Bool) → is_online t ≡ b → is_online (step t (Piece bytes)).talk ≡ is_online t
    go true on = ap (λ s. is_online s.talk) (online_reads t bytes on)
        ∙ ap (λ n. not (nat_eq n 0)) (all_open (with_bytes t bytes) (gained t.stream bytes))
    go false off = ap (λ s. is_online s.talk) (offline_reads t bytes off)

-- it is put after the stream
pub piece_stream : (t : Talk) (bytes : List ℕ) → is_online t ≡ true
    → (step t (Piece bytes)).talk.stream ≡ t.stream ++ bytes
piece_stream t bytes on = ap (λ s. s.talk.stream) (online_reads t bytes on)
    ∙ all_stream (with_bytes t bytes) (gained t.stream bytes)

-- no bytes call for nothing
pub no_acts : (t : Talk) → piece_acts t [] ≡ []
no_acts t = go (is_online t) refl
  where
    none : gained t.stream [] ≡ []
    none = ap (λ s. drop (length (lines_of t.stream)) (lines_of s)) (append-nil t.stream)
        ∙ drop-length (lines_of t.stream)

    go : (b : Bool) → is_online t ≡ b → piece_acts t [] ≡ []
    go true on = online_acts t [] on ∙ ap (line_acts t.log) none
    go false off = offline_acts t [] off

module _ (grow : LinesOnlyGrow) where
  -- bytes may come in any pieces
  pub acts_join : (t : Talk) (p q : List ℕ)
      → piece_acts t (p ++ q) ≡ piece_acts t p ++ piece_acts (step t (Piece p)).talk q
  acts_join t p q = go (is_online t) refl
    where
      go : (b : Bool) → is_online t ≡ b → piece_acts t (p ++ q) ≡ piece_acts t p ++ piece_acts (step t (Piece p)).talk q
      go false off =
          offline_acts t (p ++ q) off ∙ sym (offline_acts t q off)
          ∙ ap (λ s. piece_acts s.talk q) (sym (offline_reads t p off))
          ∙ ap (λ l. l ++ piece_acts (step t (Piece p)).talk q) (sym (offline_acts t p off))
      go true on =
          let u : Talk = (step t (Piece p)).talk in
          let first : List ReadLine = gained t.stream p in
          let log : u.log ≡ log_after t.log first = ap (λ s. s.talk.log) (online_reads t p on)
          ∙ all_log (with_bytes t p) first in
          let later : piece_acts u q ≡ line_acts (log_after t.log first) (gained (t.stream ++ p) q) =
          online_acts u q (piece_online t p ∙ on) ∙ ap (λ l. line_acts l (gained u.stream q)) log
          ∙ ap (λ s. line_acts (log_after t.log first) (gained s q)) (piece_stream t p on) in
          online_acts t (p ++ q) on ∙ ap (line_acts t.log) (gained_more grow t.stream p q)
          ∙ acts_append t.log first (gained (t.stream ++ p) q)
          ∙ ap (λ l. l ++ line_acts (log_after t.log first) (gained (t.stream ++ p) q)) (sym (online_acts t p on))
          ∙ ap (λ l. piece_acts t p ++ l) (sym later)

  -- if a front has all lines, so has a longer one
  middle : (s all : List ℕ) (n k : ℕ) → n ≤ k → lines_of (s ++ take n all) ≡ lines_of (s ++ all)
      → lines_of (s ++ take k all) ≡ lines_of (s ++ all)
  middle s all n k h e =
      let more = grow (s ++ take n all) (take (k - n) (drop n all)) in
      let rest = grow (s ++ take k all) (drop k all) in
      let split : take k all ≡ take n all ++ take (k - n) (drop n all) =
      ap (λ m. take m all) {x = k} {y = n + (k - n)} (omega (arith, h)) ∙ take-add n (k - n) all in
      let to_k : lines_of (s ++ take k all) ≡ lines_of (s ++ take n all) ++ more.0 =
      ap (λ l. lines_of (s ++ l)) split ∙ ap lines_of (sym (append_assoc s (take n all) (take (k - n) (drop n all))))
      ∙ more.1 in
      let to_all : lines_of (s ++ all) ≡ lines_of (s ++ take k all) ++ rest.0 =
      ap (λ l. lines_of (s ++ l)) (sym (take-append-drop k all))
      ∙ ap lines_of (sym (append_assoc s (take k all) (drop k all))) ∙ rest.1 in
      let none : rest.0 ≡ [] = nil_from_length rest.0
      (omega (
        arith,
        ap length to_k,
        ap length to_all,
        ap length e,
        length-append
            (lines_of (s ++ take n all)) more.0,
        length-append (lines_of (s ++ take k all)) rest.0,
      )) in
      sym (to_all ∙ ap (λ l. lines_of (s ++ take k all) ++ l) none ∙ append-nil (lines_of (s ++ take k all)))

  -- a line that ends after a front ends with both
  pub ends_joined : (s f g : List ℕ) → EndsALine (s ++ f) g → 0 < length g → EndsALine s (f ++ g)
  ends_joined s f g ends long = λ n lt same.
      let j = n - length f in
      let less : j < length g = omega (arith, lt, long, length-append f g) in
      let here : lines_of (s ++ take (length f + j) (f ++ g)) ≡ lines_of (s ++ (f ++ g)) =
      middle s (f ++ g) n (length f + j) (omega arith) same in
      ends j less (ap lines_of (append_assoc s f (take j g))
      ∙ ap (λ l. lines_of (s ++ l)) (sym (take-append-add f g j)) ∙ here ∙ ap lines_of (sym (append_assoc s f g)))

-- ---- what was taken

-- what is done for what was taken
abbrev pub taken_acts : Option TakenValue → List Act
taken_acts None = []
taken_acts (Some t) = taken_act t ∷ []

-- the bytes that were taken give the line that they end, if they end one
gained_lines : (s piece : List ℕ) (used : ℕ) (line : Option ReadLine) → Gains s piece used line
    → gained s (take used piece) ≡ in_list line
gained_lines s piece used line g = ap (drop (length (lines_of s))) g.gains
    ∙ drop-append_seam (lines_of s) (in_list line)

-- what a whole line says, if the client is online as said
abbrev heard_if : Bool → Talk → ReadLine → Heard
heard_if b t l = if b then heard_by t (line_reading l) else nothing_heard

-- the line's act is that of the history
one_act : (old : ClientValue) (piece : List ℕ) (used : ℕ) (k : TakenValue) → FeedAnswers old piece used (Some k)
    → (t : Talk) → StandsAfter old t → is_online t ≡ true → line_act t.log k.line ≡ taken_act k
one_act old piece used k f t at on =
    let p : List ℕ = take used piece in
    let lines : gained t.stream p ≡ k.line ∷ [] = gained_lines t.stream piece used (Some k.line) (f.uses t at on) in
    let send : k.send ≡ (heard_by t (line_reading k.line)).send =
    f.hands t at ∙ ap (λ s. s.send) (online_reads t p on) ∙ ap (λ ls. (hears_all (with_bytes t p) ls).send) lines
    ∙ one_send (with_bytes t p) k.line in
    let confirmed : k.confirmed ≡ (heard_by t (line_reading k.line)).confirmed = f.confirms t at on
    ∙ ap (λ b. (heard_if b t k.line).confirmed) on in
    let rolled : k.rolled ≡ (heard_by t (line_reading k.line)).rolled =
    f.rolls t at on ∙ ap (λ b. (heard_if b t k.line).rolled) on in
    let h : Heard = heard_by t (line_reading k.line) in
    ap (heard_act k.line (line_reading k.line) h.send h.confirmed) (sym rolled)
    ∙ ap (λ c. heard_act k.line (line_reading k.line) h.send c k.rolled) (sym confirmed)
    ∙ ap (λ s. heard_act k.line (line_reading k.line) s k.confirmed k.rolled) (sym send)
    ∙ ap (λ r. heard_act k.line r k.send k.confirmed k.rolled) (sym f.reading)

-- the bytes that were taken call for the act of what was taken, if it is a line
pub acts_taken : (old : ClientValue) (piece : List ℕ) (used : ℕ) (taken : Option TakenValue)
    → FeedAnswers old piece used taken → (t : Talk) → StandsAfter old t
    → piece_acts t (take used piece) ≡ taken_acts taken
acts_taken old piece used taken f t at = go (is_online t) refl taken f
  where
    p : List ℕ
    p = take used piece

    go : (b : Bool) → is_online t ≡ b → (taken : Option TakenValue) → FeedAnswers old piece used taken
        → piece_acts t p ≡ taken_acts taken
    go false off taken f = offline_acts t p off ∙ ap taken_acts (sym (f.offline t at off).1)
    go true on None f = online_acts t p on ∙ ap (line_acts t.log)
        (gained_lines t.stream piece used None (f.uses t at on))
    go true on (Some k) f =
        online_acts t p on ∙ ap (line_acts t.log) (gained_lines t.stream piece used (Some k.line) (f.uses t at on))
        ∙ ap (λ act. act ∷ []) (one_act old piece used k f t at on)

-- what is taken is taken online
pub taken_online : (old : ClientValue) (piece : List ℕ) (used : ℕ) (k : TakenValue)
    → FeedAnswers old piece used (Some k) → (t : Talk) → StandsAfter old t → is_online t ≡ true
taken_online old piece used k f t at = go (is_online t) refl
  where
    never : Some k ≡ None → is_online t ≡ true
    never e = absurd cc

    go : (b : Bool) → is_online t ≡ b → is_online t ≡ true
    go true on = on
    go false off = never (f.offline t at off).1

-- the bytes up to a line that is taken end it
pub ends_taken : (old : ClientValue) (piece : List ℕ) (used : ℕ) (k : TakenValue)
    → FeedAnswers old piece used (Some k) → used ≤ length piece → (t : Talk) → StandsAfter old t
    → EndsALine t.stream (take used piece)
ends_taken old piece used k f fits t at = λ n lt same.
    let g = f.uses t at (taken_online old piece used k f t at) in
    let s = t.stream in
    let less : n < used = omega (arith, lt, length-take used piece) in
    let shorter : take used piece ≡ take n piece ++ take (used - n) (drop n piece) =
    ap (λ m. take m piece) {x = used} {y = n + (used - n)} (omega (arith, less)) ∙ take-add n (used - n) piece in
    let front : take n (take used piece) ≡ take n piece =
    ap (take n) shorter ∙ ap (λ m. take m (take n piece ++ take (used - n) (drop n piece))) {x = n} {y =
    length (take n piece) + 0} (omega (arith, less, fits, length-take n piece))
    ∙ take-append-add (take n piece) (take (used - n) (drop n piece)) 0 ∙ append-nil (take n piece) in
    let all : lines_of s ≡ lines_of s ++ (k.line ∷ []) = sym (g.shortest n less)
    ∙ ap (λ l. lines_of (s ++ l)) (sym front) ∙ same ∙ g.gains in
    omega (arith, ap length all, length-append (lines_of s) (k.line ∷ []))
