-- What the client hears, line by line.
use Rattle.std.proofs.Common.{◌≡◌, ◌≤◌, ◌<◌, ◌+◌, ◌-◌, ◌*◌, ℕ, Bool, true, false, not, List, [], ◌∷◌, ◌++◌, Option, Some, None, length, take, drop, if◌then◌else◌, refl, sym, ap, subst, ◌∙◌, arith, append-nil, append_assoc}
use Rattle.std.specs.Prelude.{option_map}
use Rattle.std.proofs.Math.Seq.{drop-append_seam}
use Rattle.std.proofs.lemmas.List.{take-append-drop, length-append, take_all, length-drop}
use Rattle.std.proofs.lemmas.List.Concat.{flat_map-append}
use Rattle.fibs_lines.specs.Lines.{ReadLine, lines_of}
use Rattle.fibs_lines.specs.StreamLaws.{LinesAreAtMostTheLineEnds}
use Rattle.fibs_lines.proofs.EndsCounted.{ends, ends-append}
use Rattle.fibs_messages.specs.Line.{ReadingValue, numbered_line, board_line, text_line, malformed_line}
use Rattle.fibs_session.specs.Calls.Doing.{Does}
use Rattle.fibs_session.specs.Calls.Feeding.{Gains, FeedAnswers, commands_of, line_of_taken}
use Rattle.fibs_session.specs.Calls.SessionOf.{TakenValue}
use Rattle.fibs_session.specs.Calls.Standing.{ClientValue, StandsAfter}
use Rattle.fibs_session.specs.History.Hearing.{heard, nothing_heard, line_reading}
use Rattle.fibs_session.specs.History.Log.{Entry}
use Rattle.fibs_session.specs.History.Machine.{Talk, Outcome, Piece, step, is_online, stays, noted, with_bytes, gained, hears_all, heard_by, on_wire, wire_of, ordered_now}
use Rattle.fibs_session.specs.History.MachineLaws.{PiecesJoin, EmptyPieceIsNothing}
use Rattle.fibs_session.specs.History.Owing.{owed_on, owed, entries_owed, lines_in, PiecesTakeFromWhatIsOwed, PiecesTakeFromTheEntriesOwed}
use Rattle.fibs_session.specs.History.Words.{open_now}
use Rattle.fibs_model.specs.EntryOf.{roll_entries}
use Rattle.fibs_model.specs.HearingOf.{HearsPiece, IsTalking, RoomForLine, RoomForPiece}
use Rattle.fibs_game.proofs.past.Lists.{other_number}
use Rattle.fibs_session.proofs.History.Joins.{all_open}

-- a client with an open connection is online
online : (t : Talk) (conn : ℕ) → 0 < conn → open_now t.log ≡ conn → is_online t ≡ true
online t conn some h = ap not (other_number (open_now t.log) 0 (λ e. absurd (omega (arith, some, h, e))))

-- what reading gives online
abbrev step_of : Talk → List ℕ → Bool → Outcome
step_of t p b = if b then hears_all (with_bytes t p) (gained t.stream p) else stays t

-- online a piece is heard as the lines that it gives
reads_lines : (t : Talk) (p : List ℕ) (ls : List ReadLine) → is_online t ≡ true → gained t.stream p ≡ ls
    → step t (Piece p) ≡ hears_all (with_bytes t p) ls
reads_lines t p ls o g = ap (step_of t p) o ∙ ap (hears_all (with_bytes t p)) g

-- a piece gives the lines that the stream has more with it
gains_lines : (s p : List ℕ) (ls : List ReadLine) → lines_of (s ++ p) ≡ lines_of s ++ ls → gained s p ≡ ls
gains_lines s p ls e = ap (drop (length (lines_of s))) e ∙ drop-append_seam (lines_of s) ls

-- no line
no_line : (t : Talk) (conn : ℕ) (p : List ℕ) → 0 < conn → open_now t.log ≡ conn
    → lines_of (t.stream ++ p) ≡ lines_of t.stream ++ [] → (step t (Piece p)).talk.log ≡ t.log
unfolding hears_all
no_line t conn p some h e = ap (λ (s : Outcome). s.talk.log)
    (reads_lines t p [] (online t conn some h) (gains_lines t.stream p [] e))

-- one line
one_line : (t : Talk) (conn : ℕ) (p : List ℕ) (l : ReadLine) → 0 < conn → open_now t.log ≡ conn
    → lines_of (t.stream ++ p) ≡ lines_of t.stream ++ l ∷ []
    → (step t (Piece p)).talk.log ≡ t.log ++ (heard conn t.log (line_reading l)).entries
unfolding hears_all
one_line t conn p l some h e =
    ap (λ (s : Outcome). s.talk.log)
    (reads_lines t p (l ∷ []) (online t conn some h) (gains_lines t.stream p (l ∷ []) e))
    ∙ ap (λ n. t.log ++ (heard n t.log (line_reading l)).entries) h

-- reading a piece leaves the open connection
pub reads_open : (t : Talk) (p : List ℕ) → open_now (step t (Piece p)).talk.log ≡ open_now t.log
reads_open t p = go (is_online t)
  where
    go : (b : Bool) → open_now (step_of t p b).talk.log ≡ open_now t.log
    go true = all_open (with_bytes t p) (gained t.stream p)
    go false = refl

-- a client with an open connection still has it after reading a piece
pub still_talking : (old new : ClientValue) (conn : ℕ) (p : List ℕ) (send : List (List ℕ)) (t : Talk)
    → Does old new (Piece p) send → IsTalking old conn t
    → IsTalking new conn (step t (Piece p)).talk
still_talking old new conn p send t d h = record { stands = d.stands t h.stands; is_open = reads_open t p ∙ h.is_open }

-- Line ends.

-- the line ends of a piece are those of a front and of what is left
pub ends_split : (n : ℕ) (p : List ℕ) → ends p ≡ ends (take n p) + ends (drop n p)
ends_split n p = ap ends (sym (take-append-drop n p)) ∙ ends-append (take n p) (drop n p)

-- a piece gives no more lines than it has line ends
lines_at_most : LinesAreAtMostTheLineEnds → (t : Talk) (p : List ℕ) → lines_in t p ≤ ends p
lines_at_most law t p = go (is_online t)
  where
    go : (b : Bool) → (if b then length (gained t.stream p) else 0) ≤ ends p
    go true = omega (arith, law t.stream p, length-drop (length (lines_of t.stream)) (lines_of (t.stream ++ p)))
    go false = omega arith

-- more is owed for more lines
more_owed : (t : Talk) (m n : ℕ) → m ≤ n → owed t m ≤ owed t n
more_owed t m n h = go (ordered_now t)
  where
    go : (b : Bool) → owed_on (open_now t.log) t.log + (if b then 6 * m else 0)
        ≤ owed_on (open_now t.log) t.log + (if b then 6 * n else 0)
    go true = omega (arith, h)
    go false = omega arith

-- more entries are owed for more lines
more_entries : (t : Talk) (m n : ℕ) → m ≤ n → entries_owed t m ≤ entries_owed t n
more_entries t m n h = go (ordered_now t)
  where
    go : (b : Bool) → (if b then 2 * m else m) ≤ (if b then 2 * n else n)
    go true = omega (arith, h)
    go false = h

-- What the lines of a front may add, and what those after it, is no more than what those of the piece may.
module _ (ends_law : LinesAreAtMostTheLineEnds) where
  -- the lines of a front and the line ends of what is left are at most the line ends of the piece
  lines_split : (t : Talk) (piece : List ℕ) (used : ℕ)
      → lines_in t (take used piece) + ends (drop used piece) ≤ ends piece
  lines_split t piece used =
      let front = lines_at_most ends_law t (take used piece) in omega (arith, front, ends_split used piece)

  -- the entries that a front makes the client note are taken from what is owed for the piece
  entries_left : PiecesTakeFromTheEntriesOwed → (t : Talk) (piece : List ℕ) (used : ℕ)
      → length (step t (Piece (take used piece))).talk.log
      + entries_owed (step t (Piece (take used piece))).talk (ends (drop used piece))
      ≤ length t.log + entries_owed t (ends piece)
  entries_left entries_law t piece used =
      omega (
        arith,
        entries_law t (take used piece) (ends (drop used piece)),
        more_entries t _ _ (lines_split t piece used),
      )

  -- the bytes that a front makes the client hand out are taken from what is owed for the piece
  bytes_left : PiecesTakeFromWhatIsOwed → (t : Talk) (piece : List ℕ) (used : ℕ)
      → length (wire_of (step t (Piece (take used piece))).send)
      + owed (step t (Piece (take used piece))).talk (ends (drop used piece)) ≤ owed t (ends piece)
  bytes_left bytes_law t piece used =
      omega (arith, bytes_law t (take used piece) (ends (drop used piece)), more_owed t _ _ (lines_split t piece used))

  -- so there is room for what is left of the piece
  pub room_left : PiecesTakeFromWhatIsOwed → PiecesTakeFromTheEntriesOwed
      → (old new : ClientValue) (conn : ℕ) (piece : List ℕ) (used : ℕ) (send : List (List ℕ))
      → Does old new (Piece (take used piece)) send → (len len' capacity capacity' bytes bytes' added : ℕ)
      → (room : RoomForPiece old conn piece len capacity bytes)
      → length (step room.talk (Piece (take used piece))).talk.log ≡ length room.talk.log + added
      → len' ≡ len + added → capacity ≤ capacity' → bytes ≤ bytes' + length (wire_of send)
      → RoomForPiece new conn (drop used piece) len' capacity' bytes'
  room_left bytes_law entries_law old new conn piece used send does len len' capacity capacity' bytes bytes' added room
      grown more wide put =
      let t : Talk = room.talk in
      let e = entries_left entries_law t piece used in
      let b = bytes_left bytes_law t piece used in
      let sent : length (wire_of send) ≡ length (wire_of (step t (Piece (take used piece))).send) =
      ap (λ ts. length (wire_of ts)) (does.hands t room.talks.stands) in
      record {
        talk = (step t (Piece (take used piece))).talk;
        talks = still_talking old new conn (take used piece) send t does room.talks;
        entries = omega (arith, e, grown, more, wide, room.entries);
        commands = omega (arith, b, sent, put, room.commands);
      }

-- What `read` and `got` say of a front of a piece.
module _ (old new : ClientValue) (conn : ℕ) (piece : List ℕ) (used : ℕ) (some : 0 < conn) where
  -- nothing was noted
  pub none_noted : (taken : Option TakenValue) → FeedAnswers old piece used taken → taken ≡ None → (t : Talk)
      → IsTalking old conn t → (step t (Piece (take used piece))).talk.log ≡ t.log
  none_noted taken f e t h =
      let g = f.uses t h.stands (online t conn some h.is_open) in
      let gains = subst (λ o. Gains t.stream piece used (line_of_taken o)) e g in
      no_line t conn (take used piece) some h.is_open gains.gains

  -- there is room for what is left
  pub none_left : LinesAreAtMostTheLineEnds → PiecesTakeFromWhatIsOwed → PiecesTakeFromTheEntriesOwed
      → (taken : Option TakenValue) → FeedAnswers old piece used taken
      → Does old new (Piece (take used piece)) (commands_of taken) → taken ≡ None → (len capacity bytes : ℕ)
      → RoomForPiece old conn piece len capacity bytes → RoomForPiece new conn (drop used piece) len capacity bytes
  none_left ends_law bytes_law entries_law taken f d e len capacity bytes room =
      room_left ends_law bytes_law entries_law old new conn piece used (commands_of taken) d len len capacity capacity
      bytes bytes 0 room (ap length (none_noted taken f e room.talk room.talks) ∙ omega arith) (omega arith)
      (omega arith) (omega arith)

  -- there was no line
  pub hears_none : (taken : Option TakenValue) → FeedAnswers old piece used taken
      → Does old new (Piece (take used piece)) (commands_of taken) → taken ≡ None
      → (log : List Entry) (wire : List ℕ) → HearsPiece old new conn (take used piece) log log wire wire
  hears_none taken f d e log wire = record {
    writes = record {
      send = commands_of taken;
      does = d;
      written = sym (append-nil wire)
          ∙ ap (λ o. wire ++ wire_of (commands_of o)) (sym e);
    };
    noted = λ t h same. same ∙ sym (none_noted taken f e t h);
  }

  -- there was a line
  module _ (x : TakenValue) (f : FeedAnswers old piece used (Some x))
      (d : Does old new (Piece (take used piece)) x.send) where
    -- whether a standing order rolled at it
    rolls : (t : Talk) → IsTalking old conn t → (heard conn t.log x.reading).rolled ≡ x.rolled
    rolls t h =
        sym (f.rolls t h.stands (online t conn some h.is_open)
        ∙ ap (λ b. (if b then heard_by t (line_reading x.line) else nothing_heard).rolled)
        (online t conn some h.is_open)
        ∙ ap (λ n. (heard n t.log (line_reading x.line)).rolled) h.is_open
        ∙ ap (λ r. (heard conn t.log r).rolled) (sym f.reading))

    -- what was noted of it
    line_noted : (t : Talk) → IsTalking old conn t
        → (step t (Piece (take used piece))).talk.log ≡ t.log ++ (heard conn t.log x.reading).entries
    line_noted t h =
        let g = f.uses t h.stands (online t conn some h.is_open) in
        one_line t conn (take used piece) x.line some h.is_open g.gains
        ∙ ap (λ r. t.log ++ (heard conn t.log r).entries) (sym f.reading)

    -- the log is longer by the entries of the line
    pub line_added : (t : Talk) → IsTalking old conn t
        → length (step t (Piece (take used piece))).talk.log
        ≡ length t.log + length (heard conn t.log x.reading).entries
    line_added t h = ap length (line_noted t h) ∙ length-append t.log (heard conn t.log x.reading).entries

    -- the line was heard, if its entries were noted and its commands put on the wire
    pub hears_some : (log later : List Entry) (wire more : List ℕ)
        → ((before : List Entry) → (heard conn before x.reading).rolled ≡ x.rolled
        → later ≡ log ++ (heard conn before x.reading).entries)
        → more ≡ wire ++ wire_of x.send → HearsPiece old new conn (take used piece) log later wire more
    hears_some log later wire more noted written = record {
      writes = record { send = x.send; does = d; written = written };
      noted = λ t h same.
          noted t.log (rolls t h) ∙ ap (λ l. l ++ (heard conn t.log x.reading).entries) same ∙ sym (line_noted t h);
    }

    -- there is room for its commands
    pub line_put : LinesAreAtMostTheLineEnds → PiecesTakeFromWhatIsOwed → (len capacity bytes : ℕ)
        → RoomForPiece old conn piece len capacity bytes → length (wire_of x.send) ≤ bytes
    line_put ends_law bytes_law len capacity bytes room =
        let b = bytes_left ends_law bytes_law room.talk piece used in
        let sent : length (wire_of x.send) ≡ length (wire_of (step room.talk (Piece (take used piece))).send) =
        ap (λ ts. length (wire_of ts)) (d.hands room.talk room.talks.stands) in
        omega (arith, b, sent, room.commands)

    -- there is room for what is left
    pub some_left : LinesAreAtMostTheLineEnds → PiecesTakeFromWhatIsOwed → PiecesTakeFromTheEntriesOwed
        → (len len' capacity capacity' bytes bytes' : ℕ) → RoomForPiece old conn piece len capacity bytes
        → ((before : List Entry) → (heard conn before x.reading).rolled ≡ x.rolled
        → len' ≡ len + length (heard conn before x.reading).entries)
        → capacity ≤ capacity' → bytes ≤ bytes' + length (wire_of x.send)
        → RoomForPiece new conn (drop used piece) len' capacity' bytes'
    some_left ends_law bytes_law entries_law len len' capacity capacity' bytes bytes' room more wide put =
        room_left ends_law bytes_law entries_law old new conn piece used x.send d len len' capacity capacity' bytes
        bytes'
        (length (heard conn room.talk.log x.reading).entries) room (line_added room.talk room.talks)
        (more room.talk.log (rolls room.talk room.talks)) wide put

    -- there is room for it
    pub line_room : LinesAreAtMostTheLineEnds → PiecesTakeFromTheEntriesOwed → (len capacity bytes : ℕ)
        → RoomForPiece old conn piece len capacity bytes → RoomForLine conn x.reading x.rolled len capacity
    line_room ends_law entries_law len capacity bytes room =
        let e = entries_left ends_law entries_law room.talk piece used in
        record {
          before = room.talk.log;
          rolls = rolls room.talk room.talks;
          room = omega (arith, e, line_added room.talk room.talks, room.entries);
        }

-- Pieces after each other.

-- no bytes are heard by doing nothing
pub hears_nothing : EmptyPieceIsNothing → (c : ClientValue) (conn : ℕ) (log : List Entry) (wire : List ℕ)
    → HearsPiece c c conn [] log log wire wire
hears_nothing law c conn log wire = record {
  writes = record {
    send = [];
    does = record {
      stands = λ t h. subst (λ (s : Outcome). StandsAfter c s.talk) (sym (law t)) h;
      hands =
          λ t h. ap (λ (s : Outcome). s.send) (sym (law t));
    };
    written = sym (append-nil wire);
  };
  noted = λ t h same. same ∙ ap (λ (s : Outcome). s.talk.log) (sym (law t));
}

-- a piece that is heard in two parts is heard
pub hears_joined : PiecesJoin → (a b c : ClientValue) (conn : ℕ) (p q : List ℕ) (l0 l1 l2 : List Entry) (x y z : List ℕ)
    → HearsPiece a b conn p l0 l1 x y → HearsPiece b c conn q l1 l2 y z
    → HearsPiece a c conn (p ++ q) l0 l2 x z
hears_joined law a b c conn p q l0 l1 l2 x y z f g = record {
  writes = record {
    send = f.writes.send ++ g.writes.send;
    does = record {
      stands = λ t h. subst (λ (s : Outcome). StandsAfter c s.talk) (sym (law t p q))
          (g.writes.does.stands _ (f.writes.does.stands t h));
      hands = λ t h. ap (λ l. l ++ g.writes.send) (f.writes.does.hands t h)
          ∙ ap (λ l. (step t (Piece p)).send ++ l) (g.writes.does.hands _ (f.writes.does.stands t h))
          ∙ ap (λ (s : Outcome). s.send) (sym (law t p q));
    };
    written = g.writes.written ∙ ap (λ l. l ++ wire_of g.writes.send) f.writes.written
        ∙ append_assoc x (wire_of f.writes.send) (wire_of g.writes.send)
        ∙ ap (λ l. x ++ l) (sym (flat_map-append on_wire f.writes.send g.writes.send));
  };
  noted = λ t h same.
      g.noted (step t (Piece p)).talk (still_talking a b conn p f.writes.send t f.writes.does h) (f.noted t h same)
      ∙ ap (λ (s : Outcome). s.talk.log) (sym (law t p q));
}

-- `&rest[used..]`
pub rest_is : (used : ℕ) (rest : List ℕ) → take (length rest - used) (drop used rest) ≡ drop used rest
rest_is used rest = take_all (length rest - used) (drop used rest) (omega (arith, length-drop used rest))

-- a front that was read, and what was taken from it
pub record Front (old new : ClientValue) (piece : List ℕ) (used : ℕ) (taken : Option TakenValue) : Type 0 where
  pub feeds : FeedAnswers old piece used taken
  pub does : Does old new (Piece (take used piece)) (commands_of taken)

-- a front that was read, by other names of how long it is and what was taken
pub front : (old new : ClientValue) (piece : List ℕ) (used n : ℕ) (taken x : Option TakenValue) → n ≡ used → taken ≡ x
    → FeedAnswers old piece used taken
    → Does old new (Piece (take used piece)) (commands_of taken) → Front old new piece n x
front old new piece used n taken x u e f d =
    subst (λ m. Front old new piece m x) (sym u)
    (subst (λ o. Front old new piece used o) e (record { feeds = f; does = d }))

-- what would be absurd if it were there is not there
pub none_of : {A B : Type 0} (f : A → B) (o : Option A) → ((x : A) → o ≡ Some x → ⊥) → option_map f o ≡ None
none_of f None h = refl
none_of f (Some x) h = absurd (h x refl)

-- without a roll nothing more is noted
no_roll : (conn : ℕ) (r : ReadingValue) → roll_entries conn r false ≡ []
no_roll conn (board_line b) = refl
no_roll conn (numbered_line m) = refl
no_roll conn (text_line t) = refl
no_roll conn (malformed_line n k f) = refl

-- What a line gives is its entry, and the roll if one was sent.
module _ (conn : ℕ) (r : ReadingValue) (first : List Entry)
    (given : (before : List Entry)
    → (heard conn before r).entries ≡ first ++ roll_entries conn r (heard conn before r).rolled) where
  -- what a line gives is its entry, and the roll if one was sent, as said
  all_given : (rolled : Bool) (before : List Entry) → (heard conn before r).rolled ≡ rolled
      → (heard conn before r).entries ≡ first ++ roll_entries conn r rolled
  all_given rolled before is = given before ∙ ap (λ z. first ++ roll_entries conn r z) is

  -- how much that is
  pub many_given : (rolled : Bool) (before : List Entry) → (heard conn before r).rolled ≡ rolled
      → length (heard conn before r).entries ≡ length first + length (roll_entries conn r rolled)
  many_given rolled before is =
      ap length (all_given rolled before is) ∙ length-append first (roll_entries conn r rolled)

  -- both are noted
  pub rolled_noted : (log later : List Entry) → later ≡ (log ++ first) ++ roll_entries conn r true
      → (before : List Entry) → (heard conn before r).rolled ≡ true → later ≡ log ++ (heard conn before r).entries
  rolled_noted log later is before rolls =
      is ∙ append_assoc log first (roll_entries conn r true)
      ∙ ap (λ l. log ++ l) (sym (all_given true before rolls))

  -- or the first alone
  pub first_noted : (log later : List Entry) → later ≡ log ++ first
      → (before : List Entry) → (heard conn before r).rolled ≡ false → later ≡ log ++ (heard conn before r).entries
  first_noted log later is before rolls =
      is ∙ ap (λ l. log ++ l) (sym (all_given false before rolls ∙ ap (λ l. first ++ l) (no_roll conn r)
      ∙ append-nil first))

  -- without a roll as much is noted as the line's entry
  pub many_first : (before : List Entry) → (heard conn before r).rolled ≡ false
      → length (heard conn before r).entries ≡ length first
  many_first before rolls =
      ap length (all_given false before rolls ∙ ap (λ l. first ++ l) (no_roll conn r) ∙ append-nil first)
