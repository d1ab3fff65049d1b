-- A piece that is read is an input of the machine.
use Rattle.std.proofs.Common.{◌≡◌, ℕ, Bool, true, false, List, length, take, drop, Option, Some, None, if◌then◌else◌, option_map, refl, sym, ◌∙◌, ap, subst, append-nil}
use Rattle.std.proofs.Math.Seq.{drop-append_seam}
use Rattle.fibs_lines.specs.Lines.{ReadLine, lines_of}
use Rattle.fibs_lines.specs.LinesValue.{StandsAfter as LinesStandAfter}
use Rattle.fibs_session.specs.History.Hearing.{nothing_heard, line_reading}
use Rattle.fibs_session.specs.History.Words.{Ask}
use Rattle.fibs_session.specs.History.Machine.{Talk, Piece, stays, is_online, reads, hears, hears_all, heard_by, line_heard, with_bytes, gained}
use Rattle.fibs_session.specs.Calls.SessionValue.{SessionValue}
use Rattle.fibs_session.specs.Calls.SessionOf.{TakenValue, ask_of}
use Rattle.fibs_session.specs.Calls.ClientOf.{answer_commands, commands_in}
use Rattle.fibs_session.specs.Calls.Standing.{SessionStandsAfter, ClientValue, StandsAfter}
use Rattle.fibs_session.specs.Calls.Doing.{Does}
use Rattle.fibs_session.specs.Calls.Feeding.{in_list, Gains, AnswersLine, ReadsPiece, line_confirms, KeepsLine, Keeps, ShowsLine, Shows, commands_of, confirmed_of_taken, line_of_taken, ReadsItself, FeedAnswers, line_rolls, rolled_of_taken}
use Rattle.fibs_session.specs.declared.client.heard_line.Answer.{Answer}
use Rattle.fibs_session.specs.declared.client.heard_line.HeardLine.{HeardLine}
use Rattle.fibs_session.proofs.Calls.SessionLaws.{online_is}
use Rattle.fibs_session.proofs.Calls.ClientLaws.{session_at, lines_at, both_at}

-- what an answer confirms
abbrev answer_confirmed : Option Answer → Option Ask
answer_confirmed None = None
answer_confirmed (Some a) = option_map ask_of a.confirmed

-- whether a standing order rolled
abbrev answer_rolled : Option Answer → Bool
answer_rolled None = false
answer_rolled (Some a) = a.rolled

-- what follows from a test that holds, and from one that fails, follows
by_cases : {X : Type 0} (b : Bool) → (b ≡ true → X) → (b ≡ false → X) → X
by_cases true f g = f refl
by_cases false f g = g refl

-- the session knows nothing of the bytes
bytes_at : (v : SessionValue) (t : Talk) (p : List ℕ) → SessionStandsAfter v t → SessionStandsAfter v (with_bytes t p)
unfolding SessionStandsAfter
bytes_at v t p at = record {
  conn = at.conn;
  is_open = at.is_open;
  logs_in = at.logs_in;
  no_toggle = at.no_toggle;
  has_connection = at.has_connection;
  has_welcome = at.has_welcome;
  has_flags = at.has_flags;
  automove_gone = at.automove_gone;
  greedy_gone = at.greedy_gone;
  on_board = at.on_board;
  not_confirmed = at.not_confirmed;
  has_order = at.has_order;
  numbered = at.numbered;
}

record Hearing (v' : SessionValue) (t : Talk) (line : Option ReadLine) (a : Option Answer) : Type 0 where
  pub stands : SessionStandsAfter v' (hears_all t (in_list line)).talk
  pub hands : answer_commands a ≡ (hears_all t (in_list line)).send
  pub confirms : answer_confirmed a ≡ line_confirms t line
  pub rolls : answer_rolled a ≡ line_rolls t line
  pub stream : (hears_all t (in_list line)).talk.stream ≡ t.stream

-- a session that answers the line that is taken, if one is, does what the machine does
hearing : (v v' : SessionValue) (t : Talk) (line : Option ReadLine) (a : Option Answer)
    → AnswersLine v line a v' → SessionStandsAfter v t → is_online t ≡ true → Hearing v' t line a
unfolding hears_all
hearing v v' t None None h at on =
    record {
      stands = subst (λ x. SessionStandsAfter x t) (sym h) at;
      hands = refl;
      confirms = refl;
      rolls = refl;
      stream = refl;
    }
hearing v v' t None (Some a) h at on = absurd h
hearing v v' t (Some l) None h at on = absurd h
hearing v v' t (Some l) (Some a) h at on =
    let k : line_heard t l ≡ heard_by t (line_reading l) =
    ap (λ b. if b then heard_by t (line_reading l) else nothing_heard) on in
    record {
      stands = subst (λ x. SessionStandsAfter v' (hears t x).talk) k (h.0.stands t at);
      hands = h.0.hands t at ∙ ap (λ x. x.send) k ∙ sym (append-nil (heard_by t (line_reading l)).send);
      confirms = h.0.confirms t at;
      rolls = h.0.rolls t at;
      stream = refl;
    }

-- a session that answers a line keeps what it answers of that line
keeps_line : (v v' : SessionValue) (line : Option ReadLine) (a : Option Answer)
    → AnswersLine v line a v' → KeepsLine line a
keeps_line v v' line None h = tt
keeps_line v v' None (Some a) h = absurd h
keeps_line v v' (Some l) (Some a) h = h.1

-- offline a line confirms nothing
offline_confirms : (t : Talk) (line : Option ReadLine) → is_online t ≡ false → None ≡ line_confirms t line
offline_confirms t None off = refl
offline_confirms t (Some l) off =
    sym (ap (λ b. (if b then heard_by t (line_reading l) else nothing_heard).confirmed) off)

-- offline a line makes no roll
offline_rolls : (t : Talk) (line : Option ReadLine) → is_online t ≡ false → false ≡ line_rolls t line
offline_rolls t None off = refl
offline_rolls t (Some l) off =
    sym (ap (λ b. (if b then heard_by t (line_reading l) else nothing_heard).rolled) off)

module _ (old new : ClientValue) (piece : List ℕ) (h : HeardLine) (r : ReadsPiece old new piece h) where
  -- the bytes that were taken
  abbrev p : List ℕ
  p = take h.used piece

  -- the line that they end, if they end one
  abbrev line : Option ReadLine
  line = new.lines.line

  -- the session knows whether a connection is open
  is_on : (t : Talk) → StandsAfter old t → old.session.online ≡ is_online t
  is_on t at = online_is old.session t (session_at old t at)

  -- online the line that the bytes end is heard
  online_step : (t : Talk)
      → StandsAfter old t → (on : old.session.online ≡ true) → reads t p ≡ hears_all (with_bytes t p) (in_list line)
  online_step t at on =
      let g = (r.online on).gains t.stream (lines_at old t at) in
      ap (λ b. if b then hears_all (with_bytes t p) (gained t.stream p) else stays t) (sym (is_on t at) ∙ on)
      ∙ ap (hears_all (with_bytes t p))
      (ap (drop (length (lines_of t.stream))) g.gains ∙ drop-append_seam (lines_of t.stream) (in_list line))

  -- online the session does with it what the machine does
  online_hearing : (t : Talk)
      → StandsAfter old t → (on : old.session.online ≡ true) → Hearing new.session (with_bytes t p) line h.answer
  online_hearing t at on =
      hearing old.session new.session (with_bytes t p)
      line h.answer (r.online on).answers (bytes_at old.session t p (session_at old t at)) (sym (is_on t at) ∙ on)

  -- offline the bytes change nothing
  offline_step : (t : Talk) → StandsAfter old t → (off : old.session.online ≡ false) → reads t p ≡ stays t
  offline_step t at off =
      ap (λ b. if b then hears_all (with_bytes t p) (gained t.stream p) else stays t) (sym (is_on t at) ∙ off)

  -- the client is reached by the history with these bytes
  stands : (t : Talk) → StandsAfter old t → StandsAfter new (reads t p).talk
  stands t at = by_cases old.session.online
      (λ on.
      let g = online_hearing t at on in
      subst (λ s. StandsAfter new s.talk) (sym (online_step t at on))
      (both_at new _ (subst (LinesStandAfter new.lines)
      (sym g.stream) ((r.online on).stands t.stream (lines_at old t at))) g.stands))
      (λ off. subst (λ s. StandsAfter new s.talk)
      (sym (offline_step t at off)) (subst (λ c. StandsAfter c t) (sym (r.offline off).same) at))

  -- it hands out the commands of the machine
  hands : (t : Talk) → StandsAfter old t → answer_commands h.answer ≡ (reads t p).send
  hands t at = by_cases old.session.online
      (λ on. (online_hearing t at on).hands ∙ ap (λ s. s.send) (sym (online_step t at on)))
      (λ off. ap answer_commands (r.offline off).answer ∙ ap (λ s. s.send) (sym (offline_step t at off)))

  -- a piece that is read is an input
  does : Does old new (Piece p) (answer_commands h.answer)
  does = record { stands = stands; hands = hands }

  -- reading a piece is the machine's input of the bytes that were taken
  pub read_does : Does old new (Piece p) (commands_in h)
  unfolding commands_in
  read_does = does

  -- it confirms what the line confirms by the history
  confirms : (t : Talk) → StandsAfter old t → answer_confirmed h.answer ≡ line_confirms t line
  confirms t at = by_cases old.session.online
      (λ on. (online_hearing t at on).confirms)
      (λ off. ap answer_confirmed (r.offline off).answer ∙ offline_confirms t line (sym (is_on t at) ∙ off))

  -- it says that an order has rolled if it has by the history
  rolls : (t : Talk) → StandsAfter old t → answer_rolled h.answer ≡ line_rolls t line
  rolls t at = by_cases old.session.online
      (λ on. (online_hearing t at on).rolls)
      (λ off. ap answer_rolled (r.offline off).answer ∙ offline_rolls t line (sym (is_on t at) ∙ off))

  -- what was kept is of the line
  keeps : KeepsLine line h.answer
  keeps = by_cases old.session.online
      (λ on. keeps_line old.session new.session line h.answer (r.online on).answers)
      (λ off. subst (KeepsLine line) (sym (r.offline off).answer) (none line))
    where
      none : (l : Option ReadLine) → KeepsLine l None
      none None = tt
      none (Some l) = tt

  -- what it keeps for the caller is of the line that it heard
  pub read_keeps : Keeps new h
  unfolding Keeps
  read_keeps = keeps

-- the halves together

record Same (line : Option ReadLine) (a : Option Answer) (t : Option TakenValue) : Type 0 where
  pub commands : answer_commands a ≡ commands_of t
  pub confirmed : answer_confirmed a ≡ confirmed_of_taken t
  pub rolled : answer_rolled a ≡ rolled_of_taken t
  pub reading : ReadsItself t

-- what is shown of a line has the commands, the confirmed decision and the roll of the answer
same_shown : (line : Option ReadLine) (a : Option Answer) (t : Option TakenValue) → ShowsLine line a t → Same line a t
same_shown line None t h =
    subst (Same line None) (sym h) (record { commands = refl; confirmed = refl; rolled = refl; reading = tt })
same_shown None (Some a) t h = absurd h
same_shown (Some l) (Some a) t h =
    subst (Same (Some l) (Some a)) (sym h) (record { commands = refl; confirmed = refl; rolled = refl; reading = refl })

-- the line that is shown is the one that was heard
same_line : (v v' : SessionValue) (line : Option ReadLine) (a : Option Answer) (t : Option TakenValue)
    → AnswersLine v line a v' → ShowsLine line a t → line ≡ line_of_taken t
same_line v v' None None t h e = ap line_of_taken (sym e)
same_line v v' None (Some a) t h e = absurd h
same_line v v' (Some l) None t h e = absurd h
same_line v v' (Some l) (Some a) t h e = ap line_of_taken (sym e)

-- if nothing was answered nothing is shown
not_shown : (line : Option ReadLine) (a : Option Answer) (t : Option TakenValue)
    → a ≡ None → ShowsLine line a t → t ≡ None
not_shown line None t e h = h
not_shown line (Some a) t e h = absurd cc

module _ (old new : ClientValue) (piece : List ℕ) (h : HeardLine) (r : ReadsPiece old new piece h)
    (used : ℕ) (same : used ≡ h.used) (t : Option TakenValue) (shows : ShowsLine new.lines.line h.answer t) where
  -- online the line that is shown is the one that the client keeps
  online_line : old.session.online ≡ true → new.lines.line ≡ line_of_taken t
  online_line on = same_line old.session new.session new.lines.line h.answer t (r.online on).answers shows

  -- what is shown is the answer
  abbrev s : Same new.lines.line h.answer t
  s = same_shown new.lines.line h.answer t shows

  -- the bytes that were taken are an input, and what is shown has its commands
  does_taken : Does old new (Piece (take used piece)) (commands_of t)
  does_taken = subst (λ n. Does old new (Piece (take n piece)) (commands_of t))
      (sym same) (subst (λ l. Does old new (Piece (take h.used piece)) l) s.commands (does old new piece h r))

  -- what is shown is the whole answer to the bytes
  answers_taken : FeedAnswers old piece used t
  answers_taken = record {
    hands = λ x at. does_taken.hands x at;
    uses = λ x at on.
        let o = is_on old new piece h r x at ∙ on in
        subst (λ l. Gains x.stream piece used l) (online_line o) (subst (λ n. Gains x.stream piece n new.lines.line)
        (sym same) ((r.online o).gains x.stream (lines_at old x at)));
    offline = λ x at off. let o = is_on old new piece h r x at ∙ off in
        (same ∙ (r.offline o).used, not_shown new.lines.line h.answer t (r.offline o).answer shows);
    reading = s.reading;
    confirms = λ x at on. sym s.confirmed
        ∙ confirms old new piece h r x at ∙ ap (line_confirms x) (online_line (is_on old new piece h r x at ∙ on));
    rolls = λ x at on. sym s.rolled
        ∙ rolls old new piece h r x at ∙ ap (line_rolls x) (online_line (is_on old new piece h r x at ∙ on));
  }

-- what both halves say together

-- reading and then asking for what was heard is an input of the bytes that were taken
pub feed_does : (old new : ClientValue) (piece : List ℕ) (h : HeardLine)
    → ReadsPiece old new piece h → (used : ℕ) → used ≡ h.used → (t : Option TakenValue) → Shows new h t
    → Does old new (Piece (take used piece)) (commands_of t)
unfolding Shows
feed_does old new piece h r used same t shows = does_taken old new piece h r used same t shows

-- reading and then asking for what was heard gives the whole answer
pub feed_answers : (old new : ClientValue) (piece : List ℕ) (h : HeardLine)
    → ReadsPiece old new piece h → (used : ℕ) → used ≡ h.used → (t : Option TakenValue) → Shows new h t
    → FeedAnswers old piece used t
unfolding Shows
feed_answers old new piece h r used same t shows = answers_taken old new piece h r used same t shows
