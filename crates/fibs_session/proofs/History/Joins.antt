-- Bytes may come in any pieces.
use Rattle.std.proofs.Common.{◌≡◌, ℕ, Bool, true, false, not, List, [], ◌∷◌, ◌++◌, length, drop, if◌then◌else◌, nat_eq, flat_map, refl, sym, ◌∙◌, ap, append_assoc, append-nil}
use Rattle.std.proofs.Math.Seq.{drop-append_seam, drop-length}
use Rattle.fibs_lines.specs.Lines.{ReadLine, lines_of}
use Rattle.fibs_lines.specs.StreamLaws.{LinesOnlyGrow}
use Rattle.fibs_messages.specs.Line.{ReadingValue, numbered_line}
use Rattle.fibs_fields.specs.Board.{BoardFields}
use Rattle.fibs_position.specs.GoodBoard.{good}
use Rattle.fibs_messages.specs.Message.{MessageValue}
use Rattle.fibs_game.specs.Game.{Says, welcomes, informs, shows, says_nothing}
use Rattle.fibs_session.specs.Fibs.{fibs}
use Rattle.fibs_session.specs.History.Log.{Entry, Shown}
use Rattle.fibs_session.specs.History.Words.{open_from, open_now, opened_by}
use Rattle.fibs_session.specs.History.Orders.{is_due}
use Rattle.fibs_session.specs.History.Hearing.{Heard, shows_board, line_reading, heard, heard_says, says}
use Rattle.fibs_session.specs.History.Machine.{Talk, Outcome, InputValue, run, step, stays, is_online, reads, hears, hears_all, heard_by, then_also, with_bytes, gained}
use Rattle.fibs_session.specs.History.MachineLaws.{PiecesJoin, EmptyPieceIsNothing, LinesOpenNoConnection}
use Rattle.fibs_game.proofs.past.Past.{open_append}

-- no line opens or ends a connection

-- an answer opens no connection and ends none
abbrev OpensNone : Heard → Type 0
OpensNone h = (flat_map opened_by h.entries ≡ []) × ((o : ℕ) → open_from o h.entries ≡ o)

-- a choice of two answers opens and ends no connection if neither does
if_opens_none : (b : Bool) (g h : Heard) → OpensNone g → OpensNone h → OpensNone (if b then g else h)
if_opens_none true g h p q = p
if_opens_none false g h p q = q

-- a board that is shown opens and ends no connection, with or without a roll
shows_opens_none : (c : ℕ) (log : List Entry) (b : BoardFields) (rolls : Bool) → OpensNone (shows_board c log b rolls)
shows_opens_none c log b true = (refl, λ o. refl)
shows_opens_none c log b false = (refl, λ o. refl)

-- nothing that a line says does
says_open_none : (c : ℕ) (log : List Entry) (x : Says BoardFields MessageValue) → OpensNone (heard_says c log x)
says_open_none c log welcomes = (refl, λ o. refl)
says_open_none c log (informs m) = (refl, λ o. refl)
says_open_none c log (shows b) = if_opens_none (good b)
    _ _ (shows_opens_none c log b (is_due c (log ++ Shown c b ∷ []) b)) (refl, λ o. refl)
says_open_none c log says_nothing = (refl, λ o. refl)

-- what is heard by a choice is a choice of what is heard
if_says : (c : ℕ) (log : List Entry) (b : Bool) (x y : Says BoardFields MessageValue)
    → heard_says c log (if b then x else y) ≡ (if b then heard_says c log x else heard_says c log y)
if_says c log true x y = refl
if_says c log false x y = refl

-- so a numbered message is heard by its number
pub message_heard : (c : ℕ) (log : List Entry) (m : MessageValue) → heard c log (numbered_line m)
    ≡ (if nat_eq m.number 1 then heard_says c log welcomes
    else (if nat_eq m.number 2 then heard_says c log (informs m) else heard_says c log says_nothing))
message_heard c log m =
    if_says c log (nat_eq m.number 1) welcomes (if nat_eq m.number 2 then informs m else says_nothing)
    ∙ ap (λ h. if nat_eq m.number 1 then heard_says c log welcomes else h)
    (if_says c log (nat_eq m.number 2) (informs m) says_nothing)

-- no line of the server opens or ends a connection
pub lines_open_none : LinesOpenNoConnection
lines_open_none c log r = says_open_none c log (says r)

-- the open connection is the same after one line
pub hears_open : (t : Talk) (r : ReadingValue) → open_now (t.log ++ (heard_by t r).entries) ≡ open_now t.log
hears_open t r =
    (open_append fibs) 0 t.log (heard_by t r).entries ∙ (lines_open_none (open_now t.log) t.log r).1 (open_now t.log)

-- the open connection is the same after many lines
pub all_open : (t : Talk) (ls : List ReadLine) → open_now (hears_all t ls).talk.log ≡ open_now t.log
unfolding hears_all
all_open t [] = refl
all_open t (l ∷ ls) = all_open (hears t (heard_by t (line_reading l))).talk ls ∙ hears_open t (line_reading l)

-- hearing lines leaves the bytes of the connection as they are
pub all_stream : (t : Talk) (ls : List ReadLine) → (hears_all t ls).talk.stream ≡ t.stream
unfolding hears_all
all_stream t [] = refl
all_stream t (l ∷ ls) = all_stream (hears t (heard_by t (line_reading l))).talk ls

-- lines in two parts are heard as all of them at once
all_append : (t : Talk) (ls ms : List ReadLine)
    → hears_all t (ls ++ ms) ≡ then_also (hears_all t ls).send (hears_all (hears_all t ls).talk ms)
unfolding hears_all
all_append t [] ms = refl
all_append t (l ∷ ls) ms =
    let h = heard_by t (line_reading l) in
    ap (then_also h.send) (all_append (hears t h).talk ls ms)
    ∙ ap (λ texts. the_step (hears_all (hears_all (hears t h).talk ls).talk ms).talk texts) (sym (append_assoc h.send
    (hears_all (hears t h).talk ls).send (hears_all (hears_all (hears t h).talk ls).talk ms).send))
  where
    the_step : Talk → List (List ℕ) → Outcome
    the_step talk texts = record { talk = talk; send = texts }

-- lines are heard whatever bytes follow
abbrev step_with : Outcome → List ℕ → Outcome
step_with s q = record { talk = with_bytes s.talk q; send = s.send }

-- lines are heard in the same way whatever bytes follow them
all_bytes : (t : Talk) (q : List ℕ) (ls : List ReadLine) → hears_all (with_bytes t q) ls ≡ step_with (hears_all t ls) q
unfolding hears_all
all_bytes t q [] = refl
all_bytes t q (l ∷ ls) = let h = heard_by t (line_reading l) in ap (then_also h.send) (all_bytes (hears t h).talk q ls)

module _ (grow : LinesOnlyGrow) where
  -- the lines that two pieces give are those of the first and then those of the second
  pub gained_more : (s p q : List ℕ) → gained s (p ++ q) ≡ gained s p ++ gained (s ++ p) q
  gained_more s p q =
      let a = grow s p in
      let b = grow (s ++ p) q in
      let first : gained s p ≡ a.0 = ap (drop (length (lines_of s))) a.1 ∙ drop-append_seam (lines_of s) a.0 in
      let second : gained (s ++ p) q ≡ b.0 =
      ap (drop (length (lines_of (s ++ p)))) b.1 ∙ drop-append_seam (lines_of (s ++ p)) b.0 in
      let whole : lines_of (s ++ (p ++ q)) ≡ lines_of s ++ (a.0 ++ b.0) =
      ap lines_of (sym (append_assoc s p q)) ∙ b.1 ∙ ap (λ l. l ++ b.0) a.1 ∙ append_assoc (lines_of s) a.0 b.0 in
      ap (drop (length (lines_of s))) whole ∙ drop-append_seam (lines_of s) (a.0 ++ b.0)
      ∙ ap (λ l. l ++ b.0) (sym first) ∙ ap (λ l. gained s p ++ l) (sym second)

  -- a piece in two parts is the first part and then the second
  pub pieces_join : PiecesJoin
  pieces_join t p q = go (is_online t) refl
    where
      with_if : Bool → Talk → List ℕ → Outcome
      with_if b t x = if b then hears_all (with_bytes t x) (gained t.stream x) else stays t

      go : (b : Bool) → is_online t ≡ b → reads t (p ++ q) ≡ then_also (reads t p).send (reads (reads t p).talk q)
      go false off =
          let one : (x : List ℕ) → reads t x ≡ stays t = λ x. ap (λ b. with_if b t x) off in
          one (p ++ q) ∙ ap (then_also []) (sym (one q)) ∙ ap (λ s. then_also s.send (reads s.talk q)) (sym (one p))
      go true on =
          let m1 : List ReadLine = gained t.stream p in
          let m2 : List ReadLine = gained (t.stream ++ p) q in
          let s1 : Outcome = hears_all (with_bytes t p) m1 in
          let first : reads t p ≡ s1 = ap (λ b. with_if b t p) on in
          let more : with_bytes t (p ++ q) ≡ with_bytes (with_bytes t p) q =
          ap (the_talk t) (sym (append_assoc t.stream p q)) in
          let online : is_online s1.talk ≡ true = ap (λ n. not (nat_eq n 0)) (all_open (with_bytes t p) m1) ∙ on in
          let later : reads s1.talk q ≡ hears_all (with_bytes s1.talk q) m2 =
          ap (λ b. with_if b s1.talk q) online
          ∙ ap (λ s. hears_all (with_bytes s1.talk q) (gained s q)) (all_stream (with_bytes t p) m1) in
          let all : reads t (p ++ q) ≡ then_also s1.send (hears_all (with_bytes s1.talk q) m2) =
          ap (λ b. with_if b t (p ++ q)) on
          ∙ ap (λ x. hears_all x (gained t.stream (p ++ q))) more
          ∙ ap (hears_all (with_bytes (with_bytes t p) q)) (gained_more t.stream p q)
          ∙ all_append (with_bytes (with_bytes t p) q) m1 m2
          ∙ ap (λ s. then_also s.send (hears_all s.talk m2)) (all_bytes (with_bytes t p) q m1) in
          all ∙ ap (then_also s1.send) (sym later) ∙ ap (λ s. then_also s.send (reads s.talk q)) (sym first)
        where
          the_talk : Talk → List ℕ → Talk
          the_talk t s = record { login = t.login; log = t.log; stream = s; commands = t.commands }

-- an empty piece changes nothing and hands out nothing
pub empty_piece : EmptyPieceIsNothing
unfolding hears_all
empty_piece t = go (is_online t)
  where
    the_talk : List ℕ → Talk
    the_talk s = record { login = t.login; log = t.log; stream = s; commands = t.commands }

    none : gained t.stream [] ≡ []
    none =
        ap (λ s. drop (length (lines_of t.stream)) (lines_of s)) (append-nil t.stream) ∙ drop-length (lines_of t.stream)

    go : (b : Bool) → (if b then hears_all (with_bytes t []) (gained t.stream []) else stays t) ≡ stays t
    go true = ap (hears_all (with_bytes t [])) none ∙ ap (λ s. stays (the_talk s)) (append-nil t.stream)
    go false = refl

-- lists of inputs

-- one more input is one step from where the inputs before it led
pub run_more : (t : Talk) (is : List InputValue) (i : InputValue)
    → (run t (is ++ i ∷ [])).talk ≡ (step (run t is).talk i).talk
unfolding run
run_more t [] i = refl
run_more t (j ∷ is) i = run_more (step t j).talk is i
