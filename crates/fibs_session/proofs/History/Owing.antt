-- What a piece makes a client hand out and note is taken from what is owed.
use Rattle.std.proofs.Common.{◌≡◌, ◌≤◌, ◌+◌, ℕ, Bool, true, false, List, [], ◌∷◌, ◌++◌, length, None, if◌then◌else◌, refl, sym, ◌∙◌, ap, arith, append-nil, ◌*◌, suc, true≢false}
use Rattle.std.proofs.lemmas.List.{length-append}
use Rattle.std.proofs.lemmas.List.Concat.{flat_map-append}
use Rattle.fibs_lines.specs.Lines.{ReadLine}
use Rattle.fibs_fields.specs.Board.{BoardFields}
use Rattle.fibs_messages.specs.Flags.{autoboard, moreboards}
use Rattle.fibs_messages.specs.Line.{ReadingValue}
use Rattle.fibs_messages.specs.Message.{MessageValue}
use Rattle.fibs_position.specs.GoodBoard.{good}
use Rattle.fibs_position.specs.DecisionValue.{roll}
use Rattle.fibs_position.specs.DirectionOf.{direction_of}
use Rattle.fibs_position.specs.declared.direction.Direction.{Direction}
use Rattle.fibs_commands.specs.FirstCommands.{style_text, autoboard_text, moreboards_text, board_text}
use Rattle.fibs_commands.specs.Commands.{command_of}
use Rattle.fibs_session.specs.Fibs.{fibs}
use Rattle.fibs_session.specs.History.Hearing.{Heard, heard, flags_of, initial_commands, line_reading, nothing_heard, shows_board, heard_says, says}
use Rattle.fibs_game.specs.Game.{Says, welcomes, informs, shows, says_nothing}
use Rattle.fibs_session.specs.History.Log.{Entry, Welcomed, Informed, Shown, Sent}
use Rattle.fibs_session.specs.History.Machine.{Talk, stays, hears, hears_all, heard_by, is_online, with_bytes, gained, on_wire, wire_of, ordered_now}
use Rattle.fibs_session.specs.History.Owing.{owed_on, owed, PiecesTakeFromWhatIsOwed, entries_owed, PiecesTakeFromTheEntriesOwed}
use Rattle.fibs_session.specs.History.Orders.{is_due}
use Rattle.fibs_session.specs.History.Words.{is_empty, open_now, welcomed, informed, welcomed_by, informed_by, last, is_ordered, orders, is_given, orders_by}
use Rattle.fibs_session.proofs.History.Joins.{hears_open}
use Rattle.fibs_game.proofs.past.Lists.{map_more, map_no_more, snoc_not_empty}
use Rattle.fibs_game.proofs.past.Words.{own}
use Rattle.fibs_session.proofs.History.Due.{due_stands}

-- bytes of commands
cost : List (List ℕ) → ℕ
cost texts = length (wire_of texts)

-- two lists of commands cost what both do
cost_append : (xs ys : List (List ℕ)) → cost (xs ++ ys) ≡ cost xs + cost ys
unfolding cost
cost_append xs ys = ap length (flat_map-append on_wire xs ys) ∙ length-append (wire_of xs) (wire_of ys)

-- `set boardstyle 3` with its line end has 18 bytes
cost_style : cost (style_text ∷ []) ≡ 18
unfolding cost style_text
cost_style = refl

-- `roll` with its line end has 6 bytes, whichever way the player goes
cost_roll : (direction : Direction) → cost (command_of direction roll ∷ []) ≡ 6
unfolding cost command_of
cost_roll direction = refl

-- no command costs nothing
cost_nothing : cost [] ≡ 0
unfolding cost
cost_nothing = refl

-- the answer to message 2
cost_initial : (a b : Bool)
    → cost ((if a then [] else autoboard_text ∷ []) ++ (if b then [] else moreboards_text ∷ []) ++ board_text ∷ []) ≤ 44
unfolding cost autoboard_text moreboards_text board_text
cost_initial true true = omega (arith)
cost_initial true false = omega (arith)
cost_initial false true = omega (arith)
cost_initial false false = omega (arith)

-- what an answer takes from what is owed, and that no line changes the order
record Takes (c : ℕ) (log : List Entry) (h : Heard) : Type 0 where
  pub bytes : cost h.send + owed_on c (log ++ h.entries) ≤ owed_on c log + (if is_ordered c log then 6 else 0)
  pub entries : length h.entries ≤ (if is_ordered c log then 2 else 1)
  pub same : orders c h.entries ≡ []

-- an answer of the first messages, and every one without an order
takes_plain : (c : ℕ) (log : List Entry) (h : Heard)
    → cost h.send + owed_on c (log ++ h.entries) ≤ owed_on c log → length h.entries ≤ 1 → orders c h.entries ≡ []
    → Takes c log h
takes_plain c log h p q e =
    record { bytes = more (is_ordered c log) _ _ p; entries = longer (is_ordered c log) _ q; same = e }
  where
    more : (b : Bool) (x y : ℕ) → x ≤ y → x ≤ y + (if b then 6 else 0)
    more true x y l = omega (arith, l)
    more false x y l = omega (arith, l)

    longer : (b : Bool) (x : ℕ) → x ≤ 1 → x ≤ (if b then 2 else 1)
    longer true x l = omega (arith, l)
    longer false x l = l

-- no entry is at most one
none_fits : 0 ≤ 1
none_fits = omega (arith)

-- one entry is at most one
one_fits : 1 ≤ 1
one_fits = omega (arith)

-- a choice of two answers takes from what is owed if both do
if_takes : (b : Bool) (c : ℕ) (log : List Entry) (g h : Heard)
    → Takes c log g → Takes c log h → Takes c log (if b then g else h)
if_takes true c log g h p q = p
if_takes false c log g h p q = q

-- an answer of nothing takes nothing
nothing_takes : (c : ℕ) (log : List Entry) → Takes c log nothing_heard
nothing_takes c log =
    takes_plain c log nothing_heard (omega (arith, cost_nothing, ap (owed_on c) (append-nil log))) none_fits refl

-- no flag of the connection is noted, or no welcome
quiet_owed : (c : ℕ) (log es : List Entry) → welcomed c (log ++ es) ≡ welcomed c log
    → informed c (log ++ es) ≡ informed c log → owed_on c (log ++ es) ≡ owed_on c log
quiet_owed c log es w i =
    ap (λ l. (if is_empty l then 18 else 0) + (if is_empty (informed c (log ++ es)) then 44 else 0)) w
    ∙ ap (λ l. (if is_empty (welcomed c log) then 18 else 0) + (if is_empty l then 44 else 0)) i

-- the answer to a message 1 takes its 18 bytes, and only at the connection's first
welcome_takes : (c : ℕ) (log : List Entry) → Takes c log (record {
  entries = Welcomed c ∷ [];
  send = if is_empty (welcomed c log) then style_text ∷ [] else [];
  confirmed = None;
  rolled = false;
})
welcome_takes c log =
    let es : List Entry = Welcomed c ∷ [] in
    let w : is_empty (welcomed c (log ++ es)) ≡ false =
    ap is_empty (map_more (welcomed_by c) log es (c ∷ []) ((own fibs) c c)) ∙ snoc_not_empty (welcomed c log) c in
    let i : informed c (log ++ es) ≡ informed c log = map_no_more (informed_by c) log es refl in
    let now : owed_on c (log ++ es) ≡ 0 + (if is_empty (informed c log) then 44 else 0) =
    ap (λ b. (if b then 18 else 0) + (if is_empty (informed c (log ++ es)) then 44 else 0)) w
    ∙ ap (λ l. 0 + (if is_empty l then 44 else 0)) i in
    takes_plain c log _
    (go (is_empty (welcomed c log)) (owed_on c (log ++ es)) (if is_empty (informed c log) then 44 else 0) now)
    one_fits refl
  where
    go : (b : Bool) (x y : ℕ) → x ≡ 0 + y → cost (if b then style_text ∷ [] else []) + x ≤ (if b then 18 else 0) + y
    go true x y e = omega (arith, e, cost_style)
    go false x y e = omega (arith, e, cost_nothing)

-- the answer to a message 2 takes its 44 bytes at most, and only at the connection's first
info_takes : (c : ℕ) (log : List Entry) (m : MessageValue)
    → Takes c log (record {
      entries = Informed c (flags_of m) ∷ [];
      send = if is_empty (informed c log) then initial_commands m else [];
      confirmed = None;
      rolled = false;
    })
info_takes c log m =
    let es : List Entry = Informed c (flags_of m) ∷ [] in
    let w : welcomed c (log ++ es) ≡ welcomed c log = map_no_more (welcomed_by c) log es refl in
    let i : is_empty (informed c (log ++ es)) ≡ false =
    ap is_empty (map_more (informed_by c) log es (flags_of m ∷ []) ((own fibs) c (flags_of m)))
    ∙ snoc_not_empty (informed c log) (flags_of m) in
    let now : owed_on c (log ++ es) ≡ (if is_empty (welcomed c log) then 18 else 0) + 0 =
    ap (λ b. (if is_empty (welcomed c (log ++ es)) then 18 else 0) + (if b then 44 else 0)) i
    ∙ ap (λ l. (if is_empty l then 18 else 0) + 0) w in
    takes_plain c log _
    (go (is_empty (informed c log)) (owed_on c (log ++ es)) (if is_empty (welcomed c log) then 18 else 0) now)
    one_fits refl
  where
    go : (b : Bool) (x y : ℕ) → x ≡ y + 0 → cost (if b then initial_commands m else []) + x ≤ y + (if b then 44 else 0)
    go true x y e = omega (arith, e, cost_initial (autoboard m) (moreboards m))
    go false x y e = omega (arith, e, cost_nothing)

-- a board, if a roll is sent only if an order is in force
shown_takes : (c : ℕ) (log : List Entry) (b : BoardFields) (rolls : Bool)
    → (rolls ≡ true → is_ordered c log ≡ true) → Takes c log (shows_board c log b rolls)
shown_takes c log b false f =
    let es : List Entry = Shown c b ∷ [] in
    takes_plain c log _ (omega (
      arith,
      cost_nothing,
      quiet_owed c log es
          (map_no_more (welcomed_by c) log es refl) (map_no_more (informed_by c) log es refl),
    )) one_fits refl
shown_takes c log b true f =
    let es : List Entry = Shown c b ∷ Sent c b roll ∷ [] in
    let q : owed_on c (log ++ es) ≡ owed_on c log = quiet_owed c log es
    (map_no_more (welcomed_by c) log es refl) (map_no_more (informed_by c) log es refl) in
    record {
      bytes = six (is_ordered c log) _ _ _ (f refl) (cost_roll (direction_of b)) q;
      entries = two (is_ordered c log) (f refl);
      same = refl;
    }
  where
    six : (o : Bool) (x y z : ℕ) → o ≡ true → x ≡ 6 → y ≡ z → x + y ≤ z + (if o then 6 else 0)
    six true x y z h p q = omega (arith, p, q)
    six false x y z h p q = absurd (true≢false (sym h))

    two : (o : Bool) → o ≡ true → 2 ≤ (if o then 2 else 1)
    two true h = omega (arith)
    two false h = absurd (true≢false (sym h))

-- what any line says takes from what is owed
says_takes : (c : ℕ) (log : List Entry) (x : Says BoardFields MessageValue) → Takes c log (heard_says c log x)
says_takes c log welcomes = welcome_takes c log
says_takes c log (informs m) = info_takes c log m
says_takes c log (shows b) = if_takes (good b) c log
    _ _ (shown_takes c log b (is_due c (log ++ Shown c b ∷ []) b) (due_stands c log b)) (nothing_takes c log)
says_takes c log says_nothing = nothing_takes c log

-- the answer to any line takes from what is owed
heard_takes : (c : ℕ) (log : List Entry) (r : ReadingValue) → Takes c log (heard c log r)
heard_takes c log r = says_takes c log (says r)

-- one line, with more to come

-- no line gives or withdraws a standing order
heard_ordered : (t : Talk) (r : ReadingValue) → ordered_now (hears t (heard_by t r)).talk ≡ ordered_now t
heard_ordered t r =
    let c = open_now t.log in
    let es = (heard_by t r).entries in
    ap (λ n. is_ordered n (t.log ++ es)) (hears_open t r)
    ∙ ap (λ l. is_given (last l)) (map_no_more (orders_by c) t.log es (heard_takes c t.log r).same)

-- the bytes that one line hands out are taken from what is owed for it
one_line : (t : Talk) (r : ReadingValue) (later : ℕ)
    → cost (heard_by t r).send + owed (hears t (heard_by t r)).talk later ≤ owed t (suc later)
one_line t r later =
    let c = open_now t.log in
    let log = t.log ++ (heard_by t r).entries in
    go (is_ordered c t.log) (ordered_now (hears t (heard_by t r)).talk) _ _ _ _
    (heard_takes c t.log r).bytes (ap (λ n. owed_on n log) (hears_open t r)) (heard_ordered t r)
  where
    go : (o o' : Bool) (x y y' z : ℕ) → x + y ≤ z + (if o then 6 else 0) → y' ≡ y → o' ≡ o
        → x + (y' + (if o' then 6 * later else 0)) ≤ z + (if o then 6 * suc later else 0)
    go true true x y y' z l e h = omega (arith, l, e)
    go false false x y y' z l e h = omega (arith, l, e)
    go true false x y y' z l e h = absurd (true≢false (sym h))
    go false true x y y' z l e h = absurd (true≢false h)

-- the entries that one line notes are taken from what is owed for it
one_entry : (t : Talk) (r : ReadingValue) (later : ℕ)
    → length (hears t (heard_by t r)).talk.log + entries_owed (hears t (heard_by t r)).talk later
    ≤ length t.log + entries_owed t (suc later)
one_entry t r later =
    let c = open_now t.log in
    go (is_ordered c t.log) (ordered_now (hears t (heard_by t r)).talk) _ _ _ (heard_takes c t.log r).entries
    (length-append t.log (heard_by t r).entries) (heard_ordered t r)
  where
    go : (o o' : Bool) (x y z : ℕ) → x ≤ (if o then 2 else 1) → z ≡ y + x → o' ≡ o
        → z + (if o' then 2 * later else later) ≤ y + (if o then 2 * suc later else suc later)
    go true true x y z l e h = omega (arith, l, e)
    go false false x y z l e h = omega (arith, l, e)
    go true false x y z l e h = absurd (true≢false (sym h))
    go false true x y z l e h = absurd (true≢false h)

-- all lines

-- zero added in front changes nothing
none_more : (n : ℕ) → 0 + n ≡ n
none_more n = omega (arith)

-- a successor moves out of a sum
one_more : (m n : ℕ) → suc m + n ≡ suc (m + n)
one_more m n = omega (arith)

-- the bytes that all lines hand out are taken from what is owed for them
all_lines : (t : Talk) (ls : List ReadLine) (later : ℕ)
    → cost (hears_all t ls).send + owed (hears_all t ls).talk later ≤ owed t (length ls + later)
unfolding hears_all
all_lines t [] later = omega (arith, cost_nothing, ap (owed t) (none_more later))
all_lines t (l ∷ ls) later =
    let h = heard_by t (line_reading l) in
    let rest = hears_all (hears t h).talk ls in
    omega (
      arith,
      one_line t (line_reading l) (length ls + later),
      all_lines (hears t h).talk ls later,
      cost_append h.send rest.send,
      ap (owed t) (one_more (length ls) later),
    )

-- the entries that all lines note are taken from what is owed for them
all_entries : (t : Talk) (ls : List ReadLine) (later : ℕ)
    → length (hears_all t ls).talk.log + entries_owed (hears_all t ls).talk later
    ≤ length t.log + entries_owed t (length ls + later)
unfolding hears_all
all_entries t [] later = omega (arith, ap (entries_owed t) (none_more later))
all_entries t (l ∷ ls) later =
    let h = heard_by t (line_reading l) in
    omega (
      arith,
      one_entry t (line_reading l) (length ls + later),
      all_entries (hears t h).talk ls later,
      ap (entries_owed t) (one_more (length ls) later),
    )

-- a piece

-- the bytes that a piece hands out are taken from what is owed
pub takes_from_owed : PiecesTakeFromWhatIsOwed
unfolding cost
takes_from_owed t bytes later = go (is_online t)
  where
    go : (b : Bool)
        → length (wire_of (if b then hears_all (with_bytes t bytes) (gained t.stream bytes) else stays t).send)
        + owed (if b then hears_all (with_bytes t bytes) (gained t.stream bytes) else stays t).talk later
        ≤ owed t ((if b then length (gained t.stream bytes) else 0) + later)
    go true = all_lines (with_bytes t bytes) (gained t.stream bytes) later
    go false = omega (arith, ap (owed t) (none_more later))

-- the entries that a piece notes are taken from what is owed
pub takes_from_entries : PiecesTakeFromTheEntriesOwed
takes_from_entries t bytes later = go (is_online t)
  where
    go : (b : Bool)
        → length (if b then hears_all (with_bytes t bytes) (gained t.stream bytes) else stays t).talk.log
        + entries_owed (if b then hears_all (with_bytes t bytes) (gained t.stream bytes) else stays t).talk later
        ≤ length t.log + entries_owed t ((if b then length (gained t.stream bytes) else 0) + later)
    go true = all_entries (with_bytes t bytes) (gained t.stream bytes) later
    go false = omega (arith, ap (entries_owed t) (none_more later))
