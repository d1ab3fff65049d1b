-- What the client does at an event while it stays connected: it notes entries of the open connection, and hands out
-- commands there.
use Rattle.std.proofs.Common.{◌≡◌, ℕ, ◌<◌, ◌≤◌, Bool, true, false, not, List, [], ◌∷◌, ◌++◌, Option, Some, None, nat_eq, take, flat_map, refl, sym, ◌∙◌, ap, subst, inl, inr, append-nil, append_assoc, if◌then◌else◌, arith}
use Rattle.std.proofs.lemmas.Bool.Decides.{eqb_tells}
use Rattle.std.proofs.lemmas.List.Concat.{flat_map-append}
use Rattle.std.proofs.lemmas.Option.{same_Some}
use Rattle.fibs_game.specs.declared.refusal.Refusal.{Refusal}
use Rattle.fibs_game.specs.declared.world_refusal.WorldRefusal.TheVariants.{NotOpen}
use Rattle.fibs_game.specs.Game.{Game, Says, welcomes, informs, shows, says_nothing}
use Rattle.fibs_game.specs.Hearing.{Heard, heard, line_says, nothing_heard, shown_entries, shows_board}
use Rattle.fibs_game.specs.Log.{Entry, Welcomed, Informed, Shown, Clicked, Sent, Took, Undone, Ordered, Withdrawn}
use Rattle.fibs_game.specs.Machine.{Talk, Outcome, InputValue, step, stays, hears, hears_all, heard_by, with_bytes, is_online, clicks_by, decides_on, sends_plain, notes_if, gained, wire_of, plain_refusal, order_refusal, withdraw_refusal}
use Rattle.fibs_game.specs.Machine as M
use Rattle.fibs_game.specs.Orders.{is_due}
use Rattle.fibs_game.specs.Words.{one_if, last, open_from, open_now, opened_by, connections, shown, shown_by, answer}
use Rattle.fibs_game.specs.Events.{Event, Open, Click, Plain, Deliver, Lose, Serve, Own, Repeat, Text, Order, Withdraw}
use Rattle.fibs_game.specs.Headline.{AllAtMost}
use Rattle.fibs_game.specs.Refusals.{refusal}
use Rattle.fibs_game.specs.Talks.{IsWorld, input_of}
use Rattle.fibs_game.specs.Wires.{Link, delivered, more_asked}
use Rattle.fibs_game.specs.World.{World, after, client_does, linked, talk_of}
use Rattle.fibs_game.proofs.Refusing.{is_open, said}
use Rattle.fibs_game.proofs.Stepping.{asked_none, at_it, elsewhere, no_more, linked_own, newest, stays_world}
use Rattle.fibs_game.proofs.past.Lists.{other_number}
use Rattle.fibs_game.proofs.past.Past.{open_append}
use Rattle.fibs_game.proofs.past.Words.{yes}
use Rattle.fibs_game.proofs.log.Numbers.{at_most_both}
use Rattle.fibs_game.proofs.wires.Boards.{board_of, boards}

module _ (G : Game) where
  -- no elements under a test
  pub there_none : {A : Type 0} (z : Bool) → ◌≡◌ {A = List A} (if z then [] else []) []
  there_none true = refl
  there_none false = refl

  -- elements of two parts under a test
  pub there_both : {A : Type 0} (z : Bool) (xs ys : List A)
      → (if z then xs ++ ys else []) ≡ (if z then xs else []) ++ (if z then ys else [])
  there_both true xs ys = refl
  there_both false xs ys = refl

  -- none of the entries is an answer of the server's to a decision
  abbrev pub NoAnswers : List (Entry G) → Type 0
  NoAnswers [] = Unit {0}
  NoAnswers (Took c b d ∷ later) = ⊥
  NoAnswers (Undone c b d ∷ later) = ⊥
  NoAnswers (e ∷ later) = NoAnswers later

  -- none in two parts of a log
  pub none_append : (xs ys : List (Entry G)) → NoAnswers xs → NoAnswers ys → NoAnswers (xs ++ ys)
  none_append [] ys h k = k
  none_append (Took c b d ∷ xs) ys h k = absurd h
  none_append (Undone c b d ∷ xs) ys h k = absurd h
  none_append (e ∷ xs) ys h k = none_append xs ys h k

  -- entries of the client on the connection c, which open and end none, and show these boards there
  pub record Clients (c : ℕ) (bs : List G.Board) (es : List (Entry G)) : Type 0 where
    pub opens : (o : ℕ) → open_from o es ≡ o
    pub none : NoAnswers es
    pub opens_none : flat_map opened_by es ≡ []
    pub counted : (n : ℕ) → c ≤ n → AllAtMost n es
    pub shows : (d : ℕ) → shown d es ≡ (if nat_eq c d then bs else [])

  -- entries of which none is a board
  pub no_board : (c : ℕ) (es : List (Entry G)) → ((o : ℕ) → open_from o es ≡ o) → NoAnswers es
      → flat_map opened_by es ≡ [] → ((n : ℕ) → c ≤ n → AllAtMost n es) → ((d : ℕ) → shown d es ≡ []) → Clients c [] es
  no_board c es o n h k s = record {
    opens = o;
    none = n;
    opens_none = h;
    counted = k;
    shows = λ d. s d ∙ sym (there_none {A = G.Board} (nat_eq c d));
  }

  -- no entries
  clients_none : (c : ℕ) → Clients c [] []
  clients_none c = no_board c [] (λ o. refl) tt refl (λ n le. tt) (λ d. refl)

  -- entries in two parts
  clients_both : (c : ℕ) (bs cs : List G.Board) (es fs : List (Entry G)) → Clients c bs es → Clients c cs fs
      → Clients c (bs ++ cs) (es ++ fs)
  clients_both c bs cs es fs a b = record {
    opens = λ o. open_append G o es fs ∙ ap (λ n. open_from n fs) (a.opens o) ∙ b.opens o;
    none = none_append es fs a.none b.none;
    opens_none = flat_map-append opened_by es fs ∙ ap (λ l. l ++ flat_map opened_by fs) a.opens_none ∙ b.opens_none;
    counted = λ n le. at_most_both G n es fs (a.counted n le) (b.counted n le);
    shows = λ d.
        flat_map-append (shown_by d) es fs ∙ ap (λ l. l ++ shown d fs) (a.shows d)
        ∙ ap (λ l. (if nat_eq c d then bs else []) ++ l) (b.shows d) ∙ sym (there_both (nat_eq c d) bs cs);
  }

  -- a board that is shown, with or without a roll
  clients_shown : (c : ℕ) (b : G.Board) (rolls : Bool) → Clients c (b ∷ []) (shown_entries c b rolls)
  clients_shown c b rolls = go rolls
    where
      one : (z : Bool) → one_if z b ++ [] ≡ (if z then b ∷ [] else [])
      one true = refl
      one false = refl

      go : (rolls : Bool) → Clients c (b ∷ []) (shown_entries c b rolls)
      go true =
          record {
            opens = λ o. refl;
            none = tt;
            opens_none = refl;
            counted = λ n le. (le, (le, tt));
            shows =
                λ d. one (nat_eq c d);
          }
      go false = record {
        opens = λ o. refl;
        none = tt;
        opens_none = refl;
        counted = λ n le. (le, tt);
        shows =
            λ d. one (nat_eq c d);
      }

  -- what is noted of a line that is heard
  pub clients_heard : (c : ℕ) (log : List (Entry G)) (x : (Says G.Board G.Info)) → Clients c (board_of G x)
      (heard c log x).entries
  clients_heard c log (shows b) = go (G.good b)
    where
      go : (z : Bool) → Clients c (one_if z b)
          (if z then shows_board c log b (is_due c (log ++ Shown c b ∷ []) b) else nothing_heard).entries
      go true = clients_shown c b (is_due c (log ++ Shown c b ∷ []) b)
      go false = clients_none c
  clients_heard c log welcomes = no_board c (Welcomed c ∷ []) (λ o. refl) tt refl (λ n le. (le, tt)) (λ d. refl)
  clients_heard c log (informs m) = no_board c (Informed c (G.flags m) ∷ []) (λ o. refl) tt refl (λ n le. (le, tt))
      (λ d. refl)
  clients_heard c log says_nothing = clients_none c

  -- ---- a step of the client's machine, while it stays connected

  -- Entries of the open connection are noted, which show these boards, and commands go out there.
  pub record Goes (t : Talk G) (bs : List G.Board) (bytes : List ℕ) (s : Outcome G) : Type 0 where
    pub login : s.talk.login ≡ t.login
    pub stream : s.talk.stream ≡ bytes
    pub more : List (Entry G)
    pub log : s.talk.log ≡ t.log ++ more
    pub clients : Clients (open_now t.log) bs more
    pub said : s.talk.commands ≡ t.commands ++ s.send
    pub offline : open_now t.log ≡ 0 → s.send ≡ []

  -- nothing is done
  goes_nowhere : (t : Talk G) → Goes t [] t.stream (stays t)
  goes_nowhere t = record {
    login = refl;
    stream = refl;
    more = [];
    log = sym (append-nil t.log);
    clients = clients_none (open_now t.log);
    said = sym (append-nil t.commands);
    offline = λ z. refl;
  }

  -- entries are noted, and commands handed out
  goes_noted : (t : Talk G) (es : List (Entry G)) (ts : List (List ℕ)) → Clients (open_now t.log) [] es
      → (open_now t.log ≡ 0 → ts ≡ []) → Goes t [] t.stream (M.does t es ts)
  goes_noted t es ts k none =
      record { login = refl; stream = refl; more = es; log = refl; clients = k; said = refl; offline = none }

  -- lines are heard, one after another
  goes_hears : (ls : List G.Line) (t : Talk G) → 0 < open_now t.log → Goes t (boards G ls) t.stream (hears_all t ls)
  unfolding hears_all
  goes_hears [] t some = goes_nowhere t
  goes_hears (l ∷ ls) t some =
      let h : Heard G = heard_by t l in
      let x : Says G.Board G.Info = line_says G l in
      let k = clients_heard (open_now t.log) t.log x in
      let here : open_now (t.log ++ h.entries) ≡ open_now t.log =
      open_append G 0 t.log h.entries ∙ k.opens (open_now t.log) in
      let r = goes_hears ls (hears t h).talk (subst (λ n. 0 < n) (sym here) some) in
      record {
        login = r.login;
        stream = r.stream;
        more = h.entries ++ r.more;
        log = r.log ∙ append_assoc t.log h.entries r.more;
        clients = clients_both (open_now t.log) (board_of G x) (boards G ls) h.entries r.more k
            (subst (λ c. Clients c (boards G ls) r.more) here r.clients);
        said = r.said ∙ append_assoc t.commands h.send (hears_all (hears t h).talk ls).send;
        offline = λ z. absurd (omega arith);
      }

  -- a click is answered
  pub goes_click : (t : Talk G) (d : G.Decision) → Goes t [] t.stream (step t (M.Click d))
  goes_click t d = go (answer t.log d) refl
    where
      on : 0 < open_now t.log → (o : Option G.Board) → Goes t [] t.stream (decides_on t d o)
      on some None = goes_nowhere t
      on some (Some b) =
          goes_noted t (Clicked (open_now t.log) d None ∷ Sent (open_now t.log) b d ∷ []) (G.command b d ∷ [])
          (no_board (open_now t.log) _ (λ o. refl) tt refl (λ n le. (le, (le, tt))) (λ d. refl))
          (λ z. absurd (omega arith))

      go : (a : Option Refusal) → answer t.log d ≡ a → Goes t [] t.stream (clicks_by t d a)
      go (Some why) e =
          goes_noted t (Clicked (open_now t.log) d (Some why) ∷ []) []
          (no_board (open_now t.log) _ (λ o. refl) tt refl (λ n le. (le, tt)) (λ d. refl)) (λ z. refl)
      go None e = on (yes G t.log d e).some (last (shown (open_now t.log) t.log))

  -- a plain command is sent, unless it is refused
  pub goes_plain : (t : Talk G) (p : G.Plain) → Goes t [] t.stream (step t (M.PlainInput p))
  goes_plain t p = go (plain_refusal t p) refl
    where
      go : (o : Option G.Fault) → plain_refusal t p ≡ o → Goes t [] t.stream (sends_plain t p o)
      go (Some why) e = goes_nowhere t
      go None e =
          let some = (said G t p e).0 in
          goes_noted t [] (G.plain p ∷ []) (clients_none (open_now t.log)) (λ z. absurd (omega arith))

  -- an order is given or withdrawn, unless it is refused
  pub goes_if : (t : Talk G) (e : Entry G) (o : Option Refusal) → Clients (open_now t.log) [] (e ∷ [])
      → Goes t [] t.stream (notes_if t e o)
  goes_if t e (Some why) k = goes_nowhere t
  goes_if t e None k = goes_noted t (e ∷ []) [] k (λ z. refl)

  -- bytes are read
  goes_reads : (t : Talk G) (bytes : List ℕ) → 0 < open_now t.log
      → Goes t (boards G (gained G t.stream bytes)) (t.stream ++ bytes) (step t (M.Piece bytes))
  goes_reads t bytes some =
      subst (Goes t (boards G (gained G t.stream bytes)) (t.stream ++ bytes)) (sym (ap step_if on))
      (let k = goes_hears (gained G t.stream bytes) (with_bytes t bytes) some in record {
        login = k.login;
        stream = k.stream;
        more = k.more;
        log = k.log;
        clients = k.clients;
        said = k.said;
        offline = k.offline;
      })
    where
      on : is_online t ≡ true
      on = ap not (other_number (open_now t.log) 0 (λ e. absurd (omega arith)))

      step_if : Bool → Outcome G
      step_if b = if b then hears_all (with_bytes t bytes) (gained G t.stream bytes) else stays t

  -- machines with the same parts are the same
  pub talk_path : (n n' : List ℕ) (l l' : List (Entry G)) (s s' : List ℕ) (c c' : List (List ℕ)) → n ≡ n' → l ≡ l'
      → s ≡ s'
      → c ≡ c' → ◌≡◌ {A = Talk G} (record { login = n; log = l; stream = s; commands = c })
      (record { login = n'; log = l'; stream = s'; commands = c' })
  talk_path n n' l l' s s' c c' h k m o = cc

  -- the client's machine in the world after a step is the step's
  pub talk_is : (login : List ℕ) (w : World G) (moves : Link → Link) (s : Outcome G) → s.talk.login ≡ login
      → (moves (w.links (connections s.talk.log))).heard ≡ s.talk.stream → talk_of login (client_does w moves s)
      ≡ s.talk
  talk_is login w moves s l h =
      talk_path login s.talk.login s.talk.log s.talk.log _ s.talk.stream _ s.talk.commands (sym l) refl
      (ap (λ (x : Link). x.heard) (at_it G (connections s.talk.log) _ _) ∙ h) (at_it G (connections s.talk.log) _ _)

  -- ---- the world beside it

  -- What the client does: entries of the open connection are noted, which show these boards, and commands go out there.
  pub record Does (bs : List G.Board) (w w' : World G) : Type 0 where
    pub board : w'.board ≡ w.board
    pub logged_in : w'.logged_in ≡ w.logged_in
    pub count : w'.count ≡ w.count
    pub here : open_now w'.log ≡ open_now w.log
    pub more : List (Entry G)
    pub log : w'.log ≡ w.log ++ more
    pub clients : Clients (open_now w.log) bs more
    pub texts : ℕ → List (List ℕ)
    pub none : (c : ℕ) → (c ≡ open_now w.log → ⊥) → texts c ≡ []
    pub said : (c : ℕ) → w'.commands c ≡ w.commands c ++ texts c
    pub link : (c : ℕ) → w'.links c ≡ more_asked (w.links c) (wire_of (texts c))

  -- nothing is done
  pub does_nothing : (w : World G) → Does [] w w
  does_nothing w = record {
    board = refl;
    logged_in = refl;
    count = refl;
    here = refl;
    more = [];
    log = sym (append-nil w.log);
    clients = clients_none (open_now w.log);
    texts = λ c. [];
    none = λ c n. refl;
    said = λ c. sym (append-nil (w.commands c));
    link = λ c. asked_none (w.links c);
  }

  -- so does the world at a step of its client, after what the event does to the wires
  does_step : (login : List ℕ) (w : World G) (moves : Link → Link) (bs : List G.Board) (bytes : List ℕ) (s : Outcome G)
      → IsWorld w → Goes (talk_of login w) bs bytes s
      → Does bs (linked w w.count (moves (w.links w.count))) (client_does w moves s)
  does_step login w moves bs bytes s i g = record {
    board = refl;
    logged_in = refl;
    count = same;
    here = ap open_now g.log ∙ open_append G 0 w.log g.more ∙ g.clients.opens (open_now w.log);
    more = g.more;
    log = g.log;
    clients = g.clients;
    texts = texts;
    none = λ c n. elim i.newest [
      | inl z ↦ ap (λ ts. if nat_eq c w.count then ts else []) (g.offline z) ∙ there_none {A = List ℕ}
          (nat_eq c w.count)
      | inr z ↦ elsewhere G c w.count s.send [] (λ e. n (e ∙ sym z))
    ];
    said = λ c.
        subst (λ n. (if nat_eq c n then s.talk.commands else w.commands c) ≡ w.commands c ++ texts c) (sym same)
        (elim (eqb_tells c w.count) [
          | inl e ↦ rw e.0 (g.said ∙ ap (λ n. w.commands n ++ s.send) (sym e.1))
          | inr n ↦ rw n.0 (sym (append-nil (w.commands c)))
        ]);
    link = λ c.
        subst (λ n. (if nat_eq c n then more_asked (moves (w.links n)) (wire_of s.send) else w.links c)
        ≡ more_asked ((linked w w.count (moves (w.links w.count))).links c) (wire_of (texts c))) (sym same)
        (elim (eqb_tells c w.count) [ inl e ↦ rw e.0 refl | inr n ↦ rw n.0 (asked_none (w.links c)) ]);
  }
    where
      same : connections s.talk.log ≡ w.count
      same = ap connections g.log ∙ no_more G w.log g.more g.clients.opens_none ∙ i.counted

      texts : ℕ → List (List ℕ)
      texts c = if nat_eq c w.count then s.send else []

  -- an event of the client's, while it stays connected
  abbrev pub IsClients : Event G → Type 0
  IsClients Open = ⊥
  IsClients (Lose k) = ⊥
  IsClients (Serve c d1 d2) = ⊥
  IsClients (Own b) = ⊥
  IsClients Repeat = ⊥
  IsClients (Text t) = ⊥
  IsClients e = Unit {0}

  -- the lines that come whole by it
  abbrev pub lines_at : World G → Event G → List G.Line
  lines_at w (Deliver n) = gained G (w.links (open_now w.log)).heard (take n (w.links (open_now w.log)).coming)
  lines_at w e = []

  -- the world in which the bytes that it delivers are with the client
  abbrev pub given : World G → Event G → World G
  given w (Deliver n) = linked w (open_now w.log) (delivered (w.links (open_now w.log)) n)
  given w e = w

  -- such an event is a step of the client's machine
  record IsStep (login : List ℕ) (w : World G) (e : Event G) : Type 0 where
    moves : Link → Link
    input : InputValue G
    is_input : input_of w e ≡ Some input
    is : after login w e ≡ client_does w moves (step (talk_of login w) input)
    begins : given w e ≡ linked w w.count (moves (w.links w.count))
    bytes : List ℕ
    heard : (moves (w.links w.count)).heard ≡ bytes
    goes : Goes (talk_of login w) (boards G (lines_at w e)) bytes (step (talk_of login w) input)

  -- one that changes no wire before it
  plain_step : (login : List ℕ) (w : World G) (e : Event G) (i : InputValue G) → input_of w e ≡ Some i
      → after login w e ≡ client_does w (λ l. l) (step (talk_of login w) i) → given w e ≡ w → lines_at w e ≡ []
      → Goes (talk_of login w) [] (w.links w.count).heard (step (talk_of login w) i) → IsStep login w e
  plain_step login w e i in_is is same none g = record {
    moves = λ l. l;
    input = i;
    is_input = in_is;
    is = is;
    begins = same ∙ sym (linked_own G w w.count);
    bytes = (w.links w.count).heard;
    heard = refl;
    goes = subst (λ ls. Goes (talk_of login w) (boards G ls) (w.links w.count).heard (step (talk_of login w) i))
        (sym none) g;
  }

  -- each of them is
  is_step : (login : List ℕ) (w : World G) (e : Event G) → IsWorld w → refusal w e ≡ None → IsClients e
      → IsStep login w e
  is_step login w (Click d) i h k = plain_step login w (Click d) (M.Click d) refl refl refl refl
      (goes_click (talk_of login w) d)
  is_step login w (Plain p) i h k =
      plain_step login w (Plain p) (M.PlainInput p) refl refl refl refl (goes_plain (talk_of login w) p)
  is_step login w (Deliver n) i h k =
      let some : 0 < open_now w.log = is_open G NotOpen _ h in
      let here : open_now w.log ≡ w.count = newest G w i some in
      record {
        moves = λ l. delivered l n;
        input = M.Piece (take n (w.links w.count).coming);
        is_input = refl;
        is = refl;
        begins = ap (λ c. linked w c (delivered (w.links c) n)) here;
        bytes = (w.links w.count).heard ++ take n (w.links w.count).coming;
        heard = refl;
        goes = subst (λ c. Goes (talk_of login w) (boards G (gained G (w.links c).heard (take n (w.links c).coming)))
            ((w.links w.count).heard ++ take n (w.links w.count).coming)
            (step (talk_of login w) (M.Piece (take n (w.links w.count).coming)))) (sym here)
            (goes_reads (talk_of login w) (take n (w.links w.count).coming) some);
      }
  is_step login w Order i h k =
      plain_step login w Order M.Order refl refl refl refl
      (goes_if (talk_of login w) (Ordered (open_now w.log)) (order_refusal w.log)
      (no_board (open_now w.log) _ (λ o. refl) tt refl (λ n le. (le, tt)) (λ d. refl)))
  is_step login w Withdraw i h k =
      plain_step login w Withdraw M.Withdraw refl refl refl refl
      (goes_if (talk_of login w) (Withdrawn (open_now w.log)) (withdraw_refusal w.log)
      (no_board (open_now w.log) _ (λ o. refl) tt refl (λ n le. (le, tt)) (λ d. refl)))
  is_step login w e i h k = absurd k

  -- what the client does at it
  pub does : (login : List ℕ) (w : World G) (e : Event G) → IsWorld w → refusal w e ≡ None → IsClients e
      → Does (boards G (lines_at w e)) (given w e) (after login w e)
  does login w e i h k =
      let s = is_step login w e i h k in
      subst (λ v. Does (boards G (lines_at w e)) v (after login w e)) (sym s.begins)
      (subst (Does (boards G (lines_at w e)) (linked w w.count (s.moves (w.links w.count)))) (sym s.is)
      (does_step login w s.moves (boards G (lines_at w e)) s.bytes (step (talk_of login w) s.input) i s.goes))

  -- the world after it is one
  pub does_sound : (login : List ℕ) (w : World G) (e : Event G) → IsWorld w → refusal w e ≡ None → IsClients e
      → IsWorld (after login w e)
  does_sound login w e i h k =
      let s = is_step login w e i h k in
      let a = does_step login w s.moves (boards G (lines_at w e)) s.bytes (step (talk_of login w) s.input) i s.goes in
      subst IsWorld (sym s.is)
      (stays_world G w (client_does w s.moves (step (talk_of login w) s.input)) a.more i a.log a.count
      a.clients.opens_none
      (a.clients.opens (open_now w.log))
      (λ d lt. let other : d ≡ w.count → ⊥ = λ e. absurd (omega arith) in
      ap (λ (x : Link). x.heard) (a.link d)
      ∙ ap (λ (x : Link). x.heard) (elsewhere G d w.count (s.moves (w.links w.count)) (w.links d) other))
      (λ d lt. a.said d ∙ ap (λ ts. w.commands d ++ ts)
      (a.none d (λ e. elim i.newest [ inl z ↦ absurd (omega arith) | inr z ↦ absurd (omega arith) ]))
      ∙ append-nil (w.commands d)))

  -- and its client's machine is the step's
  pub does_talk : (login : List ℕ) (w : World G) (e : Event G) (i : InputValue G) → IsWorld w → refusal w e ≡ None
      → IsClients e → input_of w e ≡ Some i → talk_of login (after login w e) ≡ (step (talk_of login w) i).talk
  does_talk login w e i world h k in_is =
      let s = is_step login w e world h k in
      let o : Outcome G = step (talk_of login w) s.input in
      let same : connections o.talk.log ≡ w.count =
      ap connections s.goes.log ∙ no_more G w.log s.goes.more s.goes.clients.opens_none ∙ world.counted in
      subst (λ j. talk_of login (after login w e) ≡ (step (talk_of login w) j).talk)
      (same_Some s.input i (sym s.is_input ∙ in_is))
      (ap (talk_of login) s.is
      ∙ talk_is login w s.moves o s.goes.login
      (ap (λ n. (s.moves (w.links n)).heard) same ∙ s.heard ∙ sym s.goes.stream))
