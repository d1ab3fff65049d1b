-- What the server does beside taking a line: it notes entries of its own, and sends a line to the client or none.
use Rattle.std.proofs.Common.{◌≡◌, ◌⊎◌, ℕ, ◌≤◌, List, [], ◌∷◌, ◌++◌, refl, sym, ◌∙◌, ap, subst, inl, inr, append-nil, flat_map}
use Rattle.std.proofs.lemmas.Bool.Decides.{eqb_tells}
use Rattle.fibs_game.specs.Log.{Entry}
use Rattle.fibs_game.specs.Log as L
use Rattle.fibs_game.specs.Machine.{on_wire}
use Rattle.fibs_game.specs.MachineLaws.{IsServers, logs_in, takes, undoes}
use Rattle.fibs_game.specs.Words.{open_from, open_now, opened_by, shown}
use Rattle.fibs_game.specs.Headline.{AllAtMost}
use Rattle.fibs_game.specs.Server.{Served, Stale, LoggedIn, Took, Undone, Answered}
use Rattle.fibs_game.specs.Wires.{Link, more_coming}
use Rattle.fibs_game.specs.World.{World, noted, sends, is_talking, does_served}
use Rattle.fibs_game.specs.Game.{Game}
use Rattle.fibs_game.proofs.Talks.{AllServers}
use Rattle.fibs_game.proofs.past.Past.{open_append}
use Rattle.fibs_game.proofs.joint.Sending.{if_fact}

module _ (G : Game) where
  -- what entries of the server say: they open and end no connection, and show no board
  pub record Aside (es : List (Entry G)) : Type 0 where
    pub opens : flat_map opened_by es ≡ []
    pub stays : (o : ℕ) → open_from o es ≡ o
    pub shows : (c : ℕ) → shown c es ≡ []

  -- each of them is so
  pub servers_aside : (es : List (Entry G)) → AllServers es → Aside es
  servers_aside [] h = record { opens = refl; stays = λ o. refl; shows = λ c. refl }
  servers_aside (e ∷ es) h = one e h.0 (servers_aside es h.1)
    where
      one : (e : Entry G) → IsServers G e → Aside es → Aside (e ∷ es)
      one e (logs_in c) k = record { opens = k.opens; stays = k.stays; shows = k.shows }
      one e (takes c b d) k = record { opens = k.opens; stays = k.stays; shows = k.shows }
      one e (undoes c b d) k = record { opens = k.opens; stays = k.stays; shows = k.shows }

  -- At a line of the connection c, or by itself, the server notes entries of its own; on each connection this line goes
  -- out, or none.
  pub record Answers (c : ℕ) (line : List ℕ) (w w' : World G) : Type 0 where
    pub count : w'.count ≡ w.count
    pub who : (w'.logged_in ≡ w.logged_in) ⊎ (w'.logged_in ≡ c)
    pub here : open_now w'.log ≡ open_now w.log
    pub more : List (Entry G)
    pub log : w'.log ≡ w.log ++ more
    pub servers : AllServers more
    pub counted : (n : ℕ) → c ≤ n → AllAtMost n more
    pub said : (d : ℕ) → w'.commands d ≡ w.commands d
    pub link : (d : ℕ) → (w'.links d ≡ w.links d) ⊎ (w'.links d ≡ more_coming (w.links d) (on_wire line))

  -- what does not depend on the bytes that come stays on all wires
  pub answers_keep : {A : Type 0} (f : Link → A) → ((l : Link) (bytes : List ℕ) → f (more_coming l bytes) ≡ f l)
      → (c : ℕ) (line : List ℕ) (w w' : World G) → Answers c line w w' → (d : ℕ) → f (w'.links d) ≡ f (w.links d)
  answers_keep f same c line w w' a d =
      elim (a.link d) [ inl e ↦ ap f e | inr e ↦ ap f e ∙ same (w.links d) (on_wire line) ]

  -- a line is sent after the server's board became b, and entries were noted
  pub answers_sends : (c : ℕ) (w : World G) (b : G.Board) (log es : List (Entry G)) (t : List ℕ) → log ≡ w.log ++ es
      → AllServers es → ((n : ℕ) → c ≤ n → AllAtMost n es) → Answers c t w (sends (record w { board = b; log = log }) t)
  answers_sends c w b log es t e servers counted =
      if_fact G (Answers c t w) (is_talking (record w { board = b; log = log })) _ _
      (λ z. record {
        count = refl;
        who = inl refl;
        here = here;
        more = es;
        log = e;
        servers = servers;
        counted = counted;
        said = λ d. refl;
        link = λ d. elim (eqb_tells d w.logged_in) [
          | inl s ↦ inr (rw s.0 (ap (λ x. more_coming (w.links x) (on_wire t)) (sym s.1)))
          | inr n ↦ inl (rw n.0 refl)
        ];
      })
      (λ z. record {
        count = refl;
        who = inl refl;
        here = here;
        more = es;
        log = e;
        servers = servers;
        counted = counted;
        said = λ d. refl;
        link = λ d. inl refl;
      })
    where
      here : open_now log ≡ open_now w.log
      here = ap open_now e ∙ open_append G 0 w.log es ∙ (servers_aside es servers).stays (open_now w.log)

  -- a line is sent, and nothing is noted
  pub answers_line : (c : ℕ) (w : World G) (b : G.Board) (t : List ℕ) → Answers c t w (sends (record w { board = b }) t)
  answers_line c w b t = answers_sends c w b w.log [] t (sym (append-nil w.log)) tt (λ n le. tt)

  -- what is sent does not change the board
  pub sends_board : (w : World G) (t : List ℕ) → (sends w t).board ≡ w.board
  sends_board w t = if_fact G (λ (x : World G). x.board ≡ w.board) (is_talking w) _ _ (λ z. refl) (λ z. refl)

  -- nor does it change the log
  pub sends_log : (w : World G) (t : List ℕ) → (sends w t).log ≡ w.log
  sends_log w t = if_fact G (λ (x : World G). x.log ≡ w.log) (is_talking w) _ _ (λ z. refl) (λ z. refl)

  -- the server answers a line: if a line goes out it is the board after that
  pub answers_served : (c : ℕ) (w : World G) (s : Served G)
      → Answers c (G.spelling (does_served c w s).board) w (does_served c w s)
  answers_served c w Stale = record {
    count = refl;
    who = inl refl;
    here = refl;
    more = [];
    log = sym (append-nil w.log);
    servers = tt;
    counted = λ n le. tt;
    said = λ d. refl;
    link = λ d. inl refl;
  }
  answers_served c w LoggedIn = record {
    count = refl;
    who = inr refl;
    here = open_append G 0 w.log (L.LoggedIn c ∷ []);
    more = L.LoggedIn c ∷ [];
    log = refl;
    servers = (logs_in c, tt);
    counted = λ n le. (le, tt);
    said = λ d. refl;
    link = λ d. inl refl;
  }
  answers_served c w (Took d b) =
      let n : World G = noted (record w { board = b }) (L.Took c w.board d ∷ []) in
      subst (λ x. Answers c (G.spelling x) w (sends n (G.spelling b))) (sym (sends_board n (G.spelling b)))
      (answers_sends c w b n.log (L.Took c w.board d ∷ []) (G.spelling b) refl (takes c w.board d, tt)
      (λ n le. (le, tt)))
  answers_served c w (Undone d) =
      let n : World G = noted w (L.Undone c w.board d ∷ []) in
      subst (λ x. Answers c (G.spelling x) w (sends n (G.spelling w.board))) (sym (sends_board n (G.spelling w.board)))
      (answers_sends c w w.board n.log (L.Undone c w.board d ∷ []) (G.spelling w.board) refl (undoes c w.board d, tt)
      (λ n le. (le, tt)))
  answers_served c w Answered =
      subst (λ x. Answers c (G.spelling x) w (sends w (G.spelling w.board))) (sym (sends_board w (G.spelling w.board)))
      (answers_line c w w.board (G.spelling w.board))
