-- What is so if a standing order is due at a board just shown.
use Rattle.std.proofs.Common.{◌≡◌, ℕ, true, false, List, [], ◌∷◌, ◌++◌, Some, None, sym, ◌∙◌, ap, subst}
use Rattle.std.proofs.lemmas.Option.{same_Some}
use Rattle.fibs_game.specs.Log.{Entry, Shown}
use Rattle.fibs_game.specs.Orders.{is_due}
use Rattle.fibs_game.specs.Words.{last, open_now, shown, is_spent}
use Rattle.fibs_game.specs.Game.{Game}
use Rattle.fibs_game.specs.Lawful.{Lawful}
use Rattle.fibs_game.proofs.past.Lists.{last_snoc}
use Rattle.fibs_game.proofs.past.Past.{open_append, shown_more}
use Rattle.fibs_game.proofs.past.Words.{yes}
use Rattle.fibs_game.proofs.DueYes.{due_yes}

module _ (G : Game) where
  -- nothing was sent in the stretch of the board, which allows a roll
  pub record Rolls (c : ℕ) (log : List (Entry G)) (b : G.Board) : Type 0 where
    pub still : open_now (log ++ Shown c b ∷ []) ≡ c
    pub fresh : is_spent c (log ++ Shown c b ∷ []) ≡ false
    pub is_last : last (shown c (log ++ Shown c b ∷ [])) ≡ Some b
    pub allowed : G.allows b G.roll ≡ None

  -- at a board at which an order is due nothing was sent in its stretch, and it allows a roll
  pub due_rolls : Lawful G → (c : ℕ) (log : List (Entry G)) (b : G.Board) → open_now log ≡ c
      → is_due c (log ++ Shown c b ∷ []) b ≡ true → Rolls c log b
  due_rolls law c log b here due =
      let log' : List (Entry G) = log ++ Shown c b ∷ [] in
      let still : open_now log' ≡ c = open_append G 0 log (Shown c b ∷ []) ∙ here in
      let is_last : last (shown c log') ≡ Some b =
      ap last (shown_more G law.likeness c log b) ∙ last_snoc (shown c log) b in
      let said = yes G log' G.roll (due_yes G c log' b due) in
      let on : said.on ≡ b =
      same_Some said.on b (sym said.is_last ∙ ap (λ e. last (shown e log')) still ∙ is_last) in
      record {
        still = still;
        fresh = subst (λ e. is_spent e log' ≡ false) still said.fresh;
        is_last = is_last;
        allowed = subst (λ x. G.allows x G.roll ≡ None) on said.allowed;
      }
