-- The entries of the map of a `Directory` and their values.
use Rattle.std.proofs.Common.{◌≡◌, ℕ, ◌≤◌, Bool, true, false, cond, List, [], ◌∷◌, length, Option, None, Some, Bor, Vec, refl, sym, ap, ◌∙◌, subst, suc, not, is_some, is_none, ◌&&◌, nat_eq, arith}
use Rattle.std.specs.Cmp.Lexicographic.{bytes_decides}
use Rattle.std.specs.Map.{lookup, remove_entry}
use Rattle.std.specs.Option.{option_map, option_copied}
use Rattle.std.specs.Str.{bytes_eq}
use Rattle.indexmap.specs.IndexMap.{insert_entry}
use Rattle.fibs_messages.specs.Message.{MessageValue}
use Rattle.fibs_messages.specs.Directory.{name_of, entry_of}
use Rattle.fibs_messages.specs.Directory.Steps.{with_entry, without_entry}
use Rattle.fibs_messages.specs.Directory.View.{player_value, players_value, IsKeyed}
use Rattle.fibs_messages.specs.declared.directory.player.Player.{Player}
use Rattle.fibs_messages.proofs.DirectoryLemmas.Entries.{fits}

-- a player that is lent, as a value
pub lent_value : (r : Option (Bor Player))
    → option_map (λ player. player_value player.now) r ≡ option_map player_value (option_copied r)
lent_value None = refl
lent_value (Some player) = refl

module _ {Z : Type 0} where
  -- what the map has under a name is the entry of that name
  pub entry-lookup : (name : List ℕ) (es : List (Vec ℕ Z × Player)) → IsKeyed es
      → option_map player_value (lookup (λ k. bytes_eq name k.items) es) ≡ entry_of name (players_value es)
  entry-lookup name [] h = refl
  entry-lookup name (e ∷ es) h = by (bytes_eq name e.0.items) refl (entry-lookup name es h.1)
    where
      by : (b : Bool) → bytes_eq name e.0.items ≡ b
          → option_map player_value (lookup (λ k. bytes_eq name k.items) es) ≡ entry_of name (players_value es)
          → option_map player_value (cond b (Some e.1) (lookup (λ k. bytes_eq name k.items) es))
          ≡ cond (bytes_eq name e.1.name.items) (Some (player_value e.1)) (entry_of name (players_value es))
      by true i ih =
          ap (λ b. cond b (Some (player_value e.1)) (entry_of name (players_value es))) (sym i ∙ ap (bytes_eq name) h.0)
      by false i ih = ih ∙ ap (λ b. cond b (Some (player_value e.1)) (entry_of name (players_value es)))
          (sym i ∙ ap (bytes_eq name) h.0)

  -- a player who is inserted under its name
  pub players-insert : (es : List (Vec ℕ Z × Player)) (key : Vec ℕ Z) (player : Player)
      → IsKeyed es → key.items ≡ player.name.items
      → players_value (insert_entry (λ a b. bytes_eq a.items b.items) es key player)
      ≡ with_entry (players_value es) (player_value player)
  players-insert [] key player h own = refl
  players-insert (e ∷ es) key player h own =
      by (bytes_eq key.items e.0.items) refl (players-insert es key player h.1 own)
    where
      same : (b : Bool) → bytes_eq key.items e.0.items ≡ b → b ≡ bytes_eq player.name.items e.1.name.items
      same b i = sym i ∙ ap (λ n. bytes_eq n e.0.items) own ∙ ap (bytes_eq player.name.items) h.0

      by : (b : Bool) → bytes_eq key.items e.0.items ≡ b
          → players_value (insert_entry (λ a b. bytes_eq a.items b.items) es key player)
          ≡ with_entry (players_value es) (player_value player)
          → players_value
          (cond b ((e.0, player) ∷ es) (e ∷ insert_entry (λ a b. bytes_eq a.items b.items) es key player))
          ≡ cond (bytes_eq player.name.items e.1.name.items) (player_value player ∷ players_value es)
          (player_value e.1 ∷ with_entry (players_value es) (player_value player))
      by true i ih = ap (λ b. cond b (player_value player ∷ players_value es)
          (player_value e.1 ∷ with_entry (players_value es) (player_value player))) (same true i)
      by false i ih =
          ap (λ l. player_value e.1 ∷ l) ih
          ∙ ap (λ b. cond b (player_value player ∷ players_value es)
          (player_value e.1 ∷ with_entry (players_value es) (player_value player))) (same false i)

  -- each player is still under its own name
  pub keyed-insert : (es : List (Vec ℕ Z × Player)) (key : Vec ℕ Z) (player : Player)
      → IsKeyed es → key.items ≡ player.name.items
      → IsKeyed (insert_entry (λ a b. bytes_eq a.items b.items) es key player)
  keyed-insert [] key player h own = (own, tt)
  keyed-insert (e ∷ es) key player h own = by (bytes_eq key.items e.0.items) refl (keyed-insert es key player h.1 own)
    where
      by : (b : Bool)
          → bytes_eq key.items e.0.items ≡ b → IsKeyed (insert_entry (λ a b. bytes_eq a.items b.items) es key player)
          → IsKeyed (cond b ((e.0, player) ∷ es) (e ∷ insert_entry (λ a b. bytes_eq a.items b.items) es key player))
      by true i ih = (sym ((bytes_decides key.items e.0.items).0 i) ∙ own, h.1)
      by false i ih = (h.0, ih)

  -- the player of a name is taken out
  pub players-remove : (name : List ℕ) (es : List (Vec ℕ Z × Player)) → IsKeyed es
      → players_value (remove_entry (λ k. bytes_eq name k.items) es) ≡ without_entry name (players_value es)
  players-remove name [] h = refl
  players-remove name (e ∷ es) h = by (bytes_eq name e.0.items) refl (players-remove name es h.1)
    where
      by : (b : Bool) → bytes_eq name e.0.items ≡ b
          → players_value (remove_entry (λ k. bytes_eq name k.items) es) ≡ without_entry name (players_value es)
          → players_value (cond b es (e ∷ remove_entry (λ k. bytes_eq name k.items) es))
          ≡ cond (bytes_eq name e.1.name.items)
          (players_value es) (player_value e.1 ∷ without_entry name (players_value es))
      by true i ih = ap (λ b. cond b (players_value es) (player_value e.1 ∷ without_entry name (players_value es)))
          (sym i ∙ ap (bytes_eq name) h.0)
      by false i ih =
          ap (λ l. player_value e.1 ∷ l) ih
          ∙ ap (λ b. cond b (players_value es) (player_value e.1 ∷ without_entry name (players_value es)))
          (sym i ∙ ap (bytes_eq name) h.0)

  -- the others are still under their own names
  pub keyed-remove : (name : List ℕ) (es : List (Vec ℕ Z × Player))
      → IsKeyed es → IsKeyed (remove_entry (λ k. bytes_eq name k.items) es)
  keyed-remove name [] h = tt
  keyed-remove name (e ∷ es) h = by (bytes_eq name e.0.items) (keyed-remove name es h.1)
    where
      by : (b : Bool) → IsKeyed (remove_entry (λ k. bytes_eq name k.items) es)
          → IsKeyed (cond b es (e ∷ remove_entry (λ k. bytes_eq name k.items) es))
      by true ih = h.1
      by false ih = (h.0, ih)

  -- there are as many values as players
  pub length-players : (es : List (Vec ℕ Z × Player)) → length (players_value es) ≡ length es
  length-players [] = refl
  length-players (e ∷ es) = ap suc (length-players es)

  -- no more players are left than there were
  length-remove : (name : List ℕ) (es : List (Vec ℕ Z × Player))
      → length (remove_entry (λ k. bytes_eq name k.items) es) ≤ length es
  length-remove name [] = omega arith
  length-remove name (e ∷ es) =
      elim (bytes_eq name e.0.items) as (λ b. length (cond b es (e ∷ remove_entry (λ k. bytes_eq name k.items) es))
      ≤ length (e ∷ es)) [
        | true ↦ omega arith
        | false ↦ omega (arith, length-remove name es)
      ]

  module _ (name : List ℕ)
      (es new : List (Vec ℕ Z × Player)) (h : IsKeyed es) (e : new ≡ remove_entry (λ k. bytes_eq name k.items) es) where
    -- the values after a removal
    pub removed_values : (entries : List MessageValue)
        → players_value es ≡ entries → players_value new ≡ without_entry name entries
    removed_values entries v = ap players_value e ∙ players-remove name es h ∙ ap (without_entry name) v

    -- what a directory's map keeps holds after a removal
    pub removed_holds : (n : ℕ) → length es ≤ n → IsKeyed new × length new ≤ n
    removed_holds n within =
        (subst IsKeyed (sym e) (keyed-remove name es h), omega (arith, ap length e, length-remove name es))

  module _ (es new : List (Vec ℕ Z × Player)) (key : Vec ℕ Z) (player : Player) (m : MessageValue) (h : IsKeyed es)
      (under : key.items ≡ name_of m) (is : player_value player ≡ m)
      (e : new ≡ insert_entry (λ a b. bytes_eq a.items b.items) es key player) where
    -- the key is the player's own name
    own : key.items ≡ player.name.items
    own = under ∙ ap name_of (sym is)

    -- the values after a player was set
    pub set_values : (entries : List MessageValue)
        → players_value es ≡ entries → players_value new ≡ with_entry entries m
    set_values entries v = ap players_value e
        ∙ players-insert es key player h own ∙ ap (with_entry (players_value es)) is ∙ ap (λ l. with_entry l m) v

    -- what a directory's map keeps holds after a player was set
    pub set_holds : (n : ℕ) (entries : List MessageValue) → players_value es ≡ entries
        → length es ≤ n → (is_none (entry_of (name_of m) entries) && nat_eq (length entries) n) ≡ false
        → IsKeyed new × length new ≤ n
    set_holds n entries v within room =
        let long : length entries ≡ length es = ap length (sym v) ∙ length-players es in
        let after : length (players_value new) ≡ length (with_entry entries m) = ap length (set_values entries v) in (
          subst IsKeyed (sym e) (keyed-insert es key player h own),
          omega (arith, fits n entries m (omega (arith, long, within)) room, after, length-players new),
        )

  -- if there are n players, the directory is full for the names that the map has not
  pub full_at : (n : ℕ) (name : List ℕ) (es : List (Vec ℕ Z × Player)) (entries : List MessageValue) → IsKeyed es
      → players_value es ≡ entries → n ≤ length entries → length entries ≤ n → (found : Bool)
      → found ≡ is_some (lookup (λ k. bytes_eq name k.items) es)
      → not found ≡ (is_none (entry_of name entries) && nat_eq (length entries) n)
  full_at n name es entries h v low high found e =
      let all : nat_eq (length entries) n ≡ true = grind arith in
      let same : entry_of name entries ≡ option_map player_value (lookup (λ k. bytes_eq name k.items) es) =
      ap (entry_of name) (sym v) ∙ sym (entry-lookup name es h) in
      by (lookup (λ k. bytes_eq name k.items) es) e
      ∙ ap (λ r. is_none r && true) (sym same) ∙ ap (λ b. is_none (entry_of name entries) && b) (sym all)
    where
      by : (r : Option Player) → found ≡ is_some r → not found ≡ (is_none (option_map player_value r) && true)
      by None i = ap not i
      by (Some player) i = ap not i
