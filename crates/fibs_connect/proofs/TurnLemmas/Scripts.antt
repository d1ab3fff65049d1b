-- What was done of a script, act by act.
use Rattle.std.proofs.Common.{◌≡◌, ℕ, List, [], ◌∷◌, ◌++◌, Option, None, Some, refl, sym, ap, subst, ◌∙◌, append_assoc, append-nil}
use Rattle.std.proofs.lemmas.List.{map-append}
use Rattle.std.proofs.lemmas.List.Concat.{flat_map-append}
use Rattle.std.specs.Io.KnownBytes.{Appends, Keeps}
use Rattle.std.proofs.KnownBytes.{Appends-nil, Appends-trans, Appends-kept}
use Rattle.fibs_messages.specs.Message.{MessageValue}
use Rattle.fibs_messages.specs.Directory.{IsDirectory}
use Rattle.fibs_messages.specs.declared.directory.fault.DirectoryFault.{DirectoryFault}
use Rattle.fibs_engine.specs.Writing.{Wrote, Progress, Whole, Broken}
use Rattle.fibs_connect.specs.Told.{SaidValue, Joins}
use Rattle.fibs_connect.specs.Turns.Acts.{Act}
use Rattle.fibs_connect.specs.Turns.Script.{Outside, Done, directory_told, done_told, noted_unless, OnlyWhoRefused, AllOnlyWhoRefused, Silent, untold, acts_of, writes_of, tells_of, notes_of, Notes, Did}

-- the directory stays
pub notes_nothing : (d : Option (List MessageValue)) → Notes d d []
notes_nothing None = tt
notes_nothing (Some d) = λ before is. subst (λ ms. IsDirectory ms d) (sym (append-nil before)) is

-- more is reported to it
pub notes_joined : (a b c : Option (List MessageValue)) (xs ys : List MessageValue) → Notes a b xs → Notes b c ys
    → Notes a c (xs ++ ys)
notes_joined None b c xs ys f g = tt
notes_joined (Some a) None c xs ys f g = absurd f
notes_joined (Some a) (Some b) None xs ys f g = absurd g
notes_joined (Some a) (Some b) (Some c) xs ys f g = λ before is.
    subst (λ ms. IsDirectory ms c) (append_assoc before xs ys) (g (before ++ xs) (f before is))

-- acts after others: of all of them only a message 5 is refused
refused_joined : (ds es : List Done) → AllOnlyWhoRefused ds → AllOnlyWhoRefused es → AllOnlyWhoRefused (ds ++ es)
refused_joined [] es h k = k
refused_joined (d ∷ ds) es h k = (h.0, refused_joined ds es h.1 k)

module _ {F : Type 0} {Tells : F → List SaidValue → F → Type 0} (joins : Joins Tells) where
  -- nothing was done
  pub did_nothing : (a : Outside F) → Did Tells a a [] Whole
  did_nothing a = record {
    done = [];
    hand = [];
    part = [];
    acts = refl;
    in_hand = (refl, refl);
    wrote = Appends-nil a.wrote;
    told = joins.nothing a.front;
    noted = notes_nothing a.players;
    refused = tt;
  }

  -- one script after another
  pub did_joined : (p : Progress) (a b c : Outside F) (xs ys : List Act) → Did Tells a b xs Whole → Did Tells b c ys p
      → Did Tells a c (xs ++ ys) p
  did_joined p a b c xs ys d e =
      let front : xs ≡ acts_of d.done = d.acts ∙ ap (λ h. acts_of d.done ++ h) d.in_hand.0
      ∙ append-nil (acts_of d.done) in
      let wrote : Appends a.wrote b.wrote (writes_of d.done) =
      subst (Appends a.wrote b.wrote) (ap (λ h. writes_of d.done ++ h) d.in_hand.1
      ∙ append-nil (writes_of d.done)) d.wrote in
      record {
        done = d.done ++ e.done;
        hand = e.hand;
        part = e.part;
        acts = ap (λ l. l ++ ys) front ∙ ap (λ l. acts_of d.done ++ l) e.acts
            ∙ sym (append_assoc (acts_of d.done) (acts_of e.done) e.hand)
            ∙ ap (λ l. l ++ e.hand) (sym (map-append (λ (x : Done). x.act) d.done e.done));
        in_hand = e.in_hand;
        wrote = subst (Appends a.wrote c.wrote)
            (sym (append_assoc (writes_of d.done) (writes_of e.done) e.part)
            ∙ ap (λ l. l ++ e.part) (sym (flat_map-append (λ (x : Done). x.act.writes) d.done e.done)))
            (Appends-trans a.wrote b.wrote c.wrote (writes_of d.done) (writes_of e.done ++ e.part) wrote e.wrote);
        told = subst (λ l. Tells a.front l c.front) (sym (flat_map-append done_told d.done e.done))
            (joins.joined a.front b.front c.front (tells_of d.done) (tells_of e.done) d.told e.told);
        noted = subst (Notes a.players c.players)
            (sym (flat_map-append (λ (x : Done). noted_unless x.refused x.act.notes) d.done e.done))
            (notes_joined a.players b.players c.players (notes_of d.done) (notes_of e.done) d.noted e.noted);
        refused = refused_joined d.done e.done d.refused e.refused;
      }

  -- an act that was written whole, reported and noted
  pub did_act : (a b : Outside F) (act : Act) (refused : Option DirectoryFault) → Appends a.wrote b.wrote act.writes
      → Tells a.front (act.tells ++ directory_told refused) b.front
      → Notes a.players b.players (noted_unless refused act.notes) → OnlyWhoRefused refused act.notes
      → Did Tells a b (act ∷ []) Whole
  did_act a b act refused wrote told noted only = record {
    done = record { act = act; refused = refused } ∷ [];
    hand = [];
    part = [];
    acts = refl;
    in_hand = (refl, refl);
    wrote = subst (Appends a.wrote b.wrote) (sym (append-nil act.writes) ∙ sym (append-nil (act.writes ++ []))) wrote;
    told = subst (λ l. Tells a.front l b.front) (sym (append-nil (act.tells ++ directory_told refused))) told;
    noted = subst (Notes a.players b.players) (sym (append-nil (noted_unless refused act.notes))) noted;
    refused = (only, tt);
  }

  -- the same with no word of the directory
  pub did_alone : (a b : Outside F) (act : Act) → Appends a.wrote b.wrote act.writes
      → Tells a.front act.tells b.front
      → Notes a.players b.players act.notes → Did Tells a b (act ∷ []) Whole
  did_alone a b act wrote told noted = did_act a b act None wrote
      (subst (λ l. Tells a.front l b.front) (sym (append-nil act.tells)) told) noted tt

  -- an act whose writing failed
  pub did_part : (a b : Outside F) (act : Act) → Wrote Broken a.wrote b.wrote act.writes → b.front ≡ a.front
      → b.players ≡ a.players → Did Tells a b (act ∷ []) Broken
  did_part a b act w front players = record {
    done = [];
    hand = act ∷ [];
    part = w.0;
    acts = refl;
    in_hand = (act, w.2, w.1, refl, w.3);
    wrote = w.4;
    told = subst (λ o. Tells a.front [] o) (sym front) (joins.nothing a.front);
    noted = subst (λ d. Notes a.players d []) (sym players) (notes_nothing a.players);
    refused = tt;
  }

  -- what was written stays, and nothing more was reported
  pub did_kept : (p : Progress) (a b c : Outside F) (script : List Act) → Did Tells a b script p → Keeps b.wrote c.wrote
      → Tells b.front [] c.front → c.players ≡ b.players → Did Tells a c script p
  did_kept p a b c script d k rested players = record {
    done = d.done;
    hand = d.hand;
    part = d.part;
    acts = d.acts;
    in_hand = d.in_hand;
    wrote = Appends-kept a.wrote b.wrote c.wrote (writes_of d.done ++ d.part) d.wrote k;
    told = subst (λ l. Tells a.front l c.front) (append-nil (tells_of d.done))
        (joins.joined a.front b.front c.front (tells_of d.done) [] d.told rested);
    noted = subst (λ x. Notes a.players x (notes_of d.done)) (sym players) d.noted;
    refused = d.refused;
  }

-- nobody may be told in parts
pub silent_joins : Joins Silent
silent_joins = record { nothing = λ a. tt; joined = λ a b c xs ys p q. tt }

-- what was done of a script was also done if nobody is told of it
pub hushed : {F : Type 0} {Tells : F → List SaidValue → F → Type 0} (p : Progress) (a b : Outside F)
    (script : List Act) → Did Tells a b script p → Did Silent (untold a.wrote) (untold b.wrote) script p
hushed p a b script d = record {
  done = d.done;
  hand = d.hand;
  part = d.part;
  acts = d.acts;
  in_hand = d.in_hand;
  wrote = d.wrote;
  told = tt;
  noted = tt;
  refused = d.refused;
}

-- a script of which nobody is told, after one that was done whole
pub did_hushed : {F : Type 0} {Tells : F → List SaidValue → F → Type 0} (a b : Outside F) (now : Option (List ℕ))
    (xs ys : List Act) → Did Tells a b xs Whole → Did Silent (untold b.wrote) (untold now) ys Whole
    → Did Silent (untold a.wrote) (untold now) (xs ++ ys) Whole
did_hushed a b now xs ys first late = did_joined silent_joins Whole (untold a.wrote) (untold b.wrote) (untold now) xs ys
    (hushed Whole a b xs first) late

-- an act of which nobody was told is one that was written
pub did_untold : (wrote now : Option (List ℕ)) (act : Act) → Appends wrote now act.writes
    → Did Silent (untold wrote) (untold now) (act ∷ []) Whole
did_untold wrote now act written = did_alone silent_joins (untold wrote) (untold now) act written tt tt

-- of another name for the script
pub did_same : {F : Type 0} {Tells : F → List SaidValue → F → Type 0} (p : Progress) (a b : Outside F)
    (xs ys : List Act) → xs ≡ ys → Did Tells a b xs p → Did Tells a b ys p
did_same {F} {Tells} p a b xs ys e d = subst (λ l. Did Tells a b l p) e d
