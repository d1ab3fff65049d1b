-- A world in which nothing has happened.
use Rattle.std.proofs.Common.{◌≡◌, ◌↔◌, ℕ, Bool, true, false, List, [], Some, None, length, if◌then◌else◌, zero, suc, refl, sym, ap, subst, ◌∙◌}
use Rattle.std.specs.Prelude.{Result, Err, IsOk}
use Rattle.fibs_fields.specs.Board.{BoardFields}
use Rattle.fibs_position.specs.GoodBoard.{IsGood, good}
use Rattle.fibs_position.specs.Laws.{GoodIsExact}
use Rattle.fibs_session.specs.Calls.Standing.{StandsAfter}
use Rattle.fibs_session.specs.History.Machine as M
use Rattle.fibs_commands.specs.Logins.{IsLogin, login_text}
use Rattle.fibs_model.specs.LinksOf.{kept_of, link_at}
use Rattle.fibs_model.specs.Runs.{MayBe, world_after}
use Rattle.fibs_model.specs.Wires.{empty_link}
use Rattle.fibs_model.specs.World.{start}
use Rattle.fibs_model.specs.WorldCalls.{WorldStandsAfter}
use Rattle.fibs_model.specs.WorldOf.{WorldValue, StandsFor}
use Rattle.fibs_game.specs.declared.world_refusal.WorldRefusal.TheVariants.{BadBoard}
use Rattle.fibs_game.proofs.Sound.{talk_is_projected}
use Rattle.fibs_session.specs.Fibs.{fibs}

-- it corresponds to the machine's
pub new_stands : (v : WorldValue) (login : List ℕ) (b : BoardFields) → v.server.board ≡ b → v.server.logged_in ≡ 0
    → v.links ≡ [] → v.log ≡ [] → v.current ≡ 0 → StandsAfter v.client (M.start login)
    → StandsFor v login (start b)
new_stands v login b board who links log current client = record {
  board = board;
  logged_in = who;
  count = ap length links;
  log = log;
  current = current;
  links = λ c. none c ∙ ap (λ ls. link_at ls c) (sym links);
  client = client;
  sound = (talk_is_projected fibs).starts b;
}
  where
    none : (c : ℕ) → kept_of empty_link ≡ link_at [] c
    none zero = refl
    none (suc c) = refl

-- after no event
pub new_after : (v : WorldValue) (name password : List ℕ) (b : BoardFields) → IsLogin name password → IsGood b
    → StandsFor v (login_text name password) (start b) → WorldStandsAfter v name password b []
unfolding WorldStandsAfter MayBe world_after
new_after v name password b login is_good s = record { is_login = login; is_good = is_good; may_be = tt; stands = s }

-- a board that is refused is not good
pub refused : {A E : Type 0} → GoodIsExact → (r : Result A E) (b : BoardFields) (e : E) → r ≡ Err e → IsOk r ↔ IsGood b
    → Some BadBoard ≡ (if good b then None else Some BadBoard)
refused law r b e is ok = go (good b) refl
  where
    go : (t : Bool) → good b ≡ t → Some BadBoard ≡ (if t then None else Some BadBoard)
    go true g = let k : IsOk r = ok.1 ((law b).0 g) in let k' = subst IsOk is k in absurd cc
    go false g = refl
