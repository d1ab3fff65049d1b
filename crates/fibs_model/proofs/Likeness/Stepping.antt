-- One event after others.
use Rattle.std.proofs.Common.{◌≡◌, ℕ, Bool, true, false, not, ◌&&◌, ◌||◌, List, [], ◌∷◌, ◌++◌, Option, Some, None, nat_eq, nat_lt, if◌then◌else◌, is_some, refl, sym, subst, append-nil}
use Rattle.fibs_fields.specs.Board.{BoardFields}
use Rattle.fibs_position.specs.GoodBoard.{good}
use Rattle.fibs_session.specs.History.Words.{open_now}
use Rattle.fibs_commands.specs.Logins.{login_text}
use Rattle.fibs_session.specs.History.Machine.{on_wire}
use Rattle.fibs_lines.specs.Lines.{lines_of}
use Rattle.fibs_model.specs.Events.{Event, Open, Click, Plain, Deliver, Lose, Serve, Own, Repeat, Text, Order, Withdraw}
use Rattle.fibs_model.specs.Refusals.{refusal, is_board_text}
use Rattle.fibs_model.specs.Runs.{AllAccepted, MayBe, after_all, world_after}
use Rattle.fibs_position.specs.BoardEffect.{is_die}
use Rattle.fibs_model.specs.Server.{user_decides}
use Rattle.fibs_model.specs.Wires.{next_line}
use Rattle.fibs_model.specs.World.{World, after, start}
use Rattle.fibs_model.specs.WorldCalls.{WorldStandsAfter, machine_after, Agrees}
use Rattle.fibs_model.specs.WorldOf.{WorldValue, StandsFor, Goes}
use Rattle.fibs_game.specs.declared.world_refusal.WorldRefusal.{WorldRefusal}
use Rattle.fibs_game.specs.declared.world_refusal.WorldRefusal.TheVariants.{Memory, AlreadyOpen, NotOpen, NoSuchConnection, NothingToServe, UserDecides, BoardAsText, BadBoard, BadDice}

-- The table of refusals does not say that memory ran out.

-- it is another refusal
abbrev pub IsTold : Option WorldRefusal → Type 0
IsTold None = Unit {0}
IsTold (Some Memory) = ⊥
IsTold (Some why) = Unit {0}

-- a choice of two refusals is told if each is
pub if_told : (b : Bool) (x y : Option WorldRefusal) → IsTold x → IsTold y → IsTold (if b then x else y)
if_told true x y p q = p
if_told false x y p q = q

-- no refusal of the machine says that memory ran out
pub told : (w : World) (e : Event) → IsTold (refusal w e)
told w Open = if_told (nat_eq (open_now w.log) 0) _ _ tt tt
told w (Click d) = tt
told w (Plain p) = tt
told w (Deliver n) = if_told (nat_eq (open_now w.log) 0) _ _ tt tt
told w (Lose k) = if_told (nat_eq (open_now w.log) 0) _ _ tt tt
told w (Serve c d1 d2) =
    if_told (nat_eq c 0 || nat_lt w.count c) _ _ tt
    (if_told (not (is_die d1 && is_die d2)) _ _ tt
    (if_told (nat_lt c w.logged_in || not (is_some (next_line (w.links c).asked))) _ _ tt tt))
told w (Own b) = if_told (not (good b)) _ _ tt (if_told (user_decides w.board) _ _ tt tt)
told w Repeat = tt
told w (Text t) = if_told (is_board_text (lines_of (on_wire t))) _ _ tt tt
told w Order = tt
told w Withdraw = tt

-- what the table says is answered
pub tells : (why : WorldRefusal) (answer : Option WorldRefusal) → IsTold answer → Some why ≡ answer
    → Agrees (Some why) answer
tells Memory answer t e = absurd (subst IsTold (sym e) t)
tells AlreadyOpen answer t e = sym e
tells NotOpen answer t e = sym e
tells NoSuchConnection answer t e = sym e
tells NothingToServe answer t e = sym e
tells UserDecides answer t e = sym e
tells BoardAsText answer t e = sym e
tells BadBoard answer t e = sym e
tells BadDice answer t e = sym e

-- One event more.

-- one more event that is accepted follows events that all are
all_more : (login : List ℕ) (w : World) (es : List Event) (e : Event) → AllAccepted login w es
    → refusal (after_all login w es) e ≡ None → AllAccepted login w (es ++ e ∷ [])
all_more login w [] e h r = (r, tt)
all_more login w (x ∷ es) e h r = (h.0, all_more login (after login w x) es e h.1 r)

-- the world after one more event is one step from the world before it
after_more : (login : List ℕ) (w : World) (es : List Event) (e : Event)
    → after_all login w (es ++ e ∷ []) ≡ after login (after_all login w es) e
after_more login w [] e = refl
after_more login w (x ∷ es) e = after_more login (after login w x) es e

-- one more event that is not refused follows events that may be
may_more : (login : List ℕ) (first : BoardFields) (es : List Event) (e : Event) → MayBe login first es
    → refusal (world_after login first es) e ≡ None → MayBe login first (es ++ e ∷ [])
unfolding MayBe world_after
may_more login first es e h r = all_more login (start first) es e h r

-- the world after one more event, from the start, is one step from the world before it
world_more : (login : List ℕ) (first : BoardFields) (es : List Event) (e : Event)
    → world_after login first (es ++ e ∷ []) ≡ after login (world_after login first es) e
unfolding world_after
world_more login first es e = after_more login (start first) es e

-- the world corresponds to the machine's
pub stands_for : (v : WorldValue) (name password : List ℕ) (first : BoardFields) (es : List Event)
    → WorldStandsAfter v name password first es
    → StandsFor v (login_text name password) (machine_after name password first es)
unfolding WorldStandsAfter
stands_for v name password first es h = h.stands

-- an event that may be was done
pub stands_more : (v v' : WorldValue) (name password : List ℕ) (first : BoardFields) (es : List Event) (e : Event)
    → WorldStandsAfter v name password first es
    → refusal (machine_after name password first es) e ≡ None → Goes v v' e
    → WorldStandsAfter v' name password first (es ++ e ∷ [])
unfolding WorldStandsAfter
stands_more v v' name password first es e h r goes = record {
  is_login = h.is_login;
  is_good = h.is_good;
  may_be = may_more (login_text name password) first es e h.may_be r;
  stands = subst (StandsFor v' (login_text name password)) (sym (world_more (login_text name password) first es e))
      (goes (login_text name password) (machine_after name password first es) h.stands);
}

-- nothing was done
pub stands_still : (v v' : WorldValue) (name password : List ℕ) (first : BoardFields) (es : List Event) → v' ≡ v
    → WorldStandsAfter v name password first es
    → WorldStandsAfter v' name password first (es ++ [])
stands_still v v' name password first es same h =
    subst (λ x. WorldStandsAfter v' name password first x) (sym (append-nil es))
    (subst (λ x. WorldStandsAfter x name password first es) (sym same) h)
