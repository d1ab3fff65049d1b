use Rattle.std.proofs.Common.{◌≡◌, true, false, Option, None, Some, is_some, option_map, refl, sym, ◌∙◌, ap}
use Rattle.fibs_fields.specs.Board.{BoardFields}
use Rattle.fibs_position.specs.Allowed.{refusal_of as refusal_at}
use Rattle.fibs_position.specs.DecisionValue.{DecisionValue, decision_of}
use Rattle.fibs_position.specs.GameOf.{game_of}
use Rattle.fibs_position.specs.PositionValue.{PositionValue, position_of}
use Rattle.fibs_position.specs.declared.disallowed.Disallowed.{Disallowed}
use Rattle.fibs_position.specs.declared.game_board.GameBoard.{GameBoard}
use Rattle.fibs_session.specs.History.Allows.{allows, refusal_of}
use Rattle.fibs_session.specs.History.Log.{Flags}
use Rattle.fibs_game.specs.declared.refusal.Refusal.TheVariants.{Waiting}
use Rattle.fibs_session.specs.Calls.FieldSteps.{answer_of}
use Rattle.fibs_session.specs.Calls.SessionOf.{session_of, server_flags, ask_of}
use Rattle.fibs_session.specs.Calls.SessionValue.{SessionValue}
use Rattle.fibs_session.specs.declared.session.ServerFlags.{ServerFlags}
use Rattle.fibs_session.specs.declared.session.Session.{Session}
use Rattle.fibs_session.proofs.session.Session.board_for.Goals as goal

-- the server lets the player decide, and a board is shown
record Ready (v : SessionValue) (b : BoardFields) : Type 0 where
  pub flags : Flags
  pub online : v.online ≡ true
  pub welcomed : v.welcomed ≡ true
  pub has_flags : v.flags ≡ Some flags
  pub moves_itself : flags.automove ≡ false
  pub is_greedy : flags.greedy ≡ false
  pub shown : v.shown ≡ Some b

-- then one that waits is in the way of the next, and else the board answers
answers : (v : SessionValue) (b : BoardFields) (d : DecisionValue) → Ready v b → is_some v.waiting ≡ false
    → answer_of v d ≡ allows b d
answers v b d r none =
    rw r.online (rw r.welcomed (rw r.has_flags (rw r.moves_itself (rw r.is_greedy (rw r.shown (rw none refl))))))

waits : (v : SessionValue) (b : BoardFields) (d : DecisionValue) → Ready v b → is_some v.waiting ≡ true
    → answer_of v d ≡ Some Waiting
waits v b d r some =
    rw r.online (rw r.welcomed (rw r.has_flags (rw r.moves_itself (rw r.is_greedy (rw r.shown (rw some refl))))))

ready : (s : Session) (flags : ServerFlags) (shown : GameBoard) → s.online ≡ true → s.welcomed ≡ true
    → s.flags ≡ Some flags → flags.automove ≡ false → flags.greedy ≡ false → s.shown ≡ Some shown
    → Ready (session_of s) (game_of shown)
ready s flags shown online welcomed has_flags moves_itself is_greedy on_board = record {
  flags = server_flags flags;
  online = online;
  welcomed = welcomed;
  has_flags = ap (option_map server_flags) has_flags;
  moves_itself = moves_itself;
  is_greedy = is_greedy;
  shown = ap (option_map game_of) on_board;
}

same_some : {A B : Type 0} (f : A → B) (x : Option A) → is_some (option_map f x) ≡ is_some x
same_some f None = refl
same_some f (Some a) = refl

-- what the position says is what the board allows
said : (b : BoardFields) (p : PositionValue) (d : DecisionValue) (why : Option Disallowed) → p ≡ position_of b
    → why ≡ refusal_at p d → allows b d ≡ option_map refusal_of why
said b p d why its e = ap (option_map refusal_of) (ap (λ p. refusal_at p d) (sym its) ∙ sym e)

pub returns-in-Ok-clause-refusal : goal.returns-in-Ok-clause-refusal
returns-in-Ok-clause-refusal c =
    let s = c.args.self.now in
    let shown = c.in-Some-shown.shown in
    let d = decision_of c.args.decision.now in
    sym (answers (session_of s) (game_of shown) d
    (ready s c.in-Some.flags shown c.if-not-self.false c.if-not-self-2.false c.in-Some.is c.if-flags.false
    c.if-flags-2.false c.in-Some-shown.is)
    (same_some ask_of s.waiting ∙ sym c.if-is_some.ensures)
    ∙ said (game_of shown) _ d None c.position.ensures c.in-Ok.ensures.value)

pub returns-in-Err-clause-refusal : goal.returns-in-Err-clause-refusal
returns-in-Err-clause-refusal c =
    let s = c.args.self.now in
    let shown = c.in-Some-shown.shown in
    let d = decision_of c.args.decision.now in
    ap Some c.refusal_of.ensures ∙ sym (answers (session_of s) (game_of shown) d
    (ready s c.in-Some.flags shown c.if-not-self.false c.if-not-self-2.false c.in-Some.is c.if-flags.false
    c.if-flags-2.false c.in-Some-shown.is)
    (same_some ask_of s.waiting ∙ sym c.if-is_some.ensures)
    ∙ said (game_of shown) _ d (Some c.in-Err.why) c.position.ensures c.in-Err.ensures.value)

pub returns-then-is_some-clause-refusal : goal.returns-then-is_some-clause-refusal
returns-then-is_some-clause-refusal c =
    let s = c.args.self.now in
    let shown = c.in-Some-shown.shown in
    sym (waits (session_of s) (game_of shown) (decision_of c.args.decision.now)
    (ready s c.in-Some.flags shown c.if-not-self.false c.if-not-self-2.false c.in-Some.is c.if-flags.false
    c.if-flags-2.false c.in-Some-shown.is)
    (same_some ask_of s.waiting ∙ sym c.if-is_some.ensures))
