-- The steps by which a board is shown, and what they come to.
use Rattle.std.proofs.Common.{◌≡◌, ℕ, Bool, true, false, not, List, Option, None, Some, is_some, if◌then◌else◌, refl, sym, ap, ◌∙◌}
use Rattle.std.proofs.lemmas.Option.{none-some}
use Rattle.fibs_fields.specs.Board.{BoardFields}
use Rattle.fibs_position.specs.GamePart.{same_game}
use Rattle.fibs_position.specs.GoodBoard.{good}
use Rattle.fibs_position.specs.DecisionValue.{roll}
use Rattle.fibs_position.specs.DirectionOf.{direction_of}
use Rattle.fibs_commands.specs.Commands.{command_of}
use Rattle.fibs_session.specs.History.Words.{Ask, one_if}
use Rattle.fibs_session.specs.Calls.SessionValue.{SessionValue}
use Rattle.fibs_session.specs.Calls.FieldSteps.{still_waiting, differs_from, with_shown, settled, with_board, due_now, with_roll, board_fields}

-- a decision that goes on waiting is not confirmed, and none can be if none waits
goes_on : (waiting : Option Ask) → None ≡ (if is_some waiting then None else waiting)
goes_on None = refl
goes_on (Some asked) = refl

-- what waits after a board that is the same game, or is not
still_if : (same : Bool) (w : Option Ask) → (if not same then None else w) ≡ (if same then w else None)
still_if true w = refl
still_if false w = refl

-- and after any board
still_law : (shown : Option BoardFields) (b : BoardFields) (w : Option Ask)
    → (if differs_from shown b then None else w) ≡ still_waiting shown b w
still_law None b w = refl
still_law (Some a) b w = still_if (same_game a b) w

-- what a board confirms that is the same game, or is not
confirmed_if : (same : Bool) (w : Option Ask)
    → (if not same then w else None) ≡ (if is_some (if same then w else None) then None else w)
confirmed_if true w = goes_on w
confirmed_if false w = refl

-- and what any board confirms
confirmed_law : (shown : Option BoardFields) (b : BoardFields) (w : Option Ask)
    → (if differs_from shown b then w else None) ≡ (if is_some (still_waiting shown b w) then None else w)
confirmed_law None b w = goes_on w
confirmed_law (Some a) b w = confirmed_if (same_game a b) w

-- a board that is shown, then settled, is the board of `with_board`
settled_law : (v : SessionValue) (b : BoardFields)
    → settled (record v { shown = Some b }) (differs_from v.shown b) ≡ with_board v b
settled_law v b = ap (λ w. record v { shown = Some b; waiting = w }) (still_law v.shown b v.waiting)

-- what is not shown is not good
no_choice : (g x : Bool) → None ≡ (if g then Some x else None) → g ≡ false
no_choice true x e = absurd (none-some x e)
no_choice false x e = refl

-- what is there, or else this
abbrev chosen : Bool → Option Bool → Bool
chosen d None = d
chosen d (Some x) = x

-- what is shown is good, and differs as is said
a_choice : (g x d : Bool) → Some d ≡ (if g then Some x else None) → (g ≡ true) × (d ≡ x)
a_choice true x d e = (refl, ap (chosen d) e)
a_choice false x d e = absurd (none-some d (sym e))

-- a board that has no position changes nothing
pub unshown : (v v1 : SessionValue) (b : BoardFields) → None ≡ (if good b then Some (differs_from v.shown b) else None)
    → v1 ≡ with_shown v b → (good b ≡ false) × (v1 ≡ v)
unshown v v1 b says e =
    let bad = no_choice (good b) (differs_from v.shown b) says in
    (bad, e ∙ rw bad refl)

-- one that has a position is shown
pub is_shown : (v v1 v2 : SessionValue) (b : BoardFields) (d : Bool)
    → Some d ≡ (if good b then Some (differs_from v.shown b) else None) → v1 ≡ with_shown v b → v2 ≡ settled v1 d
    → (good b ≡ true) × (v2 ≡ with_board v b)
is_shown v v1 v2 b d says e f =
    let is = a_choice (good b) (differs_from v.shown b) d says in
    let shows : with_shown v b ≡ record v { shown = Some b } = rw is.0 refl in (
      is.0,
      f ∙ ap (λ x. settled x d) (e ∙ shows) ∙ ap (settled (record v { shown = Some b })) is.1 ∙ settled_law v b,
    )

-- what it confirms
pub confirms : (v v1 : SessionValue) (b : BoardFields) (d : Bool) (confirmed : Option Ask)
    → Some d ≡ (if good b then Some (differs_from v.shown b) else None) → v1 ≡ with_shown v b
    → confirmed ≡ (if d then v1.waiting else None) → confirmed ≡ (board_fields v b).confirmed
confirms v v1 b d confirmed says e f =
    let is = a_choice (good b) (differs_from v.shown b) d says in
    let shows : with_shown v b ≡ record v { shown = Some b } = rw is.0 refl in
    rw is.0 (f ∙ ap (λ x. if d then x.waiting else None) (e ∙ shows)
    ∙ ap (λ x. if x then v.waiting else None) is.1 ∙ confirmed_law v.shown b v.waiting)

-- whether a standing order rolls on it
pub rolls : (v v2 : SessionValue) (b : BoardFields) (r : Bool) → good b ≡ true → v2 ≡ with_board v b
    → r ≡ due_now v2.shown v2 → r ≡ (board_fields v b).rolled
rolls v v2 b r is e f = rw is (f ∙ ap (λ x. due_now x.shown x) e)

-- and the session after that
pub rolled_on : (v v2 v3 : SessionValue) (b : BoardFields) (r : Bool) → good b ≡ true → v2 ≡ with_board v b
    → r ≡ due_now v2.shown v2 → v3 ≡ with_roll v2 b r → v3 ≡ (board_fields v b).session
rolled_on v v2 v3 b r is e f g =
    rw is (g ∙ ap (λ x. with_roll x b r) e ∙ ap (with_roll (with_board v b) b) (f ∙ ap (λ x. due_now x.shown x) e))

-- and what is sent
pub sends : (v v2 : SessionValue) (b : BoardFields) (r : Bool) (send : List (List ℕ)) → good b ≡ true
    → v2 ≡ with_board v b → r ≡ due_now v2.shown v2 → send ≡ one_if r (command_of (direction_of b) roll)
    → send ≡ (board_fields v b).send
sends v v2 b r send is e f g =
    rw is (g ∙ ap (λ x. one_if x (command_of (direction_of b) roll)) (f ∙ ap (λ x. due_now x.shown x) e))
