-- Backgammon keeps the laws of a game.
use Rattle.std.proofs.Common.{◌≡◌, ◌≢◌, ℕ, ◌<◌, ◌≤◌, Bool, true, false, List, [], ◌∷◌, ◌++◌, Option, Some, None, nat_lt, nat_le, refl, sym, ap, ◌∙◌, append-nil, arith, if◌then◌else◌}
use Rattle.std.specs.Prelude.{All, option_map, length, pos, ◌&&◌}
use Rattle.std.specs.Ordering.{int_eq}
use Rattle.std.proofs.lemmas.Bool.{and_parts}
use Rattle.std.proofs.lemmas.Bool.Decides.{nat_tests}
use Rattle.std.proofs.lemmas.List.Elements.{All-head, All-tail, All-weaker}
use Rattle.fibs_lines.specs.Lines.{lines_of}
use Rattle.fibs_fields.specs.Board.{BoardFields, IsBoard, field_of, spelling}
use Rattle.fibs_messages.specs.Flags.{autoboard, moreboards}
use Rattle.fibs_messages.specs.Line.{IsReading, board_line, reading_value}
use Rattle.fibs_fields.specs.Printed.{IsPrinted}
use Rattle.fibs_position.specs.Allowed.{allowed_of}
use Rattle.fibs_position.specs.DecisionValue.{DecisionValue, IsDecision}
use Rattle.fibs_position.specs.DirectionOf.{direction_of}
use Rattle.fibs_position.specs.GoodBoard.{good as is_good}
use Rattle.fibs_position.specs.Phases.{phase_of}
use Rattle.fibs_position.specs.declared.disallowed.Disallowed.{Disallowed}
use Rattle.fibs_position.specs.BoardEffect.{is_die}
use Rattle.fibs_commands.specs.Commands.{command_of}
use Rattle.fibs_commands.specs.CommandLaws.{IsOther}
use Rattle.fibs_commands.specs.FirstCommands.{autoboard_text, moreboards_text, board_text}
use Rattle.fibs_commands.specs.PlainCommands.{plain_fault_of}
use Rattle.fibs_commands.specs.declared.plain.PlainFault.{PlainFault}
use Rattle.fibs_game.specs.Lawful.{Lawful, NoReturn, IsQuiet, AllQuiet}
use Rattle.fibs_game.specs.Machine.{on_wire}
use Rattle.fibs_session.specs.Fibs.{fibs, says, is_to_roll}
use Rattle.fibs_session.specs.History.Allows.{allows, refusal_of}
use Rattle.fibs_session.specs.declared.histories.refusal.PlainRefusal.TheVariants as P
use Rattle.fibs_commands.specs.Logins.{IsLogin, login_text}
use Rattle.fibs_session.proofs.Game.BeforeRolls.{no_roll_after}
use Rattle.fibs_session.specs.Owed.{Owed}

-- a board that allows a decision to the client allows it
none_left : (o : Option Disallowed) → option_map refusal_of o ≡ None → o ≡ None
none_left None h = refl
none_left (Some x) h = absurd cc

-- a command without a refusal has no fault
no_fault : (o : Option PlainFault) → option_map P.Fault o ≡ None → o ≡ None
no_fault None h = refl
no_fault (Some x) h = absurd cc

-- printed bytes hold no CR
no_return : (text : List ℕ) → All IsPrinted text → NoReturn text
no_return [] h = tt
no_return (b ∷ text) h =
    let low = (All-head IsPrinted b text h).0 in
    (grind (arith, nat_tests), no_return text (All-tail IsPrinted b text h))

-- a number of a die is above 0
die_low : (n : ℕ) → is_die n ≡ true → 0 < n
die_low n h = let p = and_parts (nat_lt 0 n) (nat_le n 6) h in let q = p.0 in grind (arith, nat_tests)

-- and at most 6
die_high : (n : ℕ) → is_die n ≡ true → n ≤ 6
die_high n h = let p = and_parts (nat_lt 0 n) (nat_le n 6) h in let q = p.1 in grind (arith, nat_tests)

-- at most three commands answer the first message 2
few : (a m : Bool) → length
    ((if a then [] else autoboard_text ∷ []) ++ (if m then [] else moreboards_text ∷ []) ++ board_text ∷ []) ≤ 3
few true true = omega arith
few true false = omega arith
few false true = omega arith
few false false = omega arith

-- a standing order rolls in no other phase
never_rolls : (b : BoardFields) → is_to_roll (phase_of b) ≡ false → fibs.rolls b ≡ false
never_rolls b h = both (int_eq (field_of b 39) (pos 0)) (is_to_roll (phase_of b)) h
  where
    both : (x y : Bool) → y ≡ false → (x && y) ≡ false
    both true y h = h
    both false y h = refl

module _ (owed : Owed) where
  -- a command that is no decision in any direction is quiet
  pub quiet : (text : List ℕ) → IsOther text → IsQuiet fibs text
  quiet text o = record { text = no_return text o.printed; quiet = λ b. o.no_decision (direction_of b) }

  -- a decision that a good board allows is one
  valid : (b : BoardFields) (d : DecisionValue) → is_good b ≡ true → allows b d ≡ None → IsDecision d
  valid b d g h = owed.decision b d g (none_left (allowed_of b d) h)

  -- the answers to the first message 2 are quiet
  initial_quiet : (a m : Bool)
      → AllQuiet fibs ((if a then [] else autoboard_text ∷ []) ++ (if m then [] else moreboards_text ∷ []) ++ board_text
      ∷ [])
  initial_quiet true true = (quiet _ owed.initial.2, tt)
  initial_quiet true false = (quiet _ owed.initial.1, (quiet _ owed.initial.2, tt))
  initial_quiet false true = (quiet _ owed.initial.0, (quiet _ owed.initial.2, tt))
  initial_quiet false false = (quiet _ owed.initial.0, (quiet _ owed.initial.1, (quiet _ owed.initial.2, tt)))

  -- a good board is a board
  valid_board : (b : BoardFields) → is_good b ≡ true → IsBoard b
  valid_board b g = ((owed.good_exact b).0 g).board

  -- a board reads its own spelling
  reads_itself : (b : BoardFields) → IsBoard b → IsReading (spelling b) (board_line b)
  reads_itself b h = (owed.begins b h, (h, (0, sym (append-nil (spelling b)))))

  -- a printed board with CR LF is one whole line
  board_line_alone : (b : BoardFields) → is_good b ≡ true
      → lines_of (on_wire (spelling b)) ≡ (record { bytes = spelling b; cut = false }) ∷ []
  board_line_alone b g =
      let is = valid_board b g in
      let few = owed.short b is in
      owed.sent [] (spelling b) owed.empty.1
      (record {
        fits = omega arith;
        no_line_end =
            All-weaker IsPrinted (λ c. c ≢ 10) (λ c p. λ e. let low = p.0 in absurd (omega arith)) (spelling b)
            (owed.printed b is);
        no_command =
            All-weaker IsPrinted (λ c. c ≢ 255) (λ c p. λ e. let high = p.1 in absurd (omega arith)) (spelling b)
            (owed.printed b is);
        no_login_prompt = refl;
        no_command_prompt = refl;
      })
      ∙ ap (λ ls. ls ++ (record { bytes = spelling b; cut = false }) ∷ []) owed.empty.0

  -- the laws of the layers below are all that is asked of them
  pub lawful : Lawful fibs
  lawful = record {
    likeness =
        record { like_itself = owed.likeness.itself; like_back = owed.likeness.back; like_on = owed.likeness.on };
    differ = λ a b h. (owed.game a b).1 h;
    good_means = λ b g. (owed.good_exact b).0 g;
    allowed_means =
        λ b d g h. let is = (owed.good_exact b).0 g in (is, (owed.allowed b d is).0.0 (none_left (allowed_of b d) h));
    empty = owed.empty.0;
    grow = owed.grow;
    effect_leads = λ b d d1 d2 b' h. (owed.effect b d (d1 ∷ d2 ∷ []) b').0 h;
    leads_on = λ b d d1 d2 b' h. (owed.effect_good b d (d1 ∷ d2 ∷ []) b' h).1;
    no_three = λ a b c x d e f d1 d2 e1 e2 f1 f2.
        owed.no_three a b c x d e f (d1 ∷ d2 ∷ []) (e1 ∷ e2 ∷ []) (f1 ∷ f2 ∷ []);
    allowed_decides = λ b d h. owed.decides b d (none_left (allowed_of b d) h);
    allowed_acts =
        λ b d d1 d2 g h i j. owed.acts b d d1 d2 g (none_left (allowed_of b d) h) (die_low d1 i) (die_high d1 i)
        (die_low d2 j) (die_high d2 j);
    reads_back =
        λ b d g h. (owed.exact (direction_of b) (command_of (direction_of b) d) d).1
        (record { valid = valid b d g h; text_is = refl });
    decision_text =
        λ b d g h. no_return (command_of (direction_of b) d) (owed.commands (direction_of b) d (valid b d g h)).0;
    no_roll = λ b d d1 d2 next h. never_rolls next (no_roll_after owed b d (d1 ∷ d2 ∷ []) next h);
    few_initial = λ m. few (autoboard m) (moreboards m);
    style_quiet = quiet _ owed.style;
    plain_quiet = λ p h. quiet _ (owed.plain p (no_fault (plain_fault_of p) h));
    info_quiet = λ m. initial_quiet (autoboard m) (moreboards m);
    alone = λ t s. (owed.alone t s).lines;
    prints_line =
        λ b g. (
          record { bytes = spelling b; cut = false },
          board_line_alone b g,
          ap says (owed.one_reading (spelling b) (reading_value (spelling b)) (board_line b) (owed.reading (spelling b))
              (reads_itself b (valid_board b g))),
        );
  }

  -- a login is no decision
  pub login_quiet : (name password : List ℕ) → IsLogin name password → IsQuiet fibs (login_text name password)
  login_quiet name password is = quiet _ (owed.login name password is)
