-- Which commands turn nothing off.
use Rattle.std.proofs.Common.{◌≡◌, ℕ, Bool, true, false, ◌||◌, List, [], ◌∷◌, ◌++◌, if◌then◌else◌, refl, ap, ◌∙◌}
use Rattle.std.specs.Str.{bytes_eq}
use Rattle.fibs_messages.specs.Message.{MessageValue}
use Rattle.fibs_position.specs.DecisionValue.{DecisionValue, roll, double, accept, reject, move, resign}
use Rattle.fibs_position.specs.declared.direction.Direction.{Direction}
use Rattle.fibs_commands.specs.Commands.{command_of}
use Rattle.fibs_messages.specs.Flags.{autoboard, moreboards}
use Rattle.fibs_session.specs.History.Hearing.{initial_commands}
use Rattle.fibs_commands.specs.FirstCommands.{style_text, autoboard_text, moreboards_text, board_text}
use Rattle.fibs_commands.specs.PlainCommands.{automove_off, greedy_off, plain_of}
use Rattle.fibs_session.specs.History.Machine.{was_sent}
use Rattle.fibs_session.specs.Calls.SessionValue.{IsNoToggle}

-- none of the texts is sent to turn something off
pub record NoToggles (texts : List (List ℕ)) : Type 0 where
  pub no_automove : was_sent (plain_of automove_off) texts ≡ false
  pub no_greedy : was_sent (plain_of greedy_off) texts ≡ false

-- a text is among two lists of commands if it is in one of them
pub gone : (x : List ℕ) (xs ys : List (List ℕ)) → was_sent x (xs ++ ys) ≡ (was_sent x xs || was_sent x ys)
gone x [] ys = refl
gone x (t ∷ ts) ys = ap (λ b. bytes_eq x t || b) (gone x ts ys) ∙ three (bytes_eq x t) (was_sent x ts) (was_sent x ys)
  where
    three : (a b c : Bool) → (a || (b || c)) ≡ ((a || b) || c)
    three true b c = refl
    three false b c = refl

-- the second of two tests adds nothing if it fails
or_false : (a b : Bool) → b ≡ false → (a || b) ≡ a
or_false true b h = refl
or_false false b h = h

-- one of two tests holds if the second does
or_true : (a b : Bool) → b ≡ true → (a || b) ≡ true
or_true true b h = refl
or_true false b h = h

-- commands that are not the text leave open whether it was sent before
pub not_gone : (x : List ℕ) (xs ys : List (List ℕ)) → was_sent x ys ≡ false → was_sent x (xs ++ ys) ≡ was_sent x xs
not_gone x xs ys h = gone x xs ys ∙ or_false _ _ h

-- a text that is among the commands just sent was sent
pub gone_now : (x : List ℕ) (xs ys : List (List ℕ)) → was_sent x ys ≡ true → was_sent x (xs ++ ys) ≡ true
gone_now x xs ys h = gone x xs ys ∙ or_true _ _ h

-- no command turns nothing off
pub no_texts : NoToggles []
no_texts = record { no_automove = refl; no_greedy = refl }

-- one command that turns nothing off, alone
pub one_text : (text : List ℕ) → IsNoToggle text → NoToggles (text ∷ [])
one_text text h =
    record { no_automove = or_false _ false refl ∙ h.no_automove; no_greedy = or_false _ false refl ∙ h.no_greedy }

-- a choice of two lists of commands turns nothing off if neither does
pub if_texts : (b : Bool) (xs ys : List (List ℕ)) → NoToggles xs → NoToggles ys → NoToggles (if b then xs else ys)
if_texts true xs ys h k = h
if_texts false xs ys h k = k

-- two lists of commands in a row turn nothing off if neither does
pub both_texts : (xs ys : List (List ℕ)) → NoToggles xs → NoToggles ys → NoToggles (xs ++ ys)
both_texts xs ys h k = record {
  no_automove = not_gone _ xs ys k.no_automove ∙ h.no_automove;
  no_greedy = not_gone _ xs ys k.no_greedy ∙ h.no_greedy;
}

-- `set boardstyle 3` turns nothing off
style_no_toggle : IsNoToggle style_text
unfolding style_text plain_of
style_no_toggle = record { no_automove = refl; no_greedy = refl }

-- `toggle autoboard` turns nothing off
autoboard_no_toggle : IsNoToggle autoboard_text
unfolding autoboard_text plain_of
autoboard_no_toggle = record { no_automove = refl; no_greedy = refl }

-- `toggle moreboards` turns nothing off
moreboards_no_toggle : IsNoToggle moreboards_text
unfolding moreboards_text plain_of
moreboards_no_toggle = record { no_automove = refl; no_greedy = refl }

-- `board` turns nothing off
board_no_toggle : IsNoToggle board_text
unfolding board_text plain_of
board_no_toggle = record { no_automove = refl; no_greedy = refl }

-- the answer to message 1 turns nothing off
pub style_texts : NoToggles (style_text ∷ [])
style_texts = one_text style_text style_no_toggle

-- the answer to message 2 turns nothing off
pub initial_texts : (m : MessageValue) → NoToggles (initial_commands m)
initial_texts m =
    both_texts ((if autoboard m then [] else autoboard_text ∷ [])
    ++ (if moreboards m then [] else moreboards_text ∷ [])) (board_text ∷ [])
    (both_texts (if autoboard m then [] else autoboard_text ∷ []) (if moreboards m then [] else moreboards_text ∷ [])
    (if_texts (autoboard m) [] (autoboard_text ∷ []) no_texts (one_text _ autoboard_no_toggle))
    (if_texts (moreboards m) [] (moreboards_text ∷ []) no_texts (one_text _ moreboards_no_toggle)))
    (one_text _ board_no_toggle)

-- the command of a decision turns nothing off
pub decision_no_toggle : (direction : Direction) (d : DecisionValue) → IsNoToggle (command_of direction d)
unfolding command_of plain_of
decision_no_toggle direction roll = record { no_automove = refl; no_greedy = refl }
decision_no_toggle direction double = record { no_automove = refl; no_greedy = refl }
decision_no_toggle direction accept = record { no_automove = refl; no_greedy = refl }
decision_no_toggle direction reject = record { no_automove = refl; no_greedy = refl }
decision_no_toggle direction (move steps) = record { no_automove = refl; no_greedy = refl }
decision_no_toggle direction (resign stake) = record { no_automove = refl; no_greedy = refl }
