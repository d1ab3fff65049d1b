-- What the server plays for the user by itself: automove and greedy, as the server says them and the user changes them
-- (the texts of FIBS; else the project's own).
use Rattle.std.specs.Prelude.{◌||◌, ℕ, zero, suc, Bool, true, false, not, cond, nat_lt, List, codes, Option, Some, None}
use Rattle.std.specs.Str.{bytes_eq}
use Rattle.fibs_terminal.specs.declared.toggles.Toggle.{Toggle}
use Rattle.fibs_terminal.specs.declared.toggles.Toggles.{Toggles}

-- what a setting is after so many lines that change it
abbrev pub flipped : ℕ → Bool → Bool
flipped zero told = told
flipped (suc n) told = not (flipped n told)

-- whether a setting is on: as the server has said it last, changed by each line that was sent and not answered since
abbrev pub is_on : Toggle → Bool
is_on t = flipped t.unanswered t.told

-- the server has said nothing
abbrev pub new_toggle : Toggle
new_toggle = record { told = false; unanswered = 0 }

-- a line was sent that changes it; of more than 255 that are not answered the others are not counted
abbrev pub after_sent : Toggle → Toggle
after_sent t = record t { unanswered = cond (nat_lt t.unanswered 255) (suc t.unanswered) t.unanswered }

-- one fewer
abbrev pub one_fewer : ℕ → ℕ
one_fewer zero = zero
one_fewer (suc n) = n

-- the server says what it is: that answers the first of the lines that were sent, if any is not answered
abbrev pub after_told : Bool → Toggle → Toggle
after_told on t = record { told = on; unanswered = one_fewer t.unanswered }

-- the server says so or not, or says something else
abbrev pub after_said : Option Bool → Toggle → Toggle
after_said None t = t
after_said (Some on) t = after_told on t

-- what a text says of automove, if it does
abbrev pub automove_in : List ℕ → Option Bool
automove_in said =
    cond (bytes_eq said (codes "** Forced moves will be done automatically.")) (Some true)
    (cond (bytes_eq said (codes "** Forced moves won't be done automatically.")) (Some false) None)

-- what a text says of greedy, if it does
abbrev pub greedy_in : List ℕ → Option Bool
greedy_in said =
    cond (bytes_eq said (codes "** Will use automatic greedy bearoffs.")) (Some true)
    (cond (bytes_eq said (codes "** Won't use automatic greedy bearoffs.")) (Some false) None)

-- the server has said nothing of either
abbrev pub new_toggles : Toggles
new_toggles = record { automove = new_toggle; greedy = new_toggle }

-- the settings have come, as they were before the lines that were sent since the login
abbrev pub after_settings : Bool → Bool → Toggles → Toggles
after_settings automove greedy t = record {
  automove = record t.automove { told = automove };
  greedy = record t.greedy { told = greedy };
}

-- a line was sent, by whichever word
abbrev pub after_line : List ℕ → Toggles → Toggles
after_line line t = record {
  automove = cond (bytes_eq line (codes "toggle automove")) (after_sent t.automove) t.automove;
  greedy = cond (bytes_eq line (codes "toggle greedy")) (after_sent t.greedy) t.greedy;
}

-- a text has come
abbrev pub after_text : List ℕ → Toggles → Toggles
after_text said t = record {
  automove = after_said (automove_in said) t.automove;
  greedy = after_said (greedy_in said) t.greedy;
}

-- one of them is on
abbrev pub any_on : Toggles → Bool
any_on t = is_on t.automove || is_on t.greedy
