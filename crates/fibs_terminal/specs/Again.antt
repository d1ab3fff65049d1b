-- When a connection that has ended is opened again (the project's own).
use Rattle.std.specs.Prelude.{◌≡◌, ◌++◌, ◌&&◌, ◌||◌, ◌+◌, ◌*◌, ◌^◌, ◌∷◌, ℕ, zero, suc, List, [], codes, Bool, Option, Some, None, IfSome, true, false, cond, decimal, is_some, not, min, max}
use Rattle.std.specs.Duration.{as_nanos, max_nanos}
use Rattle.std.specs.Str.{bytes_eq}
use Rattle.std.specs.declared.time.Duration.{Duration}
use Rattle.fibs_fields.specs.Split.{before}
use Rattle.fibs_game.specs.declared.refusal.Refusal.{Refusal}
use Rattle.fibs_game.specs.declared.refusal.Refusal.TheVariants.{Offline}
use Rattle.fibs_wording.specs.ServerWords.{is_leaving_word}
use Rattle.fibs_terminal.specs.declared.reconnecting.Reconnecting.{Reconnecting}

-- how many seconds pass before the next try, after so many before the last one: 1, 2, 4 .. and 60 at most
abbrev pub next_wait : ℕ → ℕ
next_wait seconds = min (max 1 (2 * seconds)) 60

-- whether a connection that ends is opened again: the user has asked for it, and has not taken leave of the server
-- himself, and the server has greeted him on this connection or on the one before
abbrev pub goes_on : Reconnecting → Bool
goes_on r = r.is_on && (not r.leaves && (r.is_greeted || not r.has_failed))

-- a connection has ended, which may have lasted long: then the waits begin anew
abbrev pub after_lost : Bool → Reconnecting → Reconnecting
after_lost lasted r = record r {
  tries = goes_on r;
  wait = cond (goes_on r) (next_wait (cond lasted 0 r.wait)) 0;
  due = None;
  is_greeted = false;
  has_failed = goes_on r && not r.is_greeted;
}

-- no connection could be made: another try comes, if this was one
abbrev pub after_failed : Reconnecting → Reconnecting
after_failed r = record r { wait = cond r.tries (next_wait r.wait) 0; due = None }

-- a connection was made, on which the server has said nothing
abbrev pub after_opened : Reconnecting → Reconnecting
after_opened r = record r { tries = false; due = None; is_greeted = false; leaves = false }

-- the user asks for it; while there is no connection, a try comes
abbrev pub after_asked : Bool → Reconnecting → Reconnecting
after_asked is_offline r = record r {
  is_on = true;
  tries = is_offline;
  wait = cond is_offline (next_wait 0) 0;
  due = None;
  has_failed = false;
  leaves = r.leaves && not is_offline;
}

-- the user asks for it no longer: no try comes
abbrev pub after_stay : Reconnecting → Reconnecting
after_stay r = record r { is_on = false; tries = false; wait = 0; due = None }

-- there is no connection: so the client refuses to roll
abbrev pub lacks_connection : Option Refusal → Bool
lacks_connection (Some Offline) = true
lacks_connection why = false

-- when the next try comes, and what ends that
abbrev pub try_words : List ℕ → ℕ → List ℕ
try_words before seconds = before ++ (decimal seconds ++ codes " s; stay leaves it closed, quit ends\n")

-- what is said to who asks for it: while there is no connection, when a try comes
abbrev pub reconnect_words : Bool → List ℕ
reconnect_words true = try_words (codes "connecting in ") (next_wait 0)
reconnect_words false = codes "reconnect: a lost connection is opened again by itself; stay ends that.\n"

-- and to who asks for it no longer
abbrev pub stay_words : List ℕ
stay_words = codes "stay: a connection that is lost stays closed until you type open.\n"

-- the first word of a line takes leave of the server: its own words, and those by which people leave
abbrev pub takes_leave : List ℕ → Bool
takes_leave line = bytes_eq (before 32 line) (codes "bye") || (bytes_eq (before 32 line) (codes "quit")
    || is_leaving_word (before 32 line))

-- what is said at the end of a connection for whose opening nobody waits: that it was lost, or, if the user has taken
-- leave of the server himself, that the server has closed it; and whether `fix` opens it again
abbrev pub end_words : Bool → Bool → List ℕ
end_words false false = codes "lost: open connects again, quit ends\n"
end_words false true = codes "lost: connecting again\n"
end_words true false = codes "closed, as you asked: open connects again, quit ends\n"
end_words true true = codes "closed, as you asked: connecting again\n"

-- this holds of each connection that was left so: none of those is opened again by the waits
abbrev pub SaysEnd : Reconnecting → List ℕ → List ℕ → Type 0
SaysEnd r before after = r.leaves ≡ true → (fixes : Bool) × (after ≡ before ++ end_words true fixes)

-- the wait before the next try is measured from now on, unless it was before
abbrev pub IsDue : Reconnecting → Duration → Reconnecting → Type 0
IsDue r now next = (next ≡ record r { due = next.due })
    × ((is_some next.due ≡ (r.tries || is_some r.due))
    × (r.tries ≡ true → r.due ≡ None
    → IfSome next.due (λ due. as_nanos due ≡ min (as_nanos now + r.wait * 1_000_000_000) max_nanos)))

-- no connection can be made so many times in a row, and the user asks for nothing
abbrev pub failed : ℕ → Reconnecting → Reconnecting
failed zero r = r
failed (suc n) r = after_failed (failed n r)

-- the waits after a connection that had lasted, and that the user had asked to be opened again: 1, 2, 4 .. seconds, and
-- 60 at most, as often as no connection can be made
abbrev pub WaitsDouble : Type 0
WaitsDouble = (r : Reconnecting) (n : ℕ) → goes_on r ≡ true
    → ((failed n (after_lost true r)).tries ≡ true) × ((failed n (after_lost true r)).wait ≡ min (2 ^ n) 60)

-- what may happen between two words of the user: a connection ends, can't be made, or is made; the server greets the
-- user; he takes leave of the server
pub data Happening : Type 0 where
  lost : Bool → Happening
  unmade : Happening
  made : Happening
  greeted : Happening
  left : Happening

-- what is kept after it
abbrev pub after : Happening → Reconnecting → Reconnecting
after (lost lasted) r = after_lost lasted r
after unmade r = after_failed r
after made r = after_opened r
after greeted r = record r { is_greeted = true }
after left r = record r { leaves = true }

-- and after many of them, the first one last in the list
abbrev pub after_all : List Happening → Reconnecting → Reconnecting
after_all [] r = r
after_all (h ∷ hs) r = after h (after_all hs r)

-- after `stay` no connection is opened again, whatever happens
abbrev pub StaysClosed : Type 0
StaysClosed = (r : Reconnecting) (hs : List Happening) → (after_all hs (after_stay r)).tries ≡ false

-- nor is one of which the user has taken leave
abbrev pub EndsByLeave : Type 0
EndsByLeave = (r : Reconnecting) (lasted : Bool) → r.leaves ≡ true → (after_lost lasted r).tries ≡ false

-- nor one on which the server has not greeted the user, if it had not on the one before it either
abbrev pub EndsByTwo : Type 0
EndsByTwo = (r : Reconnecting) (first second : Bool) → goes_on r ≡ true → r.is_greeted ≡ false
    → (after_lost second (after_opened (after_lost first r))).tries ≡ false

-- nor does a connection that is opened by hand begin a row of tries: without the wish none comes
abbrev pub TriesIfAsked : Type 0
TriesIfAsked = (r : Reconnecting) (lasted : Bool) → r.is_on ≡ false → (after_lost lasted r).tries ≡ false

-- when a lost connection is opened again
pub record OpensAgain : Type 0 where
  pub waits : WaitsDouble
  pub stays : StaysClosed
  pub leave : EndsByLeave
  pub two : EndsByTwo
  pub asked : TriesIfAsked
