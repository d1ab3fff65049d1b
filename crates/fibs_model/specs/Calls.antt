-- What the calls of a world do to its log and its wires.
use Rattle.std.specs.Prelude.{◌≡◌, ℕ, ◌+◌, take, drop, false, not, ◌&&◌, ◌||◌, List, [], ◌∷◌, length, Option, Some, None, if◌then◌else◌, nat_eq, nat_lt, is_some}
use Rattle.fibs_fields.specs.Board.{BoardFields}
use Rattle.fibs_position.specs.DecisionValue.{DecisionValue}
use Rattle.fibs_game.specs.declared.refusal.Refusal.{Refusal}
use Rattle.fibs_session.specs.History.Log as L
use Rattle.fibs_session.specs.History.Machine.{on_wire, wire_of}
use Rattle.fibs_session.specs.History.Words.{is_empty}
use Rattle.fibs_model.specs.Events.{Event, Serve, Deliver}
use Rattle.fibs_model.specs.LinksOf.{LinkValue, link_at, set_link}
use Rattle.fibs_model.specs.Server as V
use Rattle.fibs_position.specs.BoardEffect.{is_die}
use Rattle.fibs_model.specs.Server.{ServerValue}
use Rattle.fibs_model.specs.WireLinks.{more_asked, more_coming, taken}
use Rattle.fibs_model.specs.Wires.{next_line}
use Rattle.fibs_model.specs.ServerOf.{after_line}
pub use Rattle.fibs_model.specs.ServerOf.{served_entries, is_answered}
use Rattle.fibs_model.specs.declared.world.link.Link as C
use Rattle.fibs_game.specs.declared.world_refusal.WorldRefusal.{WorldRefusal}
use Rattle.fibs_game.specs.declared.world_refusal.WorldRefusal.TheVariants.{NoSuchConnection, BadDice, NothingToServe}

-- commands go on the wire to the server
abbrev pub ask_links : List LinkValue → ℕ → List (List ℕ) → List LinkValue
ask_links links c [] = links
ask_links links c (t ∷ ts) = set_link links c (more_asked (link_at links c) (wire_of (t ∷ ts)))

-- a line goes to the connection logged in, if that is the open one
abbrev pub send_links : ℕ → ℕ → List LinkValue → List ℕ → List LinkValue
send_links logged_in c links line =
    if nat_eq c logged_in && not (nat_eq logged_in 0)
    then set_link links c (more_coming (link_at links c) (on_wire line))
    else links

-- what is noted of a click with its answer, on the board shown
abbrev pub click_entries : ℕ → DecisionValue → Option Refusal → Option BoardFields → List L.Entry
click_entries c d (Some why) b = L.Clicked c d (Some why) ∷ []
click_entries c d None None = L.Clicked c d None ∷ []
click_entries c d None (Some b) = L.Clicked c d None ∷ L.Sent c b d ∷ []

-- what is noted of an order, or of its end, if the client does not refuse it
abbrev pub unless_refused : Option Refusal → L.Entry → List L.Entry
unless_refused (Some why) e = []
unless_refused None e = e ∷ []

-- why it is refused to serve a line of a connection
abbrev pub serve_refusal : List LinkValue → ℕ → ℕ → ℕ → ℕ → Option WorldRefusal
serve_refusal links logged_in c d1 d2 =
    if nat_eq c 0 || nat_lt (length links) c then Some NoSuchConnection
    else (if not (is_die d1 && is_die d2) then Some BadDice
    else (if nat_lt c logged_in || not (is_some (next_line (link_at links c).asked))
    then Some NothingToServe
    else None))

-- what comes next on the wires of a connection, by what their value says
abbrev pub next_on : LinkValue → ℕ → ℕ → ℕ → Option Event
next_on l c d1 d2 =
    if is_some (next_line l.asked) then Some (Serve c d1 d2)
    else (if is_empty l.coming then None else Some (Deliver (length l.coming)))

-- the server took the first len bytes that are on their way, with their line end, and this was its answer
pub record TakesLine (old new : ServerValue) (before after : C.Link) (c len d1 d2 : ℕ) (served : V.Served)
    : Type 0 where
  pub answer : served ≡ V.answered old (record {
    conn = c;
    first = before.fresh;
    text = take len before.to_server.items;
    die = d1;
    other_die = d2;
  })
  pub server : new ≡ after_line old c served
  pub wire : after.to_server.items ≡ drop (len + 2) before.to_server.items
  pub begun : after.fresh ≡ false
  pub others : after.to_client ≡ before.to_client

-- the server took the next line of a connection: it, and what is left
pub record TakesNext (old new : ServerValue) (before after : List LinkValue) (c d1 d2 : ℕ) (served : V.Served)
    : Type 0 where
  pub line : List ℕ × List ℕ
  pub next : next_line (link_at before c).asked ≡ Some line
  pub answer : served ≡ V.answered old (record {
    conn = c;
    first = (link_at before c).fresh;
    text = line.0;
    die = d1;
    other_die = d2;
  })
  pub server : new ≡ after_line old c served
  pub links : after ≡ set_link before c (taken (link_at before c) line.1)
