-- Which lines of the server a terminal does not show as they came, each for a reason with a name (the project's own).
use Rattle.std.specs.Prelude.{◌==◌, ◌&&◌, ◌||◌, ℕ, Bool, not, List, [], length, codes, Option, Some, None, if◌then◌else◌}
use Rattle.std.specs.Str.{bytes_eq}
use Rattle.fibs_fields.specs.Bytes.{name_bytes}
use Rattle.fibs_messages.specs.declared.message.Message.{Message}
use Rattle.fibs_messages.specs.declared.message.Message.TheVariants.{OwnInfo, MotdEnd, WhoInfo, WhoInfoEnd, Login, Logout, MessageReceived, Says, Shouts, Whispers, Kibitzes}
use Rattle.fibs_terminal.specs.declared.listening.left_out.Known.{Known}
use Rattle.fibs_terminal.specs.declared.listening.left_out.LeftOut.{LeftOut}
use Rattle.fibs_terminal.specs.declared.listening.left_out.LeftOut.TheVariants as L
use Rattle.fibs_terminal.specs.declared.listening.left_out.Seen.{Seen}

-- a text that says no more than the hint below it: that it is the user's turn, and what he has to do
abbrev pub is_hinted : List ℕ → Bool
is_hinted said = bytes_eq said (codes "It's your turn to move.")
    || (bytes_eq said (codes "It's your turn to roll.")
    || (bytes_eq said (codes "It's your turn to roll or double.")
    || (bytes_eq said (codes "It's your turn. Please roll.")
    || (bytes_eq said (codes "It's your turn. Please roll or double")
    || (bytes_eq said (codes "It's your turn. Please roll or double.")
    || (bytes_eq said (codes "Please move 1 piece.")
    || (bytes_eq said (codes "Please move 2 pieces.")
    || (bytes_eq said (codes "Please move 3 pieces.")
    || bytes_eq said (codes "Please move 4 pieces.")))))))))

-- a text that says that the user can't move
abbrev pub is_cant_move : List ℕ → Bool
is_cant_move said = bytes_eq said (codes "You can't move.")

-- a text that says how the next game begins
abbrev pub is_next_game : List ℕ → Bool
is_next_game said =
    bytes_eq said (codes "Type 'join' if you want to play the next game, type 'leave' if you don't.")

-- why a text is not shown: each that is left out is one of these whole, and anything else is shown
abbrev pub text_left_out : List ℕ → Known → Option LeftOut
text_left_out said k =
    if length said == 0 then Some L.Empty else
    if is_hinted said then Some L.Hinted else
    if k.passes && is_cant_move said then Some L.Passing else
    if k.is_ended then Some L.Ended else
    if k.is_next && is_next_game said then Some L.NextGame else
    if k.is_invited then Some L.Invited else
    if k.is_answer then Some L.Answered else None

-- talk is shown, unless its player is gagged
abbrev pub talk_left_out : Seen → Option LeftOut
talk_left_out s = if s.is_gagged then Some L.Gagged else None

-- a shout too, unless the screen is quiet
abbrev pub shout_left_out : Seen → Option LeftOut
shout_left_out s = if s.is_gagged then Some L.Gagged else if s.is_quiet then Some L.Quiet else None

-- who comes and goes is shown, but not during a match, unless the user has to do with him, or wants to see all
abbrev pub coming_left_out : Seen → Option LeftOut
coming_left_out s =
    if s.is_gagged then Some L.Gagged else
    if s.arrivals then None else
    if s.is_quiet then Some L.Quiet else
    if s.is_in_match && not s.is_known then Some L.Coming else None

-- so is who has changed, but for the user himself
abbrev pub change_left_out : Seen → Option LeftOut
change_left_out s = if s.is_own then Some L.Own else coming_left_out s

-- the player of whom a message tells, if what is shown of it depends on him
abbrev pub player_of : Message → List ℕ
player_of (Login name text) = name_bytes name
player_of (Logout name text) = name_bytes name
player_of (Says name text) = name_bytes name
player_of (Shouts name text) = name_bytes name
player_of (Whispers name text) = name_bytes name
player_of (Kibitzes name text) = name_bytes name
player_of (MessageReceived sender time text) = name_bytes sender
player_of message = []

-- why a message is not shown
abbrev pub message_left_out : Message → Seen → Option LeftOut
message_left_out (OwnInfo info) s = if s.logs_in then Some L.Login else None
message_left_out MotdEnd s = Some L.MotdEnd
message_left_out (WhoInfo info) s = Some L.Listed
message_left_out WhoInfoEnd s = Some L.Listed
message_left_out (Login name text) s = coming_left_out s
message_left_out (Logout name text) s = coming_left_out s
message_left_out (Shouts name text) s = shout_left_out s
message_left_out (MessageReceived sender time text) s = talk_left_out s
message_left_out (Says name text) s = talk_left_out s
message_left_out (Whispers name text) s = talk_left_out s
message_left_out (Kibitzes name text) s = talk_left_out s
message_left_out message s = None
