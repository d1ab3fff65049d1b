-- What hearing a piece does to the client, the log and the wire to the server.
use Rattle.std.specs.Prelude.{◌≡◌, ◌≤◌, ◌+◌, ℕ, Bool, List, [], length, take, count_by}
use Rattle.fibs_lines.specs.Lines.{is_line_end}
use Rattle.fibs_messages.specs.Line.{ReadingValue}
use Rattle.fibs_session.specs.Calls.Standing.{ClientValue, StandsAfter}
use Rattle.fibs_session.specs.Calls.Writing.{Writes}
use Rattle.fibs_session.specs.History.Hearing.{heard}
use Rattle.fibs_session.specs.History.Log.{Entry}
use Rattle.fibs_session.specs.History.Machine.{Talk, Piece, step}
use Rattle.fibs_session.specs.History.Owing.{owed, entries_owed}
use Rattle.fibs_session.specs.History.Words.{open_now}
use Rattle.fibs_model.specs.LinksOf.{LinkValue, link_at, set_link, seen, RoomToServer}
use Rattle.fibs_model.specs.WireLinks.{more_asked, delivered}
use Rattle.fibs_model.specs.declared.world.link.Link as C

-- the client is reached by what has happened, and this connection is open
pub record IsTalking (client : ClientValue) (conn : ℕ) (t : Talk) : Type 0 where
  pub stands : StandsAfter client t
  pub is_open : open_now t.log ≡ conn

-- There is room for what is noted of a line that the client heard, and at which a standing order rolled or not: in a
-- log of this length, for the history before it.
pub record RoomForLine (conn : ℕ) (reading : ReadingValue) (rolled : Bool) (len capacity : ℕ) : Type 0 where
  pub before : List Entry
  pub rolls : (heard conn before reading).rolled ≡ rolled
  pub room : len + length (heard conn before reading).entries ≤ capacity

-- There is room for all that the lines of a piece may make the client note and hand out: in a log of this length, and
-- on the wire to the server.
pub record RoomForPiece (client : ClientValue) (conn : ℕ) (piece : List ℕ) (len capacity bytes : ℕ) : Type 0 where
  pub talk : Talk
  pub talks : IsTalking client conn talk
  pub entries : len + entries_owed talk (count_by is_line_end piece) ≤ capacity
  pub commands : owed talk (count_by is_line_end piece) ≤ bytes

-- the same for the next n bytes on a connection
pub record RoomForNext (client : ClientValue) (conn n : ℕ) (links : List C.Link) (len capacity : ℕ) : Type 0 where
  pub talk : Talk
  pub talks : IsTalking client conn talk
  pub entries : len + entries_owed talk (count_by is_line_end (take n (link_at (seen links) conn).coming)) ≤ capacity
  pub commands : RoomToServer links conn (owed talk (count_by is_line_end (take n (link_at (seen links) conn).coming)))

-- the client reads the bytes, its commands go on the wire, and the log goes on as the client's machine notes
pub record HearsPiece (old new : ClientValue) (conn : ℕ) (bytes : List ℕ) (log later : List Entry)
    (wire more : List ℕ) : Type 0 where
  pub writes : Writes old new (Piece bytes) wire more
  pub noted : (t : Talk) → IsTalking old conn t → log ≡ t.log → later ≡ (step t (Piece bytes)).talk.log

-- the same for the next n bytes on a connection
pub record HearsNext (old new : ClientValue) (conn n : ℕ) (before after : List LinkValue) (log later : List Entry)
    : Type 0 where
  pub asked : List ℕ
  pub links : after ≡ set_link before conn (more_asked (delivered (link_at before conn) n) asked)
  pub hears : HearsPiece old new conn (take n (link_at before conn).coming) log later [] asked
