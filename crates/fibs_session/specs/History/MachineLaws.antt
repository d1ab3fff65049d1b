-- Laws of the machine, for callers.
use Rattle.std.specs.Prelude.{◌≡◌, ℕ, List, [], ◌++◌, flat_map}
use Rattle.fibs_game.specs.MachineLaws as A
use Rattle.fibs_messages.specs.Line.{ReadingValue}
use Rattle.fibs_session.specs.Fibs.{fibs}
use Rattle.fibs_session.specs.History.Hearing.{heard}
use Rattle.fibs_session.specs.History.Log.{Entry}
use Rattle.fibs_session.specs.History.Words.{open_from, opened_by}
use Rattle.fibs_session.specs.History.Machine.{Talk, Piece, step, stays, then_also}
pub use Rattle.fibs_game.specs.MachineLaws.{logs_in, takes, undoes}

-- bytes may come in any pieces
abbrev pub PiecesJoin : Type 0
PiecesJoin =
    (t : Talk) (p q : List ℕ)
    → step t (Piece (p ++ q)) ≡ then_also (step t (Piece p)).send (step (step t (Piece p)).talk (Piece q))

-- a piece without a byte changes nothing
abbrev pub EmptyPieceIsNothing : Type 0
EmptyPieceIsNothing = (t : Talk) → step t (Piece []) ≡ stays t

-- no line opens or ends a connection
abbrev pub LinesOpenNoConnection : Type 0
LinesOpenNoConnection =
    (c : ℕ) (log : List Entry) (r : ReadingValue)
    → (flat_map opened_by (heard c log r).entries ≡ []) × ((o : ℕ) → open_from o (heard c log r).entries ≡ o)

-- what a server notes
abbrev pub IsServers : Entry → Type 0
IsServers e = A.IsServers fibs e
