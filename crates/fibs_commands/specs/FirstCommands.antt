-- The commands by which a client sets up a connection (FIBS), without their line ends.
use Rattle.std.specs.Prelude.{ℕ, List, codes}

-- boards are to be shown in board style 3
unfoldable pub style_text : List ℕ
style_text = codes "set boardstyle 3"

-- it toggles the setting that shows a board after every move
unfoldable pub autoboard_text : List ℕ
autoboard_text = codes "toggle autoboard"

-- it toggles the setting that shows a board after every roll too
unfoldable pub moreboards_text : List ℕ
moreboards_text = codes "toggle moreboards"

-- the board is to be shown
unfoldable pub board_text : List ℕ
board_text = codes "board"
