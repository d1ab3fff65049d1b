-- How many bytes are read and written at once, and how many the parts of an entry's line have at most.
use Rattle.std.specs.Prelude.{ℕ, ◌+◌}

-- bytes of a script that are asked for at once
abbrev pub read_len : ℕ
read_len = 4096

-- bytes of the log that are written at once
abbrev pub write_len : ℕ
write_len = 8192

-- a space and a number
abbrev pub number_len : ℕ
number_len = 41

-- a space and 0 or 1
abbrev pub flag_len : ℕ
flag_len = 2

-- a space and a board
abbrev pub board_len : ℕ
board_len = 330

-- a space and a board, and a space and a command
abbrev pub ask_len : ℕ
ask_len = 367

-- a space, and the answer to a click
abbrev pub answer_len : ℕ
answer_len = 15

-- what an entry says
abbrev pub said_len : ℕ
said_len = 416

-- its line, with the end
abbrev pub entry_len : ℕ
entry_len = said_len + 1
