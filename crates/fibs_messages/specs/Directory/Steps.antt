-- What one message makes of the entries of a directory. No public contract rests on this file.
use Rattle.std.specs.Prelude.{ℕ, Bool, ◌&&◌, ◌==◌, List, [], ◌∷◌, length, is_none, if◌then◌else◌}
use Rattle.fibs_messages.specs.Message.{MessageValue}
use Rattle.fibs_messages.specs.Directory.{directory_limit, name_of, is_of, entry_of}

-- the message in the place of the entry of its name, or last
abbrev pub with_entry : List MessageValue → MessageValue → List MessageValue
with_entry [] m = m ∷ []
with_entry (e ∷ es) m = if is_of (name_of m) e then m ∷ es else e ∷ with_entry es m

-- the entries without that of a name
abbrev pub without_entry : List ℕ → List MessageValue → List MessageValue
without_entry name [] = []
without_entry name (e ∷ es) = if is_of name e then es else e ∷ without_entry name es

-- the name is new, and there is no room for another name
abbrev pub is_full_for : List ℕ → List MessageValue → Bool
is_full_for name entries = is_none (entry_of name entries) && length entries == directory_limit
