-- The bytes of the names, words and tails of the program, which borrow them.
use Rattle.std.specs.Prelude.{ℕ, List}
use Rattle.fibs_fields.specs.declared.name.Name.{Name}
use Rattle.fibs_fields.specs.declared.word.Tail.{Tail}
use Rattle.fibs_fields.specs.declared.word.Word.{Word}

-- the bytes of a name
abbrev pub name_bytes : Name → List ℕ
name_bytes name = name.bytes.now

-- the bytes of a word
abbrev pub word_bytes : Word → List ℕ
word_bytes word = word.bytes.now

-- the bytes of a tail
abbrev pub tail_bytes : Tail → List ℕ
tail_bytes tail = tail.bytes.now
