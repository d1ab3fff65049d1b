-- Commands of a server that the client does not have (FIBS).
use Rattle.std.specs.Prelude.{◌||◌, ℕ, Bool, List, codes}
use Rattle.std.specs.Str.{bytes_eq}
use Rattle.fibs_fields.specs.Split.{before}

-- words that a terminal sends as they are typed: to watch others, to leave a match, to say that one is away
abbrev pub is_passed_word : List ℕ → Bool
is_passed_word word = bytes_eq (codes "away") word || (bytes_eq (codes "back") word
    || (bytes_eq (codes "leave") word || (bytes_eq (codes "pip") word || (bytes_eq (codes "redouble") word
    || (bytes_eq (codes "unwatch") word || (bytes_eq (codes "watch") word || bytes_eq (codes "whois") word))))))

-- lines that begin with one, and one more of two words
abbrev pub is_passed : List ℕ → Bool
is_passed line = bytes_eq line (codes "show saved") || is_passed_word (before 32 line)

-- words by which people leave
abbrev pub is_leaving_word : List ℕ → Bool
is_leaving_word word = bytes_eq (codes "adios") word || (bytes_eq (codes "ciao") word
    || (bytes_eq (codes "end") word || (bytes_eq (codes "exit") word
    || (bytes_eq (codes "logout") word || bytes_eq (codes "q") word))))
