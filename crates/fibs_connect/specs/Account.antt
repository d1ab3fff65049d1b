-- The plain account: the lines for each thing that is reported.
use Rattle.std.specs.Prelude.{◌++◌, ℕ, List, [], ◌∷◌, codes, Option}
use Rattle.std.specs.List.{flat_map}
use Rattle.std.specs.Io.KnownBytes.{Appends}
use Rattle.std.proofs.Common.{sym, subst}
use Rattle.std.proofs.KnownBytes.{Appends-nil, Appends-trans}
use Rattle.std.proofs.lemmas.List.Concat.{flat_map-append}
use Rattle.fibs_position.specs.Names.{phase_name}
use Rattle.fibs_connect.specs.Told.{SaidValue, opened_said, no_connection_said, heard_said, phase_said, confirmed_said, sent_said, rolled_said, passed_said, ordered_said, withdrawn_said, refused_said, not_sent_said, unknown_said, lost_said, unnoted_said, player_said}
use Rattle.fibs_connect.specs.Lines.{text_of_lines, heard_text, confirmed_line, lost_line, refused_line, plain_line, unnoted_line, player_line}

-- the lines of each: one, but none for a connection that was made. Only a person sees why no connection can be made,
-- and what was sent as it is: the account gives no reason for the one, and no line for the other
abbrev pub lines_of : SaidValue → List (List ℕ)
lines_of opened_said = []
lines_of (no_connection_said why) = codes "no connection" ∷ []
lines_of (heard_said line r) = heard_text line r ∷ []
lines_of (phase_said phase) = (codes "phase " ++ phase_name phase) ∷ []
lines_of (confirmed_said ask) = confirmed_line ask ∷ []
lines_of (sent_said text) = (codes "sent " ++ text) ∷ []
lines_of rolled_said = codes "sent roll" ∷ []
lines_of (passed_said line) = []
lines_of ordered_said = codes "ordered" ∷ []
lines_of withdrawn_said = codes "withdrawn" ∷ []
lines_of (refused_said why) = refused_line why ∷ []
lines_of (not_sent_said why) = plain_line why ∷ []
lines_of unknown_said = codes "unknown" ∷ []
lines_of (lost_said waited) = lost_line waited ∷ []
lines_of (unnoted_said why) = unnoted_line why ∷ []
lines_of (player_said told) = player_line told ∷ []

-- what is printed of each
abbrev pub printed_of : SaidValue → List ℕ
printed_of said = text_of_lines (lines_of said)

-- what is printed of all that is reported, one after another
abbrev pub account_of : List SaidValue → List ℕ
account_of = flat_map printed_of

-- what was printed has grown by the account
abbrev pub Accounts : Option (List ℕ) → List SaidValue → Option (List ℕ) → Type 0
Accounts held told now = Appends held now (account_of told)

-- it may be made in parts
pub accounts_nothing : (a : Option (List ℕ)) → Accounts a [] a
accounts_nothing a = Appends-nil a

pub accounts_joined : (a b c : Option (List ℕ)) (xs ys : List SaidValue) → Accounts a xs b → Accounts b ys c
    → Accounts a (xs ++ ys) c
accounts_joined a b c xs ys p q = subst (Appends a c) (sym (flat_map-append printed_of xs ys))
    (Appends-trans a b c (account_of xs) (account_of ys) p q)
