-- What `fibs connect --json` prints for each thing that is reported (the project's own format).
use Rattle.std.specs.Prelude.{◌≡◌, ◌++◌, ℕ, List, [], ◌∷◌, codes, Option, Some, None, slice_get}
use Rattle.std.specs.List.{flat_map}
use Rattle.std.specs.Io.KnownBytes.{Appends}
use Rattle.std.proofs.Common.{refl, sym, ap, subst, ◌∙◌, append_assoc}
use Rattle.std.proofs.KnownBytes.{Appends-nil, Appends-trans}
use Rattle.fibs_messages.specs.Directory.Faults.{directory_fault_number, directory_fault_name}
use Rattle.fibs_engine.specs.Printing.{line_bytes}
use Rattle.fibs_fields.specs.Field.{FieldValue, RatingField}
use Rattle.fibs_connect.specs.Account.{lines_of}
use Rattle.fibs_connect.specs.Lines.{field_text}
use Rattle.fibs_connect.specs.Told.{SaidValue, opened_said, no_connection_said, heard_said, phase_said, confirmed_said, sent_said, rolled_said, passed_said, ordered_said, withdrawn_said, refused_said, not_sent_said, unknown_said, lost_said, unnoted_said, player_said}
use Rattle.fibs_session.specs.declared.histories.refusal.PlainRefusal.{PlainRefusal}
use Rattle.fibs_session.specs.declared.histories.refusal.PlainRefusal.TheVariants as P
use Rattle.fibs_messages.specs.Message.{MessageValue}
use Rattle.fibs_position.specs.Names.{phase_name}
use Rattle.fibs_session.specs.History.Asked.{asked_text}
use Rattle.fibs_session.specs.History.Refusals.{refusal_number, refusal_name, plain_refusal_number, plain_refusal_name}
use Rattle.fibs_session.specs.History.Words.{Ask}
use Rattle.fibs_json.specs.Json.{Json, Member, hundredths, member, more_members, null, string, whole}
use Rattle.fibs_json.specs.Lines.{HeardObject, object_with}

-- the word for a refusal of a plain command: a fault is the command's own
abbrev pub plain_kind : PlainRefusal → List ℕ
plain_kind P.Offline = codes "refused"
plain_kind P.NotOn = codes "refused"
plain_kind (P.Fault fault) = codes "fault"

-- the word for what is reported, but for a line of the server, whose own object has its word
abbrev pub said_kind : SaidValue → List ℕ
said_kind opened_said = codes "opened"
said_kind (no_connection_said why) = codes "no_connection"
said_kind (heard_said line r) = codes "heard"
said_kind (phase_said phase) = codes "phase"
said_kind (confirmed_said ask) = codes "confirmed"
said_kind (sent_said text) = codes "sent"
said_kind rolled_said = codes "sent"
said_kind (passed_said line) = codes "passed"
said_kind ordered_said = codes "ordered"
said_kind withdrawn_said = codes "withdrawn"
said_kind (refused_said why) = codes "refused"
said_kind (not_sent_said why) = plain_kind why
said_kind unknown_said = codes "unknown"
said_kind (lost_said waited) = codes "lost"
said_kind (unnoted_said why) = codes "directory"
said_kind (player_said told) = codes "player"

-- a command; none if nothing waited
abbrev pub command_member : List ℕ → List Member
command_member text = member (codes "command") (string text) ∷ []

-- the member of a decision that waited: its command, or null
abbrev pub waited_members : Option Ask → List Member
waited_members None = member (codes "command") null ∷ []
waited_members (Some ask) = command_member (asked_text ask)

-- the number and the name of a reason
abbrev pub reason_members : ℕ → List ℕ → List Member
reason_members number name = member (codes "number") (whole number) ∷ member (codes "reason") (string name) ∷ []

-- a rating
abbrev pub rating_json : Option FieldValue → Json
rating_json (Some (RatingField rating)) = hundredths rating
rating_json other = null

-- a player, by the message that listed him
abbrev pub player_members : MessageValue → List Member
player_members told =
    member (codes "name") (string (field_text (slice_get told.fields 0)))
    ∷ member (codes "rating") (rating_json (slice_get told.fields 5)) ∷ []

-- what the line says, by name
abbrev pub said_members : SaidValue → List Member
said_members opened_said = []
said_members (no_connection_said why) = []
said_members (heard_said line r) = []
said_members (phase_said phase) = member (codes "phase") (string (phase_name phase)) ∷ []
said_members (confirmed_said ask) = command_member (asked_text ask)
said_members (sent_said text) = command_member text
said_members rolled_said = command_member (codes "roll")
said_members (passed_said line) = []
said_members ordered_said = []
said_members withdrawn_said = []
said_members (refused_said why) = reason_members (refusal_number why) (refusal_name why)
said_members (not_sent_said why) = reason_members (plain_refusal_number why) (plain_refusal_name why)
said_members unknown_said = []
said_members (lost_said waited) = waited_members waited
said_members (unnoted_said why) = reason_members (directory_fault_number why) (directory_fault_name why)
said_members (player_said told) = player_members told

-- the object of a line of the plain account, with its end
abbrev pub own_object : SaidValue → List ℕ → List ℕ
own_object said line = line_bytes (object_with (said_kind said) line (more_members (said_members said)))

-- that of each line that the plain account has for it
abbrev pub own_objects : SaidValue → List ℕ
own_objects said = flat_map (own_object said) (lines_of said)

-- what is printed for it: the object of a line of the server is that of `fibs show --json`
abbrev pub SaidObjects : SaidValue → List ℕ → Type 0
SaidObjects (heard_said line r) text = (shown : List ℕ) × HeardObject line r shown × (text ≡ line_bytes shown)
SaidObjects opened_said text = text ≡ own_objects opened_said
SaidObjects (no_connection_said why) text = text ≡ own_objects (no_connection_said why)
SaidObjects (phase_said phase) text = text ≡ own_objects (phase_said phase)
SaidObjects (confirmed_said ask) text = text ≡ own_objects (confirmed_said ask)
SaidObjects (sent_said sent) text = text ≡ own_objects (sent_said sent)
SaidObjects rolled_said text = text ≡ own_objects rolled_said
SaidObjects (passed_said line) text = text ≡ own_objects (passed_said line)
SaidObjects ordered_said text = text ≡ own_objects ordered_said
SaidObjects withdrawn_said text = text ≡ own_objects withdrawn_said
SaidObjects (refused_said why) text = text ≡ own_objects (refused_said why)
SaidObjects (not_sent_said why) text = text ≡ own_objects (not_sent_said why)
SaidObjects unknown_said text = text ≡ own_objects unknown_said
SaidObjects (lost_said waited) text = text ≡ own_objects (lost_said waited)
SaidObjects (unnoted_said why) text = text ≡ own_objects (unnoted_said why)
SaidObjects (player_said told) text = text ≡ own_objects (player_said told)

-- and for all that is reported, one after another
abbrev pub AccountObjects : List SaidValue → List ℕ → Type 0
AccountObjects [] text = text ≡ []
AccountObjects (said ∷ more) text =
    (first rest : List ℕ) × SaidObjects said first × AccountObjects more rest × (text ≡ first ++ rest)

-- what was printed has grown by the objects of the account
abbrev pub ObjectAccounts : Option (List ℕ) → List SaidValue → Option (List ℕ) → Type 0
ObjectAccounts held told now = (text : List ℕ) × AccountObjects told text × Appends held now text

-- it may be made in parts
pub objects_nothing : (a : Option (List ℕ)) → ObjectAccounts a [] a
objects_nothing a = ([], refl, Appends-nil a)

-- the objects of some things, and then of others
objects_append : (xs ys : List SaidValue) (x y : List ℕ) → AccountObjects xs x → AccountObjects ys y
    → AccountObjects (xs ++ ys) (x ++ y)
objects_append [] ys x y a b = subst (AccountObjects ys) (ap (λ (l : List ℕ). l ++ y) (sym a)) b
objects_append (s ∷ xs) ys x y a b = (
  a.0,
  a.1 ++ y,
  a.2,
  objects_append xs ys a.1 y a.3 b,
  ap (λ (l : List ℕ). l ++ y) a.4 ∙ append_assoc a.0 a.1 y,
)

pub objects_joined : (a b c : Option (List ℕ)) (xs ys : List SaidValue) → ObjectAccounts a xs b → ObjectAccounts b ys c
    → ObjectAccounts a (xs ++ ys) c
objects_joined a b c xs ys p q =
    (p.0 ++ q.0, objects_append xs ys p.0 q.0 p.1 q.1, Appends-trans a b c p.0 q.0 p.2 q.2)

-- the line of what is reported: that of the server, or of the plain account
abbrev pub IsLineOf : SaidValue → List ℕ → Type 0
IsLineOf (heard_said line r) text = text ≡ line.bytes
IsLineOf said text = lines_of said ≡ text ∷ []

-- what is printed tells the line for which it is printed
abbrev pub SaidTellLines : Type 0
SaidTellLines = (s t : SaidValue) (k l text : List ℕ) → IsLineOf s k → IsLineOf t l
    → SaidObjects s text → SaidObjects t text → k ≡ l
