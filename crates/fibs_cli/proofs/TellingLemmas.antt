-- An object tells its line.
use Rattle.std.proofs.Common.{◌≡◌, ℕ, List, ◌++◌, ◌∷◌, [], codes, sym, ap, ◌∙◌, append_assoc, append-nil}
use Rattle.std.specs.List.{flat_map}
use Rattle.fibs_json.specs.Json.{member, more_member, more_members, whole}
use Rattle.fibs_json.specs.Lines.{OpeningsTell, object_with, opening}
use Rattle.fibs_replay.specs.LogLines.{entry_line}
use Rattle.fibs_engine.specs.Printing.{line_bytes}
use Rattle.fibs_connect.specs.Account.{lines_of}
use Rattle.fibs_connect.specs.Told.{SaidValue, opened_said, no_connection_said, heard_said, phase_said, confirmed_said, sent_said, rolled_said, passed_said, ordered_said, withdrawn_said, refused_said, not_sent_said, unknown_said, lost_said, unnoted_said, player_said}
use Rattle.fibs_json.proofs.TellingLemmas.{opened_of_heard}
use Rattle.fibs_cli.specs.Entries.{EntriesTellLines, entry_connection, entry_kind}
use Rattle.fibs_cli.specs.Said.{IsLineOf, SaidObjects, SaidTellLines, own_object, own_objects, said_kind, said_members}

-- of an entry
pub entries_tell : OpeningsTell → EntriesTellLines
entries_tell tell e f text one two =
    (tell (entry_kind e) (entry_kind f) (entry_line e) (entry_line f)
    ((more_member (member (codes "connection") (whole (entry_connection e))) ++ one.0) ++ (125 ∷ []))
    ((more_member (member (codes "connection") (whole (entry_connection f))) ++ two.0) ++ (125 ∷ []))
    (sym one.2 ∙ two.2)).1

-- an object of a line, with its end
record IsSaid (line text : List ℕ) : Type 0 where
  kind : List ℕ
  more : List ℕ
  text_is : text ≡ line_bytes (object_with kind line more)

-- that of a line of the plain account
own : (s : SaidValue) (line text : List ℕ) → lines_of s ≡ line ∷ [] → text ≡ own_objects s → IsSaid line text
own s line text is h = record {
  kind = said_kind s;
  more = more_members (said_members s);
  text_is = h ∙ ap (λ (l : List (List ℕ)). flat_map (own_object s) l) is ∙ append-nil (own_object s line);
}

-- the object of what happened has the line of the plain account
said_is : (s : SaidValue) (line text : List ℕ) → IsLineOf s line → SaidObjects s text → IsSaid line text
said_is (heard_said heard r) line text is h =
    let opened = opened_of_heard heard r h.0 h.1 in
    record {
      kind = opened.kind;
      more = opened.more;
      text_is = h.2 ∙ ap line_bytes (opened.text_is
          ∙ ap (λ (l : List ℕ). object_with opened.kind l opened.more) (sym is));
    }
said_is opened_said line text is h = own opened_said line text is h
said_is (no_connection_said why) line text is h = own (no_connection_said why) line text is h
said_is (phase_said phase) line text is h = own (phase_said phase) line text is h
said_is (confirmed_said ask) line text is h = own (confirmed_said ask) line text is h
said_is (sent_said sent) line text is h = own (sent_said sent) line text is h
said_is rolled_said line text is h = own rolled_said line text is h
said_is (passed_said passed) line text is h = own (passed_said passed) line text is h
said_is ordered_said line text is h = own ordered_said line text is h
said_is withdrawn_said line text is h = own withdrawn_said line text is h
said_is (refused_said why) line text is h = own (refused_said why) line text is h
said_is (not_sent_said why) line text is h = own (not_sent_said why) line text is h
said_is unknown_said line text is h = own unknown_said line text is h
said_is (lost_said waited) line text is h = own (lost_said waited) line text is h
said_is (unnoted_said why) line text is h = own (unnoted_said why) line text is h
said_is (player_said told) line text is h = own (player_said told) line text is h

-- objects of what happened tell the lines of the plain account
pub said_tell : OpeningsTell → SaidTellLines
said_tell tell s t k l text line_s line_t one two =
    let p = said_is s k text line_s one in
    let q = said_is t l text line_t two in
    (tell p.kind q.kind k l ((p.more ++ (125 ∷ [])) ++ (10 ∷ [])) ((q.more ++ (125 ∷ [])) ++ (10 ∷ []))
    (sym (append_assoc (opening p.kind k) (p.more ++ (125 ∷ [])) (10 ∷ [])) ∙ sym p.text_is ∙ q.text_is
    ∙ append_assoc (opening q.kind l) (q.more ++ (125 ∷ [])) (10 ∷ []))).1
