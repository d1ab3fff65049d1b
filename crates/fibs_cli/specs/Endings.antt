-- The object of the last line of a script (the project's own format).
use Rattle.std.specs.Prelude.{◌≡◌, ◌++◌, ℕ, List, [], ◌∷◌, codes, decimal}
use Rattle.fibs_engine.specs.Printing.{line_bytes}
use Rattle.fibs_model.specs.RefusalNames.{refusal_number, refusal_name}
use Rattle.fibs_replay.specs.Output.{end_text, refused_text, unread_text}
use Rattle.fibs_session.specs.History.Log.{Entry}
use Rattle.fibs_replay.specs.LogLines.{log_text}
use Rattle.fibs_json.specs.Json.{member, more_members, string, whole}
use Rattle.fibs_json.specs.Lines.{object_with}
use Rattle.fibs_cli.specs.Entries.{LogObjects}
use Rattle.fibs_cli.specs.declared.objects.endings.Last.{Last}
use Rattle.fibs_cli.specs.declared.objects.endings.Last.TheVariants as L

-- the last line that `fibs replay` prints, with its end; nothing if memory ran out
abbrev pub last_text : Last → List ℕ
last_text (L.Script number) = unread_text number
last_text (L.End done) = end_text done
last_text (L.Refused done why) = refused_text done why
last_text L.Nothing = []

-- its object, with its end
abbrev pub last_object : Last → List ℕ
last_object (L.Script number) = line_bytes (object_with (codes "script") (codes "script " ++ decimal number)
    (more_members (member (codes "number") (whole number) ∷ [])))
last_object (L.End done) = line_bytes (object_with (codes "end") (codes "end " ++ decimal done)
    (more_members (member (codes "done") (whole done) ∷ [])))
last_object (L.Refused done why) = line_bytes (object_with (codes "refused")
    (codes "refused " ++ (decimal done ++ 32 ∷ (decimal (refusal_number why) ++ 32 ∷ refusal_name why)))
    (more_members (member (codes "done") (whole done) ∷ member (codes "number") (whole (refusal_number why))
    ∷ member (codes "reason") (string (refusal_name why)) ∷ [])))
last_object L.Nothing = []

-- the text has the objects of the lines of what `fibs replay` prints, one for each, in their order
abbrev pub ObjectsOf : List ℕ → List ℕ → Type 0
ObjectsOf plain text = (log : List Entry) × (last : Last) × (objects : List ℕ)
    × (plain ≡ log_text log ++ last_text last) × LogObjects log objects × (text ≡ objects ++ last_object last)
