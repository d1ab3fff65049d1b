-- A script is a list of acts. This is what was done of one, whether a write failed or not.
use Rattle.std.specs.Prelude.{◌≡◌, ℕ, List, [], ◌∷◌, ◌++◌, map, Option, Some, None, ◌⊎◌}
use Rattle.std.proofs.Common.{inl, inr}
use Rattle.std.specs.Borrow.{MutBor}
use Rattle.std.specs.List.{AllByRecursion, flat_map}
use Rattle.std.specs.Io.KnownBytes.{Appends}
use Rattle.fibs_messages.specs.Message.{MessageValue}
use Rattle.fibs_messages.specs.declared.directory.fault.DirectoryFault.{DirectoryFault}
use Rattle.fibs_messages.specs.Directory.{IsDirectory}
use Rattle.fibs_engine.specs.Writing.{Progress, Whole, Broken}
use Rattle.fibs_connect.specs.Told.{SaidValue, unnoted_said}
use Rattle.fibs_connect.specs.Turns.Acts.{Act}

-- what is outside of the client: what the stream holds, if the prover knows it, the front end, and the directory's
-- entries, if there is a directory
pub record Outside (F : Type 0) : Type 0 where
  pub wrote : Option (List ℕ)
  pub front : F
  pub players : Option (List MessageValue)

-- the outside of a turn that has a directory
abbrev pub outside : {F : Type 0} → Option (List ℕ) → F → List MessageValue → Outside F
outside wrote front players = record { wrote = wrote; front = front; players = Some players }

-- a front end that says nothing, whatever is reported to it
abbrev pub Silent : Unit {0} → List SaidValue → Unit {0} → Type 0
Silent before told after = Unit {0}

-- a stream beside which nobody is told: there is no directory, and the front end says nothing
abbrev pub untold : Option (List ℕ) → Outside (Unit {0})
untold wrote = record { wrote = wrote; front = tt; players = None }

-- an act that was done whole; and, if the directory refused a message, why
pub record Done : Type 0 where
  pub act : Act
  pub refused : Option DirectoryFault

-- a refusal of the directory is reported
abbrev pub directory_told : Option DirectoryFault → List SaidValue
directory_told None = []
directory_told (Some why) = unnoted_said why ∷ []

-- what is reported of an act, and after it what the directory refused
abbrev pub done_told : Done → List SaidValue
done_told d = d.act.tells ++ directory_told d.refused

-- one of the messages is a message 5, which says who a player is
abbrev pub SayWho : List MessageValue → Type 0
SayWho [] = ⊥
SayWho (m ∷ later) = (m.number ≡ 5) ⊎ SayWho later

-- the directory refuses at most a message 5
abbrev pub OnlyWhoRefused : Option DirectoryFault → List MessageValue → Type 0
OnlyWhoRefused None messages = Unit {0}
OnlyWhoRefused (Some why) messages = SayWho messages

-- the same of acts that were done
abbrev pub AllOnlyWhoRefused : List Done → Type 0
AllOnlyWhoRefused = AllByRecursion (λ d. OnlyWhoRefused d.refused d.act.notes)

-- what the directory has noted: nothing that it refused
abbrev pub noted_unless : Option DirectoryFault → List MessageValue → List MessageValue
noted_unless None messages = messages
noted_unless (Some why) messages = []

-- the acts that were done
abbrev pub acts_of : List Done → List Act
acts_of = map (λ d. d.act)

-- the bytes that they write, in order
abbrev pub writes_of : List Done → List ℕ
writes_of = flat_map (λ d. d.act.writes)

-- what they report to the front end, in order
abbrev pub tells_of : List Done → List SaidValue
tells_of = flat_map done_told

-- the messages that they note in the directory, but for those that it refuses
abbrev pub notes_of : List Done → List MessageValue
notes_of = flat_map (λ d. noted_unless d.refused d.act.notes)

-- if there is a directory, and it was that of some messages, it is now that of those and of these messages
abbrev pub Notes : Option (List MessageValue) → Option (List MessageValue) → List MessageValue → Type 0
Notes None new messages = Unit {0}
Notes (Some old) None messages = ⊥
Notes (Some old) (Some new) messages =
    (before : List MessageValue) → IsDirectory before old → IsDirectory (before ++ messages) new

-- the act in hand when a write failed, and what was written of it: not all
abbrev pub InHand : Progress → List Act → List ℕ → Type 0
InHand Whole hand part = (hand ≡ []) × (part ≡ [])
InHand Broken hand part =
    (act : Act) × (missing : ℕ) × (rest : List ℕ) × (hand ≡ act ∷ []) × (act.writes ≡ part ++ (missing ∷ rest))

-- the script was done: each act written whole, reported and noted, up to the one in hand: a part of
-- its bytes was written, and nothing of it was reported or noted
pub record Did {F : Type 0} (Tells : F → List SaidValue → F → Type 0) (a b : Outside F) (script : List Act)
    (p : Progress) : Type 0 where
  pub done : List Done
  pub hand : List Act
  pub part : List ℕ
  pub acts : script ≡ acts_of done ++ hand
  pub in_hand : InHand p hand part
  pub wrote : Appends a.wrote b.wrote (writes_of done ++ part)
  pub told : Tells a.front (tells_of done) b.front
  pub noted : Notes a.players b.players (notes_of done)
  pub refused : AllOnlyWhoRefused done

-- the known bytes behind a `&mut` that may be absent, as the call begins
abbrev pub known_before : {S : Type 0} → (S → Option (List ℕ)) → Option (MutBor S) → Option (List ℕ)
known_before contents None = None
known_before contents (Some s) = contents s.now

-- and at the return
abbrev pub known_after : {S : Type 0} → (S → Option (List ℕ)) → Unit {0} ⊎ ((MutBor S × Unit {0}) ⊎ ⊥) → Option (List ℕ)
known_after contents (inl x) = None
known_after contents (inr (inl f)) = contents f.0.now
known_after contents (inr (inr x)) = None
