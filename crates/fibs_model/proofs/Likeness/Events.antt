-- What each event has of the machine's world, to which the program's corresponds.
use Rattle.std.proofs.Common.{◌≡◌, ◌≤◌, ℕ, List, [], ◌∷◌, ◌++◌, Some, None, length, map, refl, sym, ap, subst, inl, inr, ◌∙◌, arith, append-nil, append_assoc}
use Rattle.std.proofs.lemmas.List.{map_push}
use Rattle.fibs_session.specs.Fibs.{fibs}
use Rattle.fibs_session.specs.History.Log.{Entry}
use Rattle.fibs_session.specs.History.Machine.{Talk, InputValue, noted as talk_noted}
use Rattle.fibs_session.specs.Calls.ClientLaws.{ServersEntriesAreSilent}
use Rattle.fibs_session.specs.Calls.Standing.{ClientValue, StandsAfter}
use Rattle.fibs_session.specs.Calls.Doing.{Does}
use Rattle.fibs_game.specs.Talks.{IsWorld, input_of}
use Rattle.fibs_model.specs.Events.{Event}
use Rattle.fibs_model.specs.Refusals.{refusal}
use Rattle.fibs_model.specs.World.{World, after, talk_of}
use Rattle.fibs_model.specs.WorldOf.{WorldValue, StandsFor, IsKept, world_of, Goes, May}
use Rattle.fibs_model.specs.EntryOf.{entry_of}
use Rattle.fibs_model.specs.declared.entry.Entry as C
use Rattle.fibs_model.specs.declared.world.World.TheInside.{Inside}
use Rattle.fibs_game.proofs.acts.Client.{talk_path}
use Rattle.fibs_game.proofs.Sound.{talk_is_projected}
use Rattle.fibs_game.proofs.Talks.{AllServers, Steps, Silence, Follows}

-- the open connection is one of those
pub current_known : (v : WorldValue) (login : List ℕ) (w : World) → StandsFor v login w → v.current ≤ length v.links
current_known v login w s = elim s.sound.newest [
  | inl e ↦ omega (arith, e, s.current, s.count)
  | inr e ↦ omega (arith, e, s.current, s.count)
]

-- entries of the server, however many, leave a client where it is
several_silent : ServersEntriesAreSilent → (client : ClientValue) (es : List Entry) (t : Talk) → AllServers es
    → StandsAfter client t → StandsAfter client (talk_noted t es [])
several_silent law client [] t h at_t =
    subst (StandsAfter client) ((talk_path fibs) t.login t.login _ _ _ _ _ _ refl (sym (append-nil t.log)) refl
    (sym (append-nil t.commands))) at_t
several_silent law client (e ∷ es) t h at_t =
    subst (StandsAfter client)
    ((talk_path fibs) t.login t.login _ _ _ _ _ _ refl (append_assoc t.log (e ∷ []) es) refl (append-nil _))
    (several_silent law client es (talk_noted t (e ∷ []) []) h.1 (law client t e h.0 at_t))

-- what every world keeps is kept by each event
pub sound_after : (login : List ℕ) (w : World) (e : Event) → IsWorld w → refusal w e ≡ None → IsWorld (after login w e)
sound_after login w e sound may = ((talk_is_projected fibs).goes_on login w e sound may).0

-- the client's call takes the client along
pub client_after : (login : List ℕ) (w : World) (e : Event) (i : InputValue) (old new : ClientValue)
    (send : List (List ℕ)) → IsWorld w → refusal w e ≡ None → input_of w e ≡ Some i → Does old new i send
    → StandsAfter old (talk_of login w) → StandsAfter new (talk_of login (after login w e))
client_after login w e i old new send sound may is does stands =
    let f : Steps login w (after login w e) e i =
    subst (Follows login w e) is ((talk_is_projected fibs).goes_on login w e sound may).1 in
    subst (StandsAfter new) (sym f.talk) (does.stands (talk_of login w) stands)

-- and what is no call of its leaves it
pub client_waits : ServersEntriesAreSilent → (login : List ℕ) (w : World) (e : Event) (client : ClientValue) → IsWorld w
    → refusal w e ≡ None → input_of w e ≡ None → StandsAfter client (talk_of login w)
    → StandsAfter client (talk_of login (after login w e))
client_waits law login w e client sound may is stands =
    let f : Silence login w (after login w e) =
    subst (Follows login w e) is ((talk_is_projected fibs).goes_on login w e sound may).1 in
    subst (StandsAfter client) (sym f.talk)
    (several_silent law client f.entries (talk_of login w) f.are_servers stands)

-- what corresponds to one account of a world corresponds to that world
pub stands_by : (v : WorldValue) (login : List ℕ) (u w : World) → u ≡ w → StandsAfter v.client (talk_of login w)
    → IsWorld w → (StandsAfter v.client (talk_of login u) → IsWorld u → StandsFor v login u) → StandsFor v login w
stands_by v login u w is client sound make =
    subst (StandsFor v login) is
    (make (subst (λ x. StandsAfter v.client (talk_of login x)) (sym is) client) (subst IsWorld (sym is) sound))

-- a world that stood goes on standing
pub kept_on : (w w' : Inside) (e : Event) → IsKept w → Goes (world_of w) (world_of w') e
    → w'.current ≤ length w'.links.items → IsKept w'
kept_on w w' e k goes known =
    let all = w'.links.ok.0 in
    record {
      known = omega (arith, all, known);
      login = k.login;
      world = after k.login k.world e;
      stands =
          goes k.login k.world k.stands;
    }

-- by the value that callers see, and by the fields
pub goes_seen : (v seen v' : WorldValue) (e : Event) → v ≡ seen → Goes v v' e → Goes seen v' e
goes_seen v seen v' e same h = subst (λ x. Goes x v' e) same h

-- an event that may be by the value that callers see may be by the fields
pub may_seen : (v seen : WorldValue) (e : Event) → v ≡ seen → May seen e → May v e
may_seen v seen e same h = subst (λ x. May x e) (sym same) h

-- an entry is noted, after a growth
pub logged : (log grown new : List C.Entry) (x : C.Entry) → grown ≡ log → new ≡ grown ++ x ∷ []
    → map entry_of new ≡ map entry_of log ++ entry_of x ∷ []
logged log grown new x g n = ap (map entry_of) (n ∙ ap (λ l. l ++ x ∷ []) g) ∙ map_push entry_of log x
