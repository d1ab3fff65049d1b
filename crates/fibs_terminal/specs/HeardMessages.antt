-- What a terminal takes note of when a message of the server comes (the project's own).
use Rattle.std.specs.Prelude.{◌≡◌, ◌≢◌, ◌⊎◌, ◌&&◌, ◌||◌, ℕ, Bool, true, false, not, List, Some, None, IsTrue, if◌then◌else◌}
use Rattle.std.specs.Str.{bytes_eq}
use Rattle.fibs_fields.specs.Bytes.{name_bytes}
use Rattle.fibs_messages.specs.declared.message.Message.{Message}
use Rattle.fibs_messages.specs.declared.message.Message.TheVariants.{Welcome, OwnInfo, MotdBegin, MotdEnd, WhoInfo, Login, Logout, MessageReceived, Says, Shouts, Whispers, Kibitzes, YouSay, YouShout, YouWhisper, YouKibitz}
use Rattle.fibs_advice.specs.Standings.{after_not_invited, is_in_match}
use Rattle.fibs_advice.specs.declared.situation.Situation.{Situation}
use Rattle.fibs_terminal.specs.Ended.{unrated_after}
use Rattle.fibs_terminal.specs.Greetings.{Informs}
use Rattle.fibs_terminal.specs.HeardTexts.{settled}
use Rattle.fibs_terminal.specs.KeptLists.{IsAmong, IsNotAmong, KeepsName}
use Rattle.fibs_terminal.specs.Listed.{after_end, is_of_everybody, is_of_login}
use Rattle.fibs_terminal.specs.Saved.{has_saved}
use Rattle.fibs_terminal.specs.Toggles.{after_settings}
use Rattle.fibs_terminal.specs.declared.account.Account.{Account}
use Rattle.fibs_terminal.specs.declared.company.Company.{Company}
use Rattle.fibs_terminal.specs.declared.listening.greeting.Greeting.{Greeting}
use Rattle.fibs_terminal.specs.declared.listening.left_out.Seen.{Seen}
use Rattle.fibs_terminal.specs.declared.memory.Connection.{Connection}
use Rattle.fibs_terminal.specs.declared.memory.Memory.{Memory}
use Rattle.fibs_terminal.specs.declared.people.List.{List as PlayerList}
use Rattle.fibs_terminal.specs.declared.people.ListAsked.TheVariants as A
use Rattle.fibs_terminal.specs.declared.reconnecting.Reconnecting.{Reconnecting}
use Rattle.fibs_terminal.specs.declared.results.Results.{Results}
use Rattle.fibs_terminal.specs.declared.talk.Talk.{Talk}
use Rattle.fibs_terminal.specs.declared.toggles.Toggles.{Toggles}

-- ---- what each message changes

-- who the user is: the greeting says his name, his settings say his name and his rating, and the row of a list that is
-- his says his rating
abbrev pub NotesUser : Message → Account → Account → Type 0
NotesUser (Welcome name time host) old new =
    (new.name.items ≡ name_bytes name) × (new ≡ record old { name = new.name })
NotesUser (OwnInfo info) old new =
    (new.name.items ≡ name_bytes info.name) × (new ≡ record old { name = new.name; rating = Some info.rating })
NotesUser (WhoInfo info) old new =
    ((old.name.items ≡ name_bytes info.name) × (new ≡ record old { rating = Some info.rating }))
    ⊎ ((old.name.items ≢ name_bytes info.name) × (new ≡ old))
NotesUser message old new = new ≡ old

-- he is rated so
abbrev pub rated_after : ℕ → ℕ → Results → Results
rated_after rating experience r = record r {
  rated = Some (record { rating = rating; experience = experience });
  ended = unrated_after r.ended (record { rating = rating; experience = experience });
}

-- what his matches have changed: only what the server says of himself tells it
abbrev pub NotesRated : Message → Account → Results → Results → Type 0
NotesRated (OwnInfo info) user old new = new ≡ rated_after info.rating info.experience old
NotesRated (WhoInfo info) user old new =
    ((user.name.items ≡ name_bytes info.name) × (new ≡ rated_after info.rating info.experience old))
    ⊎ ((user.name.items ≢ name_bytes info.name) × (new ≡ old))
NotesRated message user old new = new ≡ old

-- what of the login has come
abbrev pub NotesLogin : Message → Greeting → Greeting → Type 0
NotesLogin (Welcome name time host) old new = new ≡ record old { style = old.style || not old.is_informed }
NotesLogin (OwnInfo info) old new = Informs old info new
NotesLogin message old new = new ≡ old

-- what the server plays by itself
abbrev pub toggles_heard : Message → Toggles → Toggles
toggles_heard (OwnInfo info) t = after_settings info.automove info.greedy t
toggles_heard message t = t

-- which list of players comes next
abbrev pub list_heard : Message → PlayerList → PlayerList
list_heard (Welcome name time host) l = record l { asked = A.Login }
list_heard message l = l

-- whether the server has greeted the user
abbrev pub greeted_by : Message → Reconnecting → Reconnecting
greeted_by (Welcome name time host) r = record r { is_greeted = true }
greeted_by message r = r

-- who has talked with him
abbrev pub NotesSpeaker : Message → Company → Company → Type 0
NotesSpeaker (Says name text) old new = KeepsName 256 old.spoken.items (name_bytes name) new.spoken.items
NotesSpeaker (YouSay name text) old new = KeepsName 256 old.spoken.items (name_bytes name) new.spoken.items
NotesSpeaker message old new = new.spoken ≡ old.spoken

-- what the user waits for: the greeting ends the login, the message of the day begins and ends, and who logs in or out
-- is here or not, if he is the opponent, and is not waited for, if he has invited the user
abbrev pub NotesComing : Message → Situation → Situation → Type 0
NotesComing (Welcome name time host) old new = new ≡ record old { logs_in = false }
NotesComing MotdBegin old new = new ≡ record old { is_motd = true }
NotesComing MotdEnd old new = new ≡ record old { is_motd = false }
NotesComing (Login name text) old new =
    (old.opponent.name.items ≡ name_bytes name → new.opponent.is_here ≡ true) × (new.standing ≡ old.standing)
NotesComing (Logout name text) old new =
    (old.opponent.name.items ≡ name_bytes name → new.opponent.is_here ≡ false)
    × (old.inviter.name.items ≡ name_bytes name → new.standing ≡ after_not_invited old.standing)
NotesComing message old new = new ≡ old

-- of all that is remembered no message changes more than this before it is shown
abbrev pub with_message : Memory → Memory → Memory
with_message old new = record {
  program = record old.program {
    account = new.program.account;
    results = new.program.results;
    reconnecting = new.program.reconnecting;
  };
  here = record old.here {
    situation = new.here.situation;
    company = record old.here.company { listed = new.here.company.listed; spoken = new.here.company.spoken };
    list = new.here.list;
    greeting = new.here.greeting;
    toggles = new.here.toggles;
  };
}

-- and one that is shown changes what is remembered of talk as well
abbrev pub with_seen : Memory → Memory → Memory
with_seen old new = record (with_message old new) {
  program = record (with_message old new).program { talk = new.program.talk };
}

-- it says something of the user's rating, which may be told
abbrev pub tells_rating : Message → Bool
tells_rating (OwnInfo info) = true
tells_rating (WhoInfo info) = true
tells_rating message = false

-- ---- whose messages are shown

-- the user has to do with a player: he is the opponent, invites, has talked with the user, or a match with him is saved
abbrev pub HasToDo : Memory → List ℕ → Type 0
HasToDo m name = (m.here.situation.opponent.name.items ≡ name) ⊎ ((m.here.situation.inviter.name.items ≡ name)
    ⊎ (IsAmong name m.here.company.spoken.items
    ⊎ (has_saved name m.program.account.saved.matches.items ≡ true)))

-- he is none of them
pub record HasNothingToDo (m : Memory) (name : List ℕ) : Type 0 where
  pub opponent : m.here.situation.opponent.name.items ≢ name
  pub inviter : m.here.situation.inviter.name.items ≢ name
  pub spoken : IsNotAmong name m.here.company.spoken.items
  pub saved : has_saved name m.program.account.saved.matches.items ≡ false

-- how a player stands to the user, and what the user wants to see
pub record IsSeen (m : Memory) (name : List ℕ) (seen : Seen) : Type 0 where
  pub gagged : IsTrue seen.is_gagged → IsAmong name m.program.people.gagged.items
  pub heard : seen.is_gagged ≡ false → IsNotAmong name m.program.people.gagged.items
  pub own : seen.is_own ≡ bytes_eq m.program.account.name.items name
  pub known : IsTrue seen.is_known → HasToDo m name
  pub stranger : seen.is_known ≡ false → HasNothingToDo m name
  pub quiet : seen.is_quiet ≡ m.program.people.quiet
  pub arrivals : seen.arrivals ≡ m.program.people.arrivals
  pub busy : seen.is_in_match ≡ is_in_match m.here.situation.standing
  pub logs_in : seen.logs_in ≡ not m.here.greeting.is_informed

-- a message is what people say
abbrev pub is_talk : Message → Bool
is_talk (MessageReceived sender time text) = true
is_talk (Says name text) = true
is_talk (Shouts name text) = true
is_talk (Whispers name text) = true
is_talk (Kibitzes name text) = true
is_talk (YouSay name text) = true
is_talk (YouShout text) = true
is_talk (YouWhisper text) = true
is_talk (YouKibitz text) = true
is_talk message = false

-- who is answered by `re`: who has said something to the user last
abbrev pub SpeakerAfter : Message → Talk → Talk → Type 0
SpeakerAfter (Says name text) old new = new.speaker.items ≡ name_bytes name
SpeakerAfter message old new = new.speaker ≡ old.speaker

-- ---- the end of a list

-- it is the list of the login, which was awaited
abbrev pub ends_login : Connection → List ℕ → Bool
ends_login c own = c.greeting.is_informed && (not c.greeting.is_listed && is_of_login c.list own)

-- what of the login has come then: the players are listed, and the row that ends it is said if it is due
abbrev pub greeting_listed : Connection → List ℕ → Greeting
greeting_listed c own = if ends_login c own then settled (record c.greeting { is_listed = true }) else c.greeting

-- no list is coming, and what the user has asked for is shown; after a player alone who has changed it still comes
abbrev pub list_ended : Connection → List ℕ → PlayerList
list_ended c own =
    if ends_login c own || is_of_everybody c.list
    then record c.list { count = 0; asked = A.Nothing; wanted = None } else after_end c.list
