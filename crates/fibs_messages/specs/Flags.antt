-- The flags of message 2, own info, that a client answers to (FIBS CLIP specification 1008).
use Rattle.std.specs.Prelude.{◌≡◌, ℕ, Bool, false, Option, Some, slice_get}
use Rattle.fibs_fields.specs.Field.{FieldValue, FlagField}
use Rattle.fibs_messages.specs.Message.{MessageValue, message_of}
use Rattle.fibs_messages.specs.declared.message.Message.TheVariants.{OwnInfo as TheOwnInfo}
use Rattle.fibs_messages.specs.declared.message.OwnInfo.{OwnInfo}

-- a field that is a flag which is 1
abbrev pub is_set : Option FieldValue → Bool
is_set (Some (FlagField b)) = b
is_set other = false

-- the flag at a place of the fields, which are counted from 0
abbrev pub flag_at : ℕ → MessageValue → Bool
flag_at place m = is_set (slice_get m.fields place)

-- a board is sent after every move
abbrev pub autoboard : MessageValue → Bool
autoboard = flag_at 2

-- the server makes a move if there is only one
abbrev pub automove : MessageValue → Bool
automove = flag_at 4

-- the server bears off if it can
abbrev pub greedy : MessageValue → Bool
greedy = flag_at 10

-- a board is sent after every roll too
abbrev pub moreboards : MessageValue → Bool
moreboards = flag_at 11

-- they are the fields of these names
pub record FlagsAreTheFields (info : OwnInfo) : Type 0 where
  pub autoboard_is : autoboard (message_of (TheOwnInfo info)) ≡ info.autoboard
  pub automove_is : automove (message_of (TheOwnInfo info)) ≡ info.automove
  pub greedy_is : greedy (message_of (TheOwnInfo info)) ≡ info.greedy
  pub moreboards_is : moreboards (message_of (TheOwnInfo info)) ≡ info.moreboards
