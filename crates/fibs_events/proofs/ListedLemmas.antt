-- What is remembered and told by the message that greets the user.
use Rattle.std.proofs.Common.{◌≡◌, ◌⊎◌, ℕ, inl, inr, refl, Option, Some, arith}
use Rattle.fibs_fields.specs.Bytes.{name_bytes}
use Rattle.fibs_fields.specs.declared.name.Name.{Name}
use Rattle.fibs_fields.specs.declared.word.Word.{Word}
use Rattle.fibs_messages.specs.Message.{message_of}
use Rattle.fibs_messages.specs.declared.message.Message.TheVariants.{Welcome}
use Rattle.fibs_events.specs.Listed.{HearsMessage}
use Rattle.fibs_events.specs.Remembered.{greeted}
use Rattle.fibs_events.specs.declared.event.Event.{Event}
use Rattle.fibs_events.specs.declared.event.Event.TheVariants as E
use Rattle.fibs_events.specs.declared.memory.Events.{Events}

-- message 1 lists no rating
no_rating : {A : Type 0} (n : ℕ) → n ≡ 1 → (n ≡ 2) ⊎ (n ≡ 5) → A
no_rating n one (inl two) = absurd (omega arith)
no_rating n one (inr five) = absurd (omega arith)

-- who is greeted is told, and another user's session tells of other matches
pub welcome_heard : (old new : Events) (told : Option Event) (name : Name) (last_login : ℕ) (last_host : Word)
    → told ≡ Some (E.LoggedIn name) → new ≡ greeted (name_bytes name) old
    → HearsMessage (message_of (Welcome name last_login last_host)) old new told
welcome_heard old new told name last_login last_host tells remembers =
    record {
      remembered = remembers;
      greets = λ is. (name, tells, refl);
      rates = λ lists. no_rating 1 refl lists;
      others = λ not lists. absurd (not refl);
    }
