-- Two messages are equal exactly if they have one number and the same fields.
use Rattle.std.proofs.Common.{◌≡◌, ℕ, List, [], ◌∷◌, ap, arith}
use Rattle.std.specs.Bool.{Decides}
use Rattle.std.proofs.lemmas.Bool.Decides.{Decides-like}
use Rattle.fibs_fields.specs.Bytes.{name_bytes, word_bytes}
use Rattle.fibs_fields.specs.Field.{FieldValue, NameField, WordField, NumberField, TextField}
use Rattle.fibs_messages.specs.Message.{MessageValue, message, message_of, own_info_fields, who_info_fields}
use Rattle.fibs_messages.specs.contracts.message.MessagePartialEq.TheImpl.{eq-value}
use Rattle.fibs_messages.specs.declared.message.Message.{Message}
use Rattle.fibs_messages.specs.declared.message.Message.TheVariants.{Welcome, OwnInfo, MotdBegin, MotdEnd, WhoInfo, WhoInfoEnd, Login, Logout, MessageReceived, MessageDelivered, MessageSaved, Says, Shouts, Whispers, Kibitzes, YouSay, YouShout, YouWhisper, YouKibitz}
use Rattle.fibs_fields.proofs.FieldLemmas.Equality.{never, same_values, same_values_decides}

-- messages of one number are equal exactly if their fields are
one_number : (n : ℕ) (us vs : List FieldValue) → Decides (same_values us vs) (message n us ≡ message n vs)
one_number n us vs =
    Decides-like (same_values us vs) (λ e i. message n (e i)) (ap (λ m. m.fields)) (same_values_decides us vs)

-- what `==` answers
pub messages_decide : (a b : Message) → Decides (eq-value.it a b) (message_of a ≡ message_of b)
messages_decide (Welcome name login host) (Welcome other later place) =
    one_number 1 (NameField (name_bytes name) ∷ NumberField login ∷ WordField (word_bytes host) ∷ [])
    (NameField (name_bytes other) ∷ NumberField later ∷ WordField (word_bytes place) ∷ [])
messages_decide (OwnInfo i) (OwnInfo j) = one_number 2 (own_info_fields i) (own_info_fields j)
messages_decide MotdBegin MotdBegin = one_number 3 [] []
messages_decide MotdEnd MotdEnd = one_number 4 [] []
messages_decide (WhoInfo i) (WhoInfo j) = one_number 5 (who_info_fields i) (who_info_fields j)
messages_decide WhoInfoEnd WhoInfoEnd = one_number 6 [] []
messages_decide (Login n t) (Login m s) =
    one_number 7 (NameField (name_bytes n) ∷ TextField t.now ∷ []) (NameField (name_bytes m) ∷ TextField s.now ∷ [])
messages_decide (Logout n t) (Logout m s) =
    one_number 8 (NameField (name_bytes n) ∷ TextField t.now ∷ []) (NameField (name_bytes m) ∷ TextField s.now ∷ [])
messages_decide (MessageReceived n k t) (MessageReceived m l s) =
    one_number 9 (NameField (name_bytes n) ∷ NumberField k ∷ TextField t.now ∷ [])
    (NameField (name_bytes m) ∷ NumberField l ∷ TextField s.now ∷ [])
messages_decide (MessageDelivered n) (MessageDelivered m) =
    one_number 10 (NameField (name_bytes n) ∷ []) (NameField (name_bytes m) ∷ [])
messages_decide (MessageSaved n) (MessageSaved m) =
    one_number 11 (NameField (name_bytes n) ∷ []) (NameField (name_bytes m) ∷ [])
messages_decide (Says n t) (Says m s) =
    one_number 12 (NameField (name_bytes n) ∷ TextField t.now ∷ []) (NameField (name_bytes m) ∷ TextField s.now ∷ [])
messages_decide (Shouts n t) (Shouts m s) =
    one_number 13 (NameField (name_bytes n) ∷ TextField t.now ∷ []) (NameField (name_bytes m) ∷ TextField s.now ∷ [])
messages_decide (Whispers n t) (Whispers m s) =
    one_number 14 (NameField (name_bytes n) ∷ TextField t.now ∷ []) (NameField (name_bytes m) ∷ TextField s.now ∷ [])
messages_decide (Kibitzes n t) (Kibitzes m s) =
    one_number 15 (NameField (name_bytes n) ∷ TextField t.now ∷ []) (NameField (name_bytes m) ∷ TextField s.now ∷ [])
messages_decide (YouSay n t) (YouSay m s) =
    one_number 16 (NameField (name_bytes n) ∷ TextField t.now ∷ []) (NameField (name_bytes m) ∷ TextField s.now ∷ [])
messages_decide (YouShout t) (YouShout s) = one_number 17 (TextField t.now ∷ []) (TextField s.now ∷ [])
messages_decide (YouWhisper t) (YouWhisper s) = one_number 18 (TextField t.now ∷ []) (TextField s.now ∷ [])
messages_decide (YouKibitz t) (YouKibitz s) = one_number 19 (TextField t.now ∷ []) (TextField s.now ∷ [])
messages_decide a b = never (λ e. omega (arith, ap (λ (m : MessageValue). m.number) e))
