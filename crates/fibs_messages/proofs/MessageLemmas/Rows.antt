-- Each message of the program has the number and the kinds of a row of the table.
use Rattle.std.proofs.Common.{◌≡◌, map, refl, arith}
use Rattle.fibs_messages.specs.declared.message.Message.{Message}
use Rattle.fibs_messages.specs.declared.message.Message.TheVariants.{Welcome, OwnInfo, MotdBegin, MotdEnd, WhoInfo, WhoInfoEnd, Login, Logout, MessageReceived, MessageDelivered, MessageSaved, Says, Shouts, Whispers, Kibitzes, YouSay, YouShout, YouWhisper, YouKibitz}
use Rattle.fibs_fields.specs.Field.{IsValue, kind_of}
use Rattle.std.specs.List.{AllByRecursion}
use Rattle.fibs_messages.specs.Message.{table, kinds_of, IsNumber, IsMessage, message_of}
use Rattle.fibs_messages.specs.Bits.{HasBits}

-- each message has a number of the table
pub number_is : (m : Message) → IsNumber (message_of m).number
number_is (Welcome name last_login last_host) = (omega arith, omega arith)
number_is (OwnInfo info) = (omega arith, omega arith)
number_is MotdBegin = (omega arith, omega arith)
number_is MotdEnd = (omega arith, omega arith)
number_is (WhoInfo info) = (omega arith, omega arith)
number_is WhoInfoEnd = (omega arith, omega arith)
number_is (Login name text) = (omega arith, omega arith)
number_is (Logout name text) = (omega arith, omega arith)
number_is (MessageReceived sender time text) = (omega arith, omega arith)
number_is (MessageDelivered name) = (omega arith, omega arith)
number_is (MessageSaved name) = (omega arith, omega arith)
number_is (Says name text) = (omega arith, omega arith)
number_is (Shouts name text) = (omega arith, omega arith)
number_is (Whispers name text) = (omega arith, omega arith)
number_is (Kibitzes name text) = (omega arith, omega arith)
number_is (YouSay name text) = (omega arith, omega arith)
number_is (YouShout text) = (omega arith, omega arith)
number_is (YouWhisper text) = (omega arith, omega arith)
number_is (YouKibitz text) = (omega arith, omega arith)

-- each message has the kinds of its row
pub kinds_are : (m : Message) → map kind_of (message_of m).fields ≡ kinds_of (message_of m).number
unfolding table
kinds_are (Welcome name last_login last_host) = refl
kinds_are (OwnInfo info) = refl
kinds_are MotdBegin = refl
kinds_are MotdEnd = refl
kinds_are (WhoInfo info) = refl
kinds_are WhoInfoEnd = refl
kinds_are (Login name text) = refl
kinds_are (Logout name text) = refl
kinds_are (MessageReceived sender time text) = refl
kinds_are (MessageDelivered name) = refl
kinds_are (MessageSaved name) = refl
kinds_are (Says name text) = refl
kinds_are (Shouts name text) = refl
kinds_are (Whispers name text) = refl
kinds_are (Kibitzes name text) = refl
kinds_are (YouSay name text) = refl
kinds_are (YouShout text) = refl
kinds_are (YouWhisper text) = refl
kinds_are (YouKibitz text) = refl

-- a message of the program is well formed
pub is_message : (m : Message) → HasBits m → IsMessage (message_of m)
is_message m h = record { number = number_is m; kinds = kinds_are m; values = values_are m h }
  where
    values_are : (m : Message) → HasBits m → AllByRecursion IsValue (message_of m).fields
    values_are (Welcome name last_login last_host) h = (name.valid, (h, (last_host.valid, tt)))
    values_are (OwnInfo i) h = (
      i.name.valid,
      (
        tt,
        (
          tt,
          (
            tt,
            (
              tt,
              (
                tt,
                (
                  tt,
                  (
                    tt,
                    (
                      tt,
                      (
                        h.0,
                        (
                          tt,
                          (
                            tt,
                            (tt, (tt, (h.1, (tt, (tt, (i.redoubles.valid, (tt, (tt, (i.timezone.valid, tt))))))))),
                          ),
                        ),
                      ),
                    ),
                  ),
                ),
              ),
            ),
          ),
        ),
      ),
    )
    values_are MotdBegin h = tt
    values_are MotdEnd h = tt
    values_are (WhoInfo w) h = (
      w.name.valid,
      (
        w.opponent.valid,
        (
          w.watching.valid,
          (tt, (tt, (h.0, (h.1, (h.2, (h.3, (w.hostname.valid, (w.client.valid, (w.email.valid, tt))))))))),
        ),
      ),
    )
    values_are WhoInfoEnd h = tt
    values_are (Login name text) h = (name.valid, (tt, tt))
    values_are (Logout name text) h = (name.valid, (tt, tt))
    values_are (MessageReceived sender time text) h = (sender.valid, (h, (tt, tt)))
    values_are (MessageDelivered name) h = (name.valid, tt)
    values_are (MessageSaved name) h = (name.valid, tt)
    values_are (Says name text) h = (name.valid, (tt, tt))
    values_are (Shouts name text) h = (name.valid, (tt, tt))
    values_are (Whispers name text) h = (name.valid, (tt, tt))
    values_are (Kibitzes name text) h = (name.valid, (tt, tt))
    values_are (YouSay name text) h = (name.valid, (tt, tt))
    values_are (YouShout text) h = (tt, tt)
    values_are (YouWhisper text) h = (tt, tt)
    values_are (YouKibitz text) h = (tt, tt)
