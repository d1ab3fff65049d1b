-- The numbers in a message of the program. No public contract rests on it.
use Rattle.std.specs.Prelude.{◌<◌}
use Rattle.fibs_fields.specs.Decimal.{numbers_of_32_bits, numbers_of_64_bits}
use Rattle.fibs_messages.specs.declared.message.Message.{Message}
use Rattle.fibs_messages.specs.declared.message.Message.TheVariants.{Welcome, OwnInfo, WhoInfo, MessageReceived}

-- the numbers in a message have the bits of their types
abbrev pub HasBits : Message → Type 0
HasBits (Welcome name last_login last_host) = last_login < numbers_of_64_bits
HasBits (OwnInfo info) = (info.experience < numbers_of_64_bits) × (info.rating < numbers_of_32_bits)
HasBits (WhoInfo info) = (info.rating < numbers_of_32_bits) × (info.experience < numbers_of_64_bits)
    × (info.idle < numbers_of_64_bits) × (info.login < numbers_of_64_bits)
HasBits (MessageReceived sender time text) = time < numbers_of_64_bits
HasBits m = Unit {0}
