-- The state of a stream at its end.
use Rattle.std.specs.Prelude.{◌≡◌, ℕ, ◌==◌, List, [], ◌∷◌, if◌then◌else◌}
use Rattle.fibs_lines.specs.Lines.{takes_option, rest_of}
use Rattle.fibs_lines.specs.declared.telnet.Telnet.{Telnet}
use Rattle.fibs_lines.specs.declared.telnet.Telnet.TheVariants.{Data, Command, Negotiation}

-- how much of a telnet command is at the end of a stream: none, a byte 255, or 255 and one of 251 to 254. The cases
-- are those of `plain`
unfoldable pub telnet_of : List ℕ → Telnet
telnet_of [] = Data
telnet_of (b ∷ []) = if b == 255 then Command else Data
telnet_of (b ∷ c ∷ []) =
    if b == 255 then (if c == 255 then Data else if takes_option c then Negotiation else Data)
    else telnet_of (c ∷ [])
telnet_of (b ∷ c ∷ d ∷ s) =
    if b == 255 then (if c == 255 then telnet_of (d ∷ s) else if takes_option c then telnet_of s else telnet_of (d ∷ s))
    else telnet_of (c ∷ d ∷ s)

-- the stream is at a line's start: no command is open, and nothing follows the last line end
pub record AtLineStart (s : List ℕ) : Type 0 where
  pub no_command : telnet_of s ≡ Data
  pub no_rest : rest_of s ≡ []
