-- CR LF ends one line, whether the CR is a byte of the line or the last byte of a telnet command.
use Rattle.std.proofs.Common.{◌≡◌, ℕ, false, List, [], ◌∷◌, ◌++◌, refl, sym, ap, ◌∙◌, append_assoc}
use Rattle.fibs_lines.specs.Lines.{plain, ReadLine, lines_of, rest_of, line_of}
use Rattle.fibs_lines.specs.Standing.{telnet_of}
use Rattle.fibs_lines.specs.StreamLaws.{with_line_end, LineEndEndsALine}
use Rattle.fibs_lines.specs.declared.telnet.Telnet.{Telnet}
use Rattle.fibs_lines.specs.declared.telnet.Telnet.TheVariants.{Data, Command, Negotiation}
use Rattle.fibs_lines.proofs.Parts.{has_end}
use Rattle.fibs_lines.proofs.Streams.{data_along, telnet_along, plain-append, telnet_of-append, lines_of_more, lines_of_end}

-- what the text's CR and LF give, if the text leaves this much of a command open
given : (t : List ℕ) (k : Telnet) → telnet_of t ≡ k → plain (with_line_end t) ≡ plain t ++ data_along k (13 ∷ 10 ∷ [])
given t k h = plain-append t (13 ∷ 10 ∷ []) ∙ ap (λ k. plain t ++ data_along k (13 ∷ 10 ∷ [])) h

-- a CR alone ends no line
no_end : has_end (13 ∷ []) ≡ false
unfolding has_end
no_end = refl

-- a CR that no command takes is a byte of the line, which the LF ends
apart : (t : List ℕ) → telnet_of t ≡ Data → (line : ReadLine) × (lines_of (with_line_end t) ≡ lines_of t ++ line ∷ [])
apart t h =
    let begun : plain (t ++ 13 ∷ []) ≡ plain t ++ 13 ∷ [] =
    plain-append t (13 ∷ []) ∙ ap (λ k. plain t ++ data_along k (13 ∷ [])) h in
    let closed : telnet_of (t ++ 13 ∷ []) ≡ Data =
    telnet_of-append t (13 ∷ []) ∙ ap (λ k. telnet_along k (13 ∷ [])) h in
    let ended : plain (t ++ 13 ∷ [] ++ 10 ∷ []) ≡ plain (t ++ 13 ∷ []) ++ 10 ∷ [] =
    plain-append (t ++ 13 ∷ []) (10 ∷ []) ∙ ap (λ k. plain (t ++ 13 ∷ []) ++ data_along k (10 ∷ [])) closed in (
      line_of (rest_of (t ++ 13 ∷ [])),
      ap lines_of (sym (append_assoc t (13 ∷ []) (10 ∷ []))) ∙ lines_of_end (t ++ 13 ∷ []) (10 ∷ []) ended
          ∙ ap (λ ls. ls ++ line_of (rest_of (t ++ 13 ∷ [])) ∷ []) (lines_of_more t (13 ∷ []) (13 ∷ []) begun no_end),
    )

-- the three ways in which the text may end
ends_one : (t : List ℕ) (k : Telnet) → telnet_of t ≡ k
    → (line : ReadLine) × (lines_of (with_line_end t) ≡ lines_of t ++ line ∷ [])
ends_one t Data h = apart t h
ends_one t Command h = (line_of (rest_of t), lines_of_end t (13 ∷ 10 ∷ []) (given t Command h))
ends_one t Negotiation h = (line_of (rest_of t), lines_of_end t (13 ∷ 10 ∷ []) (given t Negotiation h))

-- CR LF ends just one line
pub line_end_ends_a_line : LineEndEndsALine
line_end_ends_a_line t = ends_one t (telnet_of t) refl
