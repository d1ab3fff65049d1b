-- The lines of a stream are as many as the line ends among its data, and data has no line end that its bytes have not.
use Rattle.std.proofs.Common.{◌≡◌, ℕ, ◌+◌, ◌≤◌, cond, List, [], ◌∷◌, ◌++◌, length, ap, ◌∙◌, arith, length-append}
use Rattle.std.specs.List.{count_by}
use Rattle.std.proofs.lemmas.List.{length-map}
use Rattle.std.proofs.lemmas.List.Sums.{sum_by-append}
use Rattle.std.proofs.lemmas.List.Splits.{length-slice_split}
use Rattle.fibs_lines.specs.Lines.{plain, is_line_end, line_of, lines_of}
use Rattle.fibs_lines.specs.Progress.{data_of, telnet_after}
use Rattle.fibs_lines.specs.Standing.{telnet_of}
use Rattle.fibs_lines.specs.StreamLaws.{LinesAreAtMostTheLineEnds}
use Rattle.fibs_lines.specs.declared.telnet.Telnet.{Telnet}
use Rattle.fibs_lines.specs.declared.telnet.Telnet.TheVariants.{Data, Command, Negotiation}
use Rattle.fibs_lines.proofs.Parts.{finished, after_end, slice_split-is, lines_of-is}
use Rattle.fibs_lines.proofs.Streams.{data_along, plain-append}

-- how many line ends there are
abbrev pub ends : List ℕ → ℕ
ends p = count_by is_line_end p

-- the lines are as many as the line ends of the data
pub length-lines_of : (s : List ℕ) → length (lines_of s) ≡ ends (plain s)
length-lines_of s =
    let p = plain s in
    let e : length (lines_of s) ≡ length (finished p) = ap length (lines_of-is s) ∙ length-map (finished p) line_of in
    omega (
      arith,
      e,
      length-slice_split is_line_end p,
      ap length (slice_split-is p),
      length-append (finished p) (after_end p ∷ []),
    )

-- line ends add up
pub ends-append : (p q : List ℕ) → ends (p ++ q) ≡ ends p + ends q
ends-append p q = sum_by-append (λ x. cond (is_line_end x) 1 0) p q

-- what one byte gives has no line end that the byte is not
data_of_ends : (k : Telnet) (b : ℕ) → ends (data_of k b) ≤ ends (b ∷ [])
data_of_ends Data b = grind arith
data_of_ends Command b = grind arith
data_of_ends Negotiation b = grind arith

-- what bytes give has no line end that the bytes have not
data_along_ends : (k : Telnet) (t : List ℕ) → ends (data_along k t) ≤ ends t
data_along_ends k [] = omega arith
data_along_ends k (b ∷ t) =
    omega (
      arith,
      ends-append (data_of k b) (data_along (telnet_after k b) t),
      data_of_ends k b,
      data_along_ends (telnet_after k b) t,
      ends-append (b ∷ []) t,
    )

-- a piece gives at most as many lines as it has bytes LF
pub lines_are_at_most_the_line_ends : LinesAreAtMostTheLineEnds
lines_are_at_most_the_line_ends s t =
    omega (
      arith,
      length-lines_of (s ++ t),
      length-lines_of s,
      ap ends (plain-append s t),
      ends-append (plain s) (data_along (telnet_of s) t),
      data_along_ends (telnet_of s) t,
    )
