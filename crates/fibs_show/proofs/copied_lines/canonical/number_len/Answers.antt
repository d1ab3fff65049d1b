use Rattle.std.proofs.Common.{ℕ, List, Option, Some, None}
use Rattle.std.specs.Prelude.{IfSome}
use Rattle.fibs_fields.specs.Field.{a_number}
use Rattle.fibs_show.specs.Standing.{Begins, BeginsDecimal}
use Rattle.fibs_show.proofs.LineLemmas.BeginningFields.{number_begins}
use Rattle.fibs_show.proofs.copied_lines.canonical.number_len.Goals as goal

numbers : (text : List ℕ) (found : Option ℕ) → IfSome found (λ len. BeginsDecimal text 19 len)
    → IfSome found (λ len. Begins a_number text len)
numbers text None h = tt
numbers text (Some len) h = number_begins text len h

pub returns : goal.returns
returns c = numbers c.args.text.now c.decimal_len.result c.decimal_len.ensures
