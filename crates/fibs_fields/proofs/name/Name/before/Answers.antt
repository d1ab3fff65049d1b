use Rattle.std.proofs.Common.{arith, sym, ap, ◌∙◌}
use Rattle.fibs_fields.specs.Name.{is_name, is_name_byte}
use Rattle.fibs_fields.proofs.FieldLemmas.NameFronts.{front_is_name}
use Rattle.fibs_fields.proofs.FieldLemmas.Runs.{run_is_split}
use Rattle.fibs_fields.proofs.FieldLemmas.Splits.{rest_after}
use Rattle.fibs_fields.proofs.name.Name.before.Goals as goal

pub of_valid-requires : goal.of_valid-requires
of_valid-requires c =
    front_is_name c.args.text.now c.name_run-len.result c.name_run-len.ensures (omega arith) c.if-len-gt64.false

pub returns-clause-name : goal.returns-clause-name
returns-clause-name c =
    c.of_valid.ensures
    ∙ (run_is_split is_name_byte c.args.text.now c.args.byte c.name_run-len.result c.name_run-len.ensures (omega arith)
    c.if-text-len.false (sym c.is_name_byte.ensures ∙ c.if-is_name_byte.false)).0

pub returns-clause-valid : goal.returns-clause-valid
returns-clause-valid c =
    ap is_name
    (sym (run_is_split is_name_byte c.args.text.now c.args.byte c.name_run-len.result c.name_run-len.ensures
    (omega arith)
    c.if-text-len.false (sym c.is_name_byte.ensures ∙ c.if-is_name_byte.false)).0)
    ∙ front_is_name c.args.text.now c.name_run-len.result c.name_run-len.ensures (omega arith) c.if-len-gt64.false

pub returns-clause-rest : goal.returns-clause-rest
returns-clause-rest c =
    let text = c.args.text.now in
    let k = c.name_run-len.result in
    rest_after text k (omega arith)
    ∙ (run_is_split is_name_byte text c.args.byte k c.name_run-len.ensures (omega arith) c.if-text-len.false
    (sym c.is_name_byte.ensures ∙ c.if-is_name_byte.false)).1
