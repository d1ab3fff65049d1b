use Rattle.std.proofs.Common.{codes}
use Rattle.fibs_json.proofs.ObjectLemmas.{gained}
use Rattle.fibs_json.specs.Lines.{malformed_members}
use Rattle.fibs_json.proofs.line.append_malformed.Goals as goal

pub returns : goal.returns
returns c =
    gained c.args.text.now.items (codes "malformed") c.args.bytes.now c.append_front.new.text.items
    c.append_wrong.new.text.items c.push.new.self.items (malformed_members c.args.number c.args.field c.args.fault)
    c.in_ok-append_front.ensures c.in_ok-append_wrong.ensures c.in_ok-push.ensures.items
