use Rattle.std.proofs.Common.{codes}
use Rattle.fibs_json.proofs.ObjectLemmas.{gained}
use Rattle.fibs_messages.specs.Message.{message_of}
use Rattle.fibs_json.specs.Columns.{message_members}
use Rattle.fibs_json.proofs.line.append_message_line.Goals as goal

pub returns : goal.returns
returns c =
    gained c.args.text.now.items (codes "message") c.args.bytes.now c.append_front.new.text.items
    c.append_message.new.text.items c.push.new.self.items (message_members (message_of c.args.message.now))
    c.in_ok-append_front.ensures c.in_ok-append_message.ensures c.in_ok-push.ensures.items
