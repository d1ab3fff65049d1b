use Rattle.fibs_terminal.proofs.RespellingLemmas.{passed, set_to, spelling_of}
use Rattle.fibs_terminal.proofs.commands.spell.Goals as goal

pub returns-then-is_command_by-clause-spelled : goal.returns-then-is_command_by-clause-spelled
returns-then-is_command_by-clause-spelled c =
    set_to c.args.client.now c.args.numbers c.args.line.now.items c.append_spelled.new.text.items
    c.as_slice-then-is_command_by.result.now c.set_line.new.line.items c.as_slice-then-is_command_by.ensures.value
    (spelling_of c.args.client.now c.args.numbers c.args.line.now.items c.as_slice-2.result.now
    c.new-spelled.result.items c.append_spelled.new.text.items c.as_slice-2.ensures.value c.new-spelled.ensures.items
    c.in_ok-append_spelled.ensures.talk c.in_ok-append_spelled.ensures.name c.in_ok-append_spelled.ensures.plain)
    c.set_line.ensures

pub returns-clause-spelled : goal.returns-clause-spelled
returns-clause-spelled c =
    passed c.spell_passed.result c.args.client.now c.args.numbers c.args.line.now.items
    c.append_spelled.new.text.items c.as_slice-4.result.now c.spell_passed.new.line.items c.as_slice-4.ensures.value
    (spelling_of c.args.client.now c.args.numbers c.args.line.now.items c.as_slice-2.result.now
    c.new-spelled.result.items c.append_spelled.new.text.items c.as_slice-2.ensures.value c.new-spelled.ensures.items
    c.in_ok-append_spelled.ensures.talk c.in_ok-append_spelled.ensures.name c.in_ok-append_spelled.ensures.plain)
    c.spell_passed.ensures
