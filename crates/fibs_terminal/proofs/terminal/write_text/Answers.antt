use Rattle.fibs_terminal.proofs.terminal.write_text.Goals as goal

pub returns-clause-grown : goal.returns-clause-grown
returns-clause-grown g c = (c.args.text.now, c.in_ok-write_bytes.ensures)
