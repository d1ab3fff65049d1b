use Rattle.fibs_terminal.proofs.OwnWordLemmas.{Passes}
use Rattle.fibs_terminal.proofs.commands.here_word.Given as goal

-- none of the names so far is this word
abbrev pub invariant-loop-name : goal.invariant-loop-name
invariant-loop-name l = Passes l.word l.name-items l.name-index
