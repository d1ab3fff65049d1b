use Rattle.std.proofs.Common.{refl, sym, ◌∙◌}
use Rattle.fibs_terminal.proofs.OwnWordLemmas.{next_row, no_row, of_row, only_row, passes_none}
use Rattle.fibs_terminal.proofs.commands.here_word.Goals as goal

pub loop-name-init : goal.loop-name-init
loop-name-init c = passes_none _ _

pub loop-name-preserved : goal.loop-name-preserved
loop-name-preserved c =
    next_row _ _ _ _ c.loop-name.invariant (sym c.eq.ensures ∙ c.if-eq.false) c.loop-name-test.true

pub returns-then-eq-clause-found : goal.returns-then-eq-clause-found
returns-then-eq-clause-found c =
    of_row _ _ _ _ c.loop-name.invariant (sym c.eq.ensures ∙ c.if-eq.true) c.loop-name-test.true refl

pub returns-then-eq-clause-all : goal.returns-then-eq-clause-all
returns-then-eq-clause-all c =
    only_row _ _ _ _ c.loop-name.invariant (sym c.eq.ensures ∙ c.if-eq.true) c.loop-name-test.true refl

pub returns-clause-all : goal.returns-clause-all
returns-clause-all c = no_row _ _ _ c.loop-name.invariant c.loop-name-test.false refl refl
