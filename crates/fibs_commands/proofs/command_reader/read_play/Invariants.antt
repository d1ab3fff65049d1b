use Rattle.std.proofs.Common.{◌≡◌, ◌≤◌, [], length}
use Rattle.fibs_fields.specs.Split.{seen}
use Rattle.fibs_rules.specs.PlayValue.{hops_of}
use Rattle.fibs_commands.specs.CommandReading.{play_from, words_after}
use Rattle.fibs_commands.proofs.SplitLemmas.{left_len}
use Rattle.fibs_commands.proofs.command_reader.read_play.Given as goal

-- the play so far goes on by what is left as an empty one does by all the words
abbrev pub invariant-loop-rest : goal.invariant-loop-rest
invariant-loop-rest l = record {
  goes_on : play_from l.direction [] (words_after (seen l.fn.words))
      ≡ play_from l.direction (hops_of l.play) (words_after (seen l.rest));
  few : length (hops_of l.play) ≤ 4;
}

abbrev pub decreases-loop-rest : goal.decreases-loop-rest
decreases-loop-rest l = left_len (seen l.rest)
