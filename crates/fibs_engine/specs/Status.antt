-- The exit statuses of the program.
use Rattle.std.specs.Prelude.{ℕ}
use Rattle.fibs_engine.specs.declared.status.Status.{Status}
use Rattle.fibs_engine.specs.declared.status.Status.TheVariants.{Done, WrongLine, Refused, Device, Memory}

abbrev pub code_of : Status → ℕ
code_of Done = 0
code_of WrongLine = 2
code_of Refused = 3
code_of Device = 4
code_of Memory = 5
