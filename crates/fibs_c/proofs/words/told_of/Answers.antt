-- A board that is neither watched nor of the user's game has the fault that the position names.
use Rattle.std.proofs.Common.{refl}
use Rattle.fibs_c.proofs.words.told_of.Goals as goal

pub returns-in-Err-clause-fault : goal.returns-in-Err-clause-fault
returns-in-Err-clause-fault c = (c.in-Err.ensures.fault c.in-Err.fault).0 refl
