-- How many reads are spent, call by call.
use Rattle.std.proofs.Common.{◌≡◌, ◌+◌, ◌*◌, ℕ, List, [], ◌++◌, Option, arith, length-append}
use Rattle.std.proofs.KnownBytes.{Consumes-nil, Consumes-trans}
use Rattle.fibs_engine.specs.Reads.{LostAtMost}
use Rattle.fibs_connect.specs.TypedReads.{TypedValue, SpendsReads}

-- no read was made
pub spends_nothing : (a b : TypedValue) (left : Option (List ℕ)) → b.reads ≡ a.reads → SpendsReads a b left left
spends_nothing a b left same = ([], omega (arith, same), Consumes-nil left)

-- a call that makes no read leaves them as they are
pub spends_kept : (a b c : TypedValue) (left still : Option (List ℕ)) → SpendsReads a b left still
    → c.reads ≡ b.reads → SpendsReads a c left still
spends_kept a b c left still p same = (p.0, omega (arith, p.1, same), p.2)

-- one call after another
pub spends_more : (a b c : TypedValue) (left mid still : Option (List ℕ)) → SpendsReads a b left mid
    → SpendsReads b c mid still → SpendsReads a c left still
spends_more a b c left mid still p q =
    (p.0 ++ q.0, omega (arith, p.1, q.1, length-append p.0 q.0), Consumes-trans left mid still p.0 q.0 p.2 q.2)

-- in all no more bytes than so many reads may give
pub spends_few : (a b : TypedValue) (left still : Option (List ℕ)) (reads : ℕ) → a.reads ≡ reads
    → SpendsReads a b left still → LostAtMost (reads * 1024) left still
spends_few a b left still reads same p = (p.0, omega (arith, same, p.1), p.2)
