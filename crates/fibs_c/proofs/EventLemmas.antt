-- Events that are given one after another.
use Rattle.std.proofs.Common.{◌≡◌, ◌++◌, List, [], ◌∷◌, subst, sym}
use Rattle.std.specs.Prelude.{Option, Some, None}
use Rattle.fibs_events.specs.declared.event.Event.{Event}
use Rattle.fibs_c.specs.Records.EventOf.{AreEvents, IsMaybeEvent, listed}
use Rattle.fibs_c.specs.declared.records.events.EventRecord.{EventRecord}

-- one more event, or none
pub one_more : (rs : List EventRecord) (events : List Event) (r : Option EventRecord) (event : Option Event)
    → AreEvents rs events → IsMaybeEvent r event → AreEvents (rs ++ listed r) (events ++ listed event)
one_more [] [] None None are is = tt
one_more [] [] (Some r) (Some event) are is = (is, tt)
one_more [] [] None (Some event) are is = absurd is
one_more [] [] (Some r) None are is = absurd is
one_more [] (first ∷ events) r event are is = absurd are
one_more (first ∷ rs) [] r event are is = absurd are
one_more (first ∷ rs) (event ∷ events) r last are is = (are.0, one_more rs events r last are.1 is)

-- the same of the records that there are then
pub gained : (rs now : List EventRecord) (events : List Event) (r : Option EventRecord) (event : Option Event)
    → now ≡ rs ++ listed r → AreEvents rs events → IsMaybeEvent r event → AreEvents now (events ++ listed event)
gained rs now events r event grown are is =
    subst (λ (xs : List EventRecord). AreEvents xs (events ++ listed event)) (sym grown)
    (one_more rs events r event are is)
