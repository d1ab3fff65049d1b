-- No line ended, and none is told.
use Rattle.std.proofs.Common.{arith, ℕ, [], take, refl, sym, ap, subst}
use Rattle.std.specs.Prelude.{None, option_map}
use Rattle.fibs_session.specs.Calls.Feeding.{Shows}
use Rattle.fibs_session.specs.Calls.SessionOf.{taken_of}
use Rattle.fibs_session.specs.History.Machine.{Piece}
use Rattle.fibs_c.specs.FeedDoor.{Feeds}
use Rattle.fibs_c.proofs.ClientLemmas.{on_wire}
use Rattle.fibs_c.proofs.feeding.hear.Goals as goal

pub returns-in-None : goal.returns-in-None
returns-in-None c =
    let read = c.read-heard in let heard = c.read-heard.ensures in let wire = c.clear.new.wire in
    let shown : Shows read.new.self read.result None =
    subst (λ taken. Shows read.new.self read.result (option_map taken_of taken)) c.in-None.is
    (c.got-used.ensures.shows heard.keeps) in
    subst (λ (used : ℕ). Feeds c.args.client.now read.new.self c.args.piece.now (record {
      used = used;
      len = 0;
      kind = c.text.result;
      ended = 0;
      cut = 0;
      confirmed = c.of_kind.result;
      rolled = 0;
    }) c.args.text.now c.args.text.now c.args.wire.now wire) (sym c.got-used.ensures.used)
    (record {
      in_range = heard.in_range;
      progress = heard.progress;
      does = on_wire c.args.client.now read.new.self (Piece (take read.result.used c.args.piece.now)) []
          c.args.wire.now wire wire (heard.hands None shown) c.clear.ensures (record {
            few = omega (arith, c.clear.ensures.len_is);
            len_is = c.clear.ensures.len_is;
            bytes_are = ap (λ (n : ℕ). take n wire.bytes) c.clear.ensures.len_is;
            rest = refl;
          });
      taken = None;
      answers = heard.answers None shown;
      told = record {
        ended = refl;
        len = refl;
        cut = refl;
        kind = c.text.ensures;
        confirmed = c.of_kind.ensures;
        rolled = refl;
        unwritten = refl;
      };
    })
