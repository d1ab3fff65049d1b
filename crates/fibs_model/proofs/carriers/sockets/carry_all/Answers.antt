use Rattle.std.proofs.Common.{[], ◌++◌, take, refl}
use Rattle.std.proofs.KnownBytes.{Appends-nil, Appends-trans, Consumes-nil, Consumes-trans}
use Rattle.fibs_session.proofs.Calls.Runs.{done_and_rest}
use Rattle.fibs_model.proofs.carriers.sockets.carry_all.Goals as goal

pub loop-rest-init : goal.loop-rest-init
loop-rest-init g c = record {
  done = [];
  whole = refl;
  written = Appends-nil (g.F.Write.contents c.args.from.now);
  read = Consumes-nil (g.T.Read.remaining c.args.to.now);
}

pub loop-rest-preserved : goal.loop-rest-preserved
loop-rest-preserved g c =
    let i = c.loop-rest.invariant in
    let rest = c.loop-rest.rest.now in
    let n = c.min-count.result in
    record {
      done = i.done ++ take n rest;
      whole = done_and_rest c.args.bytes.now i.done rest n i.whole;
      written =
          Appends-trans (g.F.Write.contents c.args.from.now) (g.F.Write.contents c.loop-rest.from)
          (g.F.Write.contents c.carry.new.from) i.done (take n rest) i.written c.in_ok-carry.ensures.written;
      read =
          Consumes-trans (g.T.Read.remaining c.args.to.now) (g.T.Read.remaining c.loop-rest.to)
          (g.T.Read.remaining c.carry.new.to) i.done (take n rest) i.read c.in_ok-carry.ensures.read;
    }
