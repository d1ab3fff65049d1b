use Rattle.std.proofs.Common.{◌++◌, [], take, refl, ◌∙◌, ap, sym, subst}
use Rattle.std.proofs.lemmas.List.{take_rest}
use Rattle.std.specs.Io.KnownBytes.{Appends}
use Rattle.std.proofs.KnownBytes.{Appends-nil, Appends-trans, Keeps-refl, Keeps-trans}
use Rattle.fibs_engine.proofs.WriteLemmas.{front_more, took_nothing, failed_write}
use Rattle.fibs_engine.proofs.connections.link.send_bytes.Goals as goal

pub loop-rest-init : goal.loop-rest-init
loop-rest-init g c = ([], refl, Appends-nil _, Keeps-refl _)

pub loop-rest-preserved : goal.loop-rest-preserved
loop-rest-preserved g c =
    let front = c.loop-rest.invariant.0 in
    let rest = c.loop-rest.rest.now in
    let count = c.in-Ok.count in (
      front ++ take count rest,
      front_more c.args.bytes.now front rest count c.loop-rest.invariant.1
          ∙ ap (λ l. front ++ take count rest ++ l) (sym (take_rest rest count)),
      Appends-trans _ _ _ front (take count rest) c.loop-rest.invariant.2 c.in-Ok.ensures.bytes,
      Keeps-trans _ _ _ c.loop-rest.invariant.3 c.transmit.ensures.apart,
    )

pub returns-in-Ok-eq0-clause-wrote : goal.returns-in-Ok-eq0-clause-wrote
returns-in-Ok-eq0-clause-wrote g c =
    let mid = g.S.Write.contents c.loop-rest.stream in
    let now = g.S.Write.contents c.transmit.new.self in
    let none : Appends mid now [] = subst (λ n. Appends mid now
    (take n c.loop-rest.rest.now)) c.in-Ok-eq0.field-0-test c.in-Ok-eq0.ensures.bytes in
    took_nothing _ mid now _ c.loop-rest.invariant.0 c.loop-rest.rest.now c.loop-rest.invariant.1
    c.loop-rest-test.ensures c.loop-rest.invariant.2 none

pub returns-in-Err-clause-wrote : goal.returns-in-Err-clause-wrote
returns-in-Err-clause-wrote g c =
    failed_write _ (g.S.Write.contents c.loop-rest.stream)
    (g.S.Write.contents c.transmit.new.self) _ c.loop-rest.invariant.0 c.loop-rest.rest.now
    c.loop-rest.invariant.1 c.loop-rest-test.ensures c.loop-rest.invariant.2 c.in-Err.ensures.bytes
