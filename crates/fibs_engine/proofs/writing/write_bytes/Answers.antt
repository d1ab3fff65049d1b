use Rattle.std.proofs.Common.{◌++◌, [], take, refl, ◌∙◌, ap, sym, subst}
use Rattle.std.proofs.lemmas.List.{take_rest}
use Rattle.std.specs.Io.KnownBytes.{Appends}
use Rattle.std.proofs.KnownBytes.{Appends-nil, Appends-trans}
use Rattle.fibs_engine.proofs.WriteLemmas.{front_more, took_nothing, failed_write}
use Rattle.fibs_engine.proofs.writing.write_bytes.Goals as goal

pub loop-rest-init : goal.loop-rest-init
loop-rest-init g c = ([], refl, Appends-nil _)

pub loop-rest-preserved : goal.loop-rest-preserved
loop-rest-preserved g c =
    let front = c.loop-rest.invariant.0 in
    let rest = c.loop-rest.rest.now in
    let count = c.in-Ok.count in (
      front ++ take count rest,
      front_more c.args.bytes.now front rest count c.loop-rest.invariant.1
          ∙ ap (λ l. front ++ take count rest ++ l) (sym (take_rest rest count)),
      Appends-trans _ _ _ front (take count rest) c.loop-rest.invariant.2 c.in-Ok.ensures.bytes,
    )

pub returns-in-Ok-eq0 : goal.returns-in-Ok-eq0
returns-in-Ok-eq0 g c =
    let mid = g.W.Write.contents c.loop-rest.writer in
    let now = g.W.Write.contents c.write.new.self in
    let none : Appends mid now [] = subst (λ n. Appends mid now
    (take n c.loop-rest.rest.now)) c.in-Ok-eq0.field-0-test c.in-Ok-eq0.ensures.bytes in
    took_nothing _ mid now _ c.loop-rest.invariant.0 c.loop-rest.rest.now c.loop-rest.invariant.1
    c.loop-rest-test.ensures c.loop-rest.invariant.2 none

pub returns-in-Err : goal.returns-in-Err
returns-in-Err g c =
    failed_write _ (g.W.Write.contents c.loop-rest.writer)
    (g.W.Write.contents c.write.new.self) _ c.loop-rest.invariant.0 c.loop-rest.rest.now
    c.loop-rest.invariant.1 c.loop-rest-test.ensures c.loop-rest.invariant.2 c.in-Err.ensures.bytes
