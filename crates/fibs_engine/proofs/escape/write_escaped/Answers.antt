use Rattle.std.proofs.Common.{◌++◌, ◌+◌, ℕ, List, [], get_or, take, drop, refl, sym, ap, ◌∙◌, subst}
use Rattle.std.specs.Io.KnownBytes.{Appends}
use Rattle.std.proofs.KnownBytes.{Appends-nil, Appends-trans}
use Rattle.fibs_fields.specs.Hex.{hex_escape}
use Rattle.fibs_engine.specs.Escape.{escaped}
use Rattle.fibs_engine.specs.Writing.{GainedFront, progress_of}
use Rattle.fibs_engine.proofs.EscapeLemmas.{escaped_run, escaped_escape, escaped_rest, escaped_none}
use Rattle.fibs_engine.proofs.WriteLemmas.{broke_after, wrote_front, wrote_after}
use Rattle.fibs_engine.proofs.escape.write_escaped.Goals as goal

pub loop-at-init : goal.loop-at-init
loop-at-init g c = ([], refl, Appends-nil _)

pub returns-in_err-write_bytes : goal.returns-in_err-write_bytes
returns-in_err-write_bytes g c =
    let i = c.loop-at.invariant in
    let rest = c.loop-at.rest.now in
    let at = c.in-Some.at in
    let found = sym c.first_escaped.ensures ∙ c.in-Some.is in
    let more : List ℕ = hex_escape (get_or rest at 0) ++ escaped (drop (at + 1) rest) in
    wrote_front c.from_residual.result _ _ _ c.from_residual.ensures.0
    (broke_after _ _ _ i.0 (take at rest) more _ (escaped_run i.0 rest _ at found i.1) i.2 c.in_err-write_bytes.ensures)

pub returns-in_err-write_bytes-2 : goal.returns-in_err-write_bytes-2
returns-in_err-write_bytes-2 g c =
    let i = c.loop-at.invariant in
    let rest = c.loop-at.rest.now in
    let at = c.in-Some.at in
    let found = sym c.first_escaped.ensures ∙ c.in-Some.is in
    let mid = g.W.Write.contents c.write_bytes.new.writer in
    let now = g.W.Write.contents c.write_bytes-in-Some.new.writer in
    let wrote = Appends-trans _ _ mid i.0 (take at rest) i.2 c.in_ok-write_bytes.ensures in
    let broke = subst (GainedFront mid now) c.hex_escape.ensures c.in_err-write_bytes-2.ensures in
    wrote_front c.from_residual-in_err-write_bytes-2.result _ _ _ c.from_residual-in_err-write_bytes-2.ensures.0
    (broke_after _ mid now (i.0 ++ take at rest) (hex_escape (get_or rest at 0)) (escaped (drop (at + 1) rest)) _
    (escaped_escape i.0 rest _ at found i.1) wrote broke)

pub loop-at-preserved : goal.loop-at-preserved
loop-at-preserved g c =
    let i = c.loop-at.invariant in
    let rest = c.loop-at.rest.now in
    let at = c.in-Some.at in
    let found = sym c.first_escaped.ensures ∙ c.in-Some.is in
    let mid = g.W.Write.contents c.write_bytes.new.writer in
    let now = g.W.Write.contents c.write_bytes-in-Some.new.writer in
    let run = Appends-trans _ _ mid i.0 (take at rest) i.2 c.in_ok-write_bytes.ensures in
    let escape = subst (Appends mid now) c.hex_escape.ensures c.in_ok-write_bytes-2.ensures in (
      (i.0 ++ take at rest) ++ hex_escape (get_or rest at 0),
      escaped_rest i.0 rest c.after-rest.result.now _ at found c.after-rest.ensures i.1,
      Appends-trans _ mid now (i.0 ++ take at rest) (hex_escape (get_or rest at 0)) run escape,
    )

pub returns : goal.returns
returns g c =
    let i = c.loop-at.invariant in
    let rest = c.loop-at.rest.now in
    let plain = escaped_none rest (sym c.first_escaped.ensures ∙ c.in_default.is) in
    wrote_after (progress_of c.write_bytes-2.result) _ _ _ i.0 rest _ (ap (λ l. i.0 ++ l) (sym plain) ∙ i.1) i.2
    c.write_bytes-2.ensures
