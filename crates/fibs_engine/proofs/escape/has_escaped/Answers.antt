use Rattle.std.proofs.Common.{◌≡◌, ◌-◌, ◌+◌, ◌∙◌, arith, length, length-drop, take, take_all, drop, sym, ap}
use Rattle.std.specs.Prelude.{◌||◌}
use Rattle.std.specs.List.{list_any}
use Rattle.std.proofs.Math.Bool.{or-false}
use Rattle.fibs_engine.specs.Escape.{is_escaped}
use Rattle.fibs_engine.proofs.EscapeWindows.{window_more, windows_cover}
use Rattle.fibs_engine.proofs.escape.has_escaped.Goals as goal

pub loop-at-init : goal.loop-at-init
loop-at-init c =
    let bytes = c.args.bytes.now in
    let from = length bytes - 16 in
    record {
      within = omega arith;
      found =
          c.any_escaped-found.ensures
          ∙ (ap (list_any is_escaped)
          (take_all (length bytes - from) (drop from bytes) (omega (arith, length-drop from bytes)))
          ∙ sym (or-false (list_any is_escaped (drop from bytes))));
    }

pub loop-at-preserved : goal.loop-at-preserved
loop-at-preserved c =
    let bytes = c.args.bytes.now in
    let at = c.loop-at.at in
    let size : at + 16 - at ≡ 16 = omega arith in
    let window = c.any_escaped-found-in-loop-at.result in
    record {
      within = omega arith;
      found =
          window_more is_escaped bytes at 16 (list_any is_escaped (drop (length bytes - 16) bytes)) c.loop-at.found
          (c.loop-at.found || window) c.loop-at.invariant.found
          (ap (λ b. c.loop-at.found || b)
          (c.any_escaped-found-in-loop-at.ensures
          ∙ ap (λ n. list_any is_escaped (take n (drop at bytes))) size));
    }

pub returns : goal.returns
returns c =
    windows_cover is_escaped c.args.bytes.now (length c.args.bytes.now - 16) c.loop-at.at c.loop-at.found
    (omega arith) c.loop-at.invariant.found
