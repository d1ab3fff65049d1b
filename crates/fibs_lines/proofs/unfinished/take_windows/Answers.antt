use Rattle.std.proofs.Common.{◌≡◌, ◌≤◌, ◌-◌, ◌+◌, ◌++◌, ◌∙◌, refl, sym, ap, arith, length, length-append, length-drop, take, drop, append-nil}
use Rattle.std.proofs.lemmas.List.{length-take}
use lib.Count.{count_trailing_zeros, trailing_le}
use Rattle.fibs_lines.proofs.WindowLemmas.{window_more, window_part, window_run, window_stops}
use Rattle.fibs_lines.proofs.unfinished.take_windows.Goals as goal

pub loop-at-init : goal.loop-at-init
loop-at-init c = record {
  in_range = omega arith;
  fits = omega (arith, c.room-room.ensures.fits);
  taken = sym (append-nil c.args.head.now);
  run = tt;
}

pub truncate-requires : goal.truncate-requires
truncate-requires c =
    let bytes = c.args.bytes.now in
    let at = c.loop-at.at in
    let window = take (at + 64 - at) (drop at bytes) in
    omega (
      arith,
      c.loop-at-test.true,
      c.len-start.ensures.value,
      trailing_le 64 c.ends-found.result,
      ap length c.append.ensures,
      length-append c.loop-at.head window,
      length-take (at + 64 - at) (drop at bytes),
      length-drop at bytes,
    )

pub returns-then-found-ne0-clause-taken : goal.returns-then-found-ne0-clause-taken
returns-then-found-ne0-clause-taken c =
    let bytes = c.args.bytes.now in
    let at = c.loop-at.at in
    let head = c.loop-at.head in
    let size : at + 64 - at ≡ 64 = omega arith in
    window_part c.args.head.now head c.append.new.self c.truncate.new.self bytes at c.len-start.result
    (count_trailing_zeros 64 c.ends-found.result) c.loop-at.invariant.taken c.len-start.ensures.value
    (c.append.ensures ∙ ap (λ n. head ++ take n (drop at bytes)) size) c.truncate.ensures
    (trailing_le 64 c.ends-found.result)

pub returns-then-found-ne0-clause-fits : goal.returns-then-found-ne0-clause-fits
returns-then-found-ne0-clause-fits c =
    omega (
      arith,
      c.loop-at.invariant.fits,
      c.loop-at-test.true,
      c.room-room.ensures.value,
      trailing_le 64 c.ends-found.result,
    )

pub returns-then-found-ne0-clause-run : goal.returns-then-found-ne0-clause-run
returns-then-found-ne0-clause-run c =
    let room : c.loop-at.at + 64 ≤ length c.args.bytes.now = omega (arith, c.loop-at-test.true) in
    (window_stops c.args.bytes.now c.loop-at.at c.ends-found.result room c.ends-found.ensures _ c.if-found-ne0.true refl
    c.loop-at.invariant.run).1

pub returns-then-found-ne0-clause-ends : goal.returns-then-found-ne0-clause-ends
returns-then-found-ne0-clause-ends c = λ _.
    let room : c.loop-at.at + 64 ≤ length c.args.bytes.now = omega (arith, c.loop-at-test.true) in
    let stops = window_stops c.args.bytes.now c.loop-at.at c.ends-found.result room c.ends-found.ensures _
    c.if-found-ne0.true refl c.loop-at.invariant.run in
    (omega (arith, stops.0, room), stops.2)

pub loop-at-preserved : goal.loop-at-preserved
loop-at-preserved c =
    let bytes = c.args.bytes.now in
    let at = c.loop-at.at in
    let head = c.loop-at.head in
    let size : at + 64 - at ≡ 64 = omega arith in
    let room : at + 64 ≤ length bytes = omega (arith, c.loop-at-test.true) in
    record {
      in_range = room;
      fits = omega (arith, c.loop-at.invariant.fits, c.loop-at-test.true, c.room-room.ensures.value);
      taken = window_more c.args.head.now head c.append.new.self bytes at c.loop-at.invariant.taken
          (c.append.ensures ∙ ap (λ n. head ++ take n (drop at bytes)) size);
      run = window_run bytes at c.ends-found.result room c.ends-found.ensures c.if-found-ne0.false
          c.loop-at.invariant.run;
    }
