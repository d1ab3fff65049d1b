use Rattle.std.proofs.Common.{◌≡◌, ◌++◌, ◌-◌, ◌+◌, ◌∷◌, [], ◌∙◌, ℕ, ap, append_assoc, arith, length, replicate, sym}
use Rattle.fibs_wording.proofs.RowLemmas.{one_more_space}
use Rattle.fibs_wording.proofs.environment.shown.pad_from.Goals as goal

pub loop-preserved : goal.loop-preserved
loop-preserved c =
    let text = c.args.text.now.items in
    let used = c.saturating_sub-used.result in
    let counter = c.loop.counter in
    let more : counter + 1 - used ≡ counter - used + 1 = omega (arith, c.loop.auto.counter) in
    record {
      spaces = c.in_ok-extend_from_slice.ensures.items
          ∙ ap (λ l. l ++ (32 ∷ [])) c.loop.invariant.spaces
          ∙ append_assoc text (replicate {A = ℕ} (counter - used) 32) (32 ∷ [])
          ∙ ap (λ l. text ++ l) (sym (one_more_space (counter - used)))
          ∙ ap (λ k. text ++ replicate {A = ℕ} k 32) (sym more);
      few = omega (arith, c.loop-test.true, c.loop.invariant.few, c.loop.auto.counter);
    }

pub returns : goal.returns
returns c =
    let text = c.args.text.now.items in
    let used = c.saturating_sub-used.result in
    let all : c.loop.counter - used ≡ c.args.columns - (length text - c.args.start) =
    omega (
      arith,
      c.loop-test.false,
      c.loop.invariant.few,
      c.loop.auto.counter,
      c.saturating_sub-used.ensures,
      c.len.ensures,
      c.args.text.now.ok.0,
    ) in
    c.loop.invariant.spaces ∙ ap (λ k. text ++ replicate {A = ℕ} k 32) all
