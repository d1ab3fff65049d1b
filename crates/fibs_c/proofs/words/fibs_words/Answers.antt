-- What is appended to nothing is handed out.
use Rattle.std.proofs.Common.{◌++◌, List, ℕ, ap, inr, subst, ◌∙◌}
use Rattle.fibs_c.specs.Records.Texts.{HandsOut}
use Rattle.fibs_c.proofs.words.fibs_words.Goals as goal

pub returns : goal.returns
returns c =
    let words = c.in-Ok-append_told.ensures.0 in
    inr (record {
      told = c.in-Ok.told;
      is = c.in-Ok.ensures.told;
      words = words;
      rows = c.in-Ok-append_told.ensures.1;
      handed = subst (λ (bytes : List ℕ). HandsOut bytes c.args.text.now c.hand_out.new.room c.hand_out.new.len
          c.hand_out.result)
          (c.as_slice.ensures.value ∙ c.in-Ok-append_told.ensures.2
          ∙ ap (λ (xs : List ℕ). xs ++ words) c.new-words.ensures.items) c.hand_out.ensures;
    })
