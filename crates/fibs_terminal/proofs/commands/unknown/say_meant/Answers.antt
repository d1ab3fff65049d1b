use Rattle.std.proofs.Common.{◌≡◌, ◌++◌, ◌∙◌, ℕ, List, Some, Result, Ok, Err, codes, ap, append_assoc}
use Rattle.std.specs.Prelude.{OnOk}
use Rattle.fibs_wording.specs.Shown.{AddsShown}
use Rattle.fibs_terminal.specs.Unknown.{IsMeantBy, SaysMeant}
use Rattle.fibs_terminal.proofs.commands.unknown.say_meant.Goals as goal

-- what was typed is shown, and then the word that was meant
offered : {E : Type 0} (r : Result (Unit {0}) E) (word meant old shown colon named after : List ℕ)
    → IsMeantBy word (Some meant) → AddsShown old shown → colon ≡ shown ++ codes ": " → named ≡ colon ++ meant
    → OnOk r (after ≡ named ++ codes "?\n") → OnOk r (SaysMeant word old after)
offered (Err e) word meant old shown colon named after m s p q e4 = tt
offered (Ok u) word meant old shown colon named after m s p q e4 = (
  Some meant,
  m,
  (
    s.0,
    e4
        ∙ ap (λ t. t ++ codes "?\n") (q ∙ ap (λ t. t ++ meant) (p ∙ ap (λ t. t ++ codes ": ") s.1))
        ∙ append_assoc (old ++ s.0 ++ codes ": ") meant (codes "?\n")
        ∙ append_assoc (old ++ s.0) (codes ": ") (meant ++ codes "?\n")
        ∙ append_assoc old s.0 (codes ": " ++ (meant ++ codes "?\n")),
  ),
)

pub returns-in_ok-say-in-Some-2 : goal.returns-in_ok-say-in-Some-2
returns-in_ok-say-in-Some-2 c =
    offered c.say-in-Some-3.result c.args.word.now c.in-Some.meant.now _ _ _ _ _
    (record { take = c.in-Some.ensures.take; pass = c.in-Some.ensures.pass; drop = c.in-Some.ensures.drop })
    c.in_ok-append_shown-in-Some.ensures c.in_ok-say-in-Some.ensures.said c.in_ok-say-in-Some-2.ensures.said
    c.say-in-Some-3.ensures.said
