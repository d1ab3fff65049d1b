use Rattle.std.proofs.Common.{◌∷◌, ◌∙◌, List, ℕ, ap, codes}
use Rattle.fibs_wording.proofs.saved.after_head.Goals as goal

-- a word stands in front of others
abbrev behind : List ℕ → List (List ℕ) → List (List ℕ)
behind word others = word ∷ others

pub returns : goal.returns
returns c =
    c.in_ok-rest.ensures ∙ ap (behind (codes "opponent")) (
    c.in_ok-rest-2.ensures ∙ ap (behind (codes "matchlength")) (
    c.in_ok-rest-3.ensures ∙ ap (behind (codes "score")) (
    c.in_ok-rest-4.ensures ∙ ap (behind (codes "(your")) (
    c.in_ok-rest-5.ensures ∙ ap (behind (codes "points"))
    c.in_ok-rest-6.ensures))))
