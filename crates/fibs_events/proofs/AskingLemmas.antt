-- What is told of a login is what its whole lines and the one that has not ended say.
use Rattle.std.proofs.Common.{◌≡◌, ◌||◌, ℕ, Bool, List, ◌++◌, ap, ◌∙◌, Option}
use Rattle.fibs_lines.specs.Questions.{IsAskedAgain, MoreComes, asks_again}
use Rattle.fibs_events.specs.Asking.{HearsMore, refused_if, was_told}
use Rattle.fibs_events.specs.declared.asking.Asking.{Asking}
use Rattle.fibs_events.specs.declared.event.Event.{Event}

-- what is told, by what has come
pub hears_more : (old new : Asking) (bytes : List ℕ) (told : Option Event) (before again : Bool)
    → before ≡ was_told old bytes → MoreComes old.questions new.questions bytes → IsAskedAgain new.questions again
    → told ≡ refused_if again before → new.is_told ≡ (before || again) → HearsMore old new bytes told
hears_more old new bytes told before again was more is tells kept =
    record {
      heard = more;
      tells = λ s h.
          tells
          ∙ ap (λ t. refused_if t before) (is (s ++ bytes) (more s h))
          ∙ ap (λ t. refused_if (asks_again (s ++ bytes)) t) was;
      once = λ s h.
          kept
          ∙ ap (λ t. t || again) was
          ∙ ap (λ t. was_told old bytes || t) (is (s ++ bytes) (more s h));
    }
