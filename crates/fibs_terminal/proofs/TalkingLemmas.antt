-- Which lines have a control character.
use Rattle.std.proofs.Common.{◌≡◌, ℕ, Bool, true, false, List, refl, sym, ap, ◌∙◌}
use Rattle.std.specs.Prelude.{if◌then◌else◌}
use Rattle.std.specs.Char.{is_control}
use Rattle.std.specs.List.{list_any}
use Rattle.std.specs.Str.{IsUtf8, chars, is_utf8}
use Rattle.std.proofs.lemmas.Str.{IsUtf8-from_is_utf8, is_utf8-from_IsUtf8}
use Rattle.fibs_terminal.specs.Talking.{has_control, is_upper_control}

-- a line that is UTF-8, as a text
pub text_controls : (line text : List ℕ) (answer : Bool) → IsUtf8 line → text ≡ line
    → answer ≡ list_any is_control (chars text) → answer ≡ has_control line
text_controls line text answer utf8 same is =
    is ∙ ap (λ (s : List ℕ). list_any is_control (chars s)) same
    ∙ sym (ap (λ (b : Bool). if b then list_any is_control (chars line) else list_any is_upper_control line)
    (is_utf8-from_IsUtf8 line utf8))

-- a test says that a line is not UTF-8
not_utf8 : (line : List ℕ) (test : Bool) → is_utf8 line ≡ test → (IsUtf8 line → ⊥) → test ≡ false
not_utf8 line true same fails = absurd (fails (IsUtf8-from_is_utf8 line same))
not_utf8 line false same fails = refl

-- a line that is not
pub byte_controls : (line : List ℕ) (answer : Bool) → (IsUtf8 line → ⊥)
    → answer ≡ list_any is_upper_control line → answer ≡ has_control line
byte_controls line answer fails is =
    is ∙ sym (ap (λ (b : Bool). if b then list_any is_control (chars line) else list_any is_upper_control line)
    (not_utf8 line (is_utf8 line) refl fails))
