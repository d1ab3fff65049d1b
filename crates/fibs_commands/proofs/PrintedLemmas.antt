-- Printed bytes: those of names, texts and passwords, and that they are a text.
use Rattle.std.proofs.Common.{◌≡◌, sym, ◌∙◌, ℕ, ◌<◌, ◌==◌, ◌&&◌, Bool, true, false, not, List, [], ◌∷◌, length, nat_le, nat_lt, refl, arith}
use Rattle.std.specs.Prelude.{All, Result, Ok, Err, MatchResult, IsOk}
use Rattle.std.specs.List.{list_all}
use Rattle.std.specs.Str.{IsUtf8}
use Rattle.std.proofs.lemmas.Bool.{and_parts}
use Rattle.std.proofs.lemmas.Bool.Decides.{nat_tests}
use Rattle.std.proofs.lemmas.List.Elements.{All-cons, All-nil, All-weaker}
use Rattle.std.proofs.lemmas.Str.{IsUtf8-from_ascii}
use Rattle.std.proofs.lemmas.Str.Ascii.{IsAscii-from_all}
use Rattle.fibs_fields.specs.Name.{is_name, is_name_byte}
use Rattle.fibs_commands.specs.Logins.{is_password_byte}
use Rattle.fibs_commands.specs.PlainCommands.{is_text_byte}
use Rattle.fibs_fields.specs.Printed.{IsPrinted}

-- a byte of a text is printed
byte_from_text : (b : ℕ) → is_text_byte b ≡ true → IsPrinted b
byte_from_text b h =
    let q = and_parts (nat_le 32 b) (nat_le b 126) h in
    let low = q.0 in
    let high = q.1 in
    (grind (arith, nat_tests), grind (arith, nat_tests))

-- a test of each byte, that each passes
pub bytes_from : (P : ℕ → Type 0) (p : ℕ → Bool) → ((b : ℕ) → p b ≡ true → P b) → (text : List ℕ)
    → list_all p text ≡ true → All P text
bytes_from P p f [] h = All-nil P
bytes_from P p f (b ∷ text) h =
    let q = and_parts (p b) (list_all p text) h in
    All-cons P b text (f b q.0) (bytes_from P p f text q.1)

-- two tests that pass
and_both : (a b : Bool) → a ≡ true → b ≡ true → (a && b) ≡ true
and_both true b h k = k
and_both false b h k = h

-- so are all bytes of one
pub bytes_printed : (text : List ℕ) → list_all is_text_byte text ≡ true → All IsPrinted text
bytes_printed text h = bytes_from IsPrinted is_text_byte byte_from_text text h

-- printed bytes are a text
pub printed_is_text : (text : List ℕ) → list_all is_text_byte text ≡ true → IsUtf8 text
printed_is_text text h =
    IsUtf8-from_ascii text (IsAscii-from_all text
    (All-weaker IsPrinted (λ b. b < 128) (λ b is. omega arith) text (bytes_printed text h)))

-- bytes that are a text are read as one
pub utf8_is_read : {T E : Type 0} (Q : T → Type 0) (R : E → Type 0) (bytes : List ℕ) (r : Result T E)
    → IsUtf8 bytes → MatchResult r (λ s. Q s × IsUtf8 bytes) (λ e. ¬ (IsUtf8 bytes) × R e) → IsOk r
utf8_is_read Q R bytes (Ok s) is h = refl
utf8_is_read Q R bytes (Err e) is h = absurd (h.0 is)

-- a test of each byte that implies another
all_pass : (p q : ℕ → Bool) → ((b : ℕ) → p b ≡ true → q b ≡ true) → (text : List ℕ) → list_all p text ≡ true
    → list_all q text ≡ true
all_pass p q f [] h = refl
all_pass p q f (b ∷ text) h =
    let parts = and_parts (p b) (list_all p text) h in
    and_both (q b) (list_all q text) (f b parts.0) (all_pass p q f text parts.1)

-- a byte of a name is one of a text
name_byte : (b : ℕ) → is_name_byte b ≡ true → is_text_byte b ≡ true
name_byte b h =
    let p = and_parts (nat_le 33 b && nat_le b 126) (not (b == 58)) h in
    let q = and_parts (nat_le 33 b) (nat_le b 126) p.0 in
    let low = q.0 in
    let high = q.1 in
    grind (arith, nat_tests)

-- so is a byte of a password
password_byte : (b : ℕ) → is_password_byte b ≡ true → is_text_byte b ≡ true
password_byte b h =
    let q = and_parts (nat_le 33 b) (nat_le b 126) h in
    let low = q.0 in
    let high = q.1 in
    grind (arith, nat_tests)

-- a name is of printed bytes
pub name_is_printed : (name : List ℕ) → is_name name ≡ true → list_all is_text_byte name ≡ true
name_is_printed name h =
    all_pass is_name_byte is_text_byte name_byte name
    (and_parts (nat_lt 0 (length name) && nat_le (length name) 64) (list_all is_name_byte name) h).1

-- so is a password
pub secret_is_printed : (text : List ℕ) (is : Bool) → is ≡ (nat_lt 0 (length text) && list_all is_password_byte text)
    → is ≡ true → list_all is_text_byte text ≡ true
secret_is_printed text is e h =
    all_pass is_password_byte is_text_byte password_byte text
    (and_parts (nat_lt 0 (length text)) (list_all is_password_byte text) (sym e ∙ h)).1
