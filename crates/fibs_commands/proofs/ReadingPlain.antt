-- A text is read as a plain command exactly if the relation says so.
use Rattle.std.proofs.Common.{◌≡◌, ◌≢◌, ℕ, ◌≤◌, ◌==◌, ◌&&◌, Bool, true, false, cond, not, nat_le, nat_lt, List, [], ◌∷◌, ◌++◌, length, codes, decimal, Option, Some, None, option_map, refl, ap, sym, ◌∙◌, subst, arith, append-nil}
use Rattle.std.specs.List.{list_all}
use Rattle.std.specs.Option.{option_or}
use Rattle.std.specs.Str.{bytes_eq}
use Rattle.std.proofs.lemmas.Bool.{and_parts}
use Rattle.std.proofs.lemmas.Bool.Decides.{nat_tests}
use Rattle.std.proofs.lemmas.Slice.Eq.{bytes_eq-Decides}
use Rattle.fibs_fields.specs.Decimal.{decimal_up_to}
use Rattle.fibs_fields.specs.Name.{is_name, is_name_byte}
use Rattle.fibs_fields.specs.Split.{before, after}
use Rattle.fibs_commands.specs.PlainCommands.{PlainValue, board_again, who, say, tell, shout, whisper, kibitz, leave_message, invite, invite_to, join, join_with, toggle_ready, automove_off, greedy_off, bye, plain_of, plain_fault_of}
use Rattle.fibs_commands.specs.PlainReading.{NoSpace, TextField, no_text, rest_of_line, NameAndText, no_name, name_then, ReadsAs, reads_board, reads_who, reads_bye, reads_say, reads_shout, reads_whisper, reads_kibitz, reads_tell, reads_message, reads_invite, reads_invite_of, reads_invite_to, reads_join, reads_join_with, reads_ready, reads_automove, reads_greedy, text_in, name_in, after_name, alone_in, saying_in, letter_in, invitation_in, only, joining_in, toggle_in, plain_in, read_plain}
use Rattle.fibs_commands.specs.CommandLaws.{ReadPlainIsExact, PlainReadsBack}
use Rattle.fibs_commands.proofs.PlainTexts.{name_in_it, both_in_it, points_in_it}
use Rattle.fibs_commands.proofs.PrintedLemmas.{bytes_from}
use Rattle.fibs_commands.proofs.ReadingCommands.{DecimalsAreExact}
use Rattle.fibs_commands.proofs.SplitLemmas.{from, before_and_from, before_without, split_there}

-- a word that passes the test of another is that one
same_word : (word other : List ℕ) → bytes_eq word other ≡ true → other ≡ word
same_word word other e = sym ((bytes_eq-Decides word other).0 e)

-- the fields after a word

-- a text as it comes after a word or a name
text_stands : (o : Option (List ℕ)) → TextField (text_in o) (from 32 o)
text_stands None = no_text
text_stands (Some text) = rest_of_line

-- a name and a text as they come after a word
name_stands : (o : Option (List ℕ)) → NameAndText (name_in o) (text_in (after_name o)) (from 32 o)
name_stands None = no_name
name_stands (Some rest) =
    subst (λ x. NameAndText (before 32 rest) (text_in (after 32 rest)) (32 ∷ x)) (sym (before_and_from 32 rest))
    (name_then (before_without 32 rest) (text_stands (after 32 rest)))

-- what the function reads is what the relation says

-- the word of a reading
at_word : (other word rest : List ℕ) (plain made : PlainValue) → bytes_eq word other ≡ true → Some made ≡ Some plain
    → ReadsAs (other ++ rest) made → ReadsAs (word ++ rest) plain
at_word other word rest plain made t e h =
    let same : made ≡ plain = cc in
    subst (λ w. ReadsAs (w ++ rest) plain) (same_word word other t) (subst (ReadsAs (other ++ rest)) same h)

-- a word and a text
saying_reads : (word : List ℕ) (o : Option (List ℕ)) (plain : PlainValue) → saying_in word (text_in o) ≡ Some plain
    → ReadsAs (word ++ from 32 o) plain
unfolding saying_in
saying_reads word o plain h = one (bytes_eq word (codes "say")) refl h
  where
    four : (t : Bool) → bytes_eq word (codes "kibitz") ≡ t → cond t (Some (kibitz (text_in o))) None ≡ Some plain
        → ReadsAs (word ++ from 32 o) plain
    four true t e =
        at_word (codes "kibitz") word (from 32 o) plain (kibitz (text_in o)) t e (reads_kibitz (text_stands o))
    four false t e = absurd cc

    three : (t : Bool) → bytes_eq word (codes "whisper") ≡ t
        → cond t (Some (whisper (text_in o))) (cond (bytes_eq word (codes "kibitz")) (Some (kibitz (text_in o))) None)
        ≡ Some plain → ReadsAs (word ++ from 32 o) plain
    three true t e =
        at_word (codes "whisper") word (from 32 o) plain (whisper (text_in o)) t e (reads_whisper (text_stands o))
    three false t e = four (bytes_eq word (codes "kibitz")) refl e

    two : (t : Bool) → bytes_eq word (codes "shout") ≡ t
        → cond t (Some (shout (text_in o)))
        (cond (bytes_eq word (codes "whisper")) (Some (whisper (text_in o)))
        (cond (bytes_eq word (codes "kibitz")) (Some (kibitz (text_in o))) None)) ≡ Some plain
        → ReadsAs (word ++ from 32 o) plain
    two true t e = at_word (codes "shout") word (from 32 o) plain (shout (text_in o)) t e (reads_shout (text_stands o))
    two false t e = three (bytes_eq word (codes "whisper")) refl e

    one : (t : Bool) → bytes_eq word (codes "say") ≡ t
        → cond t (Some (say (text_in o)))
        (cond (bytes_eq word (codes "shout")) (Some (shout (text_in o)))
        (cond (bytes_eq word (codes "whisper")) (Some (whisper (text_in o)))
        (cond (bytes_eq word (codes "kibitz")) (Some (kibitz (text_in o))) None)))
        ≡ Some plain → ReadsAs (word ++ from 32 o) plain
    one true t e = at_word (codes "say") word (from 32 o) plain (say (text_in o)) t e (reads_say (text_stands o))
    one false t e = two (bytes_eq word (codes "shout")) refl e

-- a word, a name and a text
letter_reads : (word : List ℕ) (o : Option (List ℕ)) (plain : PlainValue)
    → letter_in word (name_in o) (text_in (after_name o)) ≡ Some plain → ReadsAs (word ++ from 32 o) plain
unfolding letter_in
letter_reads word o plain h = one (bytes_eq word (codes "tell")) refl h
  where
    two : (t : Bool) → bytes_eq word (codes "message") ≡ t
        → cond t (Some (leave_message (name_in o) (text_in (after_name o)))) None ≡ Some plain
        → ReadsAs (word ++ from 32 o) plain
    two true t e =
        at_word (codes "message") word (from 32 o) plain (leave_message (name_in o) (text_in (after_name o))) t e
        (reads_message (name_stands o))
    two false t e = absurd cc

    one : (t : Bool) → bytes_eq word (codes "tell") ≡ t
        → cond t (Some (tell (name_in o) (text_in (after_name o))))
        (cond (bytes_eq word (codes "message")) (Some (leave_message (name_in o) (text_in (after_name o)))) None)
        ≡ Some plain
        → ReadsAs (word ++ from 32 o) plain
    one true t e =
        at_word (codes "tell") word (from 32 o) plain (tell (name_in o) (text_in (after_name o))) t e
        (reads_tell (name_stands o))
    one false t e = two (bytes_eq word (codes "message")) refl e

-- a word alone
alone_reads : (word : List ℕ) (o : Option (List ℕ)) (plain : PlainValue) → alone_in word o ≡ Some plain
    → ReadsAs (word ++ from 32 o) plain
unfolding alone_in
alone_reads word (Some rest) plain h = absurd cc
alone_reads word None plain h = one (bytes_eq word (codes "board")) refl h
  where
    three : (t : Bool) → bytes_eq word (codes "bye") ≡ t → cond t (Some bye) None ≡ Some plain
        → ReadsAs (word ++ []) plain
    three true t e = at_word (codes "bye") word [] plain bye t e reads_bye
    three false t e = absurd cc

    two : (t : Bool) → bytes_eq word (codes "who") ≡ t
        → cond t (Some who) (cond (bytes_eq word (codes "bye")) (Some bye) None) ≡ Some plain
        → ReadsAs (word ++ []) plain
    two true t e = at_word (codes "who") word [] plain who t e reads_who
    two false t e = three (bytes_eq word (codes "bye")) refl e

    one : (t : Bool) → bytes_eq word (codes "board") ≡ t
        → cond t (Some board_again) (cond (bytes_eq word (codes "who")) (Some who)
        (cond (bytes_eq word (codes "bye")) (Some bye) None)) ≡ Some plain → ReadsAs (word ++ []) plain
    one true t e = at_word (codes "board") word [] plain board_again t e reads_board
    one false t e = two (bytes_eq word (codes "who")) refl e

-- a name and a number
name_and_points : DecimalsAreExact → (rest : List ℕ) (points : List ℕ) (plain : PlainValue)
    → after 32 rest ≡ Some points
    → (n : Option ℕ) → decimal_up_to 65535 points ≡ n → option_map (λ n. invite_to (before 32 rest) n) n ≡ Some plain
    → ReadsAs (codes "invite " ++ rest) plain
name_and_points decimals rest points plain a None e f = absurd cc
name_and_points decimals rest points plain a (Some n) e f =
    let is = (decimals 65535 n points (omega arith)).0 e in
    let made : invite_to (before 32 rest) n ≡ plain = cc in
    subst (λ x. ReadsAs (codes "invite " ++ x) plain)
    (ap (λ d. before 32 rest ++ 32 ∷ d) (sym is.0) ∙ ap (λ o. before 32 rest ++ from 32 o) (sym a)
    ∙ sym (before_and_from 32 rest))
    (subst (ReadsAs (codes "invite " ++ (before 32 rest ++ 32 ∷ decimal n))) made
    (reads_invite_to (before_without 32 rest) is.1))

-- an invitation
invitation_reads : DecimalsAreExact → (o : Option (List ℕ)) (plain : PlainValue)
    → invitation_in (name_in o) (after_name o) ≡ Some plain → ReadsAs (codes "invite" ++ from 32 o) plain
unfolding invitation_in
invitation_reads decimals None plain h =
    let made : invite [] ≡ plain = cc in
    subst (ReadsAs (codes "invite")) made reads_invite
invitation_reads decimals (Some rest) plain h = go (after 32 rest) refl h
  where
    go : (a : Option (List ℕ)) → after 32 rest ≡ a → invitation_in (before 32 rest) a ≡ Some plain
        → ReadsAs (codes "invite " ++ rest) plain
    go None e f =
        let made : invite (before 32 rest) ≡ plain = cc in
        subst (λ x. ReadsAs (codes "invite " ++ x) plain)
        (sym (append-nil (before 32 rest)) ∙ ap (λ o. before 32 rest ++ from 32 o) (sym e)
        ∙ sym (before_and_from 32 rest))
        (subst (ReadsAs (codes "invite " ++ before 32 rest)) made (reads_invite_of (before_without 32 rest)))
    go (Some points) e f = name_and_points decimals rest points plain e (decimal_up_to 65535 points) refl f

-- whom a user joins
joining_reads : (o : Option (List ℕ)) (plain : PlainValue) → joining_in o ≡ Some plain
    → ReadsAs (codes "join" ++ from 32 o) plain
unfolding joining_in
joining_reads None plain h =
    let made : join ≡ plain = cc in
    subst (ReadsAs (codes "join")) made reads_join
joining_reads (Some rest) plain h = go (after 32 rest) refl h
  where
    go : (a : Option (List ℕ)) → after 32 rest ≡ a → only (before 32 rest) a ≡ Some plain
        → ReadsAs (codes "join " ++ rest) plain
    go None e f =
        let made : join_with (before 32 rest) ≡ plain = cc in
        subst (λ x. ReadsAs (codes "join " ++ x) plain)
        (sym (append-nil (before 32 rest)) ∙ ap (λ o. before 32 rest ++ from 32 o) (sym e)
        ∙ sym (before_and_from 32 rest))
        (subst (ReadsAs (codes "join " ++ before 32 rest)) made (reads_join_with (before_without 32 rest)))
    go (Some more) e f = absurd cc

-- what a user toggles
toggle_reads : (o : Option (List ℕ)) (plain : PlainValue) → toggle_in o ≡ Some plain
    → ReadsAs (codes "toggle" ++ from 32 o) plain
unfolding toggle_in
toggle_reads None plain h = absurd cc
toggle_reads (Some setting) plain h = one (bytes_eq setting (codes "ready")) refl h
  where
    is : (other : List ℕ) (made : PlainValue) → bytes_eq setting other ≡ true → Some made ≡ Some plain
        → ReadsAs (codes "toggle " ++ other) made → ReadsAs (codes "toggle " ++ setting) plain
    is other made t e k =
        let same : made ≡ plain = cc in
        subst (λ w. ReadsAs (codes "toggle " ++ w) plain) (same_word setting other t)
        (subst (ReadsAs (codes "toggle " ++ other)) same k)

    three : (t : Bool) → bytes_eq setting (codes "greedy") ≡ t → cond t (Some greedy_off) None ≡ Some plain
        → ReadsAs (codes "toggle " ++ setting) plain
    three true t e = is (codes "greedy") greedy_off t e reads_greedy
    three false t e = absurd cc

    two : (t : Bool) → bytes_eq setting (codes "automove") ≡ t
        → cond t (Some automove_off) (cond (bytes_eq setting (codes "greedy")) (Some greedy_off) None) ≡ Some plain
        → ReadsAs (codes "toggle " ++ setting) plain
    two true t e = is (codes "automove") automove_off t e reads_automove
    two false t e = three (bytes_eq setting (codes "greedy")) refl e

    one : (t : Bool) → bytes_eq setting (codes "ready") ≡ t
        → cond t (Some toggle_ready) (cond (bytes_eq setting (codes "automove")) (Some automove_off)
        (cond (bytes_eq setting (codes "greedy")) (Some greedy_off) None)) ≡ Some plain
        → ReadsAs (codes "toggle " ++ setting) plain
    one true t e = is (codes "ready") toggle_ready t e reads_ready
    one false t e = two (bytes_eq setting (codes "automove")) refl e

-- two readings, one after the other
either_reads : (P : PlainValue → Type 0) (a b : Option PlainValue) (plain : PlainValue) → option_or a b ≡ Some plain
    → (a ≡ Some plain → P plain) → (b ≡ Some plain → P plain) → P plain
either_reads P None b plain h f g = g h
either_reads P (Some made) b plain h f g = f h

-- a word and what follows it
fields_read : DecimalsAreExact → (word : List ℕ) (o : Option (List ℕ)) (plain : PlainValue)
    → plain_in word o ≡ Some plain → ReadsAs (word ++ from 32 o) plain
unfolding plain_in
fields_read decimals word o plain h = one (bytes_eq word (codes "invite")) refl h
  where
    others : option_or (saying_in word (text_in o))
        (option_or (letter_in word (name_in o) (text_in (after_name o))) (alone_in word o)) ≡ Some plain
        → ReadsAs (word ++ from 32 o) plain
    others e =
        either_reads (λ p. ReadsAs (word ++ from 32 o) p) (saying_in word (text_in o))
        (option_or (letter_in word (name_in o) (text_in (after_name o))) (alone_in word o)) plain e
        (saying_reads word o plain)
        (λ k. either_reads (λ p. ReadsAs (word ++ from 32 o) p) (letter_in word (name_in o) (text_in (after_name o)))
        (alone_in word o) plain k (letter_reads word o plain) (alone_reads word o plain))

    three : (t : Bool) → bytes_eq word (codes "toggle") ≡ t
        → cond t (toggle_in o) (option_or (saying_in word (text_in o))
        (option_or (letter_in word (name_in o) (text_in (after_name o))) (alone_in word o))) ≡ Some plain
        → ReadsAs (word ++ from 32 o) plain
    three true t e =
        subst (λ w. ReadsAs (w ++ from 32 o) plain) (same_word word (codes "toggle") t) (toggle_reads o plain e)
    three false t e = others e

    two : (t : Bool) → bytes_eq word (codes "join") ≡ t
        → cond t (joining_in o) (cond (bytes_eq word (codes "toggle")) (toggle_in o)
        (option_or (saying_in word (text_in o))
        (option_or (letter_in word (name_in o) (text_in (after_name o))) (alone_in word o)))) ≡ Some plain
        → ReadsAs (word ++ from 32 o) plain
    two true t e =
        subst (λ w. ReadsAs (w ++ from 32 o) plain) (same_word word (codes "join") t) (joining_reads o plain e)
    two false t e = three (bytes_eq word (codes "toggle")) refl e

    one : (t : Bool) → bytes_eq word (codes "invite") ≡ t
        → cond t (invitation_in (name_in o) (after_name o))
        (cond (bytes_eq word (codes "join")) (joining_in o)
        (cond (bytes_eq word (codes "toggle")) (toggle_in o)
        (option_or (saying_in word (text_in o))
        (option_or (letter_in word (name_in o) (text_in (after_name o))) (alone_in word o))))) ≡ Some plain
        → ReadsAs (word ++ from 32 o) plain
    one true t e =
        subst (λ w. ReadsAs (w ++ from 32 o) plain) (same_word word (codes "invite") t)
        (invitation_reads decimals o plain e)
    one false t e = two (bytes_eq word (codes "join")) refl e

-- a text
plain_reads : DecimalsAreExact → (text : List ℕ) (plain : PlainValue) → read_plain text ≡ Some plain
    → ReadsAs text plain
unfolding read_plain
plain_reads decimals text plain h =
    subst (λ t. ReadsAs t plain) (sym (before_and_from 32 text))
    (fields_read decimals (before 32 text) (after 32 text) plain h)

-- what the relation says, the function reads

-- a word and a text are found
saying_found : (front : List ℕ) (made : List ℕ → PlainValue) → (read_plain front ≡ Some (made []))
    → ((t : List ℕ) → read_plain (front ++ 32 ∷ t) ≡ Some (made t))
    → {text rest : List ℕ} → TextField text rest → read_plain (front ++ rest) ≡ Some (made text)
saying_found front made none some no_text = ap read_plain (append-nil front) ∙ none
saying_found front made none some (rest_of_line {text = t}) = some t

-- how a text comes after a name, as what follows a space or nothing
behind_name : {text rest : List ℕ} → TextField text rest
    → (o : Option (List ℕ)) × (from 32 o ≡ rest) × (text_in o ≡ text)
behind_name no_text = (None, refl, refl)
behind_name (rest_of_line {text = t}) = (Some t, refl, refl)

-- a word, a name and a text are found
letter_found : (front : List ℕ) (made : List ℕ → List ℕ → PlainValue) → (read_plain front ≡ Some (made [] []))
    → ((r : List ℕ) → read_plain (front ++ 32 ∷ r) ≡ Some (made (before 32 r) (text_in (after 32 r))))
    → {name text rest : List ℕ} → NameAndText name text rest → read_plain (front ++ rest) ≡ Some (made name text)
letter_found front made none some no_name = ap read_plain (append-nil front) ∙ none
letter_found front made none some (name_then {name = n} {text = t} {rest = r} apart field) =
    let b = behind_name field in
    let o : Option (List ℕ) = b.0 in
    let split = split_there 32 n o apart in
    ap (λ x. read_plain (front ++ 32 ∷ (n ++ x))) (sym b.1) ∙ some (n ++ from 32 o)
    ∙ ap (λ x. Some (made x (text_in (after 32 (n ++ from 32 o))))) split.0
    ∙ ap (λ x. Some (made n (text_in x))) split.1 ∙ ap (λ x. Some (made n x)) b.2

-- a name that is the last field
last_name : (name : List ℕ) → NoSpace name → (before 32 name ≡ name) × (after 32 name ≡ None)
last_name name apart =
    let split = split_there 32 name None apart in
    let whole = append-nil name in
    (ap (before 32) (sym whole) ∙ split.0, ap (after 32) (sym whole) ∙ split.1)

-- a text is found
plain_found : DecimalsAreExact → (text : List ℕ) (plain : PlainValue) → ReadsAs text plain
    → read_plain text ≡ Some plain
unfolding read_plain plain_in alone_in saying_in letter_in invitation_in joining_in toggle_in
plain_found decimals text plain reads_board = refl
plain_found decimals text plain reads_who = refl
plain_found decimals text plain reads_bye = refl
plain_found decimals text plain (reads_say field) = saying_found (codes "say") (λ t. say t) refl (λ t. refl) field
plain_found decimals text plain (reads_shout field) = saying_found (codes "shout") (λ t. shout t) refl (λ t. refl) field
plain_found decimals text plain (reads_whisper field) =
    saying_found (codes "whisper") (λ t. whisper t) refl (λ t. refl) field
plain_found decimals text plain (reads_kibitz field) =
    saying_found (codes "kibitz") (λ t. kibitz t) refl (λ t. refl) field
plain_found decimals text plain (reads_tell fields) =
    letter_found (codes "tell") (λ n t. tell n t) refl (λ r. refl) fields
plain_found decimals text plain (reads_message fields) =
    letter_found (codes "message") (λ n t. leave_message n t) refl (λ r. refl) fields
plain_found decimals text plain reads_invite = refl
plain_found decimals text plain (reads_invite_of {name = n} apart) =
    let last = last_name n apart in
    ap (λ x. invitation_in x (after 32 n)) last.0 ∙ ap (λ x. invitation_in n x) last.1
plain_found decimals text plain (reads_invite_to {name = n} {points = p} apart few) =
    let split = split_there 32 n (Some (decimal p)) apart in
    let rest : List ℕ = n ++ 32 ∷ decimal p in
    let is : decimal_up_to 65535 (decimal p) ≡ Some p = (decimals 65535 p (decimal p) (omega arith)).1 (refl, few) in
    ap (λ x. invitation_in x (after 32 rest)) split.0 ∙ ap (λ x. invitation_in n x) split.1
    ∙ ap (λ o. option_map (λ k. invite_to n k) o) is
plain_found decimals text plain reads_join = refl
plain_found decimals text plain (reads_join_with {name = n} apart) =
    let last = last_name n apart in
    ap (λ x. only x (after 32 n)) last.0 ∙ ap (λ x. only n x) last.1
plain_found decimals text plain reads_ready = refl
plain_found decimals text plain reads_automove = refl
plain_found decimals text plain reads_greedy = refl

-- the function and the relation say the same
pub read_plain_is_exact : DecimalsAreExact → ReadPlainIsExact
read_plain_is_exact decimals text plain = (plain_reads decimals text plain, plain_found decimals text plain)

-- a plain command that has a text is read from it

-- a name has no space
name_apart : (name : List ℕ) → is_name name ≡ true → NoSpace name
name_apart name h =
    bytes_from (λ b. b ≢ 32) is_name_byte no_space name
    (and_parts (nat_lt 0 (length name) && nat_le (length name) 64) (list_all is_name_byte name) h).1
  where
    no_space : (b : ℕ) → is_name_byte b ≡ true → b ≢ 32
    no_space b h =
        let p = and_parts (nat_le 33 b && nat_le b 126) (not (b == 58)) h in
        let q = and_parts (nat_le 33 b) (nat_le b 126) p.0 in
        let low = q.0 in
        λ e. let above : 33 ≤ b = grind (arith, nat_tests) in absurd (omega arith)

-- the text of a plain command is as the relation says
plain_stands : (plain : PlainValue) → plain_fault_of plain ≡ None → ReadsAs (plain_of plain) plain
unfolding plain_of plain_fault_of
plain_stands board_again h = reads_board
plain_stands who h = reads_who
plain_stands (say text) h = reads_say (rest_of_line {text = text})
plain_stands (tell name text) h =
    reads_tell (name_then (name_apart name (both_in_it (tell name text) name text refl h).0)
    (rest_of_line {text = text}))
plain_stands (shout text) h = reads_shout (rest_of_line {text = text})
plain_stands (whisper text) h = reads_whisper (rest_of_line {text = text})
plain_stands (kibitz text) h = reads_kibitz (rest_of_line {text = text})
plain_stands (leave_message name text) h =
    reads_message (name_then (name_apart name (both_in_it (leave_message name text) name text refl h).0)
    (rest_of_line {text = text}))
plain_stands (invite name) h = reads_invite_of (name_apart name (name_in_it (invite name) name refl h))
plain_stands (invite_to name points) h =
    reads_invite_to (name_apart name (points_in_it (invite_to name points) name points refl h).0)
    (points_in_it (invite_to name points) name points refl h).1
plain_stands join h = reads_join
plain_stands (join_with name) h = reads_join_with (name_apart name (name_in_it (join_with name) name refl h))
plain_stands toggle_ready h = reads_ready
plain_stands automove_off h = reads_automove
plain_stands greedy_off h = reads_greedy
plain_stands bye h = reads_bye

-- so it is read back
pub plain_reads_back : ReadPlainIsExact → PlainReadsBack
plain_reads_back exact plain h = (exact (plain_of plain) plain).1 (plain_stands plain h)
