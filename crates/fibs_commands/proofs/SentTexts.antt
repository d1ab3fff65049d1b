-- Every command is sent as the one line that it is.
use Rattle.std.proofs.Common.{◌≡◌, ◌≢◌, ℕ, ◌+◌, ◌≤◌, ◌&&◌, true, false, nat_le, nat_lt, nat_eq, List, [], ◌∷◌, ◌++◌, length, codes, decimal, refl, ap, ◌∙◌, arith, rules, length-append}
use Rattle.std.specs.Prelude.{All}
use Rattle.std.specs.List.{list_all, starts_with}
use Rattle.std.proofs.lemmas.Bool.{and_parts}
use Rattle.std.proofs.lemmas.Bool.Decides.{nat_tests}
use Rattle.std.proofs.lemmas.Fmt.{decimal_is_IsNumeral, length-decimal-le}
use Rattle.std.proofs.lemmas.Str.Parse.{digit_at}
use Rattle.std.proofs.lemmas.List.Elements.{All-append, All-cons, All-weaker, All-from_recursion, All-from_get_or}
use Rattle.fibs_lines.specs.Lines.{login_prompt, command_prompt}
use Rattle.fibs_lines.specs.StreamLaws.{IsSendable, EmptyStreamHasNoLine, SendableTextIsItsLine}
use Rattle.fibs_fields.specs.Name.{is_name}
use Rattle.fibs_fields.specs.Printed.{IsPrinted}
use Rattle.fibs_position.specs.DecisionValue.{roll, double, accept, reject, move, resign}
use Rattle.fibs_commands.specs.Commands.{command_of, stake_text, steps_text}
use Rattle.fibs_commands.specs.FirstCommands.{style_text, autoboard_text, moreboards_text, board_text}
use Rattle.fibs_commands.specs.Logins.{login_text, is_password, is_password_byte}
use Rattle.fibs_commands.specs.PlainCommands.{board_again, who, say, tell, shout, whisper, kibitz, leave_message, invite, invite_to, join, join_with, toggle_ready, automove_off, greedy_off, bye, plain_of, plain_fault_of, is_text_byte}
use Rattle.fibs_commands.specs.CommandLaws.{CommandsAreShort, CommandsArePrinted, IsSent, DecisionsAreSent, PlainIsSent, LoginsAreSent, FirstAreSent}
use Rattle.fibs_commands.proofs.PlainTexts.{IsText, name_in_it, text_in_it, both_in_it, points_in_it}
use Rattle.fibs_commands.proofs.PrintedLemmas.{bytes_printed, name_is_printed, secret_is_printed}

-- the two laws of lines
pub record Lines : Type 0 where
  pub empty : EmptyStreamHasNoLine
  pub its_line : SendableTextIsItsLine

-- a short text of printed bytes that begins with no prompt
sent : Lines → (text : List ℕ) → All IsPrinted text → length text ≤ 512
    → starts_with nat_eq text login_prompt ≡ false → starts_with nat_eq text command_prompt ≡ false → IsSent text
sent laws text printed short no_login no_command =
    let sendable : IsSendable text = record {
      fits = omega arith;
      no_line_end = All-weaker IsPrinted (λ b. b ≢ 10) (λ b is. λ e. omega arith) text printed;
      no_command = All-weaker IsPrinted (λ b. b ≢ 255) (λ b is. λ e. omega arith) text printed;
      no_login_prompt = no_login;
      no_command_prompt = no_command;
    } in
    record {
      printed = printed;
      fits = short;
      sendable = sendable;
      line =
          laws.its_line [] text laws.empty.1 sendable
          ∙ ap (λ x. x ++ (record { bytes = text; cut = false }) ∷ []) laws.empty.0;
    }

-- names, texts and passwords

-- a name is printed and short
pub name_text : (name : List ℕ) → is_name name ≡ true → All IsPrinted name × (length name ≤ 64)
name_text name h =
    let p = and_parts (nat_lt 0 (length name) && nat_le (length name) 64) (list_all _ name) h in
    let few = (and_parts (nat_lt 0 (length name)) (nat_le (length name) 64) p.0).1 in
    (bytes_printed name (name_is_printed name h), grind (arith, nat_tests))

-- a text is printed
pub said_text : (text : List ℕ) → IsText text → All IsPrinted text
said_text text h = bytes_printed text (and_parts (nat_lt 0 (length text)) (list_all is_text_byte text) h.1).1

-- a password is printed and short
pub secret_text : (text : List ℕ) → is_password text ≡ true → All IsPrinted text × (length text ≤ 64)
secret_text text h =
    let p = and_parts (nat_le (length text) 64) (nat_lt 0 (length text) && list_all is_password_byte text) h in
    let few = p.0 in (
      bytes_printed text (secret_is_printed text (nat_lt 0 (length text) && list_all is_password_byte text) refl p.1),
      grind (arith, nat_tests),
    )

-- points are printed and short
pub points_text : (n : ℕ) → n ≤ 65535 → All IsPrinted (decimal n) × (length (decimal n) ≤ 5)
points_text n le =
    let numeral = decimal_is_IsNumeral n (omega arith) in (
      All-from_get_or IsPrinted (decimal n) 0
          (λ i lt. let d = digit_at (decimal n) i numeral.0.1 lt in (omega (arith, d), omega (arith, d))),
      length-decimal-le 5 n (omega arith) (omega arith) (omega arith),
    )

-- a word, a name and a text are printed if each is
two : (front n t : List ℕ) → All IsPrinted front → All IsPrinted n → All IsPrinted t
    → All IsPrinted (front ++ (n ++ 32 ∷ t))
two front n t a b c =
    All-append IsPrinted front (n ++ 32 ∷ t) a
    (All-append IsPrinted n (32 ∷ t) b (All-cons IsPrinted 32 t (omega arith, omega arith) c))

-- their length
two_short : (front n t : List ℕ) → length (front ++ (n ++ 32 ∷ t)) ≡ length front + (length n + (1 + length t))
two_short front n t = omega (arith, length-append front (n ++ 32 ∷ t), length-append n (32 ∷ t))

-- a word and a text are printed if each is
one : (front t : List ℕ) → All IsPrinted front → All IsPrinted t → All IsPrinted (front ++ t)
one front t a b = All-append IsPrinted front t a b

-- the commands of decisions
pub decisions_are_sent : Lines → CommandsArePrinted → CommandsAreShort → DecisionsAreSent
unfolding command_of
decisions_are_sent laws printed short direction roll is =
    sent laws (codes "roll") (printed direction roll is).0 (omega arith) refl refl
decisions_are_sent laws printed short direction double is =
    sent laws (codes "double") (printed direction double is).0 (omega arith) refl refl
decisions_are_sent laws printed short direction accept is =
    sent laws (codes "accept") (printed direction accept is).0 (omega arith) refl refl
decisions_are_sent laws printed short direction reject is =
    sent laws (codes "reject") (printed direction reject is).0 (omega arith) refl refl
decisions_are_sent laws printed short direction (move steps) is =
    let few = short direction (move steps) is in
    sent laws (codes "move" ++ steps_text direction steps) (printed direction (move steps) is).0 (omega (arith, few))
    refl refl
decisions_are_sent laws printed short direction (resign stake) is =
    let few = short direction (resign stake) is in
    sent laws (codes "resign " ++ stake_text stake) (printed direction (resign stake) is).0 (omega (arith, few))
    refl refl

-- logins
pub logins_are_sent : Lines → LoginsAreSent
unfolding login_text
logins_are_sent laws name password h =
    let user = name_text name h.is_user in
    let secret = secret_text password h.is_secret in
    sent laws (codes "login fibs_client 1008 " ++ (name ++ 32 ∷ password))
    (two (codes "login fibs_client 1008 ") name password
    (All-from_recursion IsPrinted (codes "login fibs_client 1008 ") (search rules)) user.0 secret.0)
    (omega (arith, user.1, secret.1, two_short (codes "login fibs_client 1008 ") name password)) refl refl

-- the commands that set up a connection
pub first_are_sent : Lines → FirstAreSent
unfolding style_text autoboard_text moreboards_text board_text
first_are_sent laws = (
  sent laws (codes "set boardstyle 3") (All-from_recursion IsPrinted (codes "set boardstyle 3") (search rules))
      (omega arith) refl refl,
  sent laws (codes "toggle autoboard") (All-from_recursion IsPrinted (codes "toggle autoboard") (search rules))
      (omega arith) refl refl,
  sent laws (codes "toggle moreboards") (All-from_recursion IsPrinted (codes "toggle moreboards") (search rules))
      (omega arith) refl refl,
  sent laws (codes "board") (All-from_recursion IsPrinted (codes "board") (search rules)) (omega arith) refl refl,
)

-- a word alone, with a text, with a name, and with both

-- a word alone
word_sent : Lines → (word : List ℕ) → All IsPrinted word → length word ≤ 20
    → starts_with nat_eq word login_prompt ≡ false → starts_with nat_eq word command_prompt ≡ false → IsSent word
word_sent laws word printed short a b = sent laws word printed (omega arith) a b

-- a word and a text
text_sent : Lines → (word text : List ℕ) → All IsPrinted word → length word ≤ 20 → IsText text
    → starts_with nat_eq (word ++ text) login_prompt ≡ false → starts_with nat_eq (word ++ text) command_prompt ≡ false
    → IsSent (word ++ text)
text_sent laws word text printed short is a b =
    let few : length text ≤ 400 = is.0 in
    sent laws (word ++ text) (one word text printed (said_text text is)) (omega (arith, length-append word text)) a b

-- a word and a name
name_sent : Lines → (word name : List ℕ) → All IsPrinted word → length word ≤ 20 → is_name name ≡ true
    → starts_with nat_eq (word ++ name) login_prompt ≡ false → starts_with nat_eq (word ++ name) command_prompt ≡ false
    → IsSent (word ++ name)
name_sent laws word name printed short is a b =
    let n = name_text name is in
    sent laws (word ++ name) (one word name printed n.0) (omega (arith, n.1, length-append word name)) a b

-- a word, a name and a text
both_sent : Lines → (word name text : List ℕ) → All IsPrinted word → length word ≤ 20 → is_name name ≡ true
    → All IsPrinted text → length text ≤ 400
    → starts_with nat_eq (word ++ (name ++ 32 ∷ text)) login_prompt ≡ false
    → starts_with nat_eq (word ++ (name ++ 32 ∷ text)) command_prompt ≡ false
    → IsSent (word ++ (name ++ 32 ∷ text))
both_sent laws word name text printed short is t few a b =
    let n = name_text name is in
    sent laws (word ++ (name ++ 32 ∷ text)) (two word name text printed n.0 t)
    (omega (arith, n.1, two_short word name text)) a b

-- plain commands
pub plain_is_sent : Lines → PlainIsSent
unfolding plain_of plain_fault_of
plain_is_sent laws board_again h =
    word_sent laws (codes "board") (All-from_recursion IsPrinted (codes "board") (search rules)) (omega arith) refl refl
plain_is_sent laws who h =
    word_sent laws (codes "who") (All-from_recursion IsPrinted (codes "who") (search rules)) (omega arith) refl refl
plain_is_sent laws (say text) h =
    text_sent laws (codes "say ") text (All-from_recursion IsPrinted (codes "say ") (search rules)) (omega arith)
    (text_in_it (say text) text refl h) refl refl
plain_is_sent laws (tell name text) h =
    let parts = both_in_it (tell name text) name text refl h in
    both_sent laws (codes "tell ") name text (All-from_recursion IsPrinted (codes "tell ") (search rules)) (omega arith)
    parts.0 (said_text text parts.1) parts.1.0 refl refl
plain_is_sent laws (shout text) h =
    text_sent laws (codes "shout ") text (All-from_recursion IsPrinted (codes "shout ") (search rules)) (omega arith)
    (text_in_it (shout text) text refl h) refl refl
plain_is_sent laws (whisper text) h =
    text_sent laws (codes "whisper ") text (All-from_recursion IsPrinted (codes "whisper ") (search rules))
    (omega arith) (text_in_it (whisper text) text refl h) refl refl
plain_is_sent laws (kibitz text) h =
    text_sent laws (codes "kibitz ") text (All-from_recursion IsPrinted (codes "kibitz ") (search rules)) (omega arith)
    (text_in_it (kibitz text) text refl h) refl refl
plain_is_sent laws (leave_message name text) h =
    let parts = both_in_it (leave_message name text) name text refl h in
    both_sent laws (codes "message ") name text (All-from_recursion IsPrinted (codes "message ") (search rules))
    (omega arith) parts.0 (said_text text parts.1) parts.1.0 refl refl
plain_is_sent laws (invite name) h =
    name_sent laws (codes "invite ") name (All-from_recursion IsPrinted (codes "invite ") (search rules)) (omega arith)
    (name_in_it (invite name) name refl h) refl refl
plain_is_sent laws (invite_to name points) h =
    let parts = points_in_it (invite_to name points) name points refl h in
    let p = points_text points parts.1 in
    both_sent laws (codes "invite ") name (decimal points)
    (All-from_recursion IsPrinted (codes "invite ") (search rules)) (omega arith) parts.0 p.0 (omega (arith, p.1))
    refl refl
plain_is_sent laws join h =
    word_sent laws (codes "join") (All-from_recursion IsPrinted (codes "join") (search rules)) (omega arith) refl refl
plain_is_sent laws (join_with name) h =
    name_sent laws (codes "join ") name (All-from_recursion IsPrinted (codes "join ") (search rules)) (omega arith)
    (name_in_it (join_with name) name refl h) refl refl
plain_is_sent laws toggle_ready h =
    word_sent laws (codes "toggle ready") (All-from_recursion IsPrinted (codes "toggle ready") (search rules))
    (omega arith) refl refl
plain_is_sent laws automove_off h =
    word_sent laws (codes "toggle automove") (All-from_recursion IsPrinted (codes "toggle automove") (search rules))
    (omega arith) refl refl
plain_is_sent laws greedy_off h =
    word_sent laws (codes "toggle greedy") (All-from_recursion IsPrinted (codes "toggle greedy") (search rules))
    (omega arith) refl refl
plain_is_sent laws bye h =
    word_sent laws (codes "bye") (All-from_recursion IsPrinted (codes "bye") (search rules)) (omega arith) refl refl
