-- A line is read as an event exactly if it says so.
use Rattle.std.proofs.Common.{◌≡◌, ℕ, ◌≤◌, Bool, true, false, cond, List, [], ◌∷◌, ◌++◌, codes, decimal, Option, Some, None, option_map, refl, ap, sym, ◌∙◌, subst, arith}
use Rattle.std.specs.Str.{bytes_eq}
use Rattle.std.proofs.lemmas.Slice.Eq.{bytes_eq-Decides}
use Rattle.fibs_fields.specs.Decimal.{decimal_up_to}
use Rattle.fibs_fields.specs.Split.{before, after}
use Rattle.fibs_position.specs.declared.direction.Direction.TheVariants.{Down}
use Rattle.fibs_commands.specs.CommandReading.{read_command}
use Rattle.fibs_commands.specs.CommandLaws.{ReadCommandIsExact, ReadPlainIsExact}
use Rattle.fibs_commands.specs.PlainReading.{TextField, no_text, rest_of_line, read_plain}
use Rattle.fibs_model.specs.Events.{Event, Open, Click, Plain, Deliver, Lose, Serve, Own, Repeat, Text, Order, Withdraw}
use Rattle.fibs_replay.specs.EventLines.{SaysEvent, says_open, says_click, says_plain, says_deliver, says_lose, says_serve, says_own, says_repeat, says_text, says_order, says_withdraw, count_limit, die_limit}
use Rattle.fibs_replay.specs.EventReading.{◌>>=◌, alone_in, board_in, serving_in, joined_in, event_of_word, of_roll, event_in, EventsAreExact}
use Rattle.fibs_commands.proofs.SplitLemmas.{from, before_and_from, split_there}
use Rattle.fibs_replay.proofs.ScriptLemmas.EventTexts.{DecimalsAreExact, BoardsAreExact, number_apart}

-- what the readings of the parts say
pub record PartsAreExact : Type 0 where
  pub commands : ReadCommandIsExact
  pub plain : ReadPlainIsExact
  pub decimals : DecimalsAreExact
  pub boards : BoardsAreExact

-- what the function reads is what the relation says

-- one test of a chain
tested : {X : Type 0} (t : Bool) (here there : Option X) (e : X) (P : Type 0) → cond t here there ≡ Some e
    → (t ≡ true → here ≡ Some e → P) → (there ≡ Some e → P) → P
tested true here there e P h f g = f refl h
tested false here there e P h f g = g h

-- a part that was read
mapped : {A B : Type 0} (f : A → B) (o : Option A) (e : B) → option_map f o ≡ Some e → (a : A) × (o ≡ Some a)
    × (f a ≡ e)
mapped f None e h = absurd cc
mapped f (Some a) e h = (a, refl, cc)

-- a word that passes the test of another is that one
at_word : (word other : List ℕ) (rest : List ℕ) (e : Event) → bytes_eq word other ≡ true → SaysEvent (other ++ rest) e
    → SaysEvent (word ++ rest) e
at_word word other rest e t h = subst (λ w. SaysEvent (w ++ rest) e) (sym ((bytes_eq-Decides word other).0 t)) h

-- the event that a line says is another one
as_event : (line : List ℕ) (made e : Event) → Some made ≡ Some e → SaysEvent line made → SaysEvent line e
as_event line made e same h = let is : made ≡ e = cc in subst (SaysEvent line) is h

-- a word alone
alone_says : (word : List ℕ) (e : Event) → alone_in word ≡ Some e → SaysEvent (word ++ []) e
unfolding alone_in
alone_says word e h =
    tested (bytes_eq word (codes "open")) _ _ e _ h
    (λ t k. at_word word (codes "open") [] e t (as_event (codes "open") Open e k says_open))
    (λ h. tested (bytes_eq word (codes "repeat")) _ _ e _ h
    (λ t k. at_word word (codes "repeat") [] e t (as_event (codes "repeat") Repeat e k says_repeat))
    (λ h. tested (bytes_eq word (codes "text")) _ _ e _ h
    (λ t k. at_word word (codes "text") [] e t (as_event (codes "text") (Text []) e k (says_text no_text)))
    (λ h. absurd cc)))

-- a step that gave something, and what came then
bound : {A B : Type 0} (o : Option A) (f : A → Option B) (y : B) → (o >>= f) ≡ Some y
    → (x : A) × (o ≡ Some x) × (f x ≡ Some y)
bound None f y h = absurd cc
bound (Some x) f y h = (x, refl, h)

-- a text that is split at a space
spaced : (s front : List ℕ) (rest : List ℕ) → before 32 s ≡ front → after 32 s ≡ Some rest → s ≡ front ++ 32 ∷ rest
spaced s front rest first then_rest =
    before_and_from 32 s ∙ ap (λ x. x ++ from 32 (after 32 s)) first ∙ ap (λ o. front ++ from 32 o) then_rest

-- a connection and two dice
serving_says : DecimalsAreExact → (rest : List ℕ) (e : Event) → serving_in rest ≡ Some e
    → SaysEvent (codes "serve " ++ rest) e
unfolding serving_in
serving_says decimals rest e h =
    let conn = bound (decimal_up_to count_limit (before 32 rest)) _ e h in
    let dice = bound (after 32 rest) _ e conn.2 in
    let one = bound (decimal_up_to die_limit (before 32 dice.0)) _ e dice.2 in
    let last = bound (after 32 dice.0) _ e one.2 in
    let other = bound (decimal_up_to die_limit last.0) _ e last.2 in
    let is_conn = (decimals count_limit conn.0 (before 32 rest) (omega arith)).0 conn.1 in
    let is_one = (decimals die_limit one.0 (before 32 dice.0) (omega arith)).0 one.1 in
    let is_other = (decimals die_limit other.0 last.0 (omega arith)).0 other.1 in
    let both : dice.0 ≡ decimal one.0 ++ 32 ∷ decimal other.0 =
    spaced dice.0 (decimal one.0) last.0 is_one.0 last.1 ∙ ap (λ x. decimal one.0 ++ 32 ∷ x) is_other.0 in
    let whole : rest ≡ decimal conn.0 ++ 32 ∷ (decimal one.0 ++ 32 ∷ decimal other.0) =
    spaced rest (decimal conn.0) dice.0 is_conn.0 dice.1 ∙ ap (λ x. decimal conn.0 ++ 32 ∷ x) both in
    subst (λ x. SaysEvent (codes "serve " ++ x) e) (sym whole)
    (as_event (codes "serve " ++ (decimal conn.0 ++ 32 ∷ (decimal one.0 ++ 32 ∷ decimal other.0)))
    (Serve conn.0 one.0 other.0) e other.2 (says_serve is_conn.1 is_one.1 is_other.1))

-- a standing order
roll_says : (front rest : List ℕ) (made e : Event) → of_roll made rest ≡ Some e → SaysEvent (front ++ codes "roll") made
    → SaysEvent (front ++ rest) e
unfolding of_roll
roll_says front rest made e h says =
    tested (bytes_eq rest (codes "roll")) _ _ e _ h
    (λ t k. subst (λ x. SaysEvent (front ++ x) e) (sym ((bytes_eq-Decides rest (codes "roll")).0 t))
    (as_event (front ++ codes "roll") made e k says))
    (λ h. absurd cc)

-- a word that is joined to something
joined_says : PartsAreExact → (word rest : List ℕ) (e : Event) → joined_in word rest ≡ Some e
    → SaysEvent (word ++ 32 ∷ rest) e
unfolding joined_in
joined_says parts word rest e h =
    tested (bytes_eq word (codes "click")) _ _ e _ h
    (λ t k. at_word word (codes "click") (32 ∷ rest) e t (clicked k))
    (λ h. tested (bytes_eq word (codes "plain")) _ _ e _ h
    (λ t k. at_word word (codes "plain") (32 ∷ rest) e t (told k))
    (λ h. tested (bytes_eq word (codes "order")) _ _ e _ h
    (λ t k. at_word word (codes "order") (32 ∷ rest) e t (roll_says (codes "order ") rest Order e k says_order))
    (λ h. tested (bytes_eq word (codes "withdraw")) _ _ e _ h
    (λ t k. at_word word (codes "withdraw") (32 ∷ rest) e t
    (roll_says (codes "withdraw ") rest Withdraw e k says_withdraw))
    (λ h. tested (bytes_eq word (codes "deliver")) _ _ e _ h
    (λ t k. at_word word (codes "deliver") (32 ∷ rest) e t (delivered k))
    (λ h. tested (bytes_eq word (codes "lose")) _ _ e _ h
    (λ t k. at_word word (codes "lose") (32 ∷ rest) e t (lost k))
    (λ h. tested (bytes_eq word (codes "serve")) _ _ e _ h
    (λ t k. at_word word (codes "serve") (32 ∷ rest) e t (serving_says parts.decimals rest e k))
    (λ h. tested (bytes_eq word (codes "own")) _ _ e _ h
    (λ t k. at_word word (codes "own") (32 ∷ rest) e t (owned k))
    (λ h. tested (bytes_eq word (codes "text")) _ _ e _ h
    (λ t k. at_word word (codes "text") (32 ∷ rest) e t
    (as_event (codes "text " ++ rest) (Text rest) e k (says_text rest_of_line)))
    (λ h. absurd cc)))))))))
  where
    clicked : option_map (λ d. Click d) (read_command Down rest) ≡ Some e → SaysEvent (codes "click " ++ rest) e
    clicked k =
        let m = mapped (λ d. Click d) (read_command Down rest) e k in
        subst (SaysEvent (codes "click " ++ rest)) m.2 (says_click ((parts.commands Down rest m.0).0 m.1))

    told : option_map (λ p. Plain p) (read_plain rest) ≡ Some e → SaysEvent (codes "plain " ++ rest) e
    told k =
        let m = mapped (λ p. Plain p) (read_plain rest) e k in
        subst (SaysEvent (codes "plain " ++ rest)) m.2 (says_plain ((parts.plain rest m.0).0 m.1))

    delivered : option_map (λ n. Deliver n) (decimal_up_to count_limit rest) ≡ Some e
        → SaysEvent (codes "deliver " ++ rest) e
    delivered k =
        let m = mapped (λ n. Deliver n) (decimal_up_to count_limit rest) e k in
        let is = (parts.decimals count_limit m.0 rest (omega arith)).0 m.1 in
        subst (λ x. SaysEvent (codes "deliver " ++ x) e) (sym is.0)
        (subst (SaysEvent (codes "deliver " ++ decimal m.0)) m.2 (says_deliver is.1))

    lost : option_map (λ k. Lose k) (decimal_up_to count_limit rest) ≡ Some e → SaysEvent (codes "lose " ++ rest) e
    lost k =
        let m = mapped (λ k. Lose k) (decimal_up_to count_limit rest) e k in
        let is = (parts.decimals count_limit m.0 rest (omega arith)).0 m.1 in
        subst (λ x. SaysEvent (codes "lose " ++ x) e) (sym is.0)
        (subst (SaysEvent (codes "lose " ++ decimal m.0)) m.2 (says_lose is.1))

    owned : option_map (λ b. Own b) (board_in rest) ≡ Some e → SaysEvent (codes "own " ++ rest) e
    owned k =
        let m = mapped (λ b. Own b) (board_in rest) e k in
        subst (SaysEvent (codes "own " ++ rest)) m.2 (says_own ((parts.boards rest m.0).0 m.1))

-- a line
line_says : PartsAreExact → (line : List ℕ) (e : Event) → event_in line ≡ Some e → SaysEvent line e
unfolding event_in
line_says parts line e h =
    subst (λ l. SaysEvent l e) (sym (before_and_from 32 line)) (go (before 32 line) (after 32 line) h)
  where
    go : (word : List ℕ) (o : Option (List ℕ)) → event_of_word word o ≡ Some e → SaysEvent (word ++ from 32 o) e
    go word None k = alone_says word e k
    go word (Some rest) k = joined_says parts word rest e k

-- what the relation says, the function reads

-- a step that gives something
then_gives : {A B : Type 0} (o : Option A) (x : A) (f : A → Option B) (y : Option B) → o ≡ Some x → f x ≡ y
    → (o >>= f) ≡ y
then_gives o x f y is more = ap (λ o. o >>= f) is ∙ more

-- `serve` with its three numbers is read as that event
serve_found : DecimalsAreExact → (c d1 d2 : ℕ) → c ≤ count_limit → d1 ≤ die_limit → d2 ≤ die_limit
    → serving_in (decimal c ++ 32 ∷ (decimal d1 ++ 32 ∷ decimal d2)) ≡ Some (Serve c d1 d2)
unfolding serving_in
serve_found decimals c d1 d2 hc h1 h2 =
    let dice : List ℕ = decimal d1 ++ 32 ∷ decimal d2 in
    let rest : List ℕ = decimal c ++ 32 ∷ dice in
    let outer = split_there 32 (decimal c) (Some dice) (number_apart c (omega arith)) in
    let inner = split_there 32 (decimal d1) (Some (decimal d2)) (number_apart d1 (omega arith)) in
    let is_c : decimal_up_to count_limit (before 32 rest) ≡ Some c =
    ap (decimal_up_to count_limit) outer.0 ∙ (decimals count_limit c (decimal c) (omega arith)).1 (refl, hc) in
    let is_1 : decimal_up_to die_limit (before 32 dice) ≡ Some d1 =
    ap (decimal_up_to die_limit) inner.0 ∙ (decimals die_limit d1 (decimal d1) (omega arith)).1 (refl, h1) in
    let is_2 : decimal_up_to die_limit (decimal d2) ≡ Some d2 =
    (decimals die_limit d2 (decimal d2) (omega arith)).1 (refl, h2) in
    then_gives (decimal_up_to count_limit (before 32 rest)) c _ _ is_c
    (then_gives (after 32 rest) dice _ _ outer.1
    (then_gives (decimal_up_to die_limit (before 32 dice)) d1 _ _ is_1
    (then_gives (after 32 dice) (decimal d2) _ _ inner.1
    (then_gives (decimal_up_to die_limit (decimal d2)) d2 _ _ is_2 refl))))

-- `text` with whatever follows is read as that event
text_found : (text rest : List ℕ) → TextField text rest → event_in (codes "text" ++ rest) ≡ Some (Text text)
unfolding event_in joined_in alone_in
text_found text rest no_text = refl
text_found text rest rest_of_line = refl

-- a line that says an event is read as it
line_found : PartsAreExact → (line : List ℕ) (e : Event) → SaysEvent line e → event_in line ≡ Some e
unfolding event_in joined_in alone_in of_roll
line_found parts line e says_open = refl
line_found parts line e (says_click {text} {d} h) = ap (option_map (λ d. Click d)) ((parts.commands Down text d).1 h)
line_found parts line e (says_plain {text} {p} h) = ap (option_map (λ p. Plain p)) ((parts.plain text p).1 h)
line_found parts line e (says_deliver {n} h) =
    ap (option_map (λ n. Deliver n)) ((parts.decimals count_limit n (decimal n) (omega arith)).1 (refl, h))
line_found parts line e (says_lose {k} h) =
    ap (option_map (λ k. Lose k)) ((parts.decimals count_limit k (decimal k) (omega arith)).1 (refl, h))
line_found parts line e (says_serve {c} {d1} {d2} hc h1 h2) = serve_found parts.decimals c d1 d2 hc h1 h2
line_found parts line e (says_own {line = l} {b} h) = ap (option_map (λ b. Own b)) ((parts.boards l b).1 h)
line_found parts line e says_repeat = refl
line_found parts line e says_order = refl
line_found parts line e says_withdraw = refl
line_found parts line e (says_text {text} {rest} field) = text_found text rest field

-- the function and the relation say the same
pub events_are_exact : PartsAreExact → EventsAreExact
events_are_exact parts line e = (line_says parts line e, line_found parts line e)
