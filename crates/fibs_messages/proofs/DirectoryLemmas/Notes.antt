-- The directory of a list of messages followed by one more.
use Rattle.std.proofs.Common.{◌≡◌, ℕ, ◌<◌, Bool, true, false, cond, ◌&&◌, List, [], ◌∷◌, ◌++◌, length, map, None, Some, is_some, Bor, true≢false, ne_eqb, ◌≢◌, refl, sym, ap, subst, ◌∙◌, arith}
use Rattle.std.specs.List.{AllByRecursion}
use Rattle.fibs_messages.specs.Message.{MessageValue, message_of}
use Rattle.fibs_fields.specs.Bytes.{name_bytes}
use Rattle.fibs_messages.specs.declared.message.Message.{Message}
use Rattle.fibs_messages.specs.declared.message.Message.TheVariants.{Welcome, OwnInfo as TheOwnInfo, MotdBegin, MotdEnd, WhoInfo as TheWhoInfo, WhoInfoEnd, Login, Logout, MessageReceived, MessageDelivered, MessageSaved, Says, Shouts, Whispers, Kibitzes, YouSay, YouShout, YouWhisper, YouKibitz}
use Rattle.fibs_messages.specs.declared.message.WhoInfo.{WhoInfo}
use Rattle.fibs_fields.specs.declared.name.Name.{Name}
use Rattle.fibs_messages.specs.Directory.{name_of, is_of, tells, logs_out, last_told, first_place, entry_of, IsDirectory}
use Rattle.fibs_messages.specs.Directory.Steps.{with_entry, without_entry}
use Rattle.fibs_messages.proofs.DirectoryLemmas.Told.{last_told-logout, last_told-other, last_told-told, first_place-known, first_place-new, first_place-within}
use Rattle.fibs_messages.proofs.DirectoryLemmas.Entries.{own_name, entry-with, entry-without, Rising, pairs_from_rising, rising_from_pairs, rising-same, rising-snoc, rising-without, names-known, names-new, named, all-map}

-- no message came: nobody is there
pub directory_of_none : IsDirectory [] []
directory_of_none = record { each = λ name. refl; order = λ i j d less within. absurd (omega arith) }

module _ (ms es : List MessageValue) (m : MessageValue) (d : IsDirectory ms es) where
  -- the numbers of the entries' names grow
  rises : Rising (λ k. first_place k ms) (map name_of es)
  rises = rising_from_pairs (λ k. first_place k ms) (map name_of es) d.order

  -- each entry's name was listed by the server
  told_each : (P : List ℕ → Type 0)
      → ((k : List ℕ) → is_some (last_told k ms) ≡ true → P k) → AllByRecursion P (map name_of es)
  told_each P h =
      all-map (λ k. is_some (entry_of k es) ≡ true) P
      (λ k i. h k (ap is_some (sym (d.each k)) ∙ i)) (map name_of es) (named es es (λ k i. i))

  -- a message that is neither 5 nor 8 changes nothing
  pub noted_other : ((k : List ℕ) → logs_out k m ≡ false)
      → ((k : List ℕ) → tells k m ≡ false) → IsDirectory (ms ++ m ∷ []) es
  noted_other out told = record {
    each = λ k. d.each k ∙ sym (last_told-other k ms m (out k) (told k));
    order = pairs_from_rising (λ k. first_place k (ms ++ m ∷ [])) (map name_of es)
        (rising-same (λ k. first_place k ms) (λ k. first_place k (ms ++ m ∷ [])) (map name_of es)
        (told_each (λ k. first_place k (ms ++ m ∷ []) ≡ first_place k ms) (λ k i. first_place-known k ms m (out k) i))
        rises);
  }

  -- message 5 sets its name's entry
  pub noted_told : m.number ≡ 5 → IsDirectory (ms ++ m ∷ []) (with_entry es m)
  noted_told five = record {
    each = entries;
    order = pairs_from_rising (λ k. first_place k (ms ++ m ∷ []))
        (map name_of (with_entry es m)) (placed (is_some (entry_of (name_of m) es)) refl);
  }
    where
      out : (k : List ℕ) → logs_out k m ≡ false
      out k = rw five refl

      told : (k : List ℕ) → tells k m ≡ is_of k m
      told k = rw five refl

      entries : (k : List ℕ) → entry_of k (with_entry es m) ≡ last_told k (ms ++ m ∷ [])
      entries k = entry-with k es m ∙ by (is_of k m) refl
        where
          by : (b : Bool) → is_of k m ≡ b → cond b (Some m) (entry_of k es) ≡ last_told k (ms ++ m ∷ [])
          by true h = sym (last_told-told k ms m (out k) (told k ∙ h))
          by false h = d.each k ∙ sym (last_told-other k ms m (out k) (told k ∙ h))

      still : Rising (λ k. first_place k (ms ++ m ∷ [])) (map name_of es)
      still = rising-same (λ k. first_place k ms) (λ k. first_place k (ms ++ m ∷ [])) (map name_of es)
          (told_each (λ k. first_place k (ms ++ m ∷ []) ≡ first_place k ms) (λ k i. first_place-known k ms m (out k) i))
          rises

      placed : (b : Bool) → is_some (entry_of (name_of m) es) ≡ b
          → Rising (λ k. first_place k (ms ++ m ∷ [])) (map name_of (with_entry es m))
      placed true h = subst (Rising (λ k. first_place k (ms ++ m ∷ []))) (sym (names-known es m h)) still
      placed false h =
          let n = name_of m in
          let new : first_place n (ms ++ m ∷ []) ≡ length ms =
          first_place-new n ms m (out n) (ap is_some (sym (d.each n)) ∙ h) (told n ∙ own_name n) in
          let below = told_each (λ k. first_place k (ms ++ m ∷ []) < first_place n (ms ++ m ∷ []))
          (λ k i. omega (arith, new, first_place-known k ms m (out k) i, first_place-within k ms i)) in
          subst (Rising (λ k. first_place k (ms ++ m ∷ []))) (sym (names-new es m h))
          (rising-snoc (λ k. first_place k (ms ++ m ∷ [])) (map name_of es) n below still)

  -- message 8 takes its name's entry out
  pub noted_logout : m.number ≡ 8 → IsDirectory (ms ++ m ∷ []) (without_entry (name_of m) es)
  noted_logout eight = record {
    each = entries;
    order = pairs_from_rising (λ k. first_place k (ms ++ m ∷ [])) (map name_of (without_entry (name_of m) es))
        (rising-same (λ k. first_place k ms) (λ k. first_place k (ms ++ m ∷ [])) (map name_of
        (without_entry (name_of m) es)) same (rising-without (λ k. first_place k ms) (name_of m) es rises));
  }
    where
      out : (k : List ℕ) → logs_out k m ≡ is_of k m
      out k = rw eight refl

      told : (k : List ℕ) → tells k m ≡ false
      told k = rw eight refl

      entries : (k : List ℕ) → entry_of k (without_entry (name_of m) es) ≡ last_told k (ms ++ m ∷ [])
      entries k = entry-without (λ n. first_place n ms) k (name_of m) es rises ∙ by (is_of k m) refl
        where
          by : (b : Bool) → is_of k m ≡ b → cond b None (entry_of k es) ≡ last_told k (ms ++ m ∷ [])
          by true h = sym (last_told-logout k ms m (out k ∙ h))
          by false h = d.each k ∙ sym (last_told-other k ms m (out k ∙ h) (told k))

      same : AllByRecursion (λ k. first_place k (ms ++ m ∷ []) ≡ first_place k ms)
          (map name_of (without_entry (name_of m) es))
      same = all-map (λ k. is_some (entry_of k (without_entry (name_of m) es)) ≡ true)
          (λ k. first_place k (ms ++ m ∷ []) ≡ first_place k ms)
          (λ k i. left k (is_of k m)
          refl (ap is_some (sym (entry-without (λ n. first_place n ms) k (name_of m) es rises)) ∙ i))
          (map name_of (without_entry (name_of m) es))
          (named (without_entry (name_of m) es) (without_entry (name_of m) es) (λ k i. i))
        where
          left : (k : List ℕ) (b : Bool) → is_of k m ≡ b
              → is_some (cond (is_of k m) None (entry_of k es)) ≡ true → first_place k (ms ++ m ∷ []) ≡ first_place k ms
          left k true h i = absurd (true≢false (sym i ∙ ap (λ b. is_some (cond b None (entry_of k es))) h))
          left k false h i =
              first_place-known k ms m (out k ∙ h)
              (ap is_some (sym (d.each k)) ∙ sym (ap (λ b. is_some (cond b None (entry_of k es))) h) ∙ i)

-- a message that is neither of the two has another number
pub other_number : (m : Message)
    → ((info : WhoInfo) → m ≡ TheWhoInfo info → ⊥) → ((name : Name) (text : Bor (List ℕ)) → m ≡ Logout name text → ⊥)
    → ((message_of m).number ≢ 5) × ((message_of m).number ≢ 8)
other_number (Welcome name last_login last_host) h i = (λ e. absurd (omega arith), λ e. absurd (omega arith))
other_number (TheOwnInfo info) h i = (λ e. absurd (omega arith), λ e. absurd (omega arith))
other_number MotdBegin h i = (λ e. absurd (omega arith), λ e. absurd (omega arith))
other_number MotdEnd h i = (λ e. absurd (omega arith), λ e. absurd (omega arith))
other_number (TheWhoInfo info) h i = absurd (h info refl)
other_number WhoInfoEnd h i = (λ e. absurd (omega arith), λ e. absurd (omega arith))
other_number (Login name text) h i = (λ e. absurd (omega arith), λ e. absurd (omega arith))
other_number (Logout name text) h i = absurd (i name text refl)
other_number (MessageReceived sender time text) h i = (λ e. absurd (omega arith), λ e. absurd (omega arith))
other_number (MessageDelivered name) h i = (λ e. absurd (omega arith), λ e. absurd (omega arith))
other_number (MessageSaved name) h i = (λ e. absurd (omega arith), λ e. absurd (omega arith))
other_number (Says name text) h i = (λ e. absurd (omega arith), λ e. absurd (omega arith))
other_number (Shouts name text) h i = (λ e. absurd (omega arith), λ e. absurd (omega arith))
other_number (Whispers name text) h i = (λ e. absurd (omega arith), λ e. absurd (omega arith))
other_number (Kibitzes name text) h i = (λ e. absurd (omega arith), λ e. absurd (omega arith))
other_number (YouSay name text) h i = (λ e. absurd (omega arith), λ e. absurd (omega arith))
other_number (YouShout text) h i = (λ e. absurd (omega arith), λ e. absurd (omega arith))
other_number (YouWhisper text) h i = (λ e. absurd (omega arith), λ e. absurd (omega arith))
other_number (YouKibitz text) h i = (λ e. absurd (omega arith), λ e. absurd (omega arith))

-- such a message changes nothing
pub noted_number : (ms es : List MessageValue) (m : MessageValue)
    → IsDirectory ms es → m.number ≢ 5 → m.number ≢ 8 → IsDirectory (ms ++ m ∷ []) es
noted_number ms es m d no_five no_eight =
    noted_other ms es m d (λ k. ap (λ b. b && is_of k m) (ne_eqb m.number 8 no_eight))
    (λ k. ap (λ b. b && is_of k m) (ne_eqb m.number 5 no_five))

-- message 5 was noted
pub noted_who_info : (message : Message) (info : WhoInfo) (old new : List MessageValue)
    → message ≡ TheWhoInfo info → new ≡ with_entry old (message_of (TheWhoInfo info))
    → (ms : List MessageValue) → IsDirectory ms old → IsDirectory (ms ++ message_of message ∷ []) new
noted_who_info message info old new is e ms d =
    subst (λ m. IsDirectory (ms ++ message_of m ∷ []) new) (sym is)
    (subst (IsDirectory (ms ++ message_of (TheWhoInfo info) ∷ [])) (sym e)
    (noted_told ms old (message_of (TheWhoInfo info)) d refl))

-- message 8 was noted
pub noted_logged_out : (message : Message) (name : Name) (text : Bor (List ℕ))
    (bytes : List ℕ) (old new : List MessageValue) → message ≡ Logout name text → bytes ≡ name_bytes name
    → new ≡ without_entry bytes old
    → (ms : List MessageValue) → IsDirectory ms old → IsDirectory (ms ++ message_of message ∷ []) new
noted_logged_out message name text bytes old new is same e ms d =
    subst (λ m. IsDirectory (ms ++ message_of m ∷ []) new) (sym is)
    (subst (IsDirectory (ms ++ message_of (Logout name text) ∷ [])) (sym (e ∙ ap (λ b. without_entry b old) same))
    (noted_logout ms old (message_of (Logout name text)) d refl))

-- another message was noted
pub noted_rest : (message : Message) (es : List MessageValue) → ((info : WhoInfo) → message ≡ TheWhoInfo info → ⊥)
    → ((name : Name) (text : Bor (List ℕ)) → message ≡ Logout name text → ⊥)
    → (ms : List MessageValue) → IsDirectory ms es → IsDirectory (ms ++ message_of message ∷ []) es
noted_rest message es h i ms d =
    let other = other_number message h i in noted_number ms es (message_of message) d other.0 other.1
