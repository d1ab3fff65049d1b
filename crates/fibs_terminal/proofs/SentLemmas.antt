-- What is shown of a move that was sent, and what is advised after it.
use Rattle.std.proofs.Common.{◌≡◌, ◌≢◌, ◌++◌, ◌&&◌, ◌∙◌, ℕ, Bool, List, [], true, false, ap, append_assoc, inl, inr, refl, subst, sym}
use Rattle.std.proofs.lemmas.Bool.{false≢true}
use Rattle.fibs_fields.specs.Board.{BoardFields}
use Rattle.fibs_session.specs.History.Machine.{Talk}
use Rattle.fibs_session.specs.Calls.Standing.{ClientValue, StandsAfter}
use Rattle.fibs_wording.specs.declared.environment.settings.Settings.{Settings}
use Rattle.fibs_advice.specs.Advised.{Advises, advice_text}
use Rattle.fibs_advice.specs.Leads.{LeadsTo}
use Rattle.fibs_advice.specs.Rows.{is_asked_for}
use Rattle.fibs_advice.specs.Trials.{tried, tried_on}
use Rattle.fibs_advice.specs.declared.advised.Advice.{Advice}
use Rattle.fibs_advice.specs.declared.situation.Situation.{Situation}
use Rattle.fibs_advice.specs.declared.trial.Trial.{Trial}
use Rattle.fibs_terminal.specs.Drawings.{Draws, is_plain}
use Rattle.fibs_terminal.specs.OwnRows.{own_columns}
use Rattle.fibs_terminal.specs.Rematch.{SaysRematch}
use Rattle.fibs_picture.specs.InWords.Rows.{Says}
use Rattle.fibs_terminal.specs.Resting.{Rests, SaysRow, has_told, row_of}
use Rattle.fibs_terminal.specs.Sent.{AddsSent, ShowsSent, not_confirmed}
use Rattle.fibs_terminal.specs.declared.memory.Memory.{Memory}
use Rattle.fibs_terminal.specs.declared.resting.Advising.{Advising}

-- a picture, and the row below it
pub draws_sent : (s : Settings) (x : Trial) (b : BoardFields) (before mid after : List ℕ)
    → LeadsTo (tried_on x) (tried x) b → s.words ≡ false
    → (t : List ℕ) × Draws s false (is_plain s && false) b t × (mid ≡ before ++ t)
    → after ≡ mid ++ not_confirmed → AddsSent s x before after
draws_sent s x b before mid after leads plain shown row = record {
  drawn = λ is. (
    b,
    leads,
    (
      shown.0,
      shown.1,
      row ∙ ap (λ m. m ++ not_confirmed) shown.2 ∙ append_assoc before shown.0 not_confirmed,
    ),
  );
  told = λ is. absurd (false≢true (sym plain ∙ is));
}

-- in words the row alone
pub says_sent : (s : Settings) (x : Trial) (before after : List ℕ) → s.words ≡ true
    → after ≡ before ++ not_confirmed → AddsSent s x before after
says_sent s x before after worded row = record {
  drawn = λ is. absurd (false≢true (sym is ∙ worded));
  told = λ is. row;
}

-- whether a row of an advice is said, by what was advised before
pub record SaidWhen (old : Advising) (a : Advice) (row : List ℕ) (says : Bool) : Type 0 where
  pub asked : old.inquired ≡ true → says ≡ true
  pub unasked : old.inquired ≡ false → is_asked_for a.row ≡ true → says ≡ false
  pub told : old.inquired ≡ false → has_told old a.row ≡ true → says ≡ false
  pub owed : old.says_again ≡ true → is_asked_for a.row ≡ false → has_told old a.row ≡ false → says ≡ true
  pub another : is_asked_for a.row ≡ false → has_told old a.row ≡ false → old.said_last.items ≢ row → says ≡ true
  pub once : old.inquired ≡ false → old.says_again ≡ false → old.said_last.items ≡ row → says ≡ false

-- the row is that of the advice
pub row_is : (s : Settings) (situation : Situation) (a : Advice) (who inviter held row : List ℕ)
    → who ≡ situation.opponent.name.items → inviter ≡ situation.inviter.name.items → held ≡ []
    → row ≡ held ++ advice_text s.numbers who inviter a → row ≡ row_of s.numbers situation a
row_is s situation a who inviter held row first second none is = is
    ∙ ap (λ h. h ++ advice_text s.numbers who inviter a) none
    ∙ ap (λ w. advice_text s.numbers w inviter a) first
    ∙ ap (λ w. advice_text s.numbers situation.opponent.name.items w a) second

-- it is said
pub row_said : (s : Settings) (situation : Situation) (old : Advising) (says : Bool) (a : Advice)
    (row said before after : List ℕ) → SaidWhen old a row says → says ≡ true → row ≡ row_of s.numbers situation a
    → said ≡ row_of s.numbers situation a → Says (own_columns s) said before after
    → SaysRow s situation old a before after
row_said s situation old says a row said before after due is text same written =
    let fits = subst (λ t. Says (own_columns s) t before after) same written in
    record {
      made = inr fits;
      asked = λ inquired. fits;
      unasked = λ inquired only. absurd (false≢true (sym (due.unasked inquired only) ∙ is));
      told = λ inquired told. absurd (false≢true (sym (due.told inquired told) ∙ is));
      owed = λ again only told. fits;
      another = λ only told other. fits;
      once = λ inquired again last. absurd (false≢true (sym (due.once inquired again (last ∙ sym text)) ∙ is));
    }

-- or it is not
pub row_left : (s : Settings) (situation : Situation) (old : Advising) (says : Bool) (a : Advice) (row before : List ℕ)
    → SaidWhen old a row says → says ≡ false → row ≡ row_of s.numbers situation a
    → SaysRow s situation old a before before
row_left s situation old says a row before due none text = record {
  made = inl refl;
  asked = λ inquired. absurd (false≢true (sym none ∙ due.asked inquired));
  unasked = λ inquired only. refl;
  told = λ inquired told. refl;
  owed = λ again only told. absurd (false≢true (sym none ∙ due.owed again only told));
  another = λ only told other.
      absurd (false≢true (sym none ∙ due.another only told (λ last. other (last ∙ text))));
  once = λ inquired again last. refl;
}

-- what is shown of a move, how another match is played, and then the row of an advice
pub rests : (client : ClientValue) (s : Settings) (m : Memory) (columns : ℕ) (before shown said after : List ℕ)
    (a : Advice) → columns ≡ own_columns s → ShowsSent client s before shown
    → (m.program.above.held ≢ 0 → shown ≡ before)
    → SaysRematch columns m.here.advising.inquired m.here.situation.standing m.here.rematch shown said
    → ((t : Talk) → StandsAfter client t → Advises t m.here.situation.standing a)
    → SaysRow s m.here.situation m.here.advising a said after → Rests client s m before after
rests client s m columns before shown said after a wide sent above again advised row = (
  shown,
  said,
  sent,
  above,
  subst (λ n. SaysRematch n m.here.advising.inquired m.here.situation.standing m.here.rematch shown said) wide again,
  (a, advised, row),
)
