-- What holds of each entry of a log, after the entries before it.
use Rattle.std.proofs.Common.{◌≡◌, List, [], ◌∷◌, ◌++◌, Some, sym, subst, append-nil, append_assoc}
use Rattle.fibs_game.specs.Log.{Entry, Shown, Clicked, Sent}
use Rattle.fibs_game.specs.Words.{last, open_now, shown, answer}
use Rattle.fibs_game.specs.Headline.{AllAnswered, AllOnShown}
use Rattle.fibs_game.specs.Game.{Game}
use Rattle.fibs_game.proofs.log.Called.{AllShownHere}

module _ (G : Game) where
  -- a board is shown on the open connection; a click is of it and carries the answer; a decision is sent on the board
  -- shown last
  abbrev pub Fits : List (Entry G) → Entry G → Type 0
  Fits before (Shown c b) = c ≡ open_now before
  Fits before (Clicked c d a) = (c ≡ open_now before) × (a ≡ answer before d)
  Fits before (Sent c b d) = last (shown c before) ≡ Some b
  Fits before e = Unit {0}

  -- the same holds of each later entry, after those before it
  abbrev pub AllFit : List (Entry G) → List (Entry G) → Type 0
  AllFit before [] = Unit {0}
  AllFit before (e ∷ later) = Fits before e × AllFit (before ++ e ∷ []) later

  -- in two parts of a log
  pub fit_append : (before xs ys : List (Entry G)) → AllFit before xs → AllFit (before ++ xs) ys
      → AllFit before (xs ++ ys)
  fit_append before [] ys h k = subst (λ l. AllFit l ys) (append-nil before) k
  fit_append before (e ∷ later) ys h k = (
    h.0,
    fit_append (before ++ e ∷ []) later ys h.1
        (subst (λ l. AllFit l ys) (sym (append_assoc before (e ∷ []) later)) k),
  )

  -- at one place of the log
  fit_at : (log before later : List (Entry G)) (e : Entry G) → AllFit [] log → log ≡ before ++ e ∷ later → Fits before e
  fit_at log before later e h is = go [] before (subst (AllFit []) is h)
    where
      go : (first before : List (Entry G)) → AllFit first (before ++ e ∷ later) → Fits (first ++ before) e
      go first [] h = subst (λ l. Fits l e) (sym (append-nil first)) h.0
      go first (x ∷ before) h =
          subst (λ l. Fits l e) (append_assoc first (x ∷ []) before) (go (first ++ x ∷ []) before h.1)

  -- each click is answered
  pub answered : (log : List (Entry G)) → AllFit [] log → AllAnswered log
  answered log h before later c d a is = fit_at log before later (Clicked c d a) h is

  -- each board is shown on the open connection
  pub shown_here : (log : List (Entry G)) → AllFit [] log → AllShownHere G log
  shown_here log h before later c b is = fit_at log before later (Shown c b) h is

  -- each decision is on the board shown last
  pub on_shown : (log : List (Entry G)) → AllFit [] log → AllOnShown log
  on_shown log h before later c b d is = fit_at log before later (Sent c b d) h is
