-- What is done for a line that the user types.
use Rattle.std.specs.Prelude.{ℕ, List, [], ◌∷◌, Option, Some, None, option_map}
use Rattle.fibs_game.specs.declared.refusal.Refusal.{Refusal}
use Rattle.fibs_session.specs.History.Machine.{Talk, Outcome, Click, PlainInput, step, stays, answer_now, plain_refusal, Order, Withdraw, order_refusal, withdraw_refusal}
use Rattle.fibs_connect.specs.Told.{SaidValue, ordered_said, withdrawn_said, refused_said, not_sent_said, unknown_said}
use Rattle.fibs_session.specs.Typing.{TypedValue, typed_decision, typed_plain, typed_order, typed_withdrawal, typed_none, typed_now}
use Rattle.fibs_connect.specs.Turns.Acts.{Act, only_tell, answer_act}

-- a standing order is taken, or the reason why not is reported
abbrev pub order_told : SaidValue → Option Refusal → SaidValue
order_told said None = said
order_told said (Some why) = refused_said why

-- what the client does with it
abbrev pub typed_step : Talk → TypedValue → Outcome
typed_step t (typed_decision d) = step t (Click d)
typed_step t (typed_plain p) = step t (PlainInput p)
typed_step t typed_order = step t Order
typed_step t typed_withdrawal = step t Withdraw
typed_step t typed_none = stays t

-- what it calls for: the command is written and then reported as sent, or the reason why not is reported. A standing
-- order sends nothing by itself
abbrev pub typed_act : Talk → TypedValue → Act
typed_act t (typed_decision d) = answer_act (option_map refused_said (answer_now t d)) (step t (Click d)).send
typed_act t (typed_plain p) = answer_act (option_map not_sent_said (plain_refusal t p)) (step t (PlainInput p)).send
typed_act t typed_order = only_tell (order_told ordered_said (order_refusal t.log))
typed_act t typed_withdrawal = only_tell (order_told withdrawn_said (withdraw_refusal t.log))
typed_act t typed_none = only_tell unknown_said

-- the same for a line that may have been typed

abbrev pub talk_after : Talk → Option (List ℕ) → Talk
talk_after t None = t
talk_after t (Some text) = (typed_step t (typed_now t text)).talk

abbrev pub typed_acts : Talk → Option (List ℕ) → List Act
typed_acts t None = []
typed_acts t (Some text) = typed_act t (typed_now t text) ∷ []
