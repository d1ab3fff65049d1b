use Rattle.std.proofs.Common.{sym, subst, inl, inr}
use Rattle.fibs_engine.proofs.OkLemmas.{on_ok_weaker}
use Rattle.fibs_model.specs.EntryOf.{entry_of}
use Rattle.fibs_cli.specs.Entries.{EntryMembers}
use Rattle.fibs_cli.proofs.objects.entries.append_rest.Goals as goal

pub returns-in-Shown : goal.returns-in-Shown
returns-in-Shown c =
    on_ok_weaker c.append_board.result
    (λ h. (h.0, subst (λ e. EntryMembers (entry_of e) h.0) (sym c.in-Shown.is) h.1, h.2))
    c.append_board.ensures

pub returns-in-Sent : goal.returns-in-Sent
returns-in-Sent c =
    on_ok_weaker c.append_ask-in-Sent.result
    (λ h. (
      h.0,
      elim c.in-Sent.is [
        | inl sent ↦ subst (λ e. EntryMembers (entry_of e) h.0) (sym sent.1) h.1
        | inr other ↦ elim other [
          | inl took ↦ subst (λ e. EntryMembers (entry_of e) h.0) (sym took.1) h.1
          | inr undone ↦ subst (λ e. EntryMembers (entry_of e) h.0) (sym undone.1) h.1
        ]
      ],
      h.2,
    ))
    c.append_ask-in-Sent.ensures
