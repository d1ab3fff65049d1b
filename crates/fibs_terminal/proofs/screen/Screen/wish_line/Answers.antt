use Rattle.std.proofs.Common.{◌≡◌, ◌∙◌, ap}
use Rattle.fibs_connect.specs.declared.wish.Wish.TheVariants.{Listen, Quit}
use Rattle.fibs_terminal.specs.Trying.{SendsTried}
use Rattle.fibs_terminal.proofs.LeavingLemmas.{never_quit}
use Rattle.fibs_terminal.proofs.SendingLemmas.{command_on_word, command_untaken, is_command_too, known_goes_on}
use Rattle.fibs_terminal.proofs.TryingLemmas.{never_go, never_goes, never_known}
use Rattle.std.specs.Prelude.{option_map}
use Rattle.fibs_rules.specs.PlayValue.{hops_of}
use Rattle.fibs_terminal.proofs.ShownLemmas.{empty_goes_on, empty_line, known_shows, never_shown_go, never_shown_quit, never_try, other_shows}
use Rattle.fibs_terminal.proofs.screen.Screen.wish_line.Goals as goal

pub returns-then-is_command_by-clause-known : goal.returns-then-is_command_by-clause-known
returns-then-is_command_by-clause-known c =
    known_goes_on _ c.args.self.now.page.settings.numbers c.args.self.now.memory.here.situation.standing
    c.args.line.now.items _ _ c.wish_known.ensures.stays c.wish_known.ensures.known

pub returns-then-is_command_by-clause-word : goal.returns-then-is_command_by-clause-word
returns-then-is_command_by-clause-word c says =
    command_on_word _ c.args.self.now.page.settings.numbers c.args.self.now.memory.here.situation.standing
    c.args.line.now.items _ _
    (λ t stands. is_command_too c.args.self.now.page.settings.numbers t c.as_slice.result.now c.args.line.now.items
    c.as_slice.ensures.value (c.if-is_command_by.ensures t stands)) c.wish_known.ensures.known

pub returns-then-is_command_by-clause-sent : goal.returns-then-is_command_by-clause-sent
returns-then-is_command_by-clause-sent c =
    command_untaken _ c.args.self.now.page.settings.numbers c.args.self.now.memory.here.situation.standing
    c.args.line.now.items _ _
    (λ t stands. is_command_too c.args.self.now.page.settings.numbers t c.as_slice.result.now c.args.line.now.items
    c.as_slice.ensures.value (c.if-is_command_by.ensures t stands)) c.wish_known.ensures.known

pub returns-then-is_command_by-clause-went : goal.returns-then-is_command_by-clause-went
returns-then-is_command_by-clause-went c same =
    never_goes c.wish_known.result
    (λ wish t. SendsTried t c.args.self.now.memory.here.looking.trial wish c.wish_known.new.line.items)
    c.args.client.now
    (λ t stands. never_go c.args.self.now.page.settings.numbers t c.as_slice.result.now
    (c.as_slice.ensures.value ∙ same) (c.if-is_command_by.ensures t stands))

pub returns-then-is_command_by-clause-shown : goal.returns-then-is_command_by-clause-shown
returns-then-is_command_by-clause-shown c is_try = absurd (never_known c.args.self.now.page.settings.numbers is_try.talk
    c.args.line.now.items c.as_slice.result.now c.as_slice.ensures.value
    (c.if-is_command_by.ensures is_try.talk is_try.stands) is_try.unknown)

pub returns-then-is_command_by-clause-quit : goal.returns-then-is_command_by-clause-quit
returns-then-is_command_by-clause-quit c same =
    never_goes c.wish_known.result (λ wish t. wish ≡ Quit) c.args.client.now
    (λ t stands. never_quit c.args.self.now.page.settings.numbers t c.as_slice.result.now
    (c.as_slice.ensures.value ∙ same) (c.if-is_command_by.ensures t stands))

pub returns-then-is_command_by-clause-shows : goal.returns-then-is_command_by-clause-shows
returns-then-is_command_by-clause-shows c =
    known_shows c.args.client.now c.args.self.now.page.settings.numbers
    c.args.self.now.memory.here.situation.standing c.as_slice.result.now c.args.line.now.items _ _
    c.as_slice.ensures.value c.if-is_command_by.ensures

pub returns-then-is_empty-clause-shows : goal.returns-then-is_empty-clause-shows
returns-then-is_empty-clause-shows c =
    empty_goes_on c.args.client.now c.args.self.now.page.settings.numbers
    c.args.self.now.memory.here.situation.standing c.args.line.now.items c.args.line.now.items Listen
    (empty_line c.args.line.now.items c.if-is_empty.ensures)

pub returns-in-Some-clause-went : goal.returns-in-Some-clause-went
returns-in-Some-clause-went c same =
    never_goes c.wish_shown.result
    (λ wish t. SendsTried t c.args.self.now.memory.here.looking.trial wish c.wish_shown.new.line.items)
    c.args.client.now
    (λ t stands. never_shown_go c.args.self.now.page.settings.numbers t c.as_slice-2.result.now c.args.line.now.items
    (option_map hops_of c.in_ok-play.field-0) (hops_of c.in-Some.play) c.as_slice-2.ensures.value
    (c.in_ok-play.ensures t stands) (ap (option_map hops_of) c.in-Some.is) same)

pub returns-in-Some-clause-shown : goal.returns-in-Some-clause-shown
returns-in-Some-clause-shown c is_try = absurd (never_try c.args.self.now.page.settings.numbers is_try.talk
    c.as_slice-2.result.now c.args.line.now.items (option_map hops_of c.in_ok-play.field-0) (hops_of c.in-Some.play)
    c.as_slice-2.ensures.value (c.in_ok-play.ensures is_try.talk is_try.stands)
    (ap (option_map hops_of) c.in-Some.is) is_try.word)

pub returns-in-Some-clause-quit : goal.returns-in-Some-clause-quit
returns-in-Some-clause-quit c same =
    never_goes c.wish_shown.result (λ wish t. wish ≡ Quit) c.args.client.now
    (λ t stands. never_shown_quit c.args.self.now.page.settings.numbers t c.as_slice-2.result.now
    c.args.line.now.items (option_map hops_of c.in_ok-play.field-0) (hops_of c.in-Some.play)
    c.as_slice-2.ensures.value (c.in_ok-play.ensures t stands) (ap (option_map hops_of) c.in-Some.is) same)

pub returns-clause-shows : goal.returns-clause-shows
returns-clause-shows c =
    other_shows c.args.client.now c.args.self.now.page.settings.numbers
    c.args.self.now.memory.here.situation.standing c.as_slice-2.result.now c.args.line.now.items _
    (option_map hops_of c.in_ok-play.field-0) _ c.as_slice-2.ensures.value c.in_ok-play.ensures
    (ap (option_map hops_of) c.in_default.is)

pub returns-then-is_command_by-clause-typed : goal.returns-then-is_command_by-clause-typed
returns-then-is_command_by-clause-typed c is_try = absurd (never_known c.args.self.now.page.settings.numbers is_try.talk
    c.args.line.now.items c.as_slice.result.now c.as_slice.ensures.value
    (c.if-is_command_by.ensures is_try.talk is_try.stands) is_try.unknown)

pub returns-in-Some-clause-typed : goal.returns-in-Some-clause-typed
returns-in-Some-clause-typed c is_try = absurd (never_try c.args.self.now.page.settings.numbers is_try.talk
    c.as_slice-2.result.now c.args.line.now.items (option_map hops_of c.in_ok-play.field-0) (hops_of c.in-Some.play)
    c.as_slice-2.ensures.value (c.in_ok-play.ensures is_try.talk is_try.stands)
    (ap (option_map hops_of) c.in-Some.is) is_try.word)
