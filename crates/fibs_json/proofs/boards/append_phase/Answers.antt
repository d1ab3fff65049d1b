use Rattle.std.proofs.Common.{[], ◌∷◌, codes}
use Rattle.fibs_engine.proofs.OkLemmas.{on_ok_weaker}
use Rattle.fibs_position.specs.Names.{phase_name}
use Rattle.fibs_position.specs.PositionValue.{position_value}
use Rattle.fibs_json.specs.Boards.{checkers_of, pips_of}
use Rattle.fibs_json.specs.Json.{Member, member, string, whole, wholes}
use Rattle.fibs_json.specs.declared.side.Side.TheVariants.{Player, Opponent}
use Rattle.fibs_json.proofs.ObjectLemmas.{first_member, next_member}
use Rattle.fibs_json.proofs.boards.append_phase.Goals as goal

pub returns : goal.returns
returns c =
    let checkers = (position_value c.args.position.now).standing.checkers in
    let old = c.args.text.now.items in
    let one = c.append_phase_name.new.text.items in
    let two = c.append_checkers.new.text.items in
    let three = c.append_checkers-2.new.text.items in
    let four = c.append_pips.new.text.items in
    let phase : Member = member (codes "phase") (string (phase_name c.args.phase)) in
    let own : Member = member (codes "checkers") (wholes (checkers_of Player checkers)) in
    let other : Member = member (codes "opponent_checkers") (wholes (checkers_of Opponent checkers)) in
    let pips : Member = member (codes "pips") (whole (pips_of Player checkers)) in
    let other_pips : Member = member (codes "opponent_pips") (whole (pips_of Opponent checkers)) in
    let first = first_member old one phase c.in_ok-append_phase_name.ensures in
    let second = next_member old one two (phase ∷ []) own first c.in_ok-append_checkers.ensures in
    let third = next_member old two three (phase ∷ own ∷ []) other second c.in_ok-append_checkers-2.ensures in
    let fourth = next_member old three four (phase ∷ own ∷ other ∷ []) pips third c.in_ok-append_pips.ensures in
    on_ok_weaker c.append_pips-2.result
    (next_member old four c.append_pips-2.new.text.items (phase ∷ own ∷ other ∷ pips ∷ []) other_pips fourth)
    c.append_pips-2.ensures
