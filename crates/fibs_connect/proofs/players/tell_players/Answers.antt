use Rattle.std.proofs.Common.{◌∷◌, [], option_map, ap, sym, subst, ◌∙◌}
use Rattle.fibs_messages.specs.Directory.View.{player_value}
use Rattle.fibs_connect.specs.Told.{player_said}
use Rattle.fibs_connect.proofs.ConverseLemmas.PlayerLines.{listed, listed-more}
use Rattle.fibs_connect.proofs.players.tell_players.Goals as goal

pub loop-place-init : goal.loop-place-init
loop-place-init g c = g.met.F.Front.joins.nothing _

pub loop-place-preserved : goal.loop-place-preserved
loop-place-preserved g c =
    let entries = c.args.directory.now in
    let place = c.loop-place.place in
    let told = player_value c.in-Some.player.now in
    let found = sym c.at.ensures ∙ ap (option_map (λ player. player_value player.now)) c.in-Some.is in
    subst (λ l. g.F.Front.tells c.args.front.now l c.tell.new.self) (sym (listed-more place entries told found))
    (g.met.F.Front.joins.joined _ _ _ (listed place entries) (player_said told ∷ []) c.loop-place.invariant
    c.in_ok-tell-in-Some.ensures)
