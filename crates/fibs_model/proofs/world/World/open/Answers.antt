use Rattle.std.proofs.Common.{◌≡◌, ◌+◌, ◌++◌, ◌∷◌, [], map, length, refl, ap, subst, ◌∙◌, arith}
use Rattle.std.proofs.lemmas.List.{length-map}
use Rattle.fibs_session.specs.Calls.Doing.{Does}
use Rattle.fibs_session.specs.Calls.SessionOf.{handed}
use Rattle.fibs_session.specs.History.Log.{Opened}
use Rattle.fibs_session.specs.History.Machine as M
use Rattle.fibs_session.specs.History.Machine.{on_wire}
use Rattle.fibs_model.specs.EntryOf.{entry_of}
use Rattle.fibs_model.specs.Events.{Open}
use Rattle.fibs_model.specs.LinksOf.{link_of}
use Rattle.fibs_model.specs.WorldOf.{world_of}
use Rattle.fibs_model.proofs.Likeness.Events.{kept_on, goes_seen, may_seen, logged}
use Rattle.fibs_model.proofs.Likeness.Opening.{opened_stands, opened_wires}
use Rattle.fibs_model.proofs.world.World.«open».Goals as goal

pub invariant_of-self-2 : goal.invariant_of-self-2
invariant_of-self-2 g c =
    let all = c.push_reserved.new.self.ok.0 in
    let before = c.self.inside.links.ok.0 in
    let number : c.len-self-inside.result ≡ length (map link_of c.self.inside.links.items) + 1 =
    omega (
      arith,
      c.len-self-inside.ensures,
      c.push_reserved.ensures.len,
      c.reserve-2.ensures.len,
      before,
      length-map
          c.self.inside.links.items link_of,
    ) in
    kept_on c.self.inside _ Open c.self.invariant
    (opened_stands (world_of c.self.inside) _ c.unwrap-login.result.bytes refl
    (opened_wires _ _ _ _ _ c.reserve-2.ensures.items c.push_reserved.ensures.items c.new.ensures.items
    (c.put.ensures.items ∙ ap (λ xs. xs ++ on_wire c.as_bytes.result.now) c.in_ok-to_server.ensures.items
    ∙ ap on_wire (c.as_bytes.ensures.value ∙ c.deref.ensures.0)) refl)
    (logged _ _ _ _ c.reserve.ensures.items c.push_reserved-2.ensures.items
    ∙ ap (λ n. map entry_of c.self.inside.log.items ++ Opened n ∷ []) number)
    number
    (subst (λ r. Does c.self.inside.client c.open.new.self M.Open (handed r)) c.unwrap-login.ensures
    c.open.ensures.does)
    (may_seen _ _ Open c.self.view_is c.requires.may))
    (omega (arith, all, c.len-self-inside.ensures))

pub returns-clause-ok : goal.returns-clause-ok
returns-clause-ok g c =
    let before = c.self.inside.links.ok.0 in
    let number : c.len-self-inside.result ≡ length (map link_of c.self.inside.links.items) + 1 =
    omega (
      arith,
      c.len-self-inside.ensures,
      c.push_reserved.ensures.len,
      c.reserve-2.ensures.len,
      before,
      length-map
          c.self.inside.links.items link_of,
    ) in
    goes_seen _ _ _ Open c.self.view_is
    (opened_stands (world_of c.self.inside) _ c.unwrap-login.result.bytes refl
    (opened_wires _ _ _ _ _ c.reserve-2.ensures.items c.push_reserved.ensures.items c.new.ensures.items
    (c.put.ensures.items ∙ ap (λ xs. xs ++ on_wire c.as_bytes.result.now) c.in_ok-to_server.ensures.items
    ∙ ap on_wire (c.as_bytes.ensures.value ∙ c.deref.ensures.0)) refl)
    (logged _ _ _ _ c.reserve.ensures.items c.push_reserved-2.ensures.items
    ∙ ap (λ n. map entry_of c.self.inside.log.items ++ Opened n ∷ []) number)
    number
    (subst (λ r. Does c.self.inside.client c.open.new.self M.Open (handed r)) c.unwrap-login.ensures
    c.open.ensures.does)
    (may_seen _ _ Open c.self.view_is c.requires.may))
