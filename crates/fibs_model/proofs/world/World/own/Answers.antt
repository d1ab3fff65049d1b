use Rattle.std.proofs.Common.{refl, ap, ◌∙◌, arith}
use Rattle.fibs_fields.specs.StoredBoard.{fields_of}
use Rattle.fibs_model.specs.Server.{ServerValue}
use Rattle.fibs_model.specs.Events.{Own}
use Rattle.fibs_model.specs.WorldOf.{world_of}
use Rattle.fibs_model.proofs.Likeness.Events.{kept_on, goes_seen, may_seen}
use Rattle.fibs_model.proofs.Likeness.Sending.{own_stands, own_is_ok, of_ok, sent_after}
use Rattle.fibs_model.proofs.world.World.own.Goals as goal

pub unwrap-requires : goal.unwrap-requires
unwrap-requires c =
    own_is_ok _ (world_of c.self.inside) _ _ (fields_of c.args.board.now) c.self.invariant.stands
    (may_seen _ _ (Own (fields_of c.args.board.now)) c.self.view_is c.requires.may) c.own.ensures.refusal

pub invariant_of-self-2 : goal.invariant_of-self-2
invariant_of-self-2 c =
    let all = c.send_line.new.links.ok.0 in
    let b = fields_of c.args.board.now in
    let may = may_seen _ _ (Own b) c.self.view_is c.requires.may in
    let is = of_ok _ (own_is_ok _ (world_of c.self.inside) _ _ b c.self.invariant.stands may c.own.ensures.refusal)
    c.own.ensures.ok in
    kept_on c.self.inside _ (Own b) c.self.invariant
    (own_stands c.servers_entries_are_silent.ensures (world_of c.self.inside) _ _
    (ap (λ (x : ServerValue). x.logged_in) is)
    (sent_after _ _ _ _ _ _ _ c.make_room.ensures.same (c.logged_in.ensures ∙ ap (λ (x : ServerValue). x.logged_in) is)
    c.send_line.ensures.value) refl refl refl
    b (ap (λ (x : ServerValue). x.board) is) (c.deref.ensures.0 ∙ c.print-line.ensures.text) may)
    (omega (arith, all, c.send_line.ensures.len, c.make_room.ensures.len, c.self.invariant.known))

pub returns-clause-ok : goal.returns-clause-ok
returns-clause-ok c =
    let b = fields_of c.args.board.now in
    let may = may_seen _ _ (Own b) c.self.view_is c.requires.may in
    let is = of_ok _ (own_is_ok _ (world_of c.self.inside) _ _ b c.self.invariant.stands may c.own.ensures.refusal)
    c.own.ensures.ok in
    goes_seen _ _ _ (Own b) c.self.view_is
    (own_stands c.servers_entries_are_silent.ensures (world_of c.self.inside) _ _
    (ap (λ (x : ServerValue). x.logged_in) is)
    (sent_after _ _ _ _ _ _ _ c.make_room.ensures.same (c.logged_in.ensures ∙ ap (λ (x : ServerValue). x.logged_in) is)
    c.send_line.ensures.value) refl refl refl
    b (ap (λ (x : ServerValue). x.board) is) (c.deref.ensures.0 ∙ c.print-line.ensures.text) may)
