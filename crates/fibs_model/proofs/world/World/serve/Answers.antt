use Rattle.std.proofs.Common.{slice_index, refl, arith}
use Rattle.std.proofs.lemmas.List.{length-map}
use Rattle.fibs_model.specs.Events.{Serve}
use Rattle.fibs_model.specs.LinksOf.{link_of}
use Rattle.fibs_model.specs.WorldOf.{world_of}
use Rattle.fibs_model.proofs.Likeness.Events.{kept_on, goes_seen, may_seen}
use Rattle.fibs_model.proofs.Likeness.Crossing.{serve_whole}
use Rattle.fibs_model.proofs.Likeness.Serving.{served_stands, serve_known, takes_after, note_after}
use Rattle.fibs_model.proofs.world.World.serve.Goals as goal

pub take_next-served-requires-clause-known : goal.take_next-served-requires-clause-known
take_next-served-requires-clause-known g c =
    let d1 = slice_index c.args.dice 0 in
    let d2 = slice_index c.args.dice 1 in
    let before = c.self.inside.links.ok.0 in
    let known = serve_known (world_of c.self.inside) _ _ c.args.conn d1 d2 c.self.invariant.stands
    (may_seen _ _ (Serve c.args.conn d1 d2) c.self.view_is c.requires.may) in
    omega (arith, c.make_room.ensures.len, before, length-map c.self.inside.links.items link_of, known)

pub take_next-served-requires-clause-whole : goal.take_next-served-requires-clause-whole
take_next-served-requires-clause-whole g c =
    let d1 = slice_index c.args.dice 0 in
    let d2 = slice_index c.args.dice 1 in
    serve_whole (world_of c.self.inside) _ _ c.args.conn d1 d2 _ c.self.invariant.stands
    (may_seen _ _ (Serve c.args.conn d1 d2) c.self.view_is c.requires.may) c.make_room.ensures.same

pub answer_line-requires-clause-room : goal.answer_line-requires-clause-room
answer_line-requires-clause-room g c =
    λ some. c.take_next-served.ensures.room c.self.inside.current 331 some (c.in_ok-make_room.ensures.to_client some)

pub invariant_of-self-2 : goal.invariant_of-self-2
invariant_of-self-2 g c =
    let d1 = slice_index c.args.dice 0 in
    let d2 = slice_index c.args.dice 1 in
    let e = Serve c.args.conn d1 d2 in
    let all = c.answer_line.new.links.ok.0 in
    kept_on c.self.inside _ e c.self.invariant
    (served_stands c.servers_entries_are_silent.ensures (world_of c.self.inside) _ c.args.conn d1 d2 _ _
    (takes_after _ _ _ _ _ c.args.conn d1 d2 _ c.make_room.ensures.same c.take_next-served.ensures.takes)
    c.answer_line.ensures.value
    (note_after _ _ _ _ _ _ c.args.conn _ c.reserve.ensures.items c.board-board.ensures.value c.note.ensures.items
    (c.entry.ensures _)) refl refl
    (may_seen _ _ e c.self.view_is c.requires.may))
    (omega (
      arith,
      all,
      c.answer_line.ensures.len,
      c.take_next-served.ensures.len,
      c.make_room.ensures.len,
      c.self.invariant.known,
    ))

pub returns-clause-ok : goal.returns-clause-ok
returns-clause-ok g c =
    let d1 = slice_index c.args.dice 0 in
    let d2 = slice_index c.args.dice 1 in
    let e = Serve c.args.conn d1 d2 in
    goes_seen _ _ _ e c.self.view_is
    (served_stands c.servers_entries_are_silent.ensures (world_of c.self.inside) _ c.args.conn d1 d2 _ _
    (takes_after _ _ _ _ _ c.args.conn d1 d2 _ c.make_room.ensures.same c.take_next-served.ensures.takes)
    c.answer_line.ensures.value
    (note_after _ _ _ _ _ _ c.args.conn _ c.reserve.ensures.items c.board-board.ensures.value c.note.ensures.items
    (c.entry.ensures _)) refl refl
    (may_seen _ _ e c.self.view_is c.requires.may))
