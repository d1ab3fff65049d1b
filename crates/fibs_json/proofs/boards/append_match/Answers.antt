use Rattle.std.proofs.Common.{◌≡◌, ◌++◌, ◌∙◌, List, ℕ, [], ◌∷◌, ap, codes}
use Rattle.fibs_fields.specs.Board.{field_of}
use Rattle.fibs_fields.specs.StoredBoard.{fields_of}
use Rattle.fibs_engine.proofs.OkLemmas.{on_ok_weaker}
use Rattle.fibs_json.specs.Boards.{number_field}
use Rattle.fibs_json.specs.Json.{Member, member, more_member, string}
use Rattle.fibs_json.proofs.ObjectLemmas.{first_member, next_member}
use Rattle.fibs_json.proofs.boards.append_match.Goals as goal

-- the member of a name, of which the board says what it is
named : (old now name bytes said : List ℕ) → now ≡ old ++ more_member (member name (string bytes)) → bytes ≡ said
    → now ≡ old ++ more_member (member name (string said))
named old now name bytes said h e = h ∙ ap (λ s. old ++ more_member (member name (string s))) e

pub returns : goal.returns
returns c =
    let b = fields_of c.args.board.now in
    let old = c.args.text.now.items in
    let one = c.append_string.new.text.items in
    let two = c.append_string-2.new.text.items in
    let three = c.append_field.new.text.items in
    let four = c.append_field-2.new.text.items in
    let player : Member = member (codes "player") (string b.player) in
    let opponent : Member = member (codes "opponent") (string b.opponent) in
    let long : Member = number_field (codes "length") (field_of b 4) in
    let score : Member = number_field (codes "score") (field_of b 5) in
    let others : Member = number_field (codes "opponent_score") (field_of b 6) in
    let first = first_member old one player
    (named old one (codes "player") c.bytes.result.now b.player c.in_ok-append_string.ensures
    (c.bytes.ensures.value ∙ c.player.ensures.value)) in
    let second = next_member old one two (player ∷ []) opponent first
    (named one two (codes "opponent") c.bytes-2.result.now b.opponent c.in_ok-append_string-2.ensures
    (c.bytes-2.ensures.value ∙ c.opponent.ensures.value)) in
    let third = next_member old two three (player ∷ opponent ∷ []) long second c.in_ok-append_field.ensures in
    let fourth = next_member old three four (player ∷ opponent ∷ long ∷ []) score third
    c.in_ok-append_field-2.ensures in
    on_ok_weaker c.append_field-3.result
    (next_member old four c.append_field-3.new.text.items (player ∷ opponent ∷ long ∷ score ∷ []) others fourth)
    c.append_field-3.ensures
