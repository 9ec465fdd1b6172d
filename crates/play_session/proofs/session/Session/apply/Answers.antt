use Rattle.std.proofs.Common.{◌∙◌, ◌++◌, ◌∷◌, [], ◌≡◌, ◌<◌, true, ap, sym, refl, arith, length}
use Rattle.game_rules.specs.Play.{is_legal_move, after}
use Rattle.packed_state.specs.Packed.{board_of}
use Rattle.play_session.specs.Kept.{IsHeld, held}
use Rattle.play_session.proofs.Holding.{held_more, room_made, none_left}
use Rattle.play_session.proofs.session.Session.apply.Goals as goal

pub invariant_of-self-2 : goal.invariant_of-self-2
invariant_of-self-2 c =
    let standing = c.push_within.ensures.items ∙ ap (λ xs. xs ++ c.args.m ∷ []) c.make_room.ensures.standing in
    let notes = c.push_within-2.ensures.items ∙ ap (λ xs. xs ++ c.go-undo.result ∷ []) c.make_room.ensures.undos in
    let legal : is_legal_move c.self.inside.rules (board_of c.self.inside.packed) c.args.m ≡ true = grind arith in
    let moved : board_of c.go-undo.new.self ≡ after c.self.inside.rules (board_of c.self.inside.packed) c.args.m =
    grind arith in
    let noted = c.self.invariant.0.noted in
    let room = c.in-Ok.ensures in
    let p = room.standing_room in
    let q = room.undos_room in
    let r = room.undone_room in
    let x = c.push_within.ensures.capacity in
    let y = c.push_within-2.ensures.capacity in
    let z = c.truncate.ensures.capacity in (
      held_more _ _ _ _ _ _ _ _ _ _ _ _ _ c.self.invariant.0 legal moved c.go-undo.ensures.can_go_back
          (none_left _ _ _ c.truncate.ensures.items) standing notes,
      room_made _ _ _ _ _ _ _ standing c.truncate.ensures.items (omega arith) (omega arith) (omega arith),
    )

pub returns-clause-stands : goal.returns-clause-stands
returns-clause-stands c = (invariant_of-self-2 c).0.stands
