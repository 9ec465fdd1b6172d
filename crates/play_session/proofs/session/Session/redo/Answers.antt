use Rattle.std.proofs.Common.{◌∙◌, ◌≡◌, ◌∷◌, reverse, ap, sym, subst, arith}
use Rattle.game_rules.specs.declared.RuleParts.{RuleParts}
use Rattle.game_rules.specs.Board.{Board}
use Rattle.game_rules.specs.Play.{after}
use Rattle.game_rules.specs.Winning.{Line}
use Rattle.packed_state.specs.Packed.{board_of}
use Rattle.play_session.specs.Held.{Held}
use Rattle.play_session.proofs.Holding.{held_more, next_legal, room_again}
use Rattle.play_session.proofs.session.Session.redo.Goals as goal

pub invariant_of-self-2 : goal.invariant_of-self-2
invariant_of-self-2 c =
    let holds = c.self.invariant.0 in
    let next = next_legal c.self.inside.rules (board_of c.self.inside.packed) _ _ c.in-Some.next holds.stands.end
    holds.stands.again c.in-Some.ensures.items in
    let same = c.requires.rules ∙ sym (ap (λ (s : Held). s.rules) c.self.view_is) in
    let moved : board_of c.go-undo.new.self ≡ after c.self.inside.rules (board_of c.self.inside.packed) c.in-Some.next =
    c.go-undo.ensures.moved ∙ ap (λ rules. after rules (board_of c.self.inside.packed) c.in-Some.next) same in
    let P : Board → Type 0 = λ b. Line c.self.inside.rules b (reverse c.pop.new.self.items) holds.stands.end in
    let a = c.push_within.ensures.capacity in
    let b = c.push_within-2.ensures.capacity in
    let d = c.pop.ensures.capacity in
    let last = c.push_within.ensures.items in (
      held_more _ _ _ _ _ _ c.in-Some.next c.go-undo.result _ _ _ _ _ holds next.0 moved c.go-undo.ensures.can_go_back
          (subst P (sym moved) next.1) last c.push_within-2.ensures.items,
      room_again _ _ _ _ c.in-Some.next _ _ _ _ _ _ c.self.invariant.1 c.in-Some.ensures.items last a b (omega arith),
    )

pub returns-clause-stands : goal.returns-clause-stands
returns-clause-stands c = (invariant_of-self-2 c).0.stands
