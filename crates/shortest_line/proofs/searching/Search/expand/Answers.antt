use Rattle.std.proofs.Common.{◌≡◌, ap, sym, subst, ◌∙◌, Some, IsTrue, get_or}
use Rattle.game_rules.specs.declared.Move.{Move}
use Rattle.game_rules.specs.declared.Move.TheVariants.{Carry}
use Rattle.game_rules.specs.declared.Place.TheVariants.{Tableau}
use Rattle.game_rules.specs.Board.{Board}
use Rattle.game_rules.specs.Order.{legal_moves}
use Rattle.game_rules.specs.Play.{Legal}
use Rattle.packed_state.specs.Packed.{Linked, board_of}
use Rattle.packed_state.specs.Undoing.{before}
use Rattle.shortest_line.specs.Levels.{end_of, board_at}
use Rattle.shortest_line.proofs.Trying.{listed, not_won, trying-first, trying-next, trying-all, trying-won}
use Rattle.shortest_line.proofs.searching.Search.expand.Goals as goal

abbrev none : Move
none = Carry (Tableau 0) (Tableau 0) 0

pub loop-m-init : goal.loop-m-init
loop-m-init c =
    let rules = c.args.rules.now in
    let stands = c.board_after-packed.ensures.stands
    ∙ ap (λ ms. end_of rules c.args.start.now ms) (c.as_slice.ensures.value ∙ c.in_ok-line.ensures) in
    trying-first rules c.args.start.now c.parts.ensures.playable c.requires.belongs c.args.self.now c.args.place
    c.as_slice-m-items.result.now c.board_after-packed.result c.in_ok-line.line.items c.requires.sound stands
    c.board_after-packed.ensures.belongs c.in_ok-line.ensures
    (c.as_slice-m-items.ensures.value ∙ c.in_ok-moves.ensures ∙ ap (λ b. legal_moves rules b) stands)

pub go-undo-requires-clause-legal : goal.go-undo-requires-clause-legal
go-undo-requires-clause-legal c =
    let rules = c.args.rules.now in
    let t = c.loop-m.invariant in
    let m : Move = get_or c.as_slice-m-items.result.now c.loop-m.m-index none in
    subst (λ b. Legal rules b m) (sym t.stands)
    (listed rules (board_at rules c.args.start.now c.args.self.now.kept.lines c.args.place)
    c.as_slice-m-items.result.now c.loop-m.m-index none t.moves_are c.loop-m-test.true)

pub returns-then-is_won-clause-expanded : goal.returns-then-is_won-clause-expanded
returns-then-is_won-clause-expanded c =
    trying-won c.args.rules.now c.args.start.now c.parts.ensures.playable c.requires.belongs c.args.self.now
    c.loop-m.self c.args.place c.as_slice-m-items.result.now c.loop-m.m-index none c.loop-m.packed c.go-undo.new.self
    c.loop-m.line.items c.push.new.self.items c.requires.there c.requires.sound c.loop-m.invariant c.loop-m-test.true
    c.go-undo.ensures.moved (subst (λ b. IsTrue b) c.is_won.ensures c.if-is_won.true) c.in_ok-push.ensures.items

-- one packed board comes back
came_back : (a b : Linked) → Some a ≡ Some b → a ≡ b
came_back a b e = cc

pub loop-m-preserved : goal.loop-m-preserved
loop-m-preserved c =
    trying-next c.args.rules.now c.args.start.now c.parts.ensures.playable c.requires.belongs c.args.self.now
    c.loop-m.self c.meet.new.self c.args.place c.as_slice-m-items.result.now c.loop-m.m-index none c.loop-m.packed
    c.go-undo.new.self c.back.new.self c.loop-m.line.items c.requires.there c.loop-m.invariant c.loop-m-test.true
    c.go-undo.ensures.moved (not_won c.args.rules.now (board_of c.go-undo.new.self) _ c.is_won.ensures c.if-is_won.false)
    c.in_ok-meet.ensures.limit c.in_ok-meet.ensures.met
    (came_back c.back.new.self c.loop-m.packed (sym c.back.ensures ∙ c.go-undo.ensures.can_go_back))

pub returns-clause-expanded : goal.returns-clause-expanded
returns-clause-expanded c =
    trying-all c.args.rules.now c.args.start.now c.parts.ensures.playable c.requires.belongs c.args.self.now
    c.loop-m.self c.args.place c.as_slice-m-items.result.now c.loop-m.m-index c.loop-m.packed c.loop-m.line.items
    c.loop-m.invariant c.loop-m-test.false
