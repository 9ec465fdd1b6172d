use Rattle.std.proofs.Common.{◌≡◌, ap, sym, subst, ◌∙◌, get_or, take, rules as std_rules}
use Rattle.std.proofs.lemmas.List.{take_more, take_all, get_or_default}
use Rattle.game_rules.specs.declared.Move.{Move}
use Rattle.game_rules.specs.Board.{Board}
use Rattle.game_rules.specs.Play.{Legal, after}
use Rattle.game_rules.specs.declared.Move.TheVariants.{Carry, Deal}
use Rattle.game_rules.specs.declared.Place.TheVariants.{Tableau}
use Rattle.packed_state.specs.Packed.{board_of}
use Rattle.shortest_line.specs.Levels.{end_of}
use Rattle.shortest_line.proofs.Lines.{end_of-none, end_of-push, legal_there}
use Rattle.shortest_line.proofs.walking.board_after.Goals as goal

pub loop-m-init : goal.loop-m-init
loop-m-init c = record {
  stands = c.from_board-packed.ensures.stands_for ∙ sym (end_of-none c.args.rules.now c.args.start.now);
  belongs = search std_rules;
}

pub go-requires-clause-legal : goal.go-requires-clause-legal
go-requires-clause-legal c =
    let P : Board → Type 0 = λ b. Legal c.args.rules.now b
    (get_or c.args.moves.now c.loop-m.m-index (Carry (Tableau 0) (Tableau 0) 0)) in
    subst P (sym c.loop-m.invariant.stands)
    (legal_there c.args.rules.now c.args.start.now c.args.moves.now c.loop-m.m-index _ c.requires.line c.loop-m-test.true)

pub loop-m-preserved : goal.loop-m-preserved
loop-m-preserved c =
    let rules = c.args.rules.now in
    let start = c.args.start.now in
    let moves = c.args.moves.now in
    let i = c.loop-m.m-index in
    let m : Move = get_or moves i (Carry (Tableau 0) (Tableau 0) 0) in
    record {
      stands = c.go.ensures.moved
          ∙ ap (λ b. after rules b m) c.loop-m.invariant.stands
          ∙ sym (end_of-push rules start (take i moves) m)
          ∙ ap (λ ms. end_of rules start ms) (sym (take_more moves i _ c.loop-m-test.true));
      belongs = c.go.ensures.belongs;
    }
