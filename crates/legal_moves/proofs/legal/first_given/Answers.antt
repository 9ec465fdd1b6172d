use Rattle.std.proofs.Common.{◌≡◌, ℕ, ◌≤◌, List, refl, ap, sym, ◌∙◌, arith, true, false}
use Rattle.std.specs.Prelude.{Some, slice_get}
use Rattle.card_piles.specs.declared.Card.{Card}
use Rattle.game_rules.specs.Board.{Pile, pile_at, top_of, top_part, below_top}
use Rattle.game_rules.specs.Taking.{pile_gives}
use Rattle.legal_moves.specs.Runs.{most_given}
use Rattle.legal_moves.proofs.Runs.{reached-first, reached-more, gives-reached, stops-at_break}
use Rattle.legal_moves.proofs.legal.first_given.Goals as goal

pub loop-given-init : goal.loop-given-init
loop-given-init g c =
    let pile : Pile = pile_at (g.T.Table.board c.args.table.now) c.args.i in
    let top : top_of pile.cards ≡ Some c.in-Some.top = ap top_of (sym c.pile-pile.ensures.cards)
    ∙ sym c.top.ensures ∙ c.in-Some.is in
    record {
      stands = c.under-left.ensures.stands;
      reached = reached-first c.args.rules.now pile.cards _ c.in-Some.top top
          (c.under-left.ensures.cards ∙ ap (below_top 1) c.pile-pile.ensures.cards);
    }

pub loop-given-preserved : goal.loop-given-preserved
loop-given-preserved g c =
    let pile : Pile = pile_at (g.T.Table.board c.args.table.now) c.args.i in
    record {
      stands = c.under-left-in-Some-next_down.ensures.stands;
      reached = reached-more c.args.rules.now pile.cards _ _ c.loop-given.card c.in-Some-next_down.lower
          c.loop-given.given c.loop-given.invariant.reached
          (sym c.next_down.ensures ∙ c.in-Some-next_down.is)
          c.under-left-in-Some-next_down.ensures.cards;
    }

pub returns-in-None-next_down : goal.returns-in-None-next_down
returns-in-None-next_down g c =
    let pile : Pile = pile_at (g.T.Table.board c.args.table.now) c.args.i in
    let none : pile_gives c.args.rules.now pile c.args.count ≡ false =
    stops-at_break c.args.rules.now pile _ c.loop-given.card c.loop-given.given c.loop-given.invariant.reached
    (sym c.next_down.ensures ∙ c.in-None-next_down.is) c.args.count (omega arith) in
    rw none refl

pub returns : goal.returns
returns g c =
    let pile : Pile = pile_at (g.T.Table.board c.args.table.now) c.args.i in
    let n : ℕ = c.loop-given.given in
    let same : n ≡ c.args.count = omega arith in
    let few : n ≤ most_given c.args.rules.now pile = omega
    (arith, same, c.most_given.ensures, c.from.ensures, c.if-most_given-from.false) in
    let gives : pile_gives c.args.rules.now pile c.args.count ≡ true =
    ap (pile_gives c.args.rules.now pile) (sym same)
    ∙ gives-reached c.args.rules.now pile _ c.loop-given.card n c.loop-given.invariant.reached few in
    let first : slice_get (top_part c.args.count pile.cards) 0 ≡ Some c.loop-given.card =
    ap (λ k. slice_get (top_part k pile.cards) 0) (sym same)
    ∙ ap (λ (xs : List Card). slice_get xs 0) c.loop-given.invariant.reached.first in
    rw (gives, first) refl
