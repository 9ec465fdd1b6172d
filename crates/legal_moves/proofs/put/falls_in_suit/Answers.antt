use Rattle.std.proofs.Common.{◌≡◌, ℕ, ◌+◌, List, refl, ap, sym, ◌∙◌, arith, true, false, ◌&&◌}
use Rattle.std.specs.Prelude.{◌==◌, Some}
use Rattle.card_piles.specs.declared.Card.{Card}
use Rattle.card_piles.specs.Cards.{place_of}
use Rattle.game_rules.specs.Rules.{foundation_suit}
use Rattle.game_rules.specs.Board.{pile_at, top_of, top_part, below_top}
use Rattle.game_rules.specs.Putting.{falls_in_suit}
use Rattle.legal_moves.proofs.Runs.{falls-more, falls-broken, below_top-more}
use Rattle.legal_moves.proofs.put.falls_in_suit.Goals as goal

pub returns-then-not-is_of : goal.returns-then-not-is_of
returns-then-not-is_of g c =
    let cards : List Card = (pile_at (g.T.Table.board c.args.table.now) c.args.i).cards in
    let n : ℕ = c.loop-depth.depth in
    let card : Card = c.in-Some.card in
    let top : top_of (below_top n cards) ≡ Some card = ap top_of (sym c.loop-depth.invariant.left)
    ∙ sym c.top.ensures ∙ c.in-Some.is in
    let other : ((place_of card.suit == foundation_suit c.args.f) && (card.rank == n + 1)) ≡ false = sym c.is_of.ensures
    ∙ c.if-not-is_of.true in
    let broken : falls_in_suit c.args.f (n + 1) (top_part (n + 1) cards) ≡ false =
    falls-more c.args.f cards n card (omega arith) top ∙ rw other refl in
    sym (falls-broken c.args.f cards (n + 1) c.args.count (omega arith) c.requires.enough broken)

pub loop-depth-preserved : goal.loop-depth-preserved
loop-depth-preserved g c =
    let cards : List Card = (pile_at (g.T.Table.board c.args.table.now) c.args.i).cards in
    let n : ℕ = c.loop-depth.depth in
    let card : Card = c.in-Some.card in
    let top : top_of (below_top n cards) ≡ Some card = ap top_of (sym c.loop-depth.invariant.left)
    ∙ sym c.top.ensures ∙ c.in-Some.is in
    let own : ((place_of card.suit == foundation_suit c.args.f) && (card.rank == n + 1)) ≡ true = sym c.is_of.ensures
    ∙ c.if-not-is_of.false in
    record {
      stands = c.under-left.ensures.stands;
      left = c.under-left.ensures.cards ∙ ap (below_top 1) c.loop-depth.invariant.left
          ∙ below_top-more cards n (omega arith);
      falls = falls-more c.args.f cards n card (omega arith) top ∙ rw own c.loop-depth.invariant.falls;
    }
