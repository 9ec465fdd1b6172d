use Rattle.std.proofs.Common.{◌≡◌, ℕ, ap, sym, ◌∙◌, false, below_more, arith}
use Rattle.game_rules.specs.declared.Place.TheVariants.{Tableau}
use Rattle.game_rules.specs.Board.{Board, pile_at, top_of}
use Rattle.game_rules.specs.Belonging.{holds}
use Rattle.safe_foundation.specs.Giving.{gives}
use Rattle.safe_foundation.proofs.Giving.{gives-pile}
use Rattle.safe_foundation.proofs.Places.{a_pile}
use Rattle.safe_foundation.proofs.finding.first_pile.Goals as goal

pub returns-then-holds : goal.returns-then-holds
returns-then-holds g c =
    let board : Board = g.T.Table.board c.args.table.now in (
      gives-pile c.args.rules.now board c.args.card c.loop-i.i c.requires
          (a_pile c.args.rules.now board c.loop-i.i c.requires (omega arith))
          ∙ ap (holds c.args.card) (sym (c.top.ensures ∙ ap top_of c.pile.ensures.cards)) ∙ sym c.holds.ensures
          ∙ c.if-holds.true,
      c.loop-i.invariant,
    )

pub loop-i-preserved : goal.loop-i-preserved
loop-i-preserved g c =
    let board : Board = g.T.Table.board c.args.table.now in
    below_more (λ (k : ℕ). gives c.args.rules.now board c.args.card (Tableau k) ≡ false) c.loop-i.i c.loop-i.invariant
    (gives-pile c.args.rules.now board c.args.card c.loop-i.i c.requires
    (a_pile c.args.rules.now board c.loop-i.i c.requires (omega arith))
    ∙ ap (holds c.args.card) (sym (c.top.ensures ∙ ap top_of c.pile.ensures.cards)) ∙ sym c.holds.ensures
    ∙ c.if-holds.false)
