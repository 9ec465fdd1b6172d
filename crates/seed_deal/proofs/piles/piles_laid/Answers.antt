use Rattle.std.proofs.Common.{List, Vec, Global, ap, sym, ◌∙◌}
use Rattle.card_piles.specs.declared.Card.{Card}
use Rattle.seed_deal.specs.Layout.{all_laid}
use Rattle.seed_deal.proofs.Laying.{piles_laid-none}
use Rattle.seed_deal.proofs.piles.piles_laid.Goals as goal
use Rattle.seed_deal.proofs.piles.piles_laid.Goals.{then-piles-gt0+in_ok-lay_all, else-piles-gt0}

pub returns : goal.returns
returns c = elim c.if-piles-gt0.branch [
  | then-piles-gt0+in_ok-lay_all w ↦ c.from_vec.ensures ∙ ap (λ (v : Vec (List Card) Global). v.items) w.tableau-is
      ∙ w.in_ok-lay_all.ensures
      ∙ ap (λ (ps : List (List Card)). all_laid c.args.layout c.args.piles c.args.cards.now ps) c.in_ok-tableau.ensures
  | else-piles-gt0 w ↦ c.from_vec.ensures ∙ ap (λ (v : Vec (List Card) Global). v.items) w.tableau-is
      ∙ c.in_ok-tableau.ensures
      ∙ sym (piles_laid-none c.args.layout c.args.piles c.args.cards.now w.if-piles-gt0.false)
]
