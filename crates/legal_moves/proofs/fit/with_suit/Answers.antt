use Rattle.std.proofs.Common.{refl, sym, Bool, ◌∙◌, ap}
use Rattle.std.specs.Prelude.{◌&&◌, ◌==◌}
use Rattle.card_piles.specs.declared.Suit.{Suit}
use Rattle.card_piles.specs.Builds.{same_suit, suits_fit}
use Rattle.std.proofs.Math.Bool.{and-true, and-false}
use Rattle.legal_moves.proofs.Suits.{same_suit-swap}
use Rattle.legal_moves.proofs.fit.with_suit.Goals as goal

pub returns-then-suits_fit : goal.returns-then-suits_fit
returns-then-suits_fit c = λ card ranked.
    let p : Suit → Bool = λ s. (c.args.rank == card.rank) && suits_fit c.args.rules.now.build s c.args.lower in
    rw (
      c.with.ensures card ranked,
      same_suit-swap p c.args.suit card.suit,
      ap (λ b. suits_fit b c.args.suit c.args.lower) (sym c.build.ensures) ∙ sym c.suits_fit.ensures
          ∙ c.if-suits_fit.true,
      and-true (c.args.rank == card.rank),
    ) refl

pub returns-else-suits_fit : goal.returns-else-suits_fit
returns-else-suits_fit c = λ card ranked.
    let p : Suit → Bool = λ s. (c.args.rank == card.rank) && suits_fit c.args.rules.now.build s c.args.lower in
    rw (
      same_suit-swap p c.args.suit card.suit,
      ap (λ b. suits_fit b c.args.suit c.args.lower) (sym c.build.ensures) ∙ sym c.suits_fit.ensures
          ∙ c.if-suits_fit.false,
      and-false (c.args.rank == card.rank),
      and-false (same_suit c.args.suit card.suit),
    ) refl
