use Rattle.std.proofs.Common.{◌≡◌, refl, ap, sym, ◌∙◌}
use Rattle.std.specs.Prelude.{◌&&◌, ◌==◌}
use Rattle.card_piles.specs.Builds.{suits_fit, ranks_fit}
use Rattle.legal_moves.proofs.Suits.{in_each_suit}
use Rattle.legal_moves.proofs.fit.on_card.Goals as goal

pub returns : goal.returns
returns c = λ card ranked.
    let rules = c.args.rules.now in
    let ranks : ranks_fit rules.wrap rules.max_rank card.rank c.args.lower.rank ≡ (c.rank_on-rank.result == card.rank) =
    ap (λ r. ranks_fit rules.wrap rules.max_rank card.rank r) (sym c.rank.ensures.value)
    ∙ c.rank_on-rank.ensures.fits card.rank ranked in
    rw (
      c.with_suit.ensures card ranked,
      c.with_suit-hearts.ensures card ranked,
      c.with_suit-diamonds.ensures card ranked,
      c.with_suit-clubs.ensures card ranked,
      c.none.ensures card,
      c.suit-suit.ensures,
      ranks,
      in_each_suit card.suit
          ((c.rank_on-rank.result == card.rank) && suits_fit rules.build card.suit c.args.lower.suit),
    )
    refl
