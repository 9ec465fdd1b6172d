use Rattle.std.proofs.Common.{◌≡◌, List, [], ◌∷◌, length, refl, arith}
use Rattle.card_piles.specs.declared.Card.{Card}
use Rattle.game_rules.specs.Board.{Pile}
use Rattle.game_rules.specs.Play.{dealt_each}
use Rattle.game_model.proofs.board.dealing.+deal_each.Goals as goal

dealt_each-nil : (cards : List Card) (piles : List Pile) → length piles ≡ 0 → piles ≡ dealt_each cards piles
dealt_each-nil [] piles h = refl
dealt_each-nil (card ∷ cards) [] h = refl
dealt_each-nil (card ∷ cards) (pile ∷ piles) h = absurd (omega (arith, h))

pub returns-in_default-clause-ok : goal.returns-in_default-clause-ok
returns-in_default-clause-ok t c = dealt_each-nil _ _ c.in_default.ensures.cases
