use Rattle.std.proofs.Common.{◌≡◌, ℕ, ◌+◌, ◌-◌, ◌<◌, false, refl, sym, ap, ◌∙◌, arith}
use Rattle.std.specs.Prelude.{Option, Some, None, is_some}
use Rattle.card_piles.specs.declared.Card.{Card}
use Rattle.game_rules.specs.Board.{top_of}
use Rattle.packed_state.specs.Packed.{cards_at}
use Rattle.packed_state.specs.CardsLeft.{entry_cards}
use Rattle.packed_state.proofs.Downward.{empty_entry}
use Rattle.packed_state.proofs.Packed.filled_entries.Goals as goal

not_some : (o : Option Card) → is_some o ≡ false → o ≡ None
not_some None e = refl
not_some (Some card) e = cc

pub loop-past-preserved : goal.loop-past-preserved
loop-past-preserved c =
    let n = c.args.entries - c.loop-past.past in
    let some : 0 < n = omega arith in
    let at : 36 + (n - 1) ≡ 36 + c.from.result = omega arith in
    let next : c.args.entries - (c.loop-past.past + 1) ≡ n - 1 = omega arith in
    let none : top_of (cards_at c.args.self.now (36 + (n - 1))) ≡ None =
    ap (λ (k : ℕ). top_of (cards_at c.args.self.now k)) at ∙ sym c.top_card.ensures
    ∙ not_some c.top_card.result (sym c.is_some.ensures ∙ c.if-is_some.false) in
    ap (entry_cards c.args.self.now) next ∙ sym (empty_entry c.args.self.now n some none) ∙ c.loop-past.invariant
