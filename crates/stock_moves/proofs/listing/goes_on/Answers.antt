use Rattle.std.proofs.Common.{◌≡◌, true, false, Some, sym, ◌∙◌, refl, ap}
use Rattle.game_rules.specs.declared.RuleParts.{RuleParts}
use Rattle.game_rules.specs.Rules.{is_unlimited}
use Rattle.game_rules.specs.Board.{Board}
use Rattle.packed_state.specs.Packed.{board_of}
use Rattle.stock_moves.specs.GoesOn.{next_stock}
use Rattle.stock_moves.proofs.Going.{on-counted, on-unlimited}
use Rattle.stock_moves.proofs.listing.goes_on.Goals as goal

pub returns-in-Times : goal.returns-in-Times
returns-in-Times c =
    let rules : RuleParts = c.args.rules.now in
    let board : Board = board_of c.args.packed.now in
    let known : next_stock rules board ≡ Some c.in-Some.next = sym c.next_stock.ensures ∙ c.in-Some.is in
    let counted : is_unlimited rules.redeals ≡ false = ap is_unlimited (sym c.redeals.ensures ∙ c.in-Times.is) in (
      λ t.
          on-counted rules board c.args.first c.args.emptied c.in-Some.next c.requires.to_waste counted known,
      λ on. refl,
    )

pub returns-in-Unlimited : goal.returns-in-Unlimited
returns-in-Unlimited c =
    let rules : RuleParts = c.args.rules.now in
    let board : Board = board_of c.args.packed.now in
    let known : next_stock rules board ≡ Some c.in-Some.next = sym c.next_stock.ensures ∙ c.in-Some.is in
    let unlimited : is_unlimited rules.redeals ≡ true = ap is_unlimited (sym c.redeals.ensures ∙ c.in-Unlimited.is) in
    let decides = on-unlimited rules board c.args.first c.args.emptied c.in-Some.next c.requires.to_waste
    unlimited known in
    (λ t. decides.0 (c.is_other_length.ensures.0 t), λ on. c.is_other_length.ensures.1 (decides.1 on))
