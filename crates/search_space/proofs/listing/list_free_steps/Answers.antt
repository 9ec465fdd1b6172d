use Rattle.std.proofs.Common.{◌≡◌, false, ◌++◌, ◌||◌, List, true, ap, sym, ◌∙◌, subst}
use Rattle.std.specs.Prelude.{OnOk}
use Rattle.std.specs.List.{filter}
use Rattle.game_rules.specs.declared.Move.{Move}
use Rattle.game_rules.specs.Rules.{deals_to_waste}
use Rattle.packed_state.specs.Packed.{board_of}
use Rattle.stock_steps.specs.Steps.{is_from_elsewhere, steps_from}
use Rattle.search_space.proofs.Singles.{all-free}
use Rattle.search_space.proofs.listing.list_free_steps.Goals as goal

pub returns-then-not-deals_to_waste-clause-listed : goal.returns-then-not-deals_to_waste-clause-listed
returns-then-not-deals_to_waste-clause-listed c =
    let other : deals_to_waste c.args.rules.now.target ≡ false = sym c.deals_to_waste.ensures
    ∙ c.if-not-deals_to_waste.true in
    subst (λ xs. OnOk c.push_singles.result (c.push_singles.new.out.items ≡ c.args.out.now.items ++ xs))
    (ap (λ (ms : List Move). steps_from 0 (filter (λ m. true || is_from_elsewhere m) ms)) c.requires.moves
    ∙ all-free c.args.rules.now (board_of c.args.packed.now) other)
    c.push_singles.ensures.ok
