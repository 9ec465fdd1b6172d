use Rattle.std.proofs.Common.{◌≡◌, Some, refl, sym, ◌∙◌, subst}
use Rattle.std.specs.Option.{IsSome}
use Rattle.packed_state.specs.StockRuns.{before_run}
use Rattle.stock_moves.proofs.listing.list_and_return.Goals as goal

pub unrun_stock-requires : goal.unrun_stock-requires
unrun_stock-requires c =
    let later : before_run c.run_stock-undo.result c.list_along-listed.new.packed ≡ Some c.args.packed.now =
    c.list_along-listed.ensures.same_notes c.run_stock-undo.result ∙ c.run_stock-undo.ensures.can_go_back in
    subst (λ found. IsSome found) (sym later) refl

pub returns-in-Ok-clause-as_before : goal.returns-in-Ok-clause-as_before
returns-in-Ok-clause-as_before c =
    let later : before_run c.run_stock-undo.result c.list_along-listed.new.packed ≡ Some c.args.packed.now =
    c.list_along-listed.ensures.same_notes c.run_stock-undo.result ∙ c.run_stock-undo.ensures.can_go_back in
    let same : Some c.unrun_stock.new.self ≡ Some c.args.packed.now = sym c.unrun_stock.ensures ∙ later in
    cc

pub returns-in-Err-clause-as_before : goal.returns-in-Err-clause-as_before
returns-in-Err-clause-as_before c =
    let later : before_run c.run_stock-undo.result c.list_along-listed.new.packed ≡ Some c.args.packed.now =
    c.list_along-listed.ensures.same_notes c.run_stock-undo.result ∙ c.run_stock-undo.ensures.can_go_back in
    let same : Some c.unrun_stock.new.self ≡ Some c.args.packed.now = sym c.unrun_stock.ensures ∙ later in
    cc
