use Rattle.std.proofs.Common.{◌*◌, ◌∙◌, ap, take, drop, List}
use Rattle.std.specs.Prelude.{Option}
use Rattle.card_piles.specs.declared.Card.{Card}
use Rattle.deal_reader.proofs.Rows.{rows-more}
use Rattle.deal_reader.proofs.write.rows_value.Goals as goal

pub loop-r-preserved : goal.loop-r-preserved
loop-r-preserved c =
    let ranks = c.args.rules.now.max_rank in
    let slots = c.as_slice.ensures.value ∙ c.in_ok-slots.ensures in
    rows-more c.args.rules.now c.args.board.now c.loop-r.r c.loop-r.list.items c.push.new.self.items
    c.in_ok-entries_value.field-0 c.row.result.now
    c.loop-r.invariant c.in_ok-push.ensures.items c.in_ok-entries_value.ensures
    (c.row.ensures ∙ ap (λ (xs : List (Option Card)). take ranks (drop (c.loop-r.r * ranks) xs)) slots)
