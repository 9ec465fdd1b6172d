use Rattle.std.proofs.Common.{◌≡◌, ℕ, ◌<◌, ap, sym, ◌∙◌, false, true, below_more, arith}
use Rattle.std.specs.Prelude.{Option, Some, None}
use Rattle.game_rules.specs.Board.{Board}
use Rattle.game_rules.proofs.Limits.{limits_of}
use Rattle.safe_moves.specs.Need.{is_no_bar, upper_rank}
use Rattle.safe_moves.proofs.NotNeeded.{upper_within}
use Rattle.safe_foundation.proofs.Needing.{not_needed-none, not_needed-all, not_needed-barred}
use Rattle.safe_foundation.proofs.need.is_not_needed.Goals as goal

pub returns-in-None : goal.returns-in-None
returns-in-None g c =
    let board : Board = g.T.Table.board c.args.table.now in
    let none : upper_rank c.args.rules.now c.args.card.rank ≡ None
    = ap (upper_rank c.args.rules.now) (sym c.rank.ensures.value) ∙ sym c.upper_rank.ensures ∙ c.in-None.is in
    sym (not_needed-none c.args.rules.now board c.args.card c.parts.ensures.playable c.requires.allows
    c.requires.belongs c.requires.low c.requires.high none)

pub home_place-place-requires : goal.home_place-place-requires
home_place-place-requires g c =
    let some : upper_rank c.args.rules.now c.args.card.rank ≡ Some c.in-Some.rank
    = ap (upper_rank c.args.rules.now) (sym c.rank.ensures.value) ∙ sym c.upper_rank.ensures ∙ c.in-Some.is in
    let within = upper_within c.args.rules.now.wrap c.args.rules.now.max_rank c.in-Some.rank c.args.card.rank
    c.requires.low c.requires.high some in
    let high = within.1 in
    let limit = (limits_of c.args.rules.now c.parts.ensures.playable).max_rank in
    omega (arith, high, limit)

pub returns-then-not-is_no_bar : goal.returns-then-not-is_no_bar
returns-then-not-is_no_bar g c =
    let board : Board = g.T.Table.board c.args.table.now in
    let some : upper_rank c.args.rules.now c.args.card.rank ≡ Some c.in-Some.rank
    = ap (upper_rank c.args.rules.now) (sym c.rank.ensures.value) ∙ sym c.upper_rank.ensures ∙ c.in-Some.is in
    let bar : is_no_bar c.args.rules.now board c.args.card c.home_place-place.result c.loop-suit.suit ≡ false
    = sym c.is_no_bar.ensures ∙ grind (arith, c.if-not-is_no_bar.true) in
    sym (not_needed-barred c.args.rules.now board c.args.card c.in-Some.rank c.loop-suit.suit
    c.parts.ensures.playable c.requires.allows
    c.requires.belongs c.requires.low c.requires.high some c.loop-suit-test.true
    (ap (λ (place : ℕ). is_no_bar c.args.rules.now board c.args.card place c.loop-suit.suit)
    (sym c.home_place-place.ensures) ∙ bar))

pub loop-suit-preserved : goal.loop-suit-preserved
loop-suit-preserved g c =
    let board : Board = g.T.Table.board c.args.table.now in
    below_more (λ (suit : ℕ). is_no_bar c.args.rules.now board c.args.card c.home_place-place.result suit ≡ true)
    c.loop-suit.suit c.loop-suit.invariant
    (sym c.is_no_bar.ensures ∙ grind (arith, c.if-not-is_no_bar.false))

pub returns : goal.returns
returns g c =
    let board : Board = g.T.Table.board c.args.table.now in
    let some : upper_rank c.args.rules.now c.args.card.rank ≡ Some c.in-Some.rank
    = ap (upper_rank c.args.rules.now) (sym c.rank.ensures.value) ∙ sym c.upper_rank.ensures ∙ c.in-Some.is in
    sym (not_needed-all c.args.rules.now board c.args.card c.in-Some.rank c.parts.ensures.playable c.requires.allows
    c.requires.belongs c.requires.low c.requires.high some
    (λ suit few. ap (λ (place : ℕ). is_no_bar c.args.rules.now board c.args.card place suit)
    (sym c.home_place-place.ensures)
    ∙ c.loop-suit.invariant suit (omega (arith, few))))
