use Rattle.std.proofs.Common.{◌≡◌, ℕ, sym, ◌∙◌, false, below_more, arith}
use Rattle.std.specs.Prelude.{IsTrue}
use Rattle.game_rules.specs.Board.{Board}
use Rattle.safe_moves.specs.Safe.{rules_allow}
use Rattle.safe_foundation.proofs.Forcing.{NoSafeOnto, onto-none, onto-some, first_safe-nowhere, first_safe-not_allowed}
use Rattle.safe_foundation.proofs.first.first_safe_of.Goals as goal

pub returns-then-not-rules_allow : goal.returns-then-not-rules_allow
returns-then-not-rules_allow g c =
    let board : Board = g.T.Table.board c.args.table.now in
    let not_allowed : rules_allow c.args.rules.now ≡ false = sym c.rules_allow.ensures
    ∙ grind (arith, c.if-not-rules_allow.true) in
    sym (first_safe-not_allowed c.args.rules.now board c.max_rank.ensures.limits not_allowed)

pub returns-in-Some : goal.returns-in-Some
returns-in-Some g c =
    let board : Board = g.T.Table.board c.args.table.now in
    let allow : IsTrue (rules_allow c.args.rules.now) = sym c.rules_allow.ensures
    ∙ grind (arith, c.if-not-rules_allow.false) in
    sym (onto-some c.args.rules.now board c.loop-f.f c.in-Some.from allow c.max_rank.ensures.limits c.in-Some.ensures
    (omega arith) c.loop-f.invariant)

pub loop-f-preserved : goal.loop-f-preserved
loop-f-preserved g c =
    let board : Board = g.T.Table.board c.args.table.now in
    below_more (NoSafeOnto c.args.rules.now board) c.loop-f.f c.loop-f.invariant
    (onto-none c.args.rules.now board c.loop-f.f c.max_rank.ensures.limits c.in_default.ensures)

pub returns : goal.returns
returns g c =
    let board : Board = g.T.Table.board c.args.table.now in
    sym (first_safe-nowhere c.args.rules.now board c.max_rank.ensures.limits
    (λ k here. c.loop-f.invariant k (omega (arith, here))))
