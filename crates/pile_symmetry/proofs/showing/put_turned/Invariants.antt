use Rattle.std.proofs.Common.{◌≡◌, ◌++◌, map, reverse}
use Rattle.same_boards.specs.Keys.{card_bytes}
use Rattle.pile_symmetry.proofs.showing.put_turned.Given as goal

abbrev pub invariant-loop-card : goal.invariant-loop-card
invariant-loop-card g l =
    (l.bytes ≡ reverse (card_bytes (map g.S.Shows.shown l.yielded)) ++ l.initial.bytes)
    × (l.yielded ++ l.card-iterator ≡ l.fn.cards)
