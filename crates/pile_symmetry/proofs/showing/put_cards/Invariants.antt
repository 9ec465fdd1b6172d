use Rattle.std.proofs.Common.{◌≡◌, ◌-◌, ◌++◌, map, drop, length}
use Rattle.same_boards.specs.Keys.{card_bytes}
use Rattle.pile_symmetry.proofs.showing.put_cards.Given as goal

abbrev pub invariant-loop-back : goal.invariant-loop-back
invariant-loop-back g l =
    l.bytes ≡ card_bytes (map g.S.Shows.shown (drop (length l.cards - l.back) l.cards)) ++ l.initial.bytes
