use Rattle.std.proofs.Common.{append_assoc, refl}
use Rattle.std.proofs.lemmas.Grind.{flat_map-append}
use Rattle.legal_moves.proofs.order.list_carries.Goals as goal

pub returns-clause-ok : goal.returns-clause-ok
returns-clause-ok g c =
    rw (
      c.in_ok-list_onto-3.ensures.ok,
      c.in_ok-list_onto_piles.ensures.ok,
      c.in_ok-list_onto-2.ensures.ok,
      c.in_ok-list_to_hole.ensures.ok,
      c.in_ok-list_onto.ensures.ok,
      c.foundation_count.ensures,
      c.slot_count.ensures,
      c.cells.ensures,
      c.requires.belongs.foundations,
      c.requires.belongs.slots,
      c.requires.belongs.piles,
      c.requires.belongs.cells,
    )
    (simp (flat_map-append, append_assoc) refl)
