use Rattle.std.proofs.Common.{◌++◌, ◌∷◌, List, [], ap, sym, ◌∙◌, append_assoc}
use Rattle.card_piles.specs.declared.Card.{Card}
use Rattle.pile_symmetry.proofs.Turned.{put_one_more}
use Rattle.pile_symmetry.proofs.showing.put_turned.Goals as goal

pub loop-card-preserved : goal.loop-card-preserved
loop-card-preserved g c =
    let inv = c.loop-card.invariant in
    let seen : List Card = c.loop-card.yielded in (
      rw c.put.ensures (put_one_more g.S.Shows.shown _ c.loop-card.bytes c.byte_of.result seen c.in-Some.card
          c.byte_of.ensures inv.0),
      append_assoc seen (c.in-Some.card ∷ []) c.next.new.self
          ∙ ap (λ (cards : List Card). seen ++ cards) (sym c.in-Some.ensures.steps) ∙ inv.1,
    )
