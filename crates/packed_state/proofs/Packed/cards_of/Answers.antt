use Rattle.std.proofs.Common.{◌≡◌, ℕ, ◌-◌, ap, ◌∙◌}
use Rattle.card_links.specs.Chains.{slot_at}
use Rattle.packed_state.specs.Packed.{Linked, card_of}
use Rattle.packed_state.proofs.Unpacked.{cards_more}
use Rattle.packed_state.proofs.Packed.cards_of.Goals as goal

read : (a b : Linked) → a ≡ b → (slot place k : ℕ) → slot ≡ slot_at a.links place k
    → card_of b.cards slot ≡ card_of b.cards (slot_at b.links place k)
read a b view slot place k e = ap (card_of b.cards) (e ∙ ap (λ (x : Linked). slot_at x.links place k) view)

pub loop-i-preserved : goal.loop-i-preserved
loop-i-preserved c =
    cards_more c.args.self.now c.args.place c.loop-i.i c.count-size.result c.loop-i.out c.push.new.self
    c.card_of.result c.count-size.ensures.cards c.loop-i-test.true c.loop-i.invariant
    (c.card_of.ensures
    ∙ read _ _ c.self.view_is c.slot.result c.args.place (c.count-size.result - 1 - c.loop-i.i) c.slot.ensures.value)
    c.in_ok-push.ensures.ok
