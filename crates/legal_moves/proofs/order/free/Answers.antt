use Rattle.std.proofs.Common.{◌≡◌, List, length, take, get_or, refl, sym, ◌∙◌, arith, true}
use Rattle.std.specs.List.{All}
use Rattle.std.proofs.lemmas.Bool.{eq-eqb}
use Rattle.std.proofs.lemmas.List.Elements.{All-more}
use Rattle.std.proofs.lemmas.List.{take_all}
use Rattle.std.proofs.Math.Bool.{or-true, true-or}
use Rattle.card_sets.specs.declared.CardSet.{CardSet}
use Rattle.card_sets.specs.Sets.{has_bit}
use Rattle.game_rules.specs.declared.Place.TheVariants.{Tableau}
use Rattle.legal_moves.specs.declared.offers.Offer.{Offer}
use Rattle.legal_moves.proofs.order.free.Goals as goal

abbrev IsIn : CardSet → Offer → Type 0
IsIn set offer = has_bit set offer.bit ≡ true

pub loop-offer-preserved : goal.loop-offer-preserved
loop-offer-preserved c =
    let offers : List Offer = c.args.offers.now in
    let blank : Offer = record { from = Tableau 0; count = 0; bit = record { place = 0 } } in
    let item : Offer = get_or offers c.loop-offer.offer-index blank in
    let new : CardSet = c.with_bit-set.result in
    let old : All (IsIn new) (take c.loop-offer.offer-index offers) = λ k d low.
    c.with_bit-set.ensures _ ∙ rw (c.loop-offer.invariant k d low) (or-true _) in
    let here : IsIn new item = c.with_bit-set.ensures item.bit ∙ rw (eq-eqb item.bit.place item.bit.place refl)
    (true-or (has_bit c.loop-offer.set item.bit)) in
    All-more (IsIn new) offers c.loop-offer.offer-index blank c.loop-offer-test.true old here

pub returns : goal.returns
returns c = λ k d low.
    let offers : List Offer = c.args.offers.now in
    let index : c.loop-offer.offer-index ≡ length offers = omega arith in
    let all : take c.loop-offer.offer-index offers ≡ offers = take_all _ offers (omega (arith, index)) in
    let in_all : All (IsIn c.loop-offer.set) offers = rw (sym all) c.loop-offer.invariant in
    in_all k d low
