use Rattle.std.proofs.Common.{◌≡◌, ℕ, ◌+◌, ◌++◌, [], ◌∷◌, List, map, ap, ◌∙◌, suc, arith}
use Rattle.std.proofs.lemmas.List.{map-append}
use Rattle.std.proofs.lemmas.List.FromFn.{map-range_with_len_more}
use Rattle.game_rules.specs.Board.{Pile}
use Rattle.pile_symmetry.specs.Reading.{pile_in, after_piles, piles_in}
use Rattle.pile_symmetry.proofs.placing.piles_in.Goals as goal

pub loop-i-preserved : goal.loop-i-preserved
loop-i-preserved c =
    let bytes = c.args.bytes.now in
    let i : ℕ = c.loop-i.i in
    let more : piles_in (i + 1) bytes ≡ piles_in i bytes ++ pile_in (after_piles i bytes) ∷ [] =
    map-range_with_len_more (λ (k : ℕ). pile_in (after_piles k bytes)) 0 i i (omega arith) in
    let next : i + 1 ≡ suc i = omega arith in
    let cards = ap (λ (piles : List Pile). map (λ (p : Pile). p.cards) piles) more ∙ map-append (λ (p : Pile). p.cards)
    (piles_in i bytes) (pile_in (after_piles i bytes) ∷ []) in
    let downs = ap (λ (piles : List Pile). map (λ (p : Pile). p.face_down) piles) more
    ∙ map-append (λ (p : Pile). p.face_down) (piles_in i bytes) (pile_in (after_piles i bytes) ∷ []) in
    let after = ap (λ (k : ℕ). after_piles k bytes) next in (
      cc (
        cards,
        c.loop-i.invariant.0,
        c.loop-i.invariant.2,
        c.in_ok-push.ensures.ok,
        c.in_ok-cards_in.ensures,
        c.first_pile-face_down.ensures.cards,
      ),
      cc (
        downs,
        c.loop-i.invariant.1,
        c.loop-i.invariant.2,
        c.in_ok-push-2.ensures.ok,
        c.first_pile-face_down.ensures.face_down,
      ),
      cc (after, c.loop-i.invariant.2, c.first_pile-face_down.ensures.after),
    )
