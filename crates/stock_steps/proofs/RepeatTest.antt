-- When a board of a run of stock moves comes again, by the lengths of stocks alone.
use Rattle.std.proofs.Common.{◌≡◌, ◌⊎◌, ◌↔◌, inl, inr, ℕ, zero, suc, ◌+◌, ◌-◌, ◌<◌, ◌≤◌, false, List, [], length, ap}
use Rattle.std.proofs.Common.{sym, ◌∙◌, subst, arith, IsTrue}
use Rattle.std.proofs.lemmas.List.{nil_from_length}
use Rattle.card_piles.specs.declared.Card.{Card}
use Rattle.game_rules.specs.declared.RuleParts.{RuleParts}
use Rattle.game_rules.specs.Rules.{deals_to_waste, is_unlimited}
use Rattle.game_rules.specs.Board.{Board}
use Rattle.game_rules.specs.NextByStock.{IsNextByStock}
use Rattle.stock_steps.specs.StockSteps.{IsStockRun, StandsBefore, ComesAgain}
use Rattle.stock_steps.proofs.StockKin.{Kin-trans, size, next_cases, next_kin, kin_size, same_length}
use Rattle.stock_steps.proofs.StockKin.{dealt_length, redealt_length}
use Rattle.stock_steps.proofs.StockRuns.{weight, next_is_lighter}
use Rattle.stock_steps.proofs.Pigeons.{Alike, run_alike, unlimited_left}

-- where redeals are counted, never

run_weight : (rules : RuleParts) (board : Board) (k : ℕ) (boards : ℕ → Board)
    → is_unlimited rules.redeals ≡ false → 1 ≤ rules.draw
    → IsTrue (deals_to_waste rules.target) → IsStockRun rules board k boards → (i n : ℕ) → n + i ≤ k
    → weight (boards (n + i)) ≤ weight (boards i)
run_weight rules board k boards counted draws to_waste run i zero h =
    let e : 0 + i ≡ i = omega arith in
    rw e (omega arith)
run_weight rules board k boards counted draws to_waste run i (suc n) h =
    let before : weight (boards (n + i)) ≤ weight (boards i) = run_weight rules board k boards counted draws to_waste
    run i n (omega arith) in
    let next : IsNextByStock rules (boards (n + i)) (boards (suc (n + i))) = run.next (n + i) (omega arith) in
    let lighter : weight (boards (suc (n + i))) < weight (boards (n + i)) =
    next_is_lighter rules (boards (n + i)) (boards (suc (n + i))) counted draws
    (next_kin rules (boards (n + i)) (boards (suc (n + i))) to_waste next)
    (next_cases rules (boards (n + i)) (boards (suc (n + i))) to_waste next) in
    let e : suc n + i ≡ suc (n + i) = omega arith in
    rw e (omega arith)

pub never_again : (rules : RuleParts) (board next : Board) (k : ℕ) (boards : ℕ → Board)
    → is_unlimited rules.redeals ≡ false → 1 ≤ rules.draw
    → IsTrue (deals_to_waste rules.target) → IsStockRun rules board k boards → IsNextByStock rules (boards k) next
    → StandsBefore boards k next → ⊥
never_again rules board next k boards counted draws to_waste run is_next at =
    let n : ℕ = k - at.0 in
    let e : n + at.0 ≡ k = omega (arith, at.1) in
    let heavy : weight (boards (n + at.0)) ≤ weight (boards at.0) = run_weight rules board k boards counted draws
    to_waste run at.0 n (omega (arith, at.1)) in
    let lighter : weight next < weight (boards k) =
    next_is_lighter rules (boards k) next counted draws (next_kin rules (boards k) next to_waste is_next)
    (next_cases rules (boards k) next to_waste is_next) in
    let same : weight (boards at.0) ≡ weight next = ap weight at.2 in
    let last : weight (boards (n + at.0)) ≡ weight (boards k) = ap (λ (m : ℕ). weight (boards m)) e in
    omega arith

-- where they are unlimited, with the length of the first stock, or with an empty stock after another

one_before : (rules : RuleParts) (a b c d : Board) → 1 ≤ rules.draw → IsTrue (deals_to_waste rules.target) → Alike a c
    → IsNextByStock rules a b → IsNextByStock rules c d → b ≡ d → 0 < length b.stock → a ≡ c
one_before rules a b c d draws to_waste alike is_b is_d same some =
    let lengths : length b.stock ≡ length d.stock = ap (λ (x : Board). length x.stock) same in
    let sizes : size a ≡ size c = kin_size a c alike.kin in
    elim (next_cases rules a b to_waste is_b) [
      | inl dealt ↦ elim (next_cases rules c d to_waste is_d) [
        | inl other ↦
            same_length a c alike.kin alike.left
            (omega (arith, dealt_length rules a b dealt, dealt_length rules c d other))
        | inr other ↦
            let turned : (length c.stock ≡ 0) × (length d.stock ≡ length c.waste) = redealt_length rules c d other in
            absurd (omega (arith, dealt_length rules a b dealt, turned.0, turned.1, dealt.some))
      ]
      | inr redealt ↦
          let first : (length a.stock ≡ 0) × (length b.stock ≡ length a.waste) = redealt_length rules a b redealt in
          elim (next_cases rules c d to_waste is_d) [
            | inl other ↦ absurd (omega (arith, dealt_length rules c d other, first.0, first.1, other.some))
            | inr other ↦
                let turned : (length c.stock ≡ 0)
                × (length d.stock ≡ length c.waste) = redealt_length rules c d other in
                same_length a c alike.kin alike.left (omega (arith, first.0, turned.0))
          ]
    ]

alike_upto : (rules : RuleParts) (board : Board) (k : ℕ) (boards : ℕ → Board) → IsTrue (is_unlimited rules.redeals)
    → IsTrue (deals_to_waste rules.target)
    → IsStockRun rules board k boards → (j : ℕ) → j ≤ k → Alike (boards j) (boards k)
alike_upto rules board k boards unlimited to_waste run j h =
    let n : ℕ = k - j in
    let e : n + j ≡ k = omega arith in
    subst (λ (m : ℕ). Alike (boards j) (boards m)) e
    (run_alike rules board k boards unlimited to_waste run j n (omega arith))

alike_next : (rules : RuleParts) (a b c : Board) → IsTrue (is_unlimited rules.redeals)
    → IsTrue (deals_to_waste rules.target) → Alike a b → IsNextByStock rules b c → Alike a c
alike_next rules a b c unlimited to_waste h is_next = record {
  kin = Kin-trans a b c h.kin (next_kin rules b c to_waste is_next);
  left = h.left ∙ sym (unlimited_left rules b c unlimited to_waste is_next);
}

again_at : (rules : RuleParts) (board next : Board) (k : ℕ) (boards : ℕ → Board)
    → IsTrue (is_unlimited rules.redeals) → 1 ≤ rules.draw
    → IsTrue (deals_to_waste rules.target) → IsStockRun rules board k boards → IsNextByStock rules (boards k) next
    → (j : ℕ) → j ≤ k → boards j ≡ next → ComesAgain board boards k next
again_at rules board next k boards unlimited draws to_waste run is_next zero h same =
    inl (ap (λ (x : Board). length x.stock) (sym same ∙ run.first))
again_at rules board next k boards unlimited draws to_waste run is_next (suc j) h same =
    let cases : (length next.stock ≡ 0) ⊎ (0 < length next.stock) = grind arith in
    elim cases [
      | inl none ↦
          let empty : next.stock ≡ [] = nil_from_length next.stock none in
          inr (empty, (suc j, h, ap (λ (x : Board). x.stock) same ∙ empty))
      | inr some ↦
          let before : boards j ≡ boards k =
          one_before rules (boards j) (boards (suc j)) (boards k) next draws to_waste
          (alike_upto rules board k boards unlimited to_waste run j (omega arith)) (run.next j h) is_next same
          (omega (arith, ap (λ (x : Board). length x.stock) same)) in
          absurd (run.apart j k h (omega arith) before)
    ]

pub comes_again : (rules : RuleParts) (board next : Board) (k : ℕ) (boards : ℕ → Board)
    → IsTrue (is_unlimited rules.redeals) → 1 ≤ rules.draw
    → IsTrue (deals_to_waste rules.target) → IsStockRun rules board k boards → IsNextByStock rules (boards k) next
    → StandsBefore boards k next ↔ ComesAgain board boards k next
comes_again rules board next k boards unlimited draws to_waste run is_next = (
  λ at. again_at rules board next k boards unlimited draws to_waste run is_next at.0 at.1 at.2,
  λ again. elim again [
    | inl lengths ↦
        let alike : Alike (boards 0) next =
        alike_next rules (boards 0) (boards k) next unlimited to_waste
        (alike_upto rules board k boards unlimited to_waste run 0 (omega arith)) is_next in (
          0,
          omega arith,
          same_length (boards 0) next alike.kin alike.left
              (ap (λ (x : Board). length x.stock) run.first ∙ sym lengths),
        )
    | inr empty ↦
        let alike : Alike (boards empty.1.0) next =
        alike_next rules (boards empty.1.0) (boards k) next unlimited to_waste
        (alike_upto rules board k boards unlimited to_waste run empty.1.0 empty.1.1) is_next in (
          empty.1.0,
          empty.1.1,
          same_length (boards empty.1.0) next alike.kin alike.left
              (ap (λ (xs : List Card). length xs) (empty.1.2 ∙ sym empty.0)),
        )
  ],
)
