-- Where redeals are unlimited, a run of stock moves with no board twice has at most as many moves as stock and waste
-- have cards.
use Rattle.std.proofs.Common.{◌≡◌, ◌≢◌, ◌⊎◌, inl, inr, ℕ, zero, suc, ◌+◌, ◌-◌, ◌<◌, ◌≤◌, length, refl, ap, sym, ◌∙◌}
use Rattle.std.proofs.Common.{arith, IsTrue, ◌==◌, if◌then◌else◌}
use Rattle.std.proofs.lemmas.Bool.Decides.{nat_tests}
use Rattle.game_rules.specs.declared.RuleParts.{RuleParts}
use Rattle.game_rules.specs.Rules.{deals_to_waste, is_unlimited}
use Rattle.game_rules.specs.Playable.{IsPlayable, HasLimits}
use Rattle.game_rules.specs.Belonging.{Belongs}
use Rattle.game_rules.specs.Board.{Board}
use Rattle.game_rules.specs.NextByStock.{IsNextByStock}
use Rattle.stock_steps.specs.StockSteps.{IsStockRun, StockStep}
use Rattle.stock_steps.specs.declared.Step.{Step}
use Rattle.game_rules.proofs.Limits.{limits_of}
use Rattle.stock_steps.proofs.StockKin.{Kin, Kin-refl, Kin-trans, size, next_cases, next_kin, kin_size}
use Rattle.stock_steps.proofs.StockKin.{dealt_redeals, same_length}

abbrev moved_hole : (f : ℕ → ℕ) (top last : ℕ) → ℕ → ℕ
moved_hole f top last i = if f i == top then last else f i

hole_cases : (f : ℕ → ℕ) (top last i : ℕ) → (f i ≡ top) × (moved_hole f top last i ≡ last) ⊎ (f i ≢ top)
    × (moved_hole f top last i ≡ f i)
hole_cases f top last i = grind (arith, nat_tests)

-- so many different numbers have one that is as great
pigeons : (n k : ℕ) (f : ℕ → ℕ) → ((i : ℕ) → i ≤ k → f i ≤ n) → ((i j : ℕ) → i < j → j ≤ k → f i ≢ f j) → k ≤ n
pigeons n zero f low apart = omega arith
pigeons zero (suc k) f low apart =
    absurd (apart 0 (suc k) (omega arith) (omega arith) (omega (arith, low 0 (omega arith), low (suc k) (omega arith))))
pigeons (suc n) (suc k) f low apart =
    let g : ℕ → ℕ = moved_hole f (suc n) (f (suc k)) in
    let g_low : (i : ℕ) → i ≤ k → g i ≤ n = λ i h.
    elim (hole_cases f (suc n) (f (suc k)) i) [
      | inl at ↦
          let other : f i ≢ f (suc k) = apart i (suc k) (omega arith) (omega arith) in
          omega (arith, at.0, at.1, low (suc k) (omega arith), other)
      | inr off ↦ omega (arith, off.0, off.1, low i (omega arith))
    ] in
    let g_apart : (i j : ℕ) → i < j → j ≤ k → g i ≢ g j = λ i j h l e.
    let other : f i ≢ f j = apart i j h (omega arith) in
    let first : f i ≢ f (suc k) = apart i (suc k) (omega arith) (omega arith) in
    let second : f j ≢ f (suc k) = apart j (suc k) (omega arith) (omega arith) in
    elim (hole_cases f (suc n) (f (suc k)) i) [
      | inl a ↦ elim (hole_cases f (suc n) (f (suc k)) j) [
        | inl b ↦ other (a.0 ∙ sym b.0)
        | inr b ↦ second (sym (sym a.1 ∙ e ∙ b.1))
      ]
      | inr a ↦ elim (hole_cases f (suc n) (f (suc k)) j) [
        | inl b ↦ first (sym a.1 ∙ e ∙ b.1)
        | inr b ↦ other (sym a.1 ∙ e ∙ b.1)
      ]
    ] in
    let rest : k ≤ n = pigeons n k g g_low g_apart in
    omega arith

pub unlimited_left : (rules : RuleParts) (a b : Board) → IsTrue (is_unlimited rules.redeals)
    → IsTrue (deals_to_waste rules.target) → IsNextByStock rules a b
    → b.redeals_left ≡ a.redeals_left
unlimited_left rules a b unlimited to_waste next = elim (next_cases rules a b to_waste next) [
  | inl dealt ↦ dealt_redeals rules a b dealt
  | inr redealt ↦
      let left : b.redeals_left ≡ (if is_unlimited rules.redeals then a.redeals_left else a.redeals_left - 1) =
      ap (λ (x : Board). x.redeals_left) redealt.is_after in
      rw unlimited at left
]

-- boards of one queue with equal redeals
pub record Alike (a b : Board) : Type 0 where
  pub kin : Kin a b
  pub left : a.redeals_left ≡ b.redeals_left

pub run_alike : (rules : RuleParts) (board : Board) (k : ℕ) (boards : ℕ → Board) → IsTrue (is_unlimited rules.redeals)
    → IsTrue (deals_to_waste rules.target)
    → IsStockRun rules board k boards → (i n : ℕ) → i + n ≤ k → Alike (boards i) (boards (n + i))
run_alike rules board k boards unlimited to_waste run i zero h =
    let e : 0 + i ≡ i = omega arith in
    rw e (record { kin = Kin-refl (boards i); left = refl })
run_alike rules board k boards unlimited to_waste run i (suc n) h =
    let before : Alike (boards i) (boards (n + i)) = run_alike rules board k boards unlimited to_waste run i
    n (omega arith) in
    let next : IsNextByStock rules (boards (n + i)) (boards (suc (n + i))) = run.next (n + i) (omega arith) in
    let e : suc n + i ≡ suc (n + i) = omega arith in
    rw e (record {
      kin = Kin-trans (boards i) (boards (n + i)) (boards (suc (n + i))) before.kin
          (next_kin rules (boards (n + i)) (boards (suc (n + i))) to_waste next);
      left = before.left ∙ sym (unlimited_left rules (boards (n + i)) (boards (suc (n + i))) unlimited to_waste next);
    })

pub unlimited_run : (rules : RuleParts) (board : Board) (k : ℕ) (boards : ℕ → Board)
    → IsTrue (is_unlimited rules.redeals) → IsTrue (deals_to_waste rules.target)
    → IsStockRun rules board k boards → k ≤ size board
unlimited_run rules board k boards unlimited to_waste run =
    pigeons (size board) k (λ i. length (boards i).stock)
    (λ i h.
    let e : i + 0 ≡ i = omega arith in
    let alike : Alike (boards 0) (boards (i + 0)) = run_alike rules board k boards unlimited to_waste run 0
    i (omega arith) in
    let sizes : size (boards 0) ≡ size (boards (i + 0)) = kin_size (boards 0) (boards (i + 0)) alike.kin in
    let whole : size board ≡ size (boards i) = ap size (sym run.first) ∙ sizes ∙ ap (λ (n : ℕ). size (boards n)) e in
    omega arith)
    (λ i j h l same.
    let n : ℕ = j - i in
    let e : n + i ≡ j = omega arith in
    let alike : Alike (boards i) (boards (n + i)) = run_alike rules board k boards unlimited to_waste run i
    n (omega arith) in
    let lengths : length (boards i).stock ≡ length (boards (n + i)).stock = same
    ∙ sym (ap (λ (m : ℕ). length (boards m).stock) e) in
    run.apart i j h l (same_length (boards i) (boards (n + i)) alike.kin alike.left lengths ∙ ap boards e))

pub unlimited_deals : (rules : RuleParts) (board : Board) (step : Step) → IsPlayable rules → Belongs rules board
    → IsTrue (is_unlimited rules.redeals)
    → StockStep rules board step → step.deals ≤ 84
unlimited_deals rules board step playable belongs unlimited is_step =
    let limits : HasLimits rules = limits_of rules playable in
    let most : step.deals ≤ size board = unlimited_run rules board step.deals is_step.boards unlimited
    is_step.to_waste is_step.run in
    omega (arith, belongs.stock, limits.stock)
