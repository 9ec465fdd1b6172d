use Rattle.std.proofs.Common.{◌≡◌, ◌≤◌, ◌+◌, ℕ, ap, sym, refl, ◌∙◌, arith, ◌∷◌, [], Result, Ok, Err, false}
use Rattle.std.specs.Prelude.{OnOk, IsErr}
use Rattle.node_budget.specs.declared.SpentAll.{SpentAll}
use Rattle.game_rules.specs.Winning.{is_won}
use Rattle.shortest_line.proofs.Trying.{not_won}
use Rattle.shortest_line.proofs.Answering.{level-first}
use Rattle.shortest_line.proofs.searching.search_levels.Goals as goal

-- a call that did not refuse
went : (r : Result (Unit {0}) SpentAll) (P : Type 0) → (IsErr r → ⊥) → OnOk r P → P
went (Ok u) P fine h = h
went (Err e) P fine h = absurd (fine refl)

pub run-requires-clause-level : goal.run-requires-clause-level
run-requires-clause-level c =
    let rules = c.args.rules.now in
    let start = c.args.start.now in
    let limit = c.new-budget.ensures.limit in
    let none = c.new-budget.ensures.spent in
    let some = c.requires.some_nodes in
    let few = c.requires.few_nodes in
    let stays = c.spend.ensures.limit_stays in
    let spent : c.spend.new.self.spent ≡ c.new-budget.result.spent + 1 =
    went c.spend.result _ (λ h. let full = c.spend.ensures.spent_all.0 h in absurd (omega arith)) c.spend.ensures.one_more in
    level-first rules start c.parts.ensures.playable c.requires.belongs
    (record { kept = c.in_ok-kept.kept; budget = c.spend.new.self; further = false })
    (c.in_ok-kept.ensures ∙ ap (λ key. record { keys = key ∷ []; lines = [] ∷ [] }) c.key_of_board.ensures)
    refl (omega arith) (omega arith) (omega arith)
    (not_won rules start (is_won rules start) refl c.requires.not_won)
