-- The tree of playable rules reads as these rules, part by part.
use Rattle.std.proofs.Common.{◌≡◌, ◌∙◌, ◌&&◌, ℕ, Bool, true, false, refl, ap, Ok, Some, None, IsTrue, arith}
use Rattle.std.proofs.Common.{nat_le, Result}
use Rattle.std.proofs.lemmas.Bool.Decides.{nat_tests}
use Rattle.serde_json.specs.Data.{object, put}
use Rattle.json_tree.specs.Choice.{◌>>=◌}
use Rattle.game_rules.specs.declared.RuleParts.{RuleParts}
use Rattle.game_rules.specs.declared.Goal.{Goal}
use Rattle.game_rules.specs.declared.Goal.TheVariants.{Foundations, Hole, Sequences}
use Rattle.game_rules.specs.declared.HoleStart.{HoleStart}
use Rattle.game_rules.specs.declared.HoleStart.TheVariants.{Dealt}
use Rattle.game_rules.specs.declared.Redeals.{Redeals}
use Rattle.game_rules.specs.declared.Redeals.TheVariants.{Times, Unlimited}
use Rattle.game_rules.specs.Conflicts.{are_redeals_within, is_base_within, first_conflict}
use Rattle.game_rules.specs.Playable.{IsPlayable}
use Rattle.game_rules.proofs.Limits.{numbers_of, both}
use Rattle.rules_json.specs.Words.{start_named, start_word}
use Rattle.rules_json.specs.NamedStart.{HasNamedStart}
use Rattle.rules_json.specs.Values.{redeals}
use Rattle.rules_json.specs.Parts.{top_of, tableau_of, foundations_of, hole_of, sequences_of, cells_of}
use Rattle.rules_json.specs.Parts.{reserve_of, stock_of}
use Rattle.rules_json.specs.RulesFile.{parts_of_tree, rules_of_tree, or_conflict}
use Rattle.rules_json.specs.Spelling.{tableau_tree, cells_tree, reserve_tree, redeals_tree, stock_tree, goal_key}
use Rattle.rules_json.specs.Spelling.{goal_tree, common_parts, rules_tree}
use Rattle.rules_json.proofs.Named.{layout_named-word, face_named-word, build_named-word, groups_named-word}
use Rattle.rules_json.proofs.Named.{spaces_named-word, target_named-word}

least : (n : ℕ) → nat_le 0 n ≡ true
least n = grind (arith, nat_tests)

tableau_of-tree : (rules : RuleParts) → nat_le rules.piles 20 ≡ true
    → tableau_of (Some (tableau_tree rules))
    ≡ Ok (record {
      piles = rules.piles;
      layout = rules.layout;
      face = rules.face;
      build = rules.build;
      wrap = rules.wrap;
      groups = rules.groups;
      group_build = rules.group_build;
      spaces = rules.spaces;
    })
unfolding tableau_of
tableau_of-tree rules few =
    rw (
      least rules.piles,
      few,
      layout_named-word rules.layout,
      face_named-word rules.face,
      build_named-word
          rules.build,
      groups_named-word rules.groups,
      build_named-word rules.group_build,
      spaces_named-word rules.spaces,
    )
    refl

foundations_of-none : foundations_of None ≡ Ok (Foundations 1 false false false)
unfolding foundations_of
foundations_of-none = refl

foundations_of-tree : (base : ℕ) (started take_back complete_runs : Bool) → nat_le 1 base ≡ true → nat_le base 13 ≡ true
    → foundations_of (Some (goal_tree (Foundations base started take_back complete_runs)))
    ≡ Ok (Foundations base started take_back complete_runs)
unfolding foundations_of
foundations_of-tree base started take_back complete_runs low high = rw (low, high) refl

hole_of-none : hole_of None ≡ Ok (Hole true Dealt)
unfolding hole_of
hole_of-none = refl

hole_of-tree : (wrap : Bool) (start : HoleStart) → start_named (start_word start) ≡ Some start
    → hole_of (Some (goal_tree (Hole wrap start))) ≡ Ok (Hole wrap start)
unfolding hole_of
hole_of-tree wrap start named = rw named refl

sequences_of-none : sequences_of None ≡ Ok Sequences
unfolding sequences_of
sequences_of-none = refl

sequences_of-tree : sequences_of (Some (goal_tree Sequences)) ≡ Ok Sequences
unfolding sequences_of
sequences_of-tree = refl

cells_of-tree : (rules : RuleParts) → nat_le rules.cells 16 ≡ true → nat_le rules.cells_filled 16 ≡ true
    → cells_of (Some (cells_tree rules)) ≡ Ok (record { count = rules.cells; filled = rules.cells_filled })
unfolding cells_of
cells_of-tree rules few less = rw (least rules.cells, few, least rules.cells_filled, less) refl

reserve_of-tree : (rules : RuleParts) → nat_le rules.reserve 52 ≡ true
    → reserve_of (Some (reserve_tree rules)) ≡ Ok (record { size = rules.reserve; stacked = rules.stacked })
unfolding reserve_of
reserve_of-tree rules few = rw (least rules.reserve, few) refl

redeals-tree : (times : Redeals) → are_redeals_within times ≡ true → redeals (Some (redeals_tree times)) ≡ Ok times
redeals-tree (Times n) few = rw (least n, few) refl
redeals-tree Unlimited few = refl

stock_of-tree : (rules : RuleParts) → nat_le rules.stock 84 ≡ true → nat_le 1 rules.draw ≡ true
    → nat_le rules.draw 10 ≡ true → are_redeals_within rules.redeals ≡ true
    → stock_of (Some (stock_tree rules))
    ≡ Ok (record { size = rules.stock; target = rules.target; draw = rules.draw; redeals = rules.redeals })
unfolding stock_of
stock_of-tree rules few some most times =
    rw (least rules.stock, few, target_named-word rules.target, some, most, redeals-tree rules.redeals times) refl

-- the limits of the numbers of playable rules, as tests
pub record AreWithin (rules : RuleParts) : Type 0 where
  pub some_deck : nat_le 1 rules.decks ≡ true
  pub decks : nat_le rules.decks 2 ≡ true
  pub some_rank : nat_le 1 rules.max_rank ≡ true
  pub max_rank : nat_le rules.max_rank 13 ≡ true
  pub piles : nat_le rules.piles 20 ≡ true
  pub base : is_base_within rules.goal ≡ true
  pub cells : nat_le rules.cells 16 ≡ true
  pub filled : nat_le rules.cells_filled 16 ≡ true
  pub reserve : nat_le rules.reserve 52 ≡ true
  pub stock : nat_le rules.stock 84 ≡ true
  pub some_draw : nat_le 1 rules.draw ≡ true
  pub draw : nat_le rules.draw 10 ≡ true
  pub redeals : are_redeals_within rules.redeals ≡ true

pub within_of : (rules : RuleParts) → IsPlayable rules → AreWithin rules
within_of rules playable =
    let n = numbers_of rules playable in
    let decks = both (nat_le 1 rules.decks) (nat_le rules.decks 2) n.decks in
    let rank = both (nat_le 1 rules.max_rank) (nat_le rules.max_rank 13) n.max_rank in
    let draw = both (nat_le 1 rules.draw) (nat_le rules.draw 10) n.draw in
    grind (arith, n, decks, rank, draw)

top_of-tree : (rules : RuleParts) (goal : Goal) → nat_le 1 rules.decks ≡ true → nat_le rules.decks 2 ≡ true
    → nat_le 1 rules.max_rank ≡ true → nat_le rules.max_rank 13 ≡ true
    → top_of (object (put (goal_key goal) (goal_tree goal) (common_parts rules)))
    ≡ Ok (record { decks = rules.decks; max_rank = rules.max_rank })
unfolding top_of
top_of-tree rules (Foundations base started take_back complete_runs) a b c d = rw (a, b, c, d) refl
top_of-tree rules (Hole wrap start) a b c d = rw (a, b, c, d) refl
top_of-tree rules Sequences a b c d = rw (a, b, c, d) refl

-- The goal is a variable here, so that the place of its part can be found by cases.
parts_of_tree-goal : (rules : RuleParts) (goal : Goal) → AreWithin rules → is_base_within goal ≡ true
    → HasNamedStart goal
    → parts_of_tree (object (put (goal_key goal) (goal_tree goal) (common_parts rules)))
    ≡ Ok (record rules { goal = goal })
unfolding parts_of_tree
parts_of_tree-goal rules (Foundations base started take_back complete_runs) h within named =
    let limits = both _ _ within in
    rw (
      top_of-tree rules (Foundations base started take_back complete_runs) h.some_deck h.decks h.some_rank h.max_rank,
      tableau_of-tree rules h.piles,
      foundations_of-tree base started take_back complete_runs limits.0 limits.1,
      hole_of-none,
      sequences_of-none,
      cells_of-tree rules h.cells h.filled,
      reserve_of-tree rules h.reserve,
      stock_of-tree rules h.stock h.some_draw h.draw h.redeals,
    ) refl
parts_of_tree-goal rules (Hole wrap start) h within named =
    rw (
      top_of-tree rules (Hole wrap start) h.some_deck h.decks h.some_rank h.max_rank,
      tableau_of-tree rules h.piles,
      foundations_of-none,
      hole_of-tree wrap start named,
      sequences_of-none,
      cells_of-tree rules h.cells h.filled,
      reserve_of-tree rules h.reserve,
      stock_of-tree rules h.stock h.some_draw h.draw h.redeals,
    ) refl
parts_of_tree-goal rules Sequences h within named =
    rw (
      top_of-tree rules Sequences h.some_deck h.decks h.some_rank h.max_rank,
      tableau_of-tree rules h.piles,
      foundations_of-none,
      hole_of-none,
      sequences_of-tree,
      cells_of-tree rules h.cells h.filled,
      reserve_of-tree rules h.reserve,
      stock_of-tree rules h.stock h.some_draw h.draw h.redeals,
    ) refl

pub rules_of_tree-tree : (rules : RuleParts) → IsPlayable rules → HasNamedStart rules.goal
    → rules_of_tree (rules_tree rules) ≡ Ok rules
rules_of_tree-tree rules playable named =
    let within = within_of rules playable in
    ap (λ r. r >>= λ parts. or_conflict parts (first_conflict parts))
    (parts_of_tree-goal rules rules.goal within within.base named)
    ∙ ap (or_conflict rules) playable.no_conflict
