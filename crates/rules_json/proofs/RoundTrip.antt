-- The one spelling of rules reads as these rules.
use Rattle.std.proofs.Common.{◌≡◌, ◌≤◌, ◌∙◌, ◌||◌, ℕ, List, Bool, true, false, length, refl, ap, Ok, Some, IsUtf8}
use Rattle.std.proofs.Common.{lit≤, max}
use Rattle.serde_json.specs.Data.{Data, object, put, depth}
use Rattle.serde_json.specs.Read.{read, max_depth}
use Rattle.serde_json.specs.Written.{has_float, compact_text}
use Rattle.json_tree.proofs.Reading.{tree_of-read, object_of-tree}
use Rattle.game_rules.specs.declared.RuleParts.{RuleParts}
use Rattle.game_rules.specs.declared.Goal.{Goal}
use Rattle.game_rules.specs.declared.Goal.TheVariants.{Foundations, Hole, Sequences}
use Rattle.game_rules.specs.declared.Redeals.{Redeals}
use Rattle.game_rules.specs.declared.Redeals.TheVariants.{Times, Unlimited}
use Rattle.game_rules.specs.Playable.{IsPlayable}
use Rattle.rules_json.specs.NamedStart.{HasNamedStart}
use Rattle.rules_json.specs.Spelling.{redeals_tree, goal_key, goal_tree, common_parts, rules_tree, rules_text}
use Rattle.rules_json.specs.RulesFile.{rules_of}
use Rattle.rules_json.proofs.Reading.{rules_of-object}
use Rattle.rules_json.proofs.Spelled.{within_of, rules_of_tree-tree}
use Rattle.rules_json.proofs.Lengths.{length-rules_text}

has_float-redeals_tree : (redeals : Redeals) → has_float (redeals_tree redeals) ≡ false
has_float-redeals_tree (Times n) = refl
has_float-redeals_tree Unlimited = refl

depth-redeals_tree : (redeals : Redeals) → depth (redeals_tree redeals) ≡ 0
depth-redeals_tree (Times n) = refl
depth-redeals_tree Unlimited = refl

has_float-goal : (rules : RuleParts) (goal : Goal)
    → has_float (object (put (goal_key goal) (goal_tree goal) (common_parts rules))) ≡ false
has_float-goal rules (Foundations base started take_back complete_runs) = rw (has_float-redeals_tree rules.redeals) refl
has_float-goal rules (Hole wrap start) = rw (has_float-redeals_tree rules.redeals) refl
has_float-goal rules Sequences = rw (has_float-redeals_tree rules.redeals) refl

depth-goal : (rules : RuleParts) (goal : Goal)
    → depth (object (put (goal_key goal) (goal_tree goal) (common_parts rules))) ≡ 2
depth-goal rules (Foundations base started take_back complete_runs) = rw (depth-redeals_tree rules.redeals) refl
depth-goal rules (Hole wrap start) = rw (depth-redeals_tree rules.redeals) refl
depth-goal rules Sequences = rw (depth-redeals_tree rules.redeals) refl

-- What `serde_json` writes of the tree reads as the rules.
pub rules_of-written : (rules : RuleParts) (tree : Data) (text : List ℕ) → IsPlayable rules → HasNamedStart rules.goal
    → tree ≡ rules_tree rules
    → (has_float tree ≡ false → text ≡ compact_text tree) → IsUtf8 text
    → (depth tree ≤ max_depth → read text ≡ Some tree)
    → rules_of text ≡ Ok rules
rules_of-written rules tree text playable named is spells utf8 reads =
    let exact : has_float tree ≡ false = ap has_float is ∙ has_float-goal rules rules.goal in
    let shallow : depth tree ≤ max_depth = rw (ap depth is ∙ depth-goal rules rules.goal) (lit≤ tt) in
    let written : text ≡ rules_text rules = spells exact ∙ ap compact_text is in
    let short : length text ≤ 65536 = rw written (length-rules_text rules (within_of rules playable)) in
    let back = tree_of-read text (rules_tree rules) utf8 (reads shallow ∙ ap Some is) in
    rules_of-object text (rules_tree rules) (object_of-tree text short (Some (rules_tree rules)) back)
    ∙ rules_of_tree-tree rules playable named
