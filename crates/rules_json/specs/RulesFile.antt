-- The rules that a file gives, or the first of its faults.
use Rattle.std.specs.Prelude.{ℕ, ◌&&◌, ◌||◌, List, Bool, Option, Some, None, Result, Ok, Err, codes}
use Rattle.std.specs.Prelude.{if◌then◌else◌, is_some}
use Rattle.std.specs.Result.{result_map_both}
use Rattle.serde_json.specs.Data.{Data}
use Rattle.serde_json.specs.Find.{get}
use Rattle.json_tree.specs.Tree.{object_of}
use Rattle.json_tree.specs.Choice.{◌>>=◌}
use Rattle.game_rules.specs.declared.RuleParts.{RuleParts}
use Rattle.game_rules.specs.declared.Goal.{Goal}
use Rattle.game_rules.specs.declared.Goal.TheVariants.{Sequences}
use Rattle.game_rules.specs.Conflicts.{first_conflict}
use Rattle.rules_json.specs.declared.fault.RulesFault.{RulesFault}
use Rattle.rules_json.specs.declared.fault.RulesFault.TheVariants.{Conflict}
use Rattle.rules_json.specs.Faults.{of_file}
use Rattle.rules_json.specs.Parts.{top_of, tableau_of, foundations_of, hole_of, sequences_of, cells_of}
use Rattle.rules_json.specs.Parts.{reserve_of, stock_of}

-- the goal of the part that is there, or Foundations; two such parts are the first conflict
abbrev pub chosen_goal : Bool → Bool → Bool → Goal → Goal → Result Goal RulesFault
chosen_goal has_foundations has_hole has_sequences foundations hole =
    if (has_foundations && has_hole) || (has_foundations && has_sequences) || (has_hole && has_sequences)
    then Err (Conflict 1) else
    if has_hole then Ok hole else
    if has_sequences then Ok Sequences else Ok foundations

-- what the parts say together: each part's first fault in the order of the parts, and then the first conflict
unfoldable pub parts_of_tree : Data → Result RuleParts RulesFault
parts_of_tree top = do
  numbers ← top_of top
  tableau ← tableau_of (get (codes "tableau") top)
  foundations ← foundations_of (get (codes "foundations") top)
  hole ← hole_of (get (codes "hole") top)
  _ ← sequences_of (get (codes "sequences") top)
  cells ← cells_of (get (codes "cells") top)
  reserve ← reserve_of (get (codes "reserve") top)
  stock ← stock_of (get (codes "stock") top)
  goal ← chosen_goal (is_some (get (codes "foundations") top)) (is_some (get (codes "hole") top))
      (is_some (get (codes "sequences") top)) foundations hole
  Ok (record {
    decks = numbers.decks;
    max_rank = numbers.max_rank;
    piles = tableau.piles;
    layout = tableau.layout;
    face = tableau.face;
    build = tableau.build;
    wrap = tableau.wrap;
    groups = tableau.groups;
    group_build = tableau.group_build;
    spaces = tableau.spaces;
    goal = goal;
    cells = cells.count;
    cells_filled = cells.filled;
    reserve = reserve.size;
    stacked = reserve.stacked;
    stock = stock.size;
    target = stock.target;
    draw = stock.draw;
    redeals = stock.redeals;
  })

-- the least of the other conflicts
abbrev pub or_conflict : RuleParts → Option ℕ → Result RuleParts RulesFault
or_conflict parts None = Ok parts
or_conflict parts (Some number) = Err (Conflict number)

-- the parts, or their first conflict
abbrev pub rules_of_tree : Data → Result RuleParts RulesFault
rules_of_tree top = parts_of_tree top >>= λ parts. or_conflict parts (first_conflict parts)

-- the rules that the bytes of a file give, or the first of their faults
unfoldable pub rules_of : List ℕ → Result RuleParts RulesFault
rules_of bytes = result_map_both (λ top. top) of_file (object_of bytes) >>= rules_of_tree
