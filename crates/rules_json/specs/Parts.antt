-- The table of a rules file: the parts with their keys in order, each with its limits or words and its default.
use Rattle.std.specs.Prelude.{ℕ, List, [], ◌∷◌, true, false, Option, Some, Result, Ok, codes}
use Rattle.serde_json.specs.Data.{Data}
use Rattle.json_tree.specs.Fields.{field}
use Rattle.json_tree.specs.Choice.{◌>>=◌}
use Rattle.card_piles.specs.declared.Build.TheVariants.{NoBuild}
use Rattle.game_rules.specs.declared.Layout.TheVariants.{Even}
use Rattle.game_rules.specs.declared.Face.TheVariants.{AllUp}
use Rattle.game_rules.specs.declared.Groups.TheVariants.{One}
use Rattle.game_rules.specs.declared.Spaces.TheVariants.{Any}
use Rattle.game_rules.specs.declared.Target.TheVariants.{ToWaste}
use Rattle.game_rules.specs.declared.HoleStart.TheVariants.{Dealt}
use Rattle.game_rules.specs.declared.Goal.{Goal}
use Rattle.game_rules.specs.declared.Goal.TheVariants as goal
use Rattle.rules_json.specs.declared.fault.RulePart.TheVariants as part
use Rattle.rules_json.specs.declared.fault.RulesFault.{RulesFault}
use Rattle.rules_json.specs.declared.parts.TopKeys.{TopKeys}
use Rattle.rules_json.specs.declared.parts.TableauKeys.{TableauKeys}
use Rattle.rules_json.specs.declared.parts.CellsKeys.{CellsKeys}
use Rattle.rules_json.specs.declared.parts.ReserveKeys.{ReserveKeys}
use Rattle.rules_json.specs.declared.parts.StockKeys.{StockKeys}
use Rattle.rules_json.specs.Words.{layout_named, face_named, build_named, groups_named, spaces_named}
use Rattle.rules_json.specs.Words.{target_named, start_named}
use Rattle.rules_json.specs.Values.{part_with, number, truth, word, redeals}

-- the whole object: two numbers, and the other parts
unfoldable pub top_of : Data → Result TopKeys RulesFault
top_of top = do
  _ ← part_with part.Top (codes "decks" ∷ codes "max rank" ∷ codes "tableau" ∷ codes "foundations" ∷ codes "hole"
      ∷ codes "sequences" ∷ codes "cells" ∷ codes "reserve" ∷ codes "stock" ∷ []) (Some top)
  decks ← number part.Top 1 2 1 (field (Some top) (codes "decks"))
  max_rank ← number part.Top 1 13 13 (field (Some top) (codes "max rank"))
  Ok (record { decks = decks; max_rank = max_rank })

-- the piles: how they are laid out, how cards build, which groups move, and what fills a space
unfoldable pub tableau_of : Option Data → Result TableauKeys RulesFault
tableau_of tableau = do
  _ ← part_with part.Tableau (codes "piles" ∷ codes "layout" ∷ codes "face" ∷ codes "build" ∷ codes "wrap"
      ∷ codes "groups" ∷ codes "group build" ∷ codes "spaces" ∷ []) tableau
  piles ← number part.Tableau 0 20 0 (field tableau (codes "piles"))
  layout ← word part.Tableau layout_named Even (field tableau (codes "layout"))
  face ← word part.Tableau face_named AllUp (field tableau (codes "face"))
  build ← word part.Tableau build_named NoBuild (field tableau (codes "build"))
  wrap ← truth part.Tableau false (field tableau (codes "wrap"))
  groups ← word part.Tableau groups_named One (field tableau (codes "groups"))
  group_build ← word part.Tableau build_named build (field tableau (codes "group build"))
  spaces ← word part.Tableau spaces_named Any (field tableau (codes "spaces"))
  Ok (record {
    piles = piles;
    layout = layout;
    face = face;
    build = build;
    wrap = wrap;
    groups = groups;
    group_build = group_build;
    spaces = spaces;
  })

-- the goal Foundations, and how they are filled
unfoldable pub foundations_of : Option Data → Result Goal RulesFault
foundations_of foundations = do
  _ ← part_with part.Foundations
      (codes "base" ∷ codes "started" ∷ codes "take back" ∷ codes "complete runs" ∷ []) foundations
  base ← number part.Foundations 1 13 1 (field foundations (codes "base"))
  started ← truth part.Foundations false (field foundations (codes "started"))
  take_back ← truth part.Foundations false (field foundations (codes "take back"))
  complete_runs ← truth part.Foundations false (field foundations (codes "complete runs"))
  Ok (goal.Foundations base started take_back complete_runs)

-- the goal Hole, whether its ranks wrap round and how it begins
unfoldable pub hole_of : Option Data → Result Goal RulesFault
hole_of hole = do
  _ ← part_with part.Hole (codes "wrap" ∷ codes "start" ∷ []) hole
  wrap ← truth part.Hole true (field hole (codes "wrap"))
  start ← word part.Hole start_named Dealt (field hole (codes "start"))
  Ok (goal.Hole wrap start)

-- the goal Sequences, which has no keys
unfoldable pub sequences_of : Option Data → Result Goal RulesFault
sequences_of sequences = do
  _ ← part_with part.Sequences [] sequences
  Ok goal.Sequences

-- how many cells there are, and how many a deal fills
unfoldable pub cells_of : Option Data → Result CellsKeys RulesFault
cells_of cells = do
  _ ← part_with part.Cells (codes "count" ∷ codes "filled" ∷ []) cells
  count ← number part.Cells 0 16 0 (field cells (codes "count"))
  filled ← number part.Cells 0 16 0 (field cells (codes "filled"))
  Ok (record { count = count; filled = filled })

-- how many cards the reserve has, and whether they lie on one another
unfoldable pub reserve_of : Option Data → Result ReserveKeys RulesFault
reserve_of reserve = do
  _ ← part_with part.Reserve (codes "size" ∷ codes "stacked" ∷ []) reserve
  size ← number part.Reserve 0 52 0 (field reserve (codes "size"))
  stacked ← truth part.Reserve false (field reserve (codes "stacked"))
  Ok (record { size = size; stacked = stacked })

-- how many cards the stock has, where they are dealt to, how many at once, and how often again
unfoldable pub stock_of : Option Data → Result StockKeys RulesFault
stock_of stock = do
  _ ← part_with part.Stock (codes "size" ∷ codes "to" ∷ codes "draw" ∷ codes "redeals" ∷ []) stock
  size ← number part.Stock 0 84 0 (field stock (codes "size"))
  target ← word part.Stock target_named ToWaste (field stock (codes "to"))
  draw ← number part.Stock 1 10 1 (field stock (codes "draw"))
  redeals ← redeals (field stock (codes "redeals"))
  Ok (record { size = size; target = target; draw = draw; redeals = redeals })
