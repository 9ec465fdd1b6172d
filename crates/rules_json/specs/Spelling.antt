-- The one spelling of rules: the compact text of an object that has every key, in the order of the keys' bytes.
use Rattle.std.specs.Prelude.{ℕ, List, codes}
use Rattle.serde_json.specs.Data.{Data, number, unsigned, boolean, string, object, Members, no_members, member, put}
use Rattle.serde_json.specs.Written.{compact_text}
use Rattle.game_rules.specs.declared.RuleParts.{RuleParts}
use Rattle.game_rules.specs.declared.Goal.{Goal}
use Rattle.game_rules.specs.declared.Goal.TheVariants.{Foundations, Hole, Sequences}
use Rattle.game_rules.specs.declared.Redeals.{Redeals}
use Rattle.game_rules.specs.declared.Redeals.TheVariants.{Times, Unlimited}
use Rattle.rules_json.specs.Words.{layout_word, face_word, build_word, groups_word, spaces_word}
use Rattle.rules_json.specs.Words.{target_word, start_word}

-- the part `tableau` with all its keys
abbrev pub tableau_tree : RuleParts → Data
tableau_tree rules = object
    (member (codes "build") (string (build_word rules.build))
    (member (codes "face") (string (face_word rules.face))
    (member (codes "group build") (string (build_word rules.group_build))
    (member (codes "groups") (string (groups_word rules.groups))
    (member (codes "layout") (string (layout_word rules.layout))
    (member (codes "piles") (number (unsigned rules.piles))
    (member (codes "spaces") (string (spaces_word rules.spaces))
    (member (codes "wrap") (boolean rules.wrap) no_members))))))))

-- the part `cells` with all its keys
abbrev pub cells_tree : RuleParts → Data
cells_tree rules = object
    (member (codes "count") (number (unsigned rules.cells))
    (member (codes "filled") (number (unsigned rules.cells_filled)) no_members))

-- the part `reserve` with all its keys
abbrev pub reserve_tree : RuleParts → Data
reserve_tree rules = object
    (member (codes "size") (number (unsigned rules.reserve))
    (member (codes "stacked") (boolean rules.stacked) no_members))

-- the number of redeals, or the word for no end of them
abbrev pub redeals_tree : Redeals → Data
redeals_tree (Times times) = number (unsigned times)
redeals_tree Unlimited = string (codes "unlimited")

-- the part `stock` with all its keys
abbrev pub stock_tree : RuleParts → Data
stock_tree rules = object
    (member (codes "draw") (number (unsigned rules.draw))
    (member (codes "redeals") (redeals_tree rules.redeals)
    (member (codes "size") (number (unsigned rules.stock))
    (member (codes "to") (string (target_word rules.target)) no_members))))

-- the key of the part that a goal has for itself
abbrev pub goal_key : Goal → List ℕ
goal_key (Foundations base started take_back complete_runs) = codes "foundations"
goal_key (Hole wrap start) = codes "hole"
goal_key Sequences = codes "sequences"

-- the part of a goal with all its keys
abbrev pub goal_tree : Goal → Data
goal_tree (Foundations base started take_back complete_runs) = object
    (member (codes "base") (number (unsigned base))
    (member (codes "complete runs") (boolean complete_runs)
    (member (codes "started") (boolean started)
    (member (codes "take back") (boolean take_back) no_members))))
goal_tree (Hole wrap start) = object
    (member (codes "start") (string (start_word start))
    (member (codes "wrap") (boolean wrap) no_members))
goal_tree Sequences = object no_members

-- the parts that every game has
abbrev pub common_parts : RuleParts → Members
common_parts rules =
    member (codes "cells") (cells_tree rules)
    (member (codes "decks") (number (unsigned rules.decks))
    (member (codes "max rank") (number (unsigned rules.max_rank))
    (member (codes "reserve") (reserve_tree rules)
    (member (codes "stock") (stock_tree rules)
    (member (codes "tableau") (tableau_tree rules) no_members)))))

-- these parts and that of the goal, at its place among the keys
abbrev pub rules_tree : RuleParts → Data
rules_tree rules = object (put (goal_key rules.goal) (goal_tree rules.goal) (common_parts rules))

-- the one text of rules
abbrev pub rules_text : RuleParts → List ℕ
rules_text rules = compact_text (rules_tree rules)
