-- The one spelling of rules is short enough to be read.
use Rattle.std.proofs.Common.{◌≡◌, ◌≤◌, ◌<◌, ◌+◌, ◌*◌, ◌^◌, ◌++◌, ℕ, List, [], ◌∷◌, Bool, true, false, cond, length}
use Rattle.std.proofs.Common.{refl, arith, nat_le, nat_lt, decimal, length-append, lit≤, flat_map}
use Rattle.std.proofs.lemmas.Bool.Decides.{nat_tests}
use Rattle.std.proofs.lemmas.Fmt.{length-decimal-le}
use Rattle.json.specs.Print.{escape_byte, escape_letter, quoted}
use Rattle.serde_json.specs.Data.{Data, null, boolean, number, string, array, object, Items, no_items, item, Members}
use Rattle.serde_json.specs.Data.{no_members, member, put}
use Rattle.serde_json.specs.Written.{compact_text, items_text, members_text, number_text, comma_if}
use Rattle.card_piles.specs.declared.Build.{Build}
use Rattle.card_piles.specs.declared.Build.TheVariants.{NoBuild, AnySuit, RedBlack, SameSuit}
use Rattle.game_rules.specs.declared.RuleParts.{RuleParts}
use Rattle.game_rules.specs.declared.Layout.{Layout}
use Rattle.game_rules.specs.declared.Layout.TheVariants.{Even, Triangle}
use Rattle.game_rules.specs.declared.Face.{Face}
use Rattle.game_rules.specs.declared.Face.TheVariants.{AllUp, TopUp}
use Rattle.game_rules.specs.declared.Groups.{Groups}
use Rattle.game_rules.specs.declared.Groups.TheVariants.{One, Run}
use Rattle.game_rules.specs.declared.Spaces.{Spaces}
use Rattle.game_rules.specs.declared.Spaces.TheVariants.{Any, King, NoFill}
use Rattle.game_rules.specs.declared.Target.{Target}
use Rattle.game_rules.specs.declared.Target.TheVariants.{ToWaste, ToTableau, ToHole}
use Rattle.game_rules.specs.declared.Goal.{Goal}
use Rattle.game_rules.specs.declared.Goal.TheVariants.{Foundations, Hole, Sequences}
use Rattle.game_rules.specs.declared.HoleStart.{HoleStart}
use Rattle.game_rules.specs.declared.HoleStart.TheVariants.{Dealt, Named}
use Rattle.game_rules.specs.declared.Redeals.{Redeals}
use Rattle.game_rules.specs.declared.Redeals.TheVariants.{Times, Unlimited}
use Rattle.game_rules.specs.Conflicts.{are_redeals_within, is_base_within}
use Rattle.game_rules.proofs.Limits.{both}
use Rattle.rules_json.specs.Words.{layout_word, face_word, build_word, groups_word, spaces_word}
use Rattle.rules_json.specs.Words.{target_word, start_word}
use Rattle.rules_json.specs.Spelling.{tableau_tree, cells_tree, reserve_tree, redeals_tree, stock_tree, goal_key}
use Rattle.rules_json.specs.Spelling.{goal_tree, common_parts, rules_tree, rules_text}
use Rattle.rules_json.proofs.Spelled.{AreWithin}

shorter : (a b c : ℕ) → a ≤ b → b ≤ c → a ≤ c
shorter a b c h k = omega arith

-- a bound on the length of a tree's text: a byte of a string takes at most six
abbrev mutual
  size : Data → ℕ
  size null = 4
  size (boolean b) = 5
  size (number n) = length (number_text n)
  size (string s) = 6 * length s + 2
  size (array ds) = items_size ds + 1
  size (object ms) = members_size ms + 1

  items_size : Items → ℕ
  items_size no_items = 1
  items_size (item d ds) = 1 + size d + items_size ds

  members_size : Members → ℕ
  members_size no_members = 1
  members_size (member k d ms) = 2 + (6 * length k + 2) + size d + members_size ms

length-cond : (b : Bool) (x y : List ℕ) (n : ℕ) → length x ≤ n → length y ≤ n → length (cond b x y) ≤ n
length-cond true x y n h k = h
length-cond false x y n h k = k

length-escape_byte : (x : ℕ) → length (escape_byte x) ≤ 6
unfolding escape_byte
length-escape_byte x =
    length-cond (nat_lt 0 (escape_letter x)) _ _ 6 (lit≤ tt) (length-cond (nat_lt x 32) _ _ 6 (lit≤ tt) (lit≤ tt))

length-escape : (s : List ℕ) → length (flat_map escape_byte s) ≤ 6 * length s
length-escape [] = lit≤ tt
length-escape (x ∷ s) =
    let first = length-escape_byte x in
    let rest = length-escape s in
    rw (length-append (escape_byte x) (flat_map escape_byte s)) (omega arith)

length-quoted : (s : List ℕ) → length (quoted s) ≤ 6 * length s + 2
length-quoted s =
    let inner = length-escape s in
    rw (length-append (flat_map escape_byte s) (34 ∷ [])) (omega arith)

length-comma_if : (later : Bool) → length (comma_if later) ≤ 1
length-comma_if true = lit≤ tt
length-comma_if false = lit≤ tt

items_step : (comma value rest : List ℕ) (a b : ℕ) → length comma ≤ 1 → length value ≤ a → length rest ≤ b
    → length (comma ++ (value ++ rest)) ≤ 1 + a + b
items_step comma value rest a b h i j = simp length-append (omega arith)

members_step : (comma key value rest : List ℕ) (a b c : ℕ) → length comma ≤ 1 → length key ≤ a
    → length value ≤ b → length rest ≤ c
    → length (comma ++ (key ++ 58 ∷ (value ++ rest))) ≤ 2 + a + b + c
members_step comma key value rest a b c h i j k = simp length-append (omega arith)

mutual
  length-compact_text : (d : Data) → length (compact_text d) ≤ size d
  length-compact_text null = lit≤ tt
  length-compact_text (boolean true) = lit≤ tt
  length-compact_text (boolean false) = lit≤ tt
  length-compact_text (number n) = omega arith
  length-compact_text (string s) = length-quoted s
  length-compact_text (array ds) = let h : length (items_text false ds) ≤ items_size ds =
      length-items_text false ds in omega arith
  length-compact_text (object ms) = let h : length (members_text false ms) ≤ members_size ms =
      length-members_text false ms in omega arith

  length-items_text : (later : Bool) (ds : Items) → length (items_text later ds) ≤ items_size ds
  length-items_text later no_items = lit≤ tt
  length-items_text later (item d ds) =
      items_step (comma_if later) (compact_text d) (items_text true ds) (size d) (items_size ds)
      (length-comma_if later) (length-compact_text d) (length-items_text true ds)

  length-members_text : (later : Bool) (ms : Members) → length (members_text later ms) ≤ members_size ms
  length-members_text later no_members = lit≤ tt
  length-members_text later (member k d ms) =
      members_step (comma_if later) (quoted k) (compact_text d) (members_text true ms) (6 * length k + 2)
      (size d) (members_size ms)
      (length-comma_if later) (length-quoted k) (length-compact_text d) (length-members_text true ms)

length-layout_word : (layout : Layout) → length (layout_word layout) ≤ 9
length-layout_word Even = lit≤ tt
length-layout_word Triangle = lit≤ tt

length-face_word : (face : Face) → length (face_word face) ≤ 9
length-face_word AllUp = lit≤ tt
length-face_word TopUp = lit≤ tt

length-build_word : (build : Build) → length (build_word build) ≤ 9
length-build_word NoBuild = lit≤ tt
length-build_word AnySuit = lit≤ tt
length-build_word RedBlack = lit≤ tt
length-build_word SameSuit = lit≤ tt

length-groups_word : (groups : Groups) → length (groups_word groups) ≤ 9
length-groups_word One = lit≤ tt
length-groups_word Run = lit≤ tt

length-spaces_word : (spaces : Spaces) → length (spaces_word spaces) ≤ 9
length-spaces_word Any = lit≤ tt
length-spaces_word King = lit≤ tt
length-spaces_word NoFill = lit≤ tt

length-target_word : (target : Target) → length (target_word target) ≤ 9
length-target_word ToWaste = lit≤ tt
length-target_word ToTableau = lit≤ tt
length-target_word ToHole = lit≤ tt

length-start_word : (start : HoleStart) → length (start_word start) ≤ 9
length-start_word Dealt = lit≤ tt
length-start_word (Named card) = lit≤ tt

length-decimal : (n high : ℕ) → nat_le n high ≡ true → high < 100 → length (decimal n) ≤ 2
length-decimal n high few two =
    let below : n ≤ high = grind (arith, nat_tests) in
    length-decimal-le 2 n (omega arith) (omega arith) (omega arith)

size-redeals_tree : (redeals : Redeals) → are_redeals_within redeals ≡ true → size (redeals_tree redeals) ≤ 60
size-redeals_tree (Times n) few = let short = length-decimal n 99 few (omega arith) in omega arith
size-redeals_tree Unlimited few = lit≤ tt

size-goal_tree : (goal : Goal) → is_base_within goal ≡ true → size (goal_tree goal) ≤ 1000
size-goal_tree (Foundations base started take_back complete_runs) within =
    let limits = both _ _ within in
    let short = length-decimal base 13 limits.1 (omega arith) in
    omega arith
size-goal_tree (Hole wrap start) within = let short = length-start_word start in omega arith
size-goal_tree Sequences within = lit≤ tt

size-tableau_tree : (rules : RuleParts) → AreWithin rules → size (tableau_tree rules) ≤ 1000
size-tableau_tree rules h =
    let piles = length-decimal rules.piles 20 h.piles (omega arith) in
    let layout = length-layout_word rules.layout in
    let face = length-face_word rules.face in
    let build = length-build_word rules.build in
    let groups = length-groups_word rules.groups in
    let group_build = length-build_word rules.group_build in
    let spaces = length-spaces_word rules.spaces in
    omega arith

size-stock_tree : (rules : RuleParts) → AreWithin rules → size (stock_tree rules) ≤ 1000
size-stock_tree rules h =
    let cards = length-decimal rules.stock 84 h.stock (omega arith) in
    let draw = length-decimal rules.draw 10 h.draw (omega arith) in
    let target = length-target_word rules.target in
    let redeals = size-redeals_tree rules.redeals h.redeals in
    omega arith

-- the lengths of what stands beside the tableau, the stock and the goal
record OthersAreShort (rules : RuleParts) : Type 0 where
  decks : length (decimal rules.decks) ≤ 2
  max_rank : length (decimal rules.max_rank) ≤ 2
  cells : length (decimal rules.cells) ≤ 2
  filled : length (decimal rules.cells_filled) ≤ 2
  reserve : length (decimal rules.reserve) ≤ 2

others_short : (rules : RuleParts) → AreWithin rules → OthersAreShort rules
others_short rules h = record {
  decks = length-decimal rules.decks 2 h.decks (omega arith);
  max_rank = length-decimal rules.max_rank 13 h.max_rank (omega arith);
  cells = length-decimal rules.cells 16 h.cells (omega arith);
  filled = length-decimal rules.cells_filled 16 h.filled (omega arith);
  reserve = length-decimal rules.reserve 52 h.reserve (omega arith);
}

size-goal : (rules : RuleParts) (goal : Goal) → size (goal_tree goal) ≤ 1000 → size (tableau_tree rules) ≤ 1000
    → size (stock_tree rules) ≤ 1000 → OthersAreShort rules
    → size (object (put (goal_key goal) (goal_tree goal) (common_parts rules))) ≤ 65536
size-goal rules (Foundations base started take_back complete_runs) own tableau stock others = omega arith
size-goal rules (Hole wrap start) own tableau stock others = omega arith
size-goal rules Sequences own tableau stock others = omega arith

pub length-rules_text : (rules : RuleParts) → AreWithin rules → length (rules_text rules) ≤ 65536
length-rules_text rules h =
    let text : length (rules_text rules) ≤ size (rules_tree rules) = length-compact_text (rules_tree rules) in
    let small : size (rules_tree rules) ≤ 65536 =
    size-goal rules rules.goal (size-goal_tree rules.goal h.base) (size-tableau_tree rules h) (size-stock_tree rules h)
    (others_short rules h) in
    shorter _ _ _ text small
