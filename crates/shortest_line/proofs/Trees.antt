-- Trees of kept boards: what is known of a kept key, and one more board.
use Rattle.std.proofs.Common.{◌≡◌, ◌≢◌, ℕ, ◌+◌, ◌<◌, ◌≤◌, List, [], ◌∷◌, ◌++◌, length, get_or, refl, ap, sym, inl, inr}
use Rattle.std.proofs.Common.{subst, ◌∙◌, arith, length-append, map, Contains}
use Rattle.std.specs.List.{AllPairs}
use Rattle.std.proofs.lemmas.Bool.{cases_lt}
use Rattle.std.proofs.lemmas.List.{get_or_append_left, get_or_push, get_or_default, get_or-map, length-map, map-append}
use Rattle.std.proofs.lemmas.List.Elements.{Contains-get_or, Contains-append_left}
use Rattle.std.proofs.lemmas.List.Quantifiers.{all_pairs_push}
use Rattle.game_rules.specs.declared.RuleParts.{RuleParts}
use Rattle.game_rules.specs.declared.Move.{Move}
use Rattle.game_rules.specs.Playable.{IsPlayable}
use Rattle.game_rules.specs.Board.{Board}
use Rattle.game_rules.specs.Belonging.{Belongs}
use Rattle.game_rules.specs.Play.{Legal, after}
use Rattle.game_rules.specs.Winning.{Line, Won}
use Rattle.game_rules.proofs.KeepsBelonging.{belongs-after}
use Rattle.same_boards.specs.Same.{Same}
use Rattle.same_boards.specs.Keys.{key_bytes}
use Rattle.same_boards.proofs.SameLaws.{Same-sym}
use Rattle.same_boards.proofs.SameKeys.{key-from_same}
use Rattle.same_boards.proofs.KeysSame.{same-from_key}
use Rattle.same_boards.proofs.SameAfter.{same-after}
use Rattle.same_boards.proofs.SameWins.{same-wins}
use Rattle.shortest_line.specs.Tree.{Tree, line_at, with_board}
use Rattle.shortest_line.specs.Levels.{end_of, board_at, IsLine, IsTree, AreCovered}
use Rattle.shortest_line.proofs.Lines.{end_of-push, Line-end, Line-itself, Line-push, belongs-end, HasLast, last_of}
use Rattle.shortest_line.proofs.Lines.{won_now, wins_now}

-- what holds of each line and of one more holds of all
pub each_push : (P : List Move → Type 0) (lines : List (List Move)) (l : List Move)
    → ((k : ℕ) → k < length lines → P (line_at lines k)) → P l
    → (k : ℕ) → k < length (lines ++ l ∷ []) → P (line_at (lines ++ l ∷ []) k)
each_push P lines l each here k lt = let n = length-append lines (l ∷ []) in elim (cases_lt k (length lines)) [
  | inl below ↦ subst P (sym (get_or_append_left lines (l ∷ []) [] k below)) (each k below)
  | inr above ↦ (let is : length lines ≡ k = omega arith in subst P (sym (get_or_push lines l [] k is)) here)
]

module _ (rules : RuleParts) (start : Board) (playable : IsPlayable rules) (in_start : Belongs rules start) where
  -- the board at a place belongs to the rules
  pub belongs_at : (tree : Tree) (k : ℕ) → IsTree rules start tree → k < length tree.lines
      → Belongs rules (board_at rules start tree.lines k)
  belongs_at tree k is lt = belongs-end rules start (line_at tree.lines k) playable in_start (is.legal k lt)

  pub length-keys : (tree : Tree) → IsTree rules start tree → length tree.keys ≡ length tree.lines
  length-keys tree is = ap (λ ks. length ks) is.keys ∙ length-map tree.lines _

  -- the key at a place
  pub key_at : (tree : Tree) (k : ℕ) (d : List ℕ) → IsTree rules start tree → k < length tree.lines
      → get_or tree.keys k d ≡ key_bytes rules (board_at rules start tree.lines k)
  key_at tree k d is lt = ap (λ ks. get_or ks k d) is.keys
      ∙ get_or-map (λ moves. key_bytes rules (end_of rules start moves)) tree.lines k [] d lt

  -- a board whose key is kept is the same as a kept one
  pub record IsKnown (tree : Tree) (board : Board) : Type 0 where
    pub place : ℕ
    pub there : place < length tree.lines
    pub same : Same rules board (board_at rules start tree.lines place)

  pub known : (tree : Tree) (board : Board) → IsTree rules start tree → Belongs rules board
      → Contains tree.keys (key_bytes rules board) → IsKnown tree board
  known tree board is belongs c =
      let n = length-keys tree is in
      let lt' = c.1 in
      let lt : c.0 < length tree.lines = omega (arith, n, lt') in
      let e : key_bytes rules board ≡ key_bytes rules (board_at rules start tree.lines c.0) =
      sym c.2 ∙ key_at tree c.0 (key_bytes rules board) is lt in
      record {
        place = c.0;
        there = lt;
        same = same-from_key rules board (board_at rules start tree.lines c.0) playable belongs
            (belongs_at tree c.0 is lt) e;
      }

  -- boards that are the same are won alike
  pub won_alike : (a b : Board) → Belongs rules a → Belongs rules b → Same rules a b → Won rules a → Won rules b
  won_alike a b in_a in_b same won =
      won_now rules b (same-wins rules a b 0 playable in_a in_b same (wins_now rules a won))

  -- a board whose key is kept is not won
  pub known_not_won : (tree : Tree) (board : Board) → IsTree rules start tree → Belongs rules board
      → Contains tree.keys (key_bytes rules board) → ¬ Won rules board
  known_not_won tree board is belongs c won =
      let k = known tree board is belongs c in
      is.not_won k.place k.there
      (won_alike board (board_at rules start tree.lines k.place) belongs (belongs_at tree k.place is k.there) k.same won)

  -- one more board
  pub tree-push : (tree : Tree) (place : ℕ) (m : Move) → IsTree rules start tree → place < length tree.lines
      → Legal rules (board_at rules start tree.lines place) m
      → ¬ Won rules (after rules (board_at rules start tree.lines place) m)
      → ¬ Contains tree.keys (key_bytes rules (after rules (board_at rules start tree.lines place) m))
      → IsTree rules start
      (with_board tree (key_bytes rules (after rules (board_at rules start tree.lines place) m)) place m)
  tree-push tree place m is there legal not_won new =
      let front = line_at tree.lines place in
      let line : List Move = front ++ m ∷ [] in
      let e : end_of rules start line ≡ after rules (end_of rules start front) m = end_of-push rules start front m in
      let key : List ℕ = key_bytes rules (after rules (end_of rules start front) m) in
      record {
        keys = ap (λ ks. ks ++ key ∷ []) is.keys
            ∙ ap (λ b. map (λ moves. key_bytes rules (end_of rules start moves)) tree.lines ++ key_bytes rules b ∷ [])
            (sym e)
            ∙ sym (map-append (λ moves. key_bytes rules (end_of rules start moves)) tree.lines (line ∷ []));
        legal = each_push (IsLine rules start) tree.lines line is.legal
            (Line-push rules start front m (is.legal place there) legal);
        not_won = each_push (λ moves. ¬ Won rules (end_of rules start moves)) tree.lines line is.not_won
            (subst (λ b. ¬ Won rules b) (sym e) not_won);
        apart = all_pairs_push (λ a b. a ≢ b) tree.keys key is.apart
            (λ k d lt same. new (subst (λ x. Contains tree.keys x) same (Contains-get_or tree.keys k d lt)));
      }

  -- Where the ends of lines of so many moves are kept, and each legal move of a kept board leads to a board of a
  -- larger tree, the larger tree has the ends of lines of one more move.
  pub covered_more : (old new : Tree) (depth : ℕ) → IsTree rules start old
      → ((key : List ℕ) → Contains old.keys key → Contains new.keys key)
      → ((k : ℕ) → k < length old.lines → (m : Move) → Legal rules (board_at rules start old.lines k) m
      → Contains new.keys (key_bytes rules (after rules (board_at rules start old.lines k) m)))
      → AreCovered rules start old depth → AreCovered rules start new (depth + 1)
  covered_more old new depth is keeps reached covered moves end line short = elim (cases_lt depth (length moves)) [
    | inr few ↦ keeps (key_bytes rules end) (covered moves end line few)
    | inl deep ↦
        let itself = Line-itself rules start moves end line in
        let some : 0 < length moves = omega arith in
        let r = last_of rules start moves itself some in
        let n = ap (λ ms. length ms) r.is in
        let m = length-append r.front (r.last ∷ []) in
        let few : length r.front ≤ depth = omega arith in
        let front : Board = end_of rules start r.front in
        let in_front = belongs-end rules start r.front playable in_start r.line in
        let k = known old front is in_front (covered r.front front r.line few) in
        let here : Board = board_at rules start old.lines k.place in
        let s = same-after rules front here r.last playable in_front (belongs_at old k.place is k.there) k.same r.legal in
        let e : end ≡ after rules front r.last = Line-end rules start moves end line
        ∙ ap (λ ms. end_of rules start ms) r.is ∙ end_of-push rules start r.front r.last in
        let key : key_bytes rules (after rules here s.other) ≡ key_bytes rules end =
        sym (key-from_same rules (after rules front r.last) (after rules here s.other) s.same)
        ∙ ap (λ b. key_bytes rules b) (sym e) in
        subst (λ x. Contains new.keys x) key (reached k.place k.there s.other s.legal)
  ]
