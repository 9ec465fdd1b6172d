-- The answers, from what holds of the kept boards when a search ends.
use Rattle.std.proofs.Common.{◌≡◌, ◌≢◌, ℕ, zero, suc, ◌+◌, ◌-◌, ◌<◌, ◌≤◌, List, [], ◌∷◌, ◌++◌, length, get_or, refl, ap, sym}
use Rattle.std.proofs.Common.{subst, ◌∙◌, arith, length-append, map, Contains, inl, inr, true, false, Result, Ok, Err}
use Rattle.std.proofs.lemmas.Bool.{cases_lt}
use Rattle.std.proofs.lemmas.List.{get_or-map, get_or_default, length-map}
use Rattle.std.proofs.lemmas.List.Elements.{All-cons}
use Rattle.std.proofs.lemmas.List.Kept.{AllPairs-cons}
use Rattle.std.specs.List.{All, AllPairs, Any}
use Rattle.std.specs.Prelude.{IfOk}
use Rattle.card_piles.specs.declared.NoMemory.{NoMemory}
use Rattle.trails.proofs.FreshLaws.{few_places}
use Rattle.game_rules.specs.declared.RuleParts.{RuleParts}
use Rattle.game_rules.specs.declared.Move.{Move}
use Rattle.game_rules.specs.Playable.{IsPlayable}
use Rattle.game_rules.specs.Board.{Board}
use Rattle.game_rules.specs.Belonging.{Belongs}
use Rattle.game_rules.specs.Play.{Legal, after}
use Rattle.game_rules.specs.Winning.{Line, Won, Winnable}
use Rattle.game_rules.proofs.KeepsBelonging.{belongs-after}
use Rattle.same_boards.specs.Same.{Same}
use Rattle.same_boards.specs.Keys.{key_bytes}
use Rattle.same_boards.proofs.SameLaws.{Same-refl, Same-sym, Same-trans}
use Rattle.same_boards.proofs.SameKeys.{key-from_same}
use Rattle.same_boards.proofs.SameAfter.{same-after}
use Rattle.shortest_line.specs.declared.answer.Shortest.{Shortest}
use Rattle.shortest_line.specs.declared.answer.Shortest.TheVariants.{Least, NoLine, Open}
use Rattle.shortest_line.specs.declared.searching.Search.{Search}
use Rattle.shortest_line.specs.LineEnds.{IsEndWithin, IsEndKey, AreApart, CoverBelow, NoWinBelow, HasFewEnds}
use Rattle.shortest_line.specs.Answers.{IsLeast, HasNoLine, IsOpen, IsAnswer, IsDecided}
use Rattle.shortest_line.specs.Tree.{Tree, line_at}
use Rattle.shortest_line.specs.Levels.{end_of, board_at, IsTree, IsSound, IsLevel, IsGrown, IsWin, AreTried, AreReached}
use Rattle.shortest_line.specs.Levels.{AreCovered, IsFurther}
use Rattle.shortest_line.proofs.Lines.{end_of-none, end_of-push, Line-end, Line-itself, Line-none, belongs-end, last_of}
use Rattle.shortest_line.proofs.Trees.{each_push, belongs_at, length-keys, key_at, known, known_not_won, won_alike}
use Rattle.shortest_line.proofs.Trees.{covered_more}
use Rattle.shortest_line.proofs.Steps.{key_stays, line_stays, line_added, longer}

-- the start has no moves
zero_at : (s : Search) (k : ℕ) (keys : List (List ℕ)) → k < length s.kept.lines
    → s.kept ≡ record { keys = keys; lines = [] ∷ [] } → length (line_at s.kept.lines k) ≡ 0
zero_at s zero keys lt is = ap (λ t. length (line_at t.lines 0)) is
zero_at s (suc k) keys lt is = let n = ap (λ t. length t.lines) is in absurd (omega arith)

-- a line of no moves ends at the start
end_here : (rules : RuleParts) (start : Board) (moves : List Move) (end : Board) → Line rules start moves end
    → length moves ≤ 0 → end ≡ start
end_here rules start [] end line short = line
end_here rules start (m ∷ moves) end line short = absurd (omega arith)

module _ (rules : RuleParts) (start : Board) (playable : IsPlayable rules) (in_start : Belongs rules start) where
  -- the kept boards
  abbrev boards_of : Tree → List Board
  boards_of tree = map (λ moves. end_of rules start moves) tree.lines

  all_boards : (P : Board → Type 0) (tree : Tree)
      → ((k : ℕ) → k < length tree.lines → P (board_at rules start tree.lines k)) → All P (boards_of tree)
  all_boards P tree each k d lt =
      let n = length-map tree.lines (λ moves. end_of rules start moves) in
      let lt' : k < length tree.lines = omega arith in
      subst P (sym (get_or-map (λ moves. end_of rules start moves) tree.lines k [] d lt')) (each k lt')

  apart_boards : (tree : Tree) → IsTree rules start tree → AreApart rules (boards_of tree)
  apart_boards tree is i j d lt lt' =
      let n = length-map tree.lines (λ moves. end_of rules start moves) in
      let m = length-keys rules start playable in_start tree is in
      let at_j : j < length tree.lines = omega arith in
      let at_i : i < length tree.lines = omega arith in
      let in_keys : j < length tree.keys = omega arith in
      let f : List Move → Board = λ moves. end_of rules start moves in
      let P : Board → Board → Type 0 = λ a b. ¬ Same rules a b in
      subst (λ a. P a (get_or (boards_of tree) j d)) (sym (get_or-map f tree.lines i [] d at_i))
      (subst (λ b. P (board_at rules start tree.lines i) b) (sym (get_or-map f tree.lines j [] d at_j))
      (λ same. is.apart i j [] lt in_keys
      (key_at rules start playable in_start tree i [] is at_i
      ∙ key-from_same rules (board_at rules start tree.lines i) (board_at rules start tree.lines j) same
      ∙ sym (key_at rules start playable in_start tree j [] is at_j))))

  -- a board whose key is kept is the same as one of the kept boards
  any_board : (tree : Tree) (board : Board) → IsTree rules start tree → Belongs rules board
      → Contains tree.keys (key_bytes rules board) → Any (Same rules board) (boards_of tree)
  any_board tree board is belongs c =
      let k = known rules start playable in_start tree board is belongs c in
      let n = length-map tree.lines (λ moves. end_of rules start moves) in
      let there = k.there in
      let here : Board = board_at rules start tree.lines k.place in (
        k.place,
        here,
        omega arith,
        get_or-map (λ moves. end_of rules start moves) tree.lines k.place [] here there,
        k.same,
      )

  belongs_line : (moves : List Move) (end : Board) → Line rules start moves end → Belongs rules end
  belongs_line moves end line = subst (λ b. Belongs rules b) (sym (Line-end rules start moves end line))
      (belongs-end rules start moves playable in_start (Line-itself rules start moves end line))

  -- where the ends of lines of so many moves are kept, none of them is won
  no_win_within : (tree : Tree) (depth : ℕ) → IsTree rules start tree → AreCovered rules start tree depth
      → NoWinBelow rules start (depth + 1)
  no_win_within tree depth is covered moves end line won = elim (cases_lt depth (length moves)) [
    | inl deep ↦ omega arith
    | inr few ↦ absurd (known_not_won rules start playable in_start tree end is (belongs_line moves end line)
        (covered moves end line few) won)
  ]

  -- where each legal move of the kept boards was tried, none wins with one move more
  no_win_next : (tree : Tree) (depth : ℕ) → IsTree rules start tree → AreCovered rules start tree depth
      → AreTried rules start tree.lines (length tree.lines) → NoWinBelow rules start (depth + 2)
  no_win_next tree depth is covered tried moves end line won =
      let some = no_win_within tree depth is covered moves end line won in
      elim (cases_lt (depth + 1) (length moves)) [
        | inl deep ↦ omega arith
        | inr few ↦
            let itself = Line-itself rules start moves end line in
            let more : 0 < length moves = omega arith in
            let r = last_of rules start moves itself more in
            let n = ap (λ ms. length ms) r.is in
            let m = length-append r.front (r.last ∷ []) in
            let short : length r.front ≤ depth = omega arith in
            let front : Board = end_of rules start r.front in
            let in_front = belongs-end rules start r.front playable in_start r.line in
            let k = known rules start playable in_start tree front is in_front (covered r.front front r.line short) in
            let here : Board = board_at rules start tree.lines k.place in
            let in_here = belongs_at rules start playable in_start tree k.place is k.there in
            let s = same-after rules front here r.last playable in_front in_here k.same r.legal in
            let e : end ≡ after rules front r.last = Line-end rules start moves end line
            ∙ ap (λ ms. end_of rules start ms) r.is ∙ end_of-push rules start r.front r.last in
            absurd (tried k.place k.there s.other s.legal
            (won_alike rules start playable in_start (after rules front r.last) (after rules here s.other)
            (belongs-after rules front r.last playable in_front r.legal)
            (belongs-after rules here s.other playable in_here s.legal) s.same (subst (λ b. Won rules b) e won)))
      ]

  -- the lines of the kept boards after a level
  short_lines : (old s : Search) (from depth k : ℕ) → IsLevel rules start old from depth → IsGrown old s (depth + 1)
      → k < length s.kept.lines → length (line_at s.kept.lines k) ≤ depth + 1
  short_lines old s from depth k level grown lt = elim (cases_lt k (length old.kept.lines)) [
    | inl below ↦ (let e = ap (λ line. length line) (line_stays old s (depth + 1) k grown below) in
        let h = level.short k below in omega arith)
    | inr above ↦ (let e = line_added old s (depth + 1) k grown above lt in omega arith)
  ]

  ends_within : (old s : Search) (from depth most : ℕ) → IsLevel rules start old from depth
      → IsSound rules start s (depth + 1) → IsGrown old s (depth + 1) → most ≡ depth + 1
      → All (IsEndWithin rules start most) (boards_of s.kept)
  ends_within old s from depth most level sound grown is = all_boards (IsEndWithin rules start most) s.kept
      (λ k lt. let h = short_lines old s from depth k level grown lt in
      record { moves = line_at s.kept.lines k; line = sound.tree.legal k lt; few = omega arith })

  cover_below : (old s : Search) (from depth most : ℕ) → IsLevel rules start old from depth
      → IsSound rules start s (depth + 1) → IsGrown old s (depth + 1) → most ≡ depth + 1
      → CoverBelow rules start most (boards_of s.kept)
  cover_below old s from depth most level sound grown is moves end line short =
      any_board s.kept end sound.tree (belongs_line moves end line)
      (key_stays old s (depth + 1) (key_bytes rules end) grown (level.covered moves end line (omega arith)))

  -- a move of a level wins
  pub least_answer : (old s : Search) (from depth limit nodes : ℕ) (line : List Move)
      → IsLevel rules start old from depth → IsSound rules start s (depth + 1) → IsGrown old s (depth + 1)
      → IsWin rules start line (depth + 1) → s.budget.limit ≡ limit → nodes ≡ s.budget.spent
      → IsLeast rules start limit line nodes
  least_answer old s from depth limit nodes line level sound grown win is count =
      let c = sound.counted in
      let w = sound.within in
      let n = length-map s.kept.lines (λ moves. end_of rules start moves) in
      record {
        end = end_of rules start line;
        leads = win.leads;
        won = win.won;
        least = subst (NoWinBelow rules start) (sym win.long)
            (no_win_within old.kept depth level.sound.tree level.covered);
        within = omega arith;
        boards = boards_of s.kept;
        count = omega arith;
        not_won = all_boards (λ board. ¬ Won rules board) s.kept sound.tree.not_won;
        apart = apart_boards s.kept sound.tree;
        reached = ends_within old s from depth (length line) level sound grown win.long;
        covers = cover_below old s from depth (length line) level sound grown win.long;
      }

  -- a level was tried, and there is a further board
  pub open_answer : (old s : Search) (from depth to limit bound nodes : ℕ) → IsLevel rules start old from depth
      → to ≡ length old.kept.lines → IsSound rules start s (depth + 1) → IsGrown old s (depth + 1)
      → AreTried rules start old.kept.lines to → s.further ≡ true → s.budget.limit ≡ limit → nodes ≡ s.budget.spent
      → bound ≡ depth + 2 → IsOpen rules start limit bound nodes
  open_answer old s from depth to limit bound nodes level all sound grown tried further is count long =
      let c = sound.counted in
      let n = length-map s.kept.lines (λ moves. end_of rules start moves) in
      let f = sound.further further in
      let full = f.full in
      let way_long = f.long in
      record {
        spent = omega arith;
        boards = boards_of s.kept;
        count = omega arith;
        apart = apart_boards s.kept sound.tree;
        reached = ends_within old s from depth (bound - 1) level sound grown (omega arith);
        covers = cover_below old s from depth (bound - 1) level sound grown (omega arith);
        further = end_of rules start f.way;
        way = f.way;
        leads = f.line;
        long = omega arith;
        other = all_boards (λ board. ¬ Same rules (end_of rules start f.way) board) s.kept
            (λ k lt same. f.other (subst (λ x. Contains s.kept.keys x)
            (key_at rules start playable in_start s.kept k [] sound.tree lt
            ∙ sym (key-from_same rules (end_of rules start f.way) (board_at rules start s.kept.lines k) same))
            (let m = length-keys rules start playable in_start s.kept sound.tree in
            let lt' : k < length s.kept.keys = omega arith in
            (k, lt', get_or_default s.kept.keys k (get_or s.kept.keys k []) [] lt'))));
        none = subst (NoWinBelow rules start) (sym long)
            (no_win_next old.kept depth level.sound.tree level.covered
            (subst (AreTried rules start old.kept.lines) all tried));
      }

  -- each legal move of the kept boards leads to a kept board
  covered_all : (s : Search) (from depth : ℕ) → IsLevel rules start s from depth → length s.kept.lines ≤ from
      → (n : ℕ) → AreCovered rules start s.kept n
  covered_all s from depth level far zero moves end line short = level.covered moves end line (omega arith)
  covered_all s from depth level far (suc n) moves end line short =
      covered_more rules start playable in_start s.kept s.kept n level.sound.tree (λ key c. c)
      (λ k lt m legal. level.reached k (omega arith) m legal)
      (covered_all s from depth level far n) moves end line (omega arith)

  pub no_line_answer : (s : Search) (from depth limit nodes : ℕ) → IsLevel rules start s from depth
      → length s.kept.lines ≤ from → s.budget.limit ≡ limit → nodes ≡ s.budget.spent
      → HasNoLine rules start limit nodes
  no_line_answer s from depth limit nodes level far is count =
      let tree = level.sound.tree in
      let c = level.sound.counted in
      let w = level.sound.within in
      let n = length-keys rules start playable in_start s.kept tree in
      let all : (moves : List Move) (end : Board) → Line rules start moves end
      → Contains s.kept.keys (key_bytes rules end) =
      λ moves end line. covered_all s from depth level far (length moves) moves end line (omega arith) in
      record {
        never = λ wins. known_not_won rules start playable in_start s.kept wins.1.end tree
            (belongs_line wins.1.moves wins.1.end wins.1.line) (all wins.1.moves wins.1.end wins.1.line) wins.1.won;
        within = omega arith;
        keys = s.kept.keys;
        count = omega arith;
        differ = tree.apart;
        each = λ k d lt. let lt' : k < length s.kept.lines = omega arith in record {
          moves = line_at s.kept.lines k;
          end = board_at rules start s.kept.lines k;
          line = tree.legal k lt';
          is = key_at rules start playable in_start s.kept k d tree lt';
        };
        all = all;
      }

  -- the start alone
  pub level-first : (s : Search) → s.kept ≡ record { keys = key_bytes rules start ∷ []; lines = [] ∷ [] }
      → s.further ≡ false → s.budget.spent ≡ 1 → 1 ≤ s.budget.limit → s.budget.limit ≤ 4000000 → ¬ Won rules start
      → IsLevel rules start s 0 0
  level-first s is none spent some few not_won =
      let one : Tree = record { keys = key_bytes rules start ∷ []; lines = [] ∷ [] } in
      let e = end_of-none rules start in
      let tree : IsTree rules start one = record {
        keys = ap (λ b. key_bytes rules b ∷ []) (sym e);
        legal = each_push (λ moves. Line rules start moves (end_of rules start moves)) [] []
            (λ k lt. absurd (omega arith)) (Line-none rules start);
        not_won = each_push (λ moves. ¬ Won rules (end_of rules start moves)) [] [] (λ k lt. absurd (omega arith))
            (subst (λ b. ¬ Won rules b) (sym e) not_won);
        apart = λ i j d lt lt'. absurd (omega arith);
      } in
      let count : length s.kept.lines ≡ 1 = ap (λ t. length t.lines) is in
      record {
        sound = record {
          tree = subst (IsTree rules start) (sym is) tree;
          counted = omega arith;
          within = omega arith;
          few = few;
          further = λ t. absurd (let c : true ≡ false = sym t ∙ none in cc);
        };
        none_further = none;
        from_within = omega arith;
        short = λ k lt. let h = zero_at s k (key_bytes rules start ∷ []) lt is in omega arith;
        last = λ k le lt. zero_at s k (key_bytes rules start ∷ []) lt is;
        covered = λ moves end line short.
            subst (λ b. Contains s.kept.keys (key_bytes rules b)) (sym (end_here rules start moves end line short))
            (subst (λ t. Contains t.keys (key_bytes rules start)) (sym is) (0, omega arith, refl));
        reached = λ k lt. absurd (omega arith);
        deep = omega arith;
      }

-- an open answer has more ends than the limit
pub open-many : (rules : RuleParts) (start : Board) (limit bound nodes : ℕ) → IsOpen rules start limit bound nodes
    → ¬ HasFewEnds rules start limit
open-many rules start limit bound nodes o few =
    let n : ℕ = length few.boards in
    let At : Board → ℕ → Type 0 = λ b k. Same rules b (get_or few.boards k start) in
    let Here : Board → Type 0 = λ b. (k : ℕ) × (k < n) × At b k in
    let here : (moves : List Move) (b : Board) → Line rules start moves b → Here b = λ moves b line.
    let a = few.covers moves b line in (
      a.0,
      a.2,
      subst (Same rules b) (sym a.3 ∙ get_or_default few.boards a.0 a.1 start a.2) a.4,
    ) in
    let all : All Here (o.further ∷ o.boards) = All-cons Here o.further o.boards (here o.way o.further o.leads)
    (λ k d lt. let r = o.reached k d lt in here r.moves (get_or o.boards k d) r.line) in
    let apart : AllPairs (λ a b. ¬ Same rules a b) (o.further ∷ o.boards) =
    AllPairs-cons (λ a b. ¬ Same rules a b) o.further o.boards o.other o.apart in
    let le : length (o.further ∷ o.boards) ≤ n = few_places (λ a b. Same rules a b) At n
    (λ a b k p q. Same-trans rules a (get_or few.boards k start) b p (Same-sym rules b (get_or few.boards k start) q))
    (o.further ∷ o.boards) apart all in
    let spent = o.spent in
    let count = o.count in
    let most = few.few in
    omega arith

pub answer-decided : (rules : RuleParts) (start : Board) (limit : ℕ) (r : Result Shortest NoMemory)
    → IfOk r (IsAnswer rules start limit) → HasFewEnds rules start limit → IfOk r IsDecided
answer-decided rules start limit (Ok (Least line nodes)) is few = tt
answer-decided rules start limit (Ok (NoLine nodes)) is few = tt
answer-decided rules start limit (Ok (Open bound nodes)) is few = open-many rules start limit bound nodes is few
answer-decided rules start limit (Err e) is few = tt
