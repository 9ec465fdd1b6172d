-- The search goes on: a board is met, a board is expanded, a level is done.
use Rattle.std.proofs.Common.{◌≡◌, ◌≢◌, ℕ, ◌+◌, ◌<◌, ◌≤◌, List, [], ◌∷◌, ◌++◌, length, get_or, refl, ap, sym, inl, inr}
use Rattle.std.proofs.Common.{subst, ◌∙◌, ◌-◌, arith, rules as std_rules, length-append, append_assoc, Contains, ⊎_elim, ◌⊎◌}
use Rattle.std.proofs.Common.{Bool, true, false}
use Rattle.std.proofs.lemmas.Bool.{cases_lt}
use Rattle.std.proofs.lemmas.List.{get_or_append_left, get_or-append_right}
use Rattle.std.proofs.lemmas.List.Elements.{Contains-append_left, Contains-append_right}
use Rattle.game_rules.specs.declared.RuleParts.{RuleParts}
use Rattle.game_rules.specs.declared.Move.{Move}
use Rattle.game_rules.specs.Playable.{IsPlayable}
use Rattle.game_rules.specs.Board.{Board}
use Rattle.game_rules.specs.Belonging.{Belongs}
use Rattle.game_rules.specs.Play.{Legal, after}
use Rattle.game_rules.specs.Winning.{Line, Won}
use Rattle.same_boards.specs.Keys.{key_bytes}
use Rattle.packed_state.specs.Packed.{Linked, board_of}
use Rattle.shortest_line.specs.declared.searching.Search.{Search}
use Rattle.shortest_line.specs.Tree.{Tree, line_at, with_board}
use Rattle.shortest_line.specs.Levels.{end_of, board_at, IsLine, IsTree, IsFurther, IsSound, AreTried, AreReached}
use Rattle.shortest_line.specs.Levels.{AreCovered, IsLevel, IsGrown, IsMet}
use Rattle.shortest_line.proofs.Lines.{Line-push, end_of-push}
use Rattle.shortest_line.proofs.Trees.{each_push, tree-push, known_not_won, covered_more}

pub grown-none : (s : Search) (n : ℕ) → IsGrown s s n
grown-none s n = record {
  lines = [];
  keys = [];
  lines_are = search std_rules;
  keys_are = search std_rules;
  long = λ k lt. absurd (omega arith);
  limit = refl;
  stays = λ h. h;
}

-- lines that were there stay at their places
pub line_stays : (old new : Search) (n k : ℕ) → IsGrown old new n → k < length old.kept.lines
    → line_at new.kept.lines k ≡ line_at old.kept.lines k
line_stays old new n k grown lt = ap (λ lines. line_at lines k) grown.lines_are
    ∙ get_or_append_left old.kept.lines grown.lines [] k lt

-- lines that were added have so many moves
pub line_added : (old new : Search) (n k : ℕ) → IsGrown old new n → length old.kept.lines ≤ k
    → k < length new.kept.lines → length (line_at new.kept.lines k) ≡ n
line_added old new n k grown le lt =
    let l = ap (λ lines. length lines) grown.lines_are in
    let m = length-append old.kept.lines grown.lines in
    ap (λ lines. length (line_at lines k)) grown.lines_are
    ∙ ap (λ line. length line) (get_or-append_right old.kept.lines grown.lines (length old.kept.lines) k [] refl le)
    ∙ grown.long (k - length old.kept.lines) (omega arith)

pub longer : (old new : Search) (n : ℕ) → IsGrown old new n → length old.kept.lines ≤ length new.kept.lines
longer old new n grown =
    let l = ap (λ lines. length lines) grown.lines_are in
    let m = length-append old.kept.lines grown.lines in
    omega arith

pub key_stays : (old new : Search) (n : ℕ) (key : List ℕ) → IsGrown old new n → Contains old.kept.keys key
    → Contains new.kept.keys key
key_stays old new n key grown c =
    subst (λ keys. Contains keys key) (sym grown.keys_are) (Contains-append_left old.kept.keys grown.keys key c)

pub grown-then : (a b c : Search) (n : ℕ) → IsGrown a b n → IsGrown b c n → IsGrown a c n
grown-then a b c n f g = record {
  lines = f.lines ++ g.lines;
  keys = f.keys ++ g.keys;
  lines_are = g.lines_are ∙ ap (λ lines. lines ++ g.lines) f.lines_are ∙ append_assoc a.kept.lines f.lines g.lines;
  keys_are = g.keys_are ∙ ap (λ keys. keys ++ g.keys) f.keys_are ∙ append_assoc a.kept.keys f.keys g.keys;
  long = λ k lt. let m = length-append f.lines g.lines in elim (cases_lt k (length f.lines)) [
    | inl below ↦ ap (λ line. length line) (get_or_append_left f.lines g.lines [] k below) ∙ f.long k below
    | inr above ↦ ap (λ line. length line) (get_or-append_right f.lines g.lines (length f.lines) k [] refl above)
        ∙ g.long (k - length f.lines) (omega arith)
  ];
  limit = g.limit ∙ f.limit;
  stays = λ h. g.stays (f.stays h);
}

pub not_both : (b : Bool) → b ≡ true → b ≡ false → ⊥
not_both b t f = let e : true ≡ false = sym t ∙ f in cc

-- what is known once a board was met
pub record IsOn (rules : RuleParts) (start : Board) (s s' : Search) (n : ℕ) (key : List ℕ) : Type 0 where
  pub sound : IsSound rules start s' n
  pub grown : IsGrown s s' n
  pub reached : s'.further ≡ false → Contains s'.kept.keys key

module _ (rules : RuleParts) (start : Board) (playable : IsPlayable rules) (in_start : Belongs rules start) where
  -- the board after a legal move of a kept board was met
  module _ (s s' : Search) (place : ℕ) (m : Move) (n : ℕ)
      (sound : IsSound rules start s n) (there : place < length s.kept.lines)
      (long : length (line_at s.kept.lines place) + 1 ≡ n)
      (legal : Legal rules (board_at rules start s.kept.lines place) m)
      (not_won : ¬ Won rules (after rules (board_at rules start s.kept.lines place) m))
      (limit : s'.budget.limit ≡ s.budget.limit) where
    abbrev key : List ℕ
    key = key_bytes rules (after rules (board_at rules start s.kept.lines place) m)

    abbrev line : List Move
    line = line_at s.kept.lines place ++ m ∷ []

    long_line : length line ≡ n
    long_line = let e = length-append (line_at s.kept.lines place) (m ∷ []) in omega arith

    -- it is known, or not asked for
    passed : s' ≡ s → (s.further ≡ true) ⊎ Contains s.kept.keys key → IsOn rules start s s' n key
    passed same why = subst (λ x. IsOn rules start s x n key) (sym same) (record {
      sound = sound;
      grown = grown-none s n;
      reached = λ f. ⊎_elim (λ t. absurd (not_both s.further t f)) (λ c. c) why;
    })

    -- it is kept
    kept : (¬ Contains s.kept.keys key) → s'.kept ≡ with_board s.kept key place m → s'.further ≡ false
        → s.further ≡ false → s'.budget.spent ≡ s.budget.spent + 1 → s.budget.spent ≢ s.budget.limit
        → IsOn rules start s s' n key
    kept new is f' f spent room =
        let lines : s'.kept.lines ≡ s.kept.lines ++ line ∷ [] = ap (λ tree. tree.lines) is in
        let keys : s'.kept.keys ≡ s.kept.keys ++ key ∷ [] = ap (λ tree. tree.keys) is in
        let l = ap (λ ls. length ls) lines in
        let a = length-append s.kept.lines (line ∷ []) in
        let c = sound.counted in
        let w = sound.within in
        let few = sound.few in
        record {
          sound = record {
            tree = subst (IsTree rules start) (sym is)
                (tree-push rules start playable in_start s.kept place m sound.tree there legal not_won new);
            counted = omega arith;
            within = omega arith;
            few = omega arith;
            further = λ t. absurd (not_both s'.further t f');
          };
          grown = record {
            lines = line ∷ [];
            keys = key ∷ [];
            lines_are = lines;
            keys_are = keys;
            long = each_push (λ moves. length moves ≡ n) [] line (λ k lt. absurd (omega arith)) long_line;
            limit = limit;
            stays = λ t. absurd (not_both s.further t f);
          };
          reached = λ h. subst (λ ks. Contains ks key) (sym keys)
              (Contains-append_right s.kept.keys (key ∷ []) key (0, omega arith, refl));
        }

    -- there is no room for it
    refused : (¬ Contains s.kept.keys key) → s'.kept ≡ s.kept → s'.further ≡ true → s'.budget ≡ s.budget
        → s.further ≡ false → s.budget.spent ≡ s.budget.limit → IsOn rules start s s' n key
    refused new is f' budget f full =
        let spent : s'.budget.spent ≡ s.budget.spent = ap (λ b. b.spent) budget in
        let l : length s'.kept.lines ≡ length s.kept.lines = ap (λ tree. length tree.lines) is in
        let c = sound.counted in
        let w = sound.within in
        let few = sound.few in
        let e : end_of rules start line ≡ after rules (board_at rules start s.kept.lines place) m =
        end_of-push rules start (line_at s.kept.lines place) m in
        record {
          sound = record {
            tree = subst (IsTree rules start) (sym is) sound.tree;
            counted = omega arith;
            within = omega arith;
            few = omega arith;
            further = λ t. record {
              way = line;
              line = Line-push rules start (line_at s.kept.lines place) m (sound.tree.legal place there) legal;
              long = long_line;
              full = omega arith;
              other = λ h. new (subst (λ b. Contains s.kept.keys (key_bytes rules b)) e
                  (subst (λ tree. Contains tree.keys (key_bytes rules (end_of rules start line))) is h));
            };
          };
          grown = record {
            lines = [];
            keys = [];
            lines_are = ap (λ tree. tree.lines) is ∙ search std_rules;
            keys_are = ap (λ tree. tree.keys) is ∙ search std_rules;
            long = λ k lt. absurd (omega arith);
            limit = limit;
            stays = λ t. f';
          };
          reached = λ h. absurd (not_both s'.further f' h);
        }

    pub met_on : IsMet s s' key place m → IsOn rules start s s' n key
    met_on met = ⊎_elim
        (λ a. passed a.0 a.1)
        (λ b. ⊎_elim
        (λ c. kept c.1 c.2 c.3 c.0 c.4 c.5)
        (λ d. refused d.1 d.2 d.3 d.4 d.0 d.5)
        b)
        met

  -- the next level
  pub level-next : (old s : Search) (from depth to : ℕ) → IsLevel rules start old from depth → from < to
      → to ≡ length old.kept.lines → IsSound rules start s (depth + 1) → IsGrown old s (depth + 1)
      → s.further ≡ false → AreReached rules start old.kept.lines s.kept.keys to → IsLevel rules start s to (depth + 1)
  level-next old s from depth to level some is sound grown none reached =
      let far = longer old s (depth + 1) grown in
      let deep = level.deep in
      record {
        sound = record {
          tree = sound.tree;
          counted = sound.counted;
          within = sound.within;
          few = sound.few;
          further = λ t. absurd (not_both s.further t none);
        };
        none_further = none;
        from_within = omega arith;
        short = λ k lt. elim (cases_lt k (length old.kept.lines)) [
          | inl below ↦ (let e = ap (λ line. length line) (line_stays old s (depth + 1) k grown below) in
              let h = level.short k below in omega arith)
          | inr above ↦ (let e = line_added old s (depth + 1) k grown above lt in omega arith)
        ];
        last = λ k le lt. line_added old s (depth + 1) k grown (omega arith) lt;
        covered = covered_more rules start playable in_start old.kept s.kept depth level.sound.tree
            (λ key c. key_stays old s (depth + 1) key grown c)
            (λ k lt m legal. reached k (omega arith) m legal) level.covered;
        reached = λ k lt m legal.
            let below : k < length old.kept.lines = omega arith in
            let e : board_at rules start s.kept.lines k ≡ board_at rules start old.kept.lines k =
            ap (λ line. end_of rules start line) (line_stays old s (depth + 1) k grown below) in
            subst (λ b. Contains s.kept.keys (key_bytes rules (after rules b m))) (sym e)
            (reached k lt m (subst (λ b. Legal rules b m) e legal));
        deep = omega arith;
      }
