-- Moves of one board, and boards of one level, while they are tried.
use Rattle.std.proofs.Common.{◌≡◌, ℕ, ◌+◌, ◌<◌, ◌≤◌, List, [], ◌∷◌, ◌++◌, length, get_or, Bool, true, false, IsTrue, refl}
use Rattle.std.proofs.Common.{Contains, ap, sym, subst, ◌∙◌, arith, inl, inr, length-append, Option, Some, None}
use Rattle.std.proofs.lemmas.Bool.{cases_lt}
use Rattle.std.proofs.lemmas.List.{get_or_default}
use Rattle.std.proofs.lemmas.List.Elements.{Contains-get_or}
use Rattle.game_rules.specs.declared.RuleParts.{RuleParts}
use Rattle.game_rules.specs.declared.Move.{Move}
use Rattle.game_rules.specs.Playable.{IsPlayable}
use Rattle.game_rules.specs.Board.{Board}
use Rattle.game_rules.specs.Belonging.{Belongs}
use Rattle.game_rules.specs.Order.{legal_moves}
use Rattle.game_rules.specs.Play.{Legal, after}
use Rattle.game_rules.specs.Winning.{Won, is_won}
use Rattle.game_rules.proofs.KeepsBelonging.{belongs-after}
use Rattle.game_rules.proofs.MovesListed.{legal_moves-exact}
use Rattle.same_boards.specs.Keys.{key_bytes}
use Rattle.packed_state.specs.Packed.{Linked, board_of}
use Rattle.shortest_line.specs.declared.searching.Search.{Search}
use Rattle.shortest_line.specs.Tree.{line_at}
use Rattle.shortest_line.specs.Levels.{end_of, board_at, IsLine, IsSound, IsGrown, IsMet, AreTried, AreReached, IsWin}
use Rattle.shortest_line.specs.Levels.{IsExpanded, IsDone, IsLevel}
use Rattle.shortest_line.proofs.Lines.{Line-push, end_of-push}
use Rattle.shortest_line.proofs.Trees.{belongs_at, known_not_won}
use Rattle.shortest_line.proofs.Steps.{IsOn, met_on, grown-none, grown-then, line_stays, key_stays, longer, not_both}

-- the moves before a place in their list were tried
pub record IsTrying (rules : RuleParts) (start : Board) (old s : Search) (place : ℕ) (moves : List Move) (i : ℕ)
    (packed : Linked) (line : List Move) : Type 0 where
  pub sound : IsSound rules start s (length (line_at old.kept.lines place) + 1)
  pub grown : IsGrown old s (length (line_at old.kept.lines place) + 1)
  pub stands : board_of packed ≡ board_at rules start old.kept.lines place
  pub belongs : Belongs rules (board_of packed)
  pub tried : (j : ℕ) (d : Move) → j < i
      → ¬ Won rules (after rules (board_at rules start old.kept.lines place) (get_or moves j d))
  pub reached : s.further ≡ false → (j : ℕ) (d : Move) → j < i → Contains s.kept.keys
      (key_bytes rules (after rules (board_at rules start old.kept.lines place) (get_or moves j d)))
  pub line_is : line ≡ line_at old.kept.lines place
  pub moves_are : moves ≡ legal_moves rules (board_at rules start old.kept.lines place)

-- the boards before a place were expanded
pub record IsRunning (rules : RuleParts) (start : Board) (old s : Search) (from place : ℕ) : Type 0 where
  pub sound : IsSound rules start s (length (line_at old.kept.lines from) + 1)
  pub grown : IsGrown old s (length (line_at old.kept.lines from) + 1)
  pub tried : AreTried rules start old.kept.lines place
  pub reached : s.further ≡ false → AreReached rules start old.kept.lines s.kept.keys place

false_from : (b : Bool) → (b ≡ true → ⊥) → b ≡ false
false_from true h = absurd (h refl)
false_from false h = refl

not_true : (b : Bool) → b ≡ false → ¬ IsTrue b
not_true true is = absurd (cc)
not_true false is = λ t. absurd (cc)

pub not_won : (rules : RuleParts) (board : Board) (b : Bool) → b ≡ is_won rules board
    → b ≡ false → ¬ Won rules board
not_won rules board b is is_not = not_true _ (sym is ∙ is_not)

-- a listed move is legal
pub listed : (rules : RuleParts) (board : Board) (moves : List Move) (i : ℕ) (d : Move)
    → moves ≡ legal_moves rules board → i < length moves → Legal rules board (get_or moves i d)
listed rules board moves i d is lt = (legal_moves-exact rules board (get_or moves i d)).0
    (subst (λ ms. Contains ms (get_or moves i d)) is (Contains-get_or moves i d lt))

-- once a further board is met, it stays so
before_none : (old new : Search) (n : ℕ) → IsGrown old new n → new.further ≡ false → old.further ≡ false
before_none old new n grown f = false_from old.further (λ t. not_both new.further (grown.stays t) f)

module _ (rules : RuleParts) (start : Board) (playable : IsPlayable rules) (in_start : Belongs rules start) where
  pub trying-first : (old : Search) (place : ℕ) (moves : List Move) (packed : Linked) (line : List Move)
      → IsSound rules start old (length (line_at old.kept.lines place) + 1)
      → board_of packed ≡ board_at rules start old.kept.lines place → Belongs rules (board_of packed)
      → line ≡ line_at old.kept.lines place
      → moves ≡ legal_moves rules (board_at rules start old.kept.lines place)
      → IsTrying rules start old old place moves 0 packed line
  trying-first old place moves packed line sound stands belongs is are = record {
    sound = sound;
    grown = grown-none old (length (line_at old.kept.lines place) + 1);
    stands = stands;
    belongs = belongs;
    tried = λ j d lt. absurd (omega arith);
    reached = λ f j d lt. absurd (omega arith);
    line_is = is;
    moves_are = are;
  }

  -- one more move was tried
  pub trying-next : (old s s' : Search) (place : ℕ) (moves : List Move) (i : ℕ) (d : Move)
      (packed packed' next : Linked) (line : List Move) → place < length old.kept.lines
      → IsTrying rules start old s place moves i packed line → i < length moves
      → board_of packed' ≡ after rules (board_of packed) (get_or moves i d)
      → ¬ Won rules (board_of packed') → s'.budget.limit ≡ s.budget.limit
      → IsMet s s' (key_bytes rules (board_of packed')) place (get_or moves i d) → next ≡ packed
      → IsTrying rules start old s' place moves (i + 1) next line
  trying-next old s s' place moves i d packed packed' next line there t lt moved not_won limit met same =
      let n : ℕ = length (line_at old.kept.lines place) + 1 in
      let m : Move = get_or moves i d in
      let here : Board = board_at rules start old.kept.lines place in
      let far = longer old s n t.grown in
      let stays : line_at s.kept.lines place ≡ line_at old.kept.lines place =
      line_stays old s n place t.grown there in
      let b : board_at rules start s.kept.lines place ≡ here = ap (λ l. end_of rules start l) stays in
      let next_board : board_of packed' ≡ after rules (board_at rules start s.kept.lines place) m =
      moved ∙ ap (λ x. after rules x m) (t.stands ∙ sym b) in
      let legal : Legal rules (board_at rules start s.kept.lines place) m =
      subst (λ x. Legal rules x m) (sym b) (listed rules here moves i d t.moves_are lt) in
      let on = met_on rules start playable in_start s s' place m n t.sound (omega arith)
      (ap (λ l. length l + 1) stays) legal (subst (λ x. ¬ Won rules x) next_board not_won) limit
      (subst (λ x. IsMet s s' (key_bytes rules x) place m) next_board met) in
      let after_here : after rules (board_at rules start s.kept.lines place) m ≡ after rules here m =
      ap (λ x. after rules x m) b in
      record {
        sound = on.sound;
        grown = grown-then old s s' n t.grown on.grown;
        stands = ap (λ x. board_of x) same ∙ t.stands;
        belongs = subst (λ x. Belongs rules (board_of x)) (sym same) t.belongs;
        tried = λ j e lt'. elim (cases_lt j i) [
          | inl below ↦ t.tried j e below
          | inr above ↦
              let at : i ≡ j = omega arith in
              subst (λ k. ¬ Won rules (after rules here (get_or moves k e))) at
              (subst (λ x. ¬ Won rules (after rules here x)) (get_or_default moves i d e lt)
              (subst (λ x. ¬ Won rules x) (next_board ∙ after_here) not_won))
        ];
        reached = λ f j e lt'. elim (cases_lt j i) [
          | inl below ↦ key_stays s s' n
              (key_bytes rules (after rules here (get_or moves j e))) on.grown
              (t.reached (before_none s s' n on.grown f) j e below)
          | inr above ↦
              let at : i ≡ j = omega arith in
              subst (λ k. Contains s'.kept.keys (key_bytes rules (after rules here (get_or moves k e)))) at
              (subst (λ x. Contains s'.kept.keys (key_bytes rules (after rules here x))) (get_or_default moves i d e lt)
              (subst (λ x. Contains s'.kept.keys (key_bytes rules x)) after_here (on.reached f)))
        ];
        line_is = t.line_is;
        moves_are = t.moves_are;
      }

  -- all moves were tried
  pub trying-all : (old s : Search) (place : ℕ) (moves : List Move) (i : ℕ) (packed : Linked) (line : List Move)
      → IsTrying rules start old s place moves i packed line → length moves ≤ i
      → IsExpanded rules start old s place None
  trying-all old s place moves i packed line t le =
      let here : Board = board_at rules start old.kept.lines place in
      let place_of : (m : Move) → Legal rules here m → Contains moves m = λ m legal.
      subst (λ ms. Contains ms m) (sym t.moves_are) ((legal_moves-exact rules here m).1 legal) in (
        λ m legal. let p = place_of m legal in let lt = p.1 in
            subst (λ x. ¬ Won rules (after rules here x)) p.2 (t.tried p.0 m (omega arith)),
        λ f m legal. let p = place_of m legal in let lt = p.1 in
            subst (λ x. Contains s.kept.keys (key_bytes rules (after rules here x))) p.2
            (t.reached f p.0 m (omega arith)),
      )

  -- a move wins
  pub trying-won : (old s : Search) (place : ℕ) (moves : List Move) (i : ℕ) (d : Move) (packed packed' : Linked)
      (line line' : List Move) → place < length old.kept.lines
      → IsSound rules start old (length (line_at old.kept.lines place) + 1)
      → IsTrying rules start old s place moves i packed line → i < length moves
      → board_of packed' ≡ after rules (board_of packed) (get_or moves i d) → Won rules (board_of packed')
      → line' ≡ line ++ get_or moves i d ∷ []
      → IsWin rules start line' (length (line_at old.kept.lines place) + 1)
  trying-won old s place moves i d packed packed' line line' there sound t lt moved won is =
      let m : Move = get_or moves i d in
      let front : List Move = line_at old.kept.lines place in
      let here : Board = board_at rules start old.kept.lines place in
      let e : line' ≡ front ++ m ∷ [] = is ∙ ap (λ l. l ++ m ∷ []) t.line_is in
      let board : board_of packed' ≡ end_of rules start line' =
      moved ∙ ap (λ x. after rules x m) t.stands ∙ sym (end_of-push rules start front m)
      ∙ ap (λ l. end_of rules start l) (sym e) in
      record {
        leads = subst (IsLine rules start) (sym e)
            (Line-push rules start front m (sound.tree.legal place there) (listed rules here moves i d t.moves_are lt));
        won = subst (λ x. Won rules x) board won;
        long = ap (λ l. length l) e ∙ length-append front (m ∷ []);
      }

  pub running-first : (old : Search) (from : ℕ)
      → IsLevel rules start old from (length (line_at old.kept.lines from)) → from < length old.kept.lines
      → IsRunning rules start old old from from
  running-first old from level lt = record {
    sound = level.sound;
    grown = grown-none old (length (line_at old.kept.lines from) + 1);
    tried = λ k below m legal.
        let lt' : k < length old.kept.lines = omega arith in
        known_not_won rules start playable in_start old.kept
        (after rules (board_at rules start old.kept.lines k) m) level.sound.tree
        (belongs-after rules (board_at rules start old.kept.lines k) m playable
        (belongs_at rules start playable in_start old.kept k level.sound.tree lt') legal)
        (level.reached k below m legal);
    reached = λ f k below m legal. level.reached k below m legal;
  }

  -- the board at the next place is one of the level
  pub same_depth : (old s : Search) (from place : ℕ)
      → IsLevel rules start old from (length (line_at old.kept.lines from)) → from ≤ place
      → place < length old.kept.lines → IsGrown old s (length (line_at old.kept.lines from) + 1)
      → length (line_at s.kept.lines place) + 1 ≡ length (line_at old.kept.lines from) + 1
  same_depth old s from place level le lt grown =
      ap (λ l. length l + 1) (line_stays old s (length (line_at old.kept.lines from) + 1) place grown lt)
      ∙ ap (λ n. n + 1) (level.last place le lt)

  pub running-next : (old s s' : Search) (from place : ℕ)
      → IsLevel rules start old from (length (line_at old.kept.lines from)) → from ≤ place
      → place < length old.kept.lines → IsRunning rules start old s from place
      → IsSound rules start s' (length (line_at s.kept.lines place) + 1)
      → IsGrown s s' (length (line_at s.kept.lines place) + 1) → IsExpanded rules start s s' place None
      → IsRunning rules start old s' from (place + 1)
  running-next old s s' from place level le lt r sound grown expanded =
      let n : ℕ = length (line_at old.kept.lines from) + 1 in
      let e = same_depth old s from place level le lt r.grown in
      let g : IsGrown s s' n = subst (λ k. IsGrown s s' k) e grown in
      let b : board_at rules start s.kept.lines place ≡ board_at rules start old.kept.lines place =
      ap (λ l. end_of rules start l) (line_stays old s n place r.grown lt) in
      record {
        sound = subst (λ k. IsSound rules start s' k) e sound;
        grown = grown-then old s s' n r.grown g;
        tried = λ k below m legal. elim (cases_lt k place) [
          | inl less ↦ r.tried k less m legal
          | inr above ↦
              let at : place ≡ k = omega arith in
              let b' : board_at rules start s.kept.lines place ≡ board_at rules start old.kept.lines k =
              b ∙ ap (λ j. board_at rules start old.kept.lines j) at in
              subst (λ x. ¬ Won rules (after rules x m)) b'
              (expanded.0 m (subst (λ x. Legal rules x m) (sym b') legal))
        ];
        reached = λ f k below m legal. elim (cases_lt k place) [
          | inl less ↦ key_stays s s' n
              (key_bytes rules (after rules (board_at rules start old.kept.lines k) m)) g
              (r.reached (before_none s s' n g f) k less m legal)
          | inr above ↦
              let at : place ≡ k = omega arith in
              let b' : board_at rules start s.kept.lines place ≡ board_at rules start old.kept.lines k =
              b ∙ ap (λ j. board_at rules start old.kept.lines j) at in
              subst (λ x. Contains s'.kept.keys (key_bytes rules (after rules x m))) b'
              (expanded.1 f m (subst (λ x. Legal rules x m) (sym b') legal))
        ];
      }
