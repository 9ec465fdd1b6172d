-- A line goes from a board in one way.
use Rattle.std.proofs.Common.{◌≡◌, ◌++◌, suc, ℕ, List, [], ◌∷◌, length, refl, ap, sym, subst, ◌∙◌}
use Rattle.game_rules.specs.declared.RuleParts.{RuleParts}
use Rattle.game_rules.specs.declared.Move.{Move}
use Rattle.game_rules.specs.Board.{Board}
use Rattle.game_rules.specs.Play.{Legal, after}
use Rattle.game_rules.specs.Winning.{Line, Won}
use Rattle.win_replay.specs.declared.Replayed.{Replayed}
use Rattle.win_replay.specs.declared.Replayed.TheVariants.{Wins, EndsShort, Illegal}
use Rattle.win_replay.specs.Replays.{IsIllegalAt, IsReplayed}

Line-once : (rules : RuleParts) (start : Board) (moves : List Move) (a b : Board) → Line rules start moves a
    → Line rules start moves b → a ≡ b
Line-once rules start [] a b to_a to_b = to_a ∙ sym to_b
Line-once rules start (move ∷ moves) a b to_a to_b = Line-once rules (after rules start move) moves a b to_a.1 to_b.1

-- a move of a line is legal where it is made
legal_there : (rules : RuleParts) (start : Board) (before : List Move) (move : Move) (rest : List Move)
    (board end : Board)
    → Line rules start (before ++ move ∷ rest) end → Line rules start before board → Legal rules board move
legal_there rules start [] move rest board end line here = subst (λ b. Legal rules b move) (sym here) line.0
legal_there rules start (first ∷ before) move rest board end line here = legal_there rules
    (after rules start first) before move rest board end line.1 here.1

not_both : (rules : RuleParts) (start : Board) (moves : List Move) (at : ℕ) (end : Board)
    → IsIllegalAt rules start moves at → Line rules start moves end → ⊥
not_both rules start moves at end illegal line =
    let P : List Move → Type 0 = λ ms. Line rules start ms end in
    illegal.refused (legal_there rules start illegal.before illegal.move illegal.after illegal.board end
    (subst P illegal.split line) illegal.leads)

-- two places that stop a line are one
same_place : (rules : RuleParts) (start : Board) (a b : List Move) (m n : Move) (x y : List Move) (here there : Board)
    → a ++ m ∷ x ≡ b ++ n ∷ y → Line rules start a here → Line rules start b there → ¬ Legal rules here m
    → ¬ Legal rules there n → length a ≡ length b
same_place rules start [] [] m n x y here there is to_here to_there bad_m bad_n = refl
same_place rules start [] (g ∷ b) m n x y here there is to_here to_there bad_m bad_n =
    let same : g ≡ m = cc in
    absurd (bad_m
    (subst (λ board. Legal rules board m) (sym to_here) (subst (λ move. Legal rules start move) same to_there.0)))
same_place rules start (f ∷ a) [] m n x y here there is to_here to_there bad_m bad_n =
    let same : f ≡ n = cc in
    absurd (bad_n
    (subst (λ board. Legal rules board n) (sym to_there) (subst (λ move. Legal rules start move) same to_here.0)))
same_place rules start (f ∷ a) (g ∷ b) m n x y here there is to_here to_there bad_m bad_n =
    let same : g ≡ f = cc in
    let rest : a ++ m ∷ x ≡ b ++ n ∷ y = cc in
    let P : Move → Type 0 = λ move. Line rules (after rules start move) b there in
    ap (λ k. suc k) (same_place rules (after rules start f) a b m n x y here there rest to_here.1
    (subst P same to_there.1) bad_m bad_n)

pub replayed_once : (rules : RuleParts) (start : Board) (moves : List Move) (a b : Replayed)
    → IsReplayed rules start moves a → IsReplayed rules start moves b → a ≡ b
replayed_once rules start moves Wins Wins p q = refl
replayed_once rules start moves Wins EndsShort p q =
    absurd (q.2 (subst (λ board. Won rules board) (Line-once rules start moves p.0 q.0 p.1 q.1) p.2))
replayed_once rules start moves Wins (Illegal at) p q = absurd (not_both rules start moves at p.0 q p.1)
replayed_once rules start moves EndsShort Wins p q =
    absurd (p.2 (subst (λ board. Won rules board) (Line-once rules start moves q.0 p.0 q.1 p.1) q.2))
replayed_once rules start moves EndsShort EndsShort p q = refl
replayed_once rules start moves EndsShort (Illegal at) p q = absurd (not_both rules start moves at p.0 q p.1)
replayed_once rules start moves (Illegal at) Wins p q = absurd (not_both rules start moves at q.0 p q.1)
replayed_once rules start moves (Illegal at) EndsShort p q = absurd (not_both rules start moves at q.0 p q.1)
replayed_once rules start moves (Illegal i) (Illegal j) p q =
    ap Illegal (sym p.place
    ∙ same_place rules start p.before q.before p.move q.move p.after q.after p.board q.board
    (sym p.split ∙ q.split) p.leads q.leads p.refused q.refused
    ∙ q.place)
