-- The text of a line of moves, piece by piece.
use Rattle.std.proofs.Common.{◌≡◌, ◌<◌, ◌+◌, ℕ, List, [], ◌∷◌, ◌++◌, length, get_or, take, refl, ap, sym}
use Rattle.std.proofs.Common.{◌∙◌, append_assoc}
use Rattle.std.proofs.lemmas.List.{take_more, append-nil}
use Rattle.game_rules.specs.declared.Move.{Move}
use Rattle.line_printer.specs.MoveText.{move_text}
use Rattle.line_printer.specs.LineFile.{ended, line_text}

pub line_text-append : (moves more : List Move) → line_text (moves ++ more) ≡ line_text moves ++ line_text more
line_text-append [] more = refl
line_text-append (m ∷ moves) more = ap (λ text. ended (move_text m) ++ text) (line_text-append moves more)
    ∙ sym (append_assoc (ended (move_text m)) (line_text moves) (line_text more))

pub line_text_more : (moves : List Move) (i : ℕ) (d : Move) → i < length moves
    → line_text (take (i + 1) moves) ≡ line_text (take i moves) ++ move_text (get_or moves i d) ++ 10 ∷ []
line_text_more moves i d within =
    ap line_text (take_more moves i d within)
    ∙ line_text-append (take i moves) (get_or moves i d ∷ [])
    ∙ simp (append_assoc, append-nil) refl

-- one more move was written
pub line_text_pushed : (before written with_move with_end : List ℕ) (moves : List Move) (i : ℕ) (d : Move)
    → i < length moves
    → written ≡ before ++ line_text (take i moves) → with_move ≡ written ++ move_text (get_or moves i d)
    → with_end ≡ with_move ++ 10 ∷ []
    → with_end ≡ before ++ line_text (take (i + 1) moves)
line_text_pushed before written with_move with_end moves i d within so_far move end =
    end
    ∙ ap (λ text. text ++ 10 ∷ []) (move ∙ ap (λ text. text ++ move_text (get_or moves i d)) so_far)
    ∙ append_assoc (before ++ line_text (take i moves)) (move_text (get_or moves i d)) (10 ∷ [])
    ∙ append_assoc before (line_text (take i moves)) (move_text (get_or moves i d) ++ 10 ∷ [])
    ∙ ap (λ text. before ++ text)
    (sym (append_assoc (line_text (take i moves)) (move_text (get_or moves i d)) (10 ∷ []))
    ∙ sym (line_text_more moves i d within))
