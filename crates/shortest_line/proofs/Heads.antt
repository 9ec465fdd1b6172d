-- The text of an open answer, as one format writes it.
use Rattle.std.proofs.Common.{◌≡◌, ◌++◌, ℕ, codes, decimal, append_assoc, List, [], ◌∷◌, sym}
use Rattle.shortest_line.specs.declared.answer.Shortest.TheVariants.{Open}
use Rattle.shortest_line.specs.AnswerText.{shortest_text}

regroup_heads : (a b c d e n : List ℕ) → ((a ++ n) ++ ((b ++ d) ++ n)) ++ ((c ++ e) ++ n) ≡ ((a ++ n) ++ b)
    ++ (d ++ ((n ++ c) ++ (e ++ n)))
regroup_heads a b c d e n = simp append_assoc

pub open_is : (bound nodes : ℕ)
    → codes "undecided\nnodes " ++ (decimal nodes ++ (codes "\nbound " ++ (decimal bound ++ codes "\n")))
    ≡ shortest_text (Open bound nodes)
unfolding shortest_text
open_is bound nodes = sym (regroup_heads (codes "undecided") (codes "nodes ") (codes "bound ")
    (decimal nodes) (decimal bound) (10 ∷ []))
