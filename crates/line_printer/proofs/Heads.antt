-- The text of a verdict without a line, as one format writes it.
use Rattle.std.proofs.Common.{◌≡◌, ◌++◌, ℕ, codes, decimal, append_assoc, List, [], ◌∷◌, sym}
use Rattle.line_printer.specs.declared.verdict.Verdict.TheVariants.{Unwinnable, Undecided}
use Rattle.line_printer.specs.VerdictText.{output_of}

regroup_heads : (a b c d e n : List ℕ) → ((a ++ n) ++ ((b ++ d) ++ n)) ++ ((c ++ e) ++ n) ≡ ((a ++ n) ++ b)
    ++ (d ++ ((n ++ c) ++ (e ++ n)))
regroup_heads a b c d e n = simp append_assoc

pub unwinnable_is : (nodes narrow_nodes : ℕ)
    → codes "unwinnable\nnodes " ++ (decimal nodes ++ (codes "\nnarrow " ++ (decimal narrow_nodes ++ codes "\n")))
    ≡ output_of (Unwinnable nodes narrow_nodes)
unfolding output_of
unwinnable_is nodes narrow_nodes = sym (regroup_heads (codes "unwinnable") (codes "nodes ") (codes "narrow ")
    (decimal nodes) (decimal narrow_nodes) (10 ∷ []))

pub undecided_is : (nodes narrow_nodes : ℕ)
    → codes "undecided\nnodes " ++ (decimal nodes ++ (codes "\nnarrow " ++ (decimal narrow_nodes ++ codes "\n")))
    ≡ output_of (Undecided nodes narrow_nodes)
unfolding output_of
undecided_is nodes narrow_nodes = sym (regroup_heads (codes "undecided") (codes "nodes ") (codes "narrow ")
    (decimal nodes) (decimal narrow_nodes) (10 ∷ []))
