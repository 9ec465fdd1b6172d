-- Written texts read back.
use Rattle.std.proofs.Common.{◌≡◌, ◌<◌, ◌≤◌, ◌^◌, ◌==◌, false, ℕ, List, [], ◌∷◌, ◌++◌, length, Vec, Result, Ok, Err}
use Rattle.std.proofs.Common.{IfOk, decimal, codes, refl, ap, sym, subst, ◌∙◌, append_assoc, lit<}
use Rattle.std.specs.List.{All}
use Rattle.std.specs.declared.alloc.Global.{Global}
use Rattle.std.proofs.lemmas.List.Elements.{All-append}
use Rattle.card_piles.specs.declared.NoMemory.{NoMemory}
use Rattle.game_rules.specs.declared.Move.{Move}
use Rattle.line_printer.specs.declared.verdict.Verdict.TheVariants.{Winnable}
use Rattle.line_printer.specs.SmallMoves.{IsSmall}
use Rattle.line_printer.specs.LineFile.{ended, line_text, most_bytes, line_of}
use Rattle.line_printer.specs.Fitting.{Fitting}
use Rattle.line_printer.specs.VerdictText.{output_of}
use Rattle.line_printer.specs.ReadsBack.{ReadsBack}
use Rattle.line_printer.proofs.Blanks.{IsVisible-decimal, no_byte}
use Rattle.line_printer.proofs.MovesRead.{IsOnOneLine, word_on_one_line}
use Rattle.line_printer.proofs.FilesRead.{headed, line_of-line_text, line_of-headed}

-- a text that is a line's text
pub text_back : (text : List ℕ) (moves : List Move) → text ≡ line_text moves → All IsSmall moves
    → length text ≤ most_bytes → line_of text ≡ Ok moves
text_back text moves is small short =
    let P : List ℕ → Type 0 = λ t. length t ≤ most_bytes in
    ap line_of is ∙ line_of-line_text moves small (subst P is short)

regroup : (a b c d rest : List ℕ) → ended a ++ ended b ++ ended c ++ ended d ++ rest ≡ headed a b c d rest
regroup a b c d rest = simp append_assoc refl

numbered_line : (word : List ℕ) (n : ℕ) → IsOnOneLine word → n < 2 ^ 64 → IsOnOneLine (word ++ decimal n)
numbered_line word n whole small =
    All-append (λ b. (b == 10) ≡ false) word (decimal n) whole
    (no_byte 33 10 (decimal n) (lit< tt) (IsVisible-decimal n small))

verdict_text_back : (line : List Move) (nodes narrow_nodes : ℕ) → Fitting line nodes narrow_nodes
    → length (output_of (Winnable line nodes narrow_nodes)) ≤ most_bytes
    → line_of (output_of (Winnable line nodes narrow_nodes)) ≡ Ok line
unfolding output_of
verdict_text_back line nodes narrow_nodes fit short =
    let b = codes "nodes " ++ decimal nodes in
    let c = codes "narrow " ++ decimal narrow_nodes in
    let d = codes "moves " ++ decimal (length line) in
    let grouped = regroup (codes "winnable") b c d (line_text line) in
    let P : List ℕ → Type 0 = λ t. length t ≤ most_bytes in
    ap line_of grouped
    ∙ line_of-headed b c d line
    (numbered_line (codes "nodes ") nodes (word_on_one_line (codes "nodes ") refl) fit.nodes_fit)
    (numbered_line (codes "narrow ") narrow_nodes (word_on_one_line (codes "narrow ") refl) fit.narrow_fit)
    (numbered_line (codes "moves ") (length line) (word_on_one_line (codes "moves ") refl) fit.few)
    fit.moves (subst P grouped short)

pub verdict_back : (result : Result (Vec ℕ Global) NoMemory) (line moves : List Move)
    (nodes narrow_nodes : ℕ) → moves ≡ line
    → IfOk result (λ text. text.items ≡ output_of (Winnable moves nodes narrow_nodes))
    → IfOk result (λ text. Fitting moves nodes narrow_nodes)
    → IfOk result (λ text. length text.items ≤ most_bytes → ReadsBack text.items (Winnable line nodes narrow_nodes))
verdict_back (Err fault) line moves nodes narrow_nodes same is fit = tt
verdict_back (Ok text) line moves nodes narrow_nodes same is fit =
    let P : List ℕ → Type 0 = λ t. length t ≤ most_bytes → line_of t ≡ Ok moves in
    let read : length text.items ≤ most_bytes → line_of text.items ≡ Ok moves = subst P (sym is)
    (verdict_text_back moves nodes narrow_nodes fit) in
    λ few. read few ∙ ap (λ m. Ok m) same
