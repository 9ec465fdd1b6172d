-- Line files: what is written reads back, and what is read was written.
use Rattle.std.proofs.Common.{◌≡◌, ◌&&◌, nat_lt, ◌<◌, ◌≤◌, ◌+◌, ◌^◌, ◌==◌, ◌⊎◌, suc, ℕ, List, [], ◌∷◌, ◌++◌, length}
use Rattle.std.proofs.Common.{get_or, take, drop, Bool, true, false, cond, Option, Some, None, Result, Ok, Err, IfOk}
use Rattle.std.proofs.Common.{decimal, codes, refl, ap, sym, subst, ◌∙◌, append_assoc, inl, inr, lit<, lit≤}
use Rattle.std.proofs.Common.{arith, length-append}
use Rattle.std.specs.List.{All, slice_split, before_first, after_first, position_or_len, join_with_byte, count_by}
use Rattle.std.specs.Str.{bytes_eq}
use Rattle.std.proofs.lemmas.Bool.{le-ltb, ltb-true}
use Rattle.std.proofs.lemmas.List.{take_at, drop_at, get_or_at, get_or_append_left, take_all, length-take-le}
use Rattle.std.proofs.lemmas.List.Sums.{position_or_len_is}
use Rattle.std.proofs.lemmas.List.Elements.{All-nil, All-cons, All-append, All-head, All-tail}
use Rattle.std.proofs.lemmas.List.Splits.{slice_split_at, join_with_byte-slice_split, length-slice_split}
use Rattle.std.proofs.lemmas.Slice.Eq.{bytes_eq-Decides}
use Rattle.game_rules.specs.declared.Move.{Move}
use Rattle.game_rules.specs.Play.{is_empty}
use Rattle.line_printer.specs.declared.fault.LineFault.{LineFault}
use Rattle.line_printer.specs.declared.fault.LineFault.TheVariants.{TooLong, BadMove}
use Rattle.line_printer.specs.MoveText.{move_text, move_of_text}
use Rattle.line_printer.specs.SmallMoves.{IsSmall}
use Rattle.line_printer.specs.LineFile.{ended, line_text, parts_of, newlines, after_line, has_head, past_head}
use Rattle.line_printer.specs.LineFile.{with_move, moves_from, line_within, most_bytes, line_of}
use Rattle.line_printer.specs.Reads.{ReadsAs}
use Rattle.line_printer.proofs.Cuts.{count_more}
use Rattle.line_printer.proofs.Steps.{moves_from-line}
use Rattle.line_printer.proofs.Reading.{line_of_plain, line_of_head}
use Rattle.line_printer.proofs.Places.{is_empty_nil}
use Rattle.line_printer.proofs.MovesRead.{move_read, IsOnOneLine, word_on_one_line, move_on_one_line}
use Rattle.line_printer.proofs.MovesWritten.{move_written}

-- what a choice gives
cond_is : {X : Type 0} (b : Bool) (x y v : X) → cond b x y ≡ v → ((b ≡ true) × (x ≡ v)) ⊎ ((b ≡ false) × (y ≡ v))
cond_is true x y v e = inl (refl, e)
cond_is false x y v e = inr (refl, e)

-- a line and its newline before a text
position-line : (first rest : List ℕ) → IsOnOneLine first
    → position_or_len (λ b. b == 10) (first ++ 10 ∷ rest) ≡ length first
position-line first rest whole =
    position_or_len_is (λ b. b == 10) (first ++ 10 ∷ rest) (length first) 0
    (omega (arith, length-append first (10 ∷ rest)))
    (λ k l. let P : ℕ → Type 0 = λ b.
    (b == 10) ≡ false in subst P (sym (get_or_append_left first (10 ∷ rest) 0 k l)) (whole k 0 l))
    (λ l. let P : ℕ → Type 0 = λ b.
    (b == 10) ≡ true in subst P (sym (get_or_at first 10 rest 0 (length first) refl)) refl)

before-line : (first rest : List ℕ) → IsOnOneLine first → before_first (λ b. b == 10) (first ++ 10 ∷ rest) ≡ first
before-line first rest whole = ap (λ n. take n (first ++ 10 ∷ rest)) (position-line first rest whole)
    ∙ take_at first (10 ∷ rest) (length first) refl

pub after_line-line : (first rest : List ℕ) → IsOnOneLine first → after_line (first ++ 10 ∷ rest) ≡ rest
unfolding after_line
after_line-line first rest whole =
    ap (λ n. drop (n + 1) (first ++ 10 ∷ rest)) (position-line first rest whole)
    ∙ ap (λ text. drop (length first + 1) text) (sym (append_assoc first (10 ∷ []) rest))
    ∙ drop_at (first ++ 10 ∷ []) rest (length first + 1) (length-append first (10 ∷ []))

newlines-line : (first rest : List ℕ) → IsOnOneLine first → newlines (first ++ 10 ∷ rest) ≡ newlines rest + 1
newlines-line first rest whole = count_more (λ b. b == 10) (first ++ 10 ∷ rest) first rest
    (slice_split_at (λ b. b == 10) first 10 rest whole refl)

pub moves_from-line_text : (moves : List Move) (line : ℕ) → All IsSmall moves
    → moves_from line (parts_of (line_text moves)) ≡ Ok moves
moves_from-line_text [] line small = refl
moves_from-line_text (m ∷ moves) line small =
    let first = All-head IsSmall m moves small in
    ap (λ text. moves_from line (parts_of text)) (append_assoc (move_text m) (10 ∷ []) (line_text moves))
    ∙ ap (moves_from line)
    (slice_split_at (λ b. b == 10) (move_text m) 10 (line_text moves) (move_on_one_line m first) refl)
    ∙ moves_from-line line (move_text m) (line_text moves)
    ∙ ap (λ move. with_move line move (moves_from (line + 1) (parts_of (line_text moves)))) (move_read m first)
    ∙ ap (λ reading. with_move line (Some m) reading)
    (moves_from-line_text moves (line + 1) (All-tail IsSmall m moves small))

winnable_is_none : move_of_text (codes "winnable") ≡ None
unfolding move_of_text
winnable_is_none = refl

-- no move's text is the head of a verdict's
no_head : (m : Move) → IsSmall m → (b : Bool) → bytes_eq (move_text m) (codes "winnable") ≡ b → b ≡ false
no_head m small false is = refl
no_head m small true is =
    let text : move_text m ≡ codes "winnable" = (bytes_eq-Decides (move_text m) (codes "winnable")).0 is in
    let read : Some m ≡ None = sym (move_read m small) ∙ ap move_of_text text ∙ winnable_is_none in
    absurd (cc)

pub has_head-line_text : (moves : List Move) → All IsSmall moves → has_head (line_text moves) ≡ false
unfolding has_head
has_head-line_text [] small = refl
has_head-line_text (m ∷ moves) small =
    let first = All-head IsSmall m moves small in
    let line : before_first (λ b. b == 10) (line_text (m ∷ moves)) ≡ move_text m =
    ap (before_first (λ b. b == 10)) (append_assoc (move_text m) (10 ∷ []) (line_text moves))
    ∙ before-line (move_text m) (line_text moves) (move_on_one_line m first) in
    ap (λ text. bytes_eq text (codes "winnable")) line
    ∙ no_head m first (bytes_eq (move_text m) (codes "winnable")) refl

-- the text of a line reads back as the line
pub line_of-line_text : (moves : List Move) → All IsSmall moves → length (line_text moves) ≤ most_bytes
    → line_of (line_text moves) ≡ Ok moves
line_of-line_text moves small short =
    line_of_plain (line_text moves) short (has_head-line_text moves small) ∙ moves_from-line_text moves 1 small

winnable_on_one_line : IsOnOneLine (codes "winnable")
winnable_on_one_line = word_on_one_line (codes "winnable") refl

-- a text under the four lines of a head
abbrev pub headed : (a b c d rest : List ℕ) → List ℕ
headed a b c d rest = a ++ 10 ∷ (b ++ 10 ∷ (c ++ 10 ∷ (d ++ 10 ∷ rest)))

head_of : (rest : List ℕ) → has_head (codes "winnable" ++ 10 ∷ rest) ≡ true
unfolding has_head
head_of rest =
    ap (λ t. bytes_eq t (codes "winnable")) (before-line (codes "winnable") rest winnable_on_one_line)
    ∙ (bytes_eq-Decides (codes "winnable") (codes "winnable")).1 refl

pub line_of-headed : (b c d : List ℕ) (moves : List Move) → IsOnOneLine b → IsOnOneLine c → IsOnOneLine d
    → All IsSmall moves
    → length (headed (codes "winnable") b c d (line_text moves)) ≤ most_bytes
    → line_of (headed (codes "winnable") b c d (line_text moves)) ≡ Ok moves
line_of-headed b c d moves whole_b whole_c whole_d small short =
    let a = codes "winnable" in
    let text = line_text moves in
    let under_d = d ++ 10 ∷ text in
    let under_c = c ++ 10 ∷ under_d in
    let under_b = b ++ 10 ∷ under_c in
    let rest : text ≡ after_line (after_line (after_line (after_line (headed a b c d text)))) = sym (
    ap (λ t. after_line (after_line (after_line t))) (after_line-line a under_b winnable_on_one_line)
    ∙ ap (λ t. after_line (after_line t)) (after_line-line b under_c whole_b)
    ∙ ap after_line (after_line-line c under_d whole_c)
    ∙ after_line-line d text whole_d) in
    let first = newlines-line a under_b winnable_on_one_line in
    let second = newlines-line b under_c whole_b in
    let third = newlines-line c under_d whole_c in
    let fourth = newlines-line d text whole_d in
    let more : newlines (headed a b c d text) ≡ newlines text + 4 = omega (arith, first, second, third, fourth) in
    line_of_head (headed a b c d text) text short (head_of under_b) rest more ∙ moves_from-line_text moves 5 small

-- the text of the lines from which moves were read
with_move_ok : (line : ℕ) (move : Option Move) (reading : Result (List Move) LineFault) (moves : List Move)
    → with_move line move reading ≡ Ok moves
    → (m : Move) × (rest : List Move) × (move ≡ Some m) × (reading ≡ Ok rest) × (m ∷ rest ≡ moves)
with_move_ok line None reading moves is = absurd (cc)
with_move_ok line (Some m) (Err fault) moves is = absurd (cc)
with_move_ok line (Some m) (Ok rest) moves is = (m, rest, refl, refl, cc)

parts_written : (parts : List (List ℕ)) (line : ℕ) (moves : List Move) → 0 < length parts
    → moves_from line parts ≡ Ok moves → join_with_byte 10 parts ≡ line_text moves
parts_written [] line moves some is = absurd (omega arith)
parts_written (text ∷ []) line moves some is =
    elim (cond_is (is_empty text) (Ok []) (Err (BadMove line)) (Ok moves) is) [
      | inl end ↦ let none : [] ≡ moves = cc in is_empty_nil text end.0 ∙ ap line_text none
      | inr bad ↦ absurd (cc)
    ]
parts_written (text ∷ next ∷ parts) line moves some is =
    let read = with_move_ok line (move_of_text text) (moves_from (line + 1) (next ∷ parts)) moves is in
    let rest = parts_written (next ∷ parts) (line + 1) read.1 (omega arith) read.3 in
    let first = (move_written text read.0 read.2).0 in
    ap (λ r. text ++ 10 ∷ r) rest
    ∙ ap (λ t. t ++ 10 ∷ line_text read.1) (sym first)
    ∙ sym (append_assoc (move_text read.0) (10 ∷ []) (line_text read.1))
    ∙ ap line_text read.4

pub moves_from_written : (line : ℕ) (text : List ℕ) (moves : List Move) → moves_from line (parts_of text) ≡ Ok moves
    → text ≡ line_text moves
moves_from_written line text moves is =
    sym (join_with_byte-slice_split 10 text) ∙ parts_written (parts_of text) line moves
    (omega (arith, length-slice_split (λ b. b == 10) text)) is

-- a file that is read is, past its head, the text of what it gave
pub line_of_written : (bytes : List ℕ) (moves : List Move) → line_of bytes ≡ Ok moves
    → past_head bytes ≡ line_text moves
unfolding line_of
line_of_written bytes moves is =
    let cut = has_head bytes && nat_lt (newlines bytes) 4 in
    let first : ℕ = cond (has_head bytes) 5 1 in
    let reading = moves_from first (parts_of (past_head bytes)) in
    elim (cond_is (nat_lt most_bytes (length bytes)) (Err TooLong)
    (cond cut (Err (BadMove (newlines bytes + 1))) reading) (Ok moves) is) [
      | inl long ↦ absurd (cc)
      | inr short ↦ elim (cond_is cut (Err (BadMove (newlines bytes + 1))) reading (Ok moves) short.1) [
        | inl few ↦ absurd (cc)
        | inr whole ↦ moves_from_written first (past_head bytes) moves whole.1
      ]
    ]

pub written_of : (result : Result (List Move) LineFault) (bytes : List ℕ) → ReadsAs result (line_of bytes)
    → IfOk result (λ line. past_head bytes ≡ line_text line)
written_of (Ok moves) bytes reads = line_of_written bytes moves reads
written_of (Err fault) bytes reads = tt
