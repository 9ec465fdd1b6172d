-- The moves of a file, line by line.
use Rattle.std.proofs.Common.{◌≡◌, ◌==◌, ◌+◌, ◌<◌, ◌≤◌, ℕ, List, [], ◌∷◌, ◌++◌, length, Bool, true, false, Option, Some}
use Rattle.std.proofs.Common.{None, Result, Ok, Err, refl, ap, sym, ◌∙◌, append_assoc, arith}
use Rattle.std.proofs.lemmas.List.{append-nil}
use Rattle.std.proofs.lemmas.List.Splits.{length-slice_split}
use Rattle.game_rules.specs.declared.Move.{Move}
use Rattle.game_rules.specs.Play.{is_empty}
use Rattle.line_printer.specs.declared.fault.LineFault.{LineFault}
use Rattle.line_printer.specs.declared.fault.LineFault.TheVariants.{BadMove}
use Rattle.line_printer.specs.MoveText.{move_of_text}
use Rattle.line_printer.specs.LineFile.{parts_of, newlines, with_move, moves_from}

-- the moves so far before those of what follows
abbrev pub onto : List Move → Result (List Move) LineFault → Result (List Move) LineFault
onto moves (Ok more) = Ok (moves ++ more)
onto moves (Err fault) = Err fault

pub onto-nothing : (reading : Result (List Move) LineFault) → onto [] reading ≡ reading
onto-nothing (Ok moves) = refl
onto-nothing (Err fault) = refl

onto-with_move : (moves : List Move) (line : ℕ) (m : Move) (reading : Result (List Move) LineFault)
    → onto moves (with_move line (Some m) reading) ≡ onto (moves ++ m ∷ []) reading
onto-with_move moves line m (Ok more) = ap Ok (sym (append_assoc moves (m ∷ []) more))
onto-with_move moves line m (Err fault) = refl

-- a text has at least one part
moves_from-list : (line : ℕ) (text : List ℕ) (parts : List (List ℕ)) → 0 < length parts
    → moves_from line (text ∷ parts) ≡ with_move line (move_of_text text) (moves_from (line + 1) parts)
moves_from-list line text [] some = absurd (omega arith)
moves_from-list line text (part ∷ parts) some = refl

pub moves_from-line : (line : ℕ) (text after : List ℕ)
    → moves_from line (text ∷ parts_of after) ≡ with_move line (move_of_text text)
    (moves_from (line + 1) (parts_of after))
moves_from-line line text after = moves_from-list line text (parts_of after)
    (omega (arith, length-slice_split (λ b. b == 10) after))

-- what is known while the lines are read
pub record ReadSoFar (first : ℕ) (text : List ℕ) (line : ℕ) (moves : List Move) (rest : List ℕ) : Type 0 where
  pub reading : moves_from first (parts_of text) ≡ onto moves (moves_from line (parts_of rest))
  pub fits : line + length rest ≤ first + length text

pub read_none : (first : ℕ) (text : List ℕ) → ReadSoFar first text first [] text
read_none first text = record { reading = sym (onto-nothing (moves_from first (parts_of text))); fits = omega arith }

pub read_more : (first : ℕ) (text : List ℕ) (line : ℕ) (moves : List Move) (rest part after : List ℕ) (m : Move)
    → ReadSoFar first text line moves rest → parts_of rest ≡ part ∷ parts_of after → length after < length rest
    → Some m ≡ move_of_text part
    → ReadSoFar first text (line + 1) (moves ++ m ∷ []) after
read_more first text line moves rest part after m so_far cut shorter is = record {
  reading = so_far.reading
      ∙ ap (λ parts. onto moves (moves_from line parts)) cut
      ∙ ap (onto moves) (moves_from-line line part after
      ∙ ap (λ move. with_move line move (moves_from (line + 1) (parts_of after))) (sym is))
      ∙ onto-with_move moves line m (moves_from (line + 1) (parts_of after));
  fits = let f = so_far.fits in omega arith;
}

pub read_bad : (first : ℕ) (text : List ℕ) (line : ℕ) (moves : List Move) (rest part after : List ℕ)
    → ReadSoFar first text line moves rest → parts_of rest ≡ part ∷ parts_of after → None ≡ move_of_text part
    → moves_from first (parts_of text) ≡ Err (BadMove line)
read_bad first text line moves rest part after so_far cut is =
    so_far.reading
    ∙ ap (λ parts. onto moves (moves_from line parts)) cut
    ∙ ap (onto moves) (moves_from-line line part after
    ∙ ap (λ move. with_move line move (moves_from (line + 1) (parts_of after))) (sym is))

pub read_end : (first : ℕ) (text : List ℕ) (line : ℕ) (moves : List Move) (rest : List ℕ)
    → ReadSoFar first text line moves rest → parts_of rest ≡ rest ∷ [] → rest ≡ []
    → moves_from first (parts_of text) ≡ Ok moves
read_end first text line moves rest so_far whole nothing =
    so_far.reading ∙ ap (λ parts. onto moves (moves_from line parts)) (whole ∙ ap (λ r. r ∷ []) nothing)
    ∙ ap Ok (append-nil moves)

pub read_rest : (first : ℕ) (text : List ℕ) (line : ℕ) (moves : List Move) (rest : List ℕ)
    → ReadSoFar first text line moves rest → parts_of rest ≡ rest ∷ [] → is_empty rest ≡ false
    → moves_from first (parts_of text) ≡ Err (BadMove line)
read_rest first text line moves rest so_far whole some =
    so_far.reading ∙ ap (λ parts. onto moves (moves_from line parts)) whole ∙ rw some refl
