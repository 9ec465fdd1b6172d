-- What a file gives, by its length and its first lines.
use Rattle.std.proofs.Common.{◌≡◌, ◌+◌, ◌<◌, ◌≤◌, ℕ, List, length, take, Bool, true, false, nat_lt, Ok, Err, refl, ap}
use Rattle.std.proofs.Common.{sym, ◌∙◌, inl, inr, arith}
use Rattle.std.proofs.lemmas.Bool.{lt-ltb, le-ltb, cases_lt}
use Rattle.std.proofs.lemmas.List.{take_all, length-take-le}
use Rattle.line_printer.specs.declared.fault.LineFault.TheVariants.{TooLong, BadMove}
use Rattle.line_printer.specs.LineFile.{parts_of, newlines, after_line, has_head, past_head, moves_from, line_within}
use Rattle.line_printer.specs.LineFile.{most_bytes, line_of}

pub line_of_long : (bytes : List ℕ) → most_bytes < length bytes → line_of bytes ≡ Err TooLong
unfolding line_of
line_of_long bytes long = rw (lt-ltb _ _ long) refl

pub line_of_plain : (bytes : List ℕ) → length bytes ≤ most_bytes → has_head bytes ≡ false
    → line_of bytes ≡ moves_from 1 (parts_of bytes)
unfolding line_of
line_of_plain bytes short plain = rw (le-ltb _ _ short, plain) refl

pub line_of_head : (bytes rest : List ℕ) → length bytes ≤ most_bytes → has_head bytes ≡ true
    → rest ≡ after_line (after_line (after_line (after_line bytes))) → newlines bytes ≡ newlines rest + 4
    → line_of bytes ≡ moves_from 5 (parts_of rest)
unfolding line_of
line_of_head bytes rest short head is more =
    let enough : nat_lt (newlines bytes) 4 ≡ false = le-ltb (newlines bytes) 4 (omega arith) in
    rw (le-ltb _ _ short, head, enough, is) refl

pub line_of_cut_head : (bytes : List ℕ) → length bytes ≤ most_bytes → has_head bytes ≡ true → newlines bytes < 4
    → line_of bytes ≡ Err (BadMove (newlines bytes + 1))
unfolding line_of
line_of_cut_head bytes short head few = rw (le-ltb _ _ short, head, lt-ltb (newlines bytes) 4 few) refl

too_long : (limit : ℕ) (bytes : List ℕ) → limit < length bytes → line_within limit bytes ≡ Err TooLong
too_long limit bytes long = rw (lt-ltb _ _ long) refl

-- of a file, one byte more than the limit tells all
pub line_within-take : (limit : ℕ) (bytes : List ℕ)
    → line_within limit (take (limit + 1) bytes) ≡ line_within limit bytes
line_within-take limit bytes =
    elim (cases_lt limit (length bytes)) [
      | inl long ↦
          let cut : length (take (limit + 1) bytes) ≡ limit + 1 = length-take-le (limit + 1) bytes
          (omega (arith, long)) in
          too_long limit (take (limit + 1) bytes) (omega (arith, cut)) ∙ sym (too_long limit bytes long)
      | inr short ↦ ap (line_within limit) (take_all (limit + 1) bytes (omega (arith, short)))
    ]

pub line_of_front : (bytes : List ℕ) → line_of (take 67108865 bytes) ≡ line_of bytes
unfolding line_of most_bytes
line_of_front bytes = line_within-take most_bytes bytes
