-- The orders of a script, line by line.
use Rattle.std.proofs.Common.{◌≡◌, ◌==◌, ◌+◌, ◌<◌, ◌≤◌, ℕ, List, [], ◌∷◌, ◌++◌, length, Bool, true, false, Option, Some}
use Rattle.std.proofs.Common.{None, Result, Ok, Err, refl, ap, sym, ◌∙◌, append_assoc, arith}
use Rattle.std.proofs.lemmas.Bool.{lt-ltb, le-ltb}
use Rattle.std.proofs.lemmas.List.{append-nil}
use Rattle.std.proofs.lemmas.List.Splits.{length-slice_split}
use Rattle.game_rules.specs.Play.{is_empty}
use Rattle.line_printer.specs.LineFile.{parts_of}
use Rattle.play_session.specs.declared.order.Order.{Order}
use Rattle.play_session.specs.declared.fault.ScriptFault.{ScriptFault}
use Rattle.play_session.specs.declared.fault.ScriptFault.TheVariants.{TooLong, BadOrder}
use Rattle.play_session.specs.ScriptFile.{order_of_text, with_order, orders_from, script_of}

-- the orders so far before those of what follows
abbrev pub onto : List Order → Result (List Order) ScriptFault → Result (List Order) ScriptFault
onto orders (Ok more) = Ok (orders ++ more)
onto orders (Err fault) = Err fault

pub onto-nothing : (reading : Result (List Order) ScriptFault) → onto [] reading ≡ reading
onto-nothing (Ok orders) = refl
onto-nothing (Err fault) = refl

onto-with_order : (orders : List Order) (line : ℕ) (order : Order) (reading : Result (List Order) ScriptFault)
    → onto orders (with_order line (Some order) reading) ≡ onto (orders ++ order ∷ []) reading
onto-with_order orders line order (Ok more) = ap Ok (sym (append_assoc orders (order ∷ []) more))
onto-with_order orders line order (Err fault) = refl

-- a text has at least one part
orders_from-list : (line : ℕ) (text : List ℕ) (parts : List (List ℕ)) → 0 < length parts
    → orders_from line (text ∷ parts) ≡ with_order line (order_of_text text) (orders_from (line + 1) parts)
orders_from-list line text [] some = absurd (omega arith)
orders_from-list line text (part ∷ parts) some = refl

orders_from-line : (line : ℕ) (text after : List ℕ)
    → orders_from line (text ∷ parts_of after) ≡ with_order line (order_of_text text)
    (orders_from (line + 1) (parts_of after))
orders_from-line line text after = orders_from-list line text (parts_of after)
    (omega (arith, length-slice_split (λ b. b == 10) after))

-- what is known while the lines are read
pub record ReadSoFar (text : List ℕ) (line : ℕ) (orders : List Order) (rest : List ℕ) : Type 0 where
  pub reading : orders_from 1 (parts_of text) ≡ onto orders (orders_from line (parts_of rest))
  pub fits : line + length rest ≤ 1 + length text

pub read_none : (text : List ℕ) → ReadSoFar text 1 [] text
read_none text = record { reading = sym (onto-nothing (orders_from 1 (parts_of text))); fits = omega arith }

pub read_more : (text : List ℕ) (line : ℕ) (orders : List Order) (rest part after : List ℕ) (order : Order)
    → ReadSoFar text line orders rest → parts_of rest ≡ part ∷ parts_of after → length after < length rest
    → Some order ≡ order_of_text part → ReadSoFar text (line + 1) (orders ++ order ∷ []) after
read_more text line orders rest part after order so_far cut shorter is = record {
  reading = so_far.reading
      ∙ ap (λ parts. onto orders (orders_from line parts)) cut
      ∙ ap (onto orders) (orders_from-line line part after
      ∙ ap (λ read. with_order line read (orders_from (line + 1) (parts_of after))) (sym is))
      ∙ onto-with_order orders line order (orders_from (line + 1) (parts_of after));
  fits = let f = so_far.fits in omega arith;
}

pub read_bad : (text : List ℕ) (line : ℕ) (orders : List Order) (rest part after : List ℕ)
    → ReadSoFar text line orders rest → parts_of rest ≡ part ∷ parts_of after → None ≡ order_of_text part
    → orders_from 1 (parts_of text) ≡ Err (BadOrder line)
read_bad text line orders rest part after so_far cut is =
    so_far.reading
    ∙ ap (λ parts. onto orders (orders_from line parts)) cut
    ∙ ap (onto orders) (orders_from-line line part after
    ∙ ap (λ read. with_order line read (orders_from (line + 1) (parts_of after))) (sym is))

pub read_end : (text : List ℕ) (line : ℕ) (orders : List Order) (rest : List ℕ)
    → ReadSoFar text line orders rest → parts_of rest ≡ rest ∷ [] → rest ≡ []
    → orders_from 1 (parts_of text) ≡ Ok orders
read_end text line orders rest so_far whole nothing =
    so_far.reading ∙ ap (λ parts. onto orders (orders_from line parts)) (whole ∙ ap (λ r. r ∷ []) nothing)
    ∙ ap Ok (append-nil orders)

pub read_rest : (text : List ℕ) (line : ℕ) (orders : List Order) (rest : List ℕ)
    → ReadSoFar text line orders rest → parts_of rest ≡ rest ∷ [] → is_empty rest ≡ false
    → orders_from 1 (parts_of text) ≡ Err (BadOrder line)
read_rest text line orders rest so_far whole some =
    so_far.reading ∙ ap (λ parts. onto orders (orders_from line parts)) whole ∙ rw some refl

pub script_of_long : (bytes : List ℕ) → 65536 < length bytes → script_of bytes ≡ Err TooLong
unfolding script_of
script_of_long bytes long = rw (lt-ltb _ _ long) refl

pub script_of_short : (bytes : List ℕ) → length bytes ≤ 65536 → script_of bytes ≡ orders_from 1 (parts_of bytes)
unfolding script_of
script_of_short bytes short = rw (le-ltb _ _ short) refl
