-- A script that is read is the text of its orders.
use Rattle.std.proofs.Common.{◌≡◌, ◌==◌, ◌+◌, ◌<◌, ◌⊎◌, nat_lt, ℕ, List, [], ◌∷◌, ◌++◌, length, Bool, true, false, cond}
use Rattle.std.proofs.Common.{Option, Some, None, Result, Ok, Err, IfOk, codes, refl, ap, sym, subst, ◌∙◌, append_assoc}
use Rattle.std.proofs.Common.{inl, inr, arith}
use Rattle.std.specs.List.{slice_split, join_with_byte}
use Rattle.std.specs.Str.{bytes_eq}
use Rattle.std.proofs.lemmas.List.Splits.{join_with_byte-slice_split, length-slice_split}
use Rattle.std.proofs.lemmas.Slice.Eq.{bytes_eq-Decides}
use Rattle.game_rules.specs.declared.Move.{Move}
use Rattle.game_rules.specs.Play.{is_empty}
use Rattle.line_printer.specs.MoveText.{move_of_text}
use Rattle.line_printer.specs.LineFile.{ended, parts_of}
use Rattle.line_printer.proofs.MovesWritten.{move_written}
use Rattle.line_printer.proofs.Places.{is_empty_nil}
use Rattle.play_session.specs.declared.order.Order.{Order}
use Rattle.play_session.specs.declared.order.Order.TheVariants.{Make, Undo, Redo, Show, Solved}
use Rattle.play_session.specs.declared.fault.ScriptFault.{ScriptFault}
use Rattle.play_session.specs.declared.fault.ScriptFault.TheVariants.{TooLong, BadOrder}
use Rattle.play_session.specs.ScriptFile.{made, order_of_text, with_order, orders_from}
use Rattle.play_session.specs.ScriptText.{order_text, script_text}
use Rattle.play_session.specs.Reads.{ReadsAs}

-- what a choice gives
cond_is : {X : Type 0} (b : Bool) (x y v : X) → cond b x y ≡ v → ((b ≡ true) × (x ≡ v)) ⊎ ((b ≡ false) × (y ≡ v))
cond_is true x y v e = inl (refl, e)
cond_is false x y v e = inr (refl, e)

-- the text of the order to make a move is the move's
made_written : (text : List ℕ) (read : Option Move) (order : Order) → move_of_text text ≡ read
    → made read ≡ Some order → order_text order ≡ text
made_written text None order e is = absurd (cc)
made_written text (Some m) order e is =
    let same : Make m ≡ order = cc in
    ap order_text (sym same) ∙ (move_written text m e).0

-- a text that is a word, or else is read further
word_or : (text word : List ℕ) (order found : Order) (rest : Option Order) → order_text order ≡ word
    → cond (bytes_eq text word) (Some order) rest ≡ Some found
    → (order_text found ≡ text) ⊎ (rest ≡ Some found)
word_or text word order found rest is e =
    elim (cond_is (bytes_eq text word) (Some order) rest (Some found) e) [
      | inl here ↦
          let same : order ≡ found = cc in
          inl (ap order_text (sym same) ∙ is ∙ sym ((bytes_eq-Decides text word).0 here.0))
      | inr there ↦ inr there.1
    ]

-- the text of an order that was read is the text that it was read from
pub order_written : (text : List ℕ) (order : Order) → order_of_text text ≡ Some order → order_text order ≡ text
unfolding order_of_text
order_written text order e =
    elim (word_or text (codes "undo") Undo order _ refl e) [
      | inl is ↦ is
      | inr a ↦ elim (word_or text (codes "redo") Redo order _ refl a) [
        | inl is ↦ is
        | inr b ↦ elim (word_or text (codes "show") Show order _ refl b) [
          | inl is ↦ is
          | inr d ↦ elim (word_or text (codes "solved?") Solved order _ refl d) [
            | inl is ↦ is
            | inr m ↦ made_written text (move_of_text text) order refl m
          ]
        ]
      ]
    ]

-- an order and those that follow were read
with_order_ok : (line : ℕ) (read : Option Order) (reading : Result (List Order) ScriptFault) (orders : List Order)
    → with_order line read reading ≡ Ok orders
    → (order : Order) × (rest : List Order) × (read ≡ Some order) × (reading ≡ Ok rest) × (order ∷ rest ≡ orders)
with_order_ok line None reading orders is = absurd (cc)
with_order_ok line (Some order) (Err fault) orders is = absurd (cc)
with_order_ok line (Some order) (Ok rest) orders is = (order, rest, refl, refl, cc)

-- lines that were read are the text of their orders
parts_written : (parts : List (List ℕ)) (line : ℕ) (orders : List Order) → 0 < length parts
    → orders_from line parts ≡ Ok orders → join_with_byte 10 parts ≡ script_text orders
parts_written [] line orders some is = absurd (omega arith)
parts_written (text ∷ []) line orders some is =
    elim (cond_is (is_empty text) (Ok []) (Err (BadOrder line)) (Ok orders) is) [
      | inl end ↦ let none : [] ≡ orders = cc in is_empty_nil text end.0 ∙ ap script_text none
      | inr bad ↦ absurd (cc)
    ]
parts_written (text ∷ next ∷ parts) line orders some is =
    let read = with_order_ok line (order_of_text text) (orders_from (line + 1) (next ∷ parts)) orders is in
    let rest = parts_written (next ∷ parts) (line + 1) read.1 (omega arith) read.3 in
    let first = order_written text read.0 read.2 in
    ap (λ r. text ++ 10 ∷ r) rest
    ∙ ap (λ t. t ++ 10 ∷ script_text read.1) (sym first)
    ∙ sym (append_assoc (order_text read.0) (10 ∷ []) (script_text read.1))
    ∙ ap script_text read.4

pub orders_from_written : (text : List ℕ) (orders : List Order) → orders_from 1 (parts_of text) ≡ Ok orders
    → text ≡ script_text orders
orders_from_written text orders is =
    sym (join_with_byte-slice_split 10 text)
    ∙ parts_written (parts_of text) 1 orders (omega (arith, length-slice_split (λ b. b == 10) text)) is

pub written_of : (result : Result (List Order) ScriptFault) (bytes : List ℕ)
    → ReadsAs result (orders_from 1 (parts_of bytes)) → IfOk result (λ orders. bytes ≡ script_text orders)
written_of (Ok orders) bytes reads = orders_from_written bytes orders reads
written_of (Err fault) bytes reads = tt
