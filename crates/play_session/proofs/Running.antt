-- What is printed while orders are carried out.
use Rattle.std.proofs.Common.{◌≡◌, ◌+◌, ◌<◌, ◌≤◌, ℕ, suc, min, List, [], ◌∷◌, ◌++◌, length, get_or, take, drop, refl, ap, sym}
use Rattle.std.proofs.Common.{◌∙◌, subst, append_assoc, arith, drop-cons, Result, Ok, Err, OnErr}
use Rattle.std.proofs.Math.Seq.{take-append_seam}
use Rattle.std.proofs.lemmas.List.{take_all, take-append-le, take-append-drop, length-take, drop_all}
use Rattle.game_rules.specs.declared.RuleParts.{RuleParts}
use Rattle.game_rules.specs.Board.{Board}
use Rattle.line_printer.specs.LineFile.{ended}
use Rattle.play_session.specs.declared.order.Order.{Order}
use Rattle.play_session.specs.Held.{Held}
use Rattle.play_session.specs.Moves.{Moves, after_order, after_orders}
use Rattle.play_session.specs.SessionText.{answer_text, session_text}
use Rattle.play_session.specs.Runs.{IsAfterSome, Keeps}
use Rattle.play_session.proofs.Orders.{after_more, after_some}

-- a text begins as another one
abbrev pub Begins : List ℕ → List ℕ → Type 0
Begins first text = take (length first) text ≡ first

-- a text that begins as one that begins as a third
pub begins_so : (a b c : List ℕ) → Begins a b → Begins b c → Begins a c
begins_so a b c first second =
    let short : min (length a) (length b) ≡ length a = sym (length-take (length a) b) ∙ ap length first in
    let parts : c ≡ b ++ drop (length b) c =
    sym (take-append-drop (length b) c) ∙ ap (λ t. t ++ drop (length b) c) second in
    ap (take (length a)) parts
    ∙ take-append-le (length a) b (drop (length b) c) (omega (arith, short))
    ∙ first

pub begins_more : (a b more : List ℕ) → Begins a b → Begins a (b ++ more)
begins_more a b more first = begins_so a b (b ++ more) first (take-append_seam b more)

-- what is known while orders are carried out, each from a list: so many of them are done
pub record RunSoFar (rules : RuleParts) (old : Held) (out : List ℕ) (orders : List Order) (done : ℕ) (now : Held)
    (text : List ℕ) : Type 0 where
  pub printed : text ++ session_text rules old.start now.moves (drop done orders)
      ≡ out ++ session_text rules old.start old.moves orders
  pub moves : now.moves ≡ after_orders rules old.start old.moves (take done orders)
  pub begun : Begins out text
  pub keeps : Keeps old now

pub run_none : (rules : RuleParts) (old : Held) (out : List ℕ) (orders : List Order) → Keeps old old
    → RunSoFar rules old out orders 0 old out
run_none rules old out orders keeps = record {
  printed = refl;
  moves = refl;
  begun = take_all (length out) out (omega arith);
  keeps = keeps;
}

pub run_more : (rules : RuleParts) (old : Held) (out : List ℕ) (orders : List Order) (i : ℕ) (d : Order) (now new : Held)
    (text more : List ℕ) → i < length orders → RunSoFar rules old out orders i now text
    → more ≡ text ++ ended (answer_text rules now.start now.moves (get_or orders i d))
    → new.moves ≡ after_order rules now.start now.moves (get_or orders i d) → Keeps now new
    → RunSoFar rules old out orders (i + 1) new more
run_more rules old out orders i d now new text more inside so_far says moves keeps =
    let order : Order = get_or orders i d in
    let start = so_far.keeps.start in
    let step : suc i ≡ i + 1 = omega arith in
    let rest : List ℕ = session_text rules old.start new.moves (drop (i + 1) orders) in
    let moved : new.moves ≡ after_order rules old.start now.moves order =
    moves ∙ ap (λ s. after_order rules s now.moves order) start in
    let line : more ≡ text ++ ended (answer_text rules old.start now.moves order) =
    says ∙ ap (λ s. text ++ ended (answer_text rules s now.moves order)) start in
    let next : session_text rules old.start now.moves (drop i orders)
    ≡ ended (answer_text rules old.start now.moves order) ++ rest =
    ap (session_text rules old.start now.moves)
    (drop-cons orders i d inside ∙ ap (λ k. order ∷ drop k orders) step)
    ∙ ap (λ ms. ended (answer_text rules old.start now.moves order)
    ++ session_text rules old.start ms (drop (i + 1) orders)) (sym moved) in
    record {
      printed = ap (λ t. t ++ rest) line
          ∙ append_assoc text (ended (answer_text rules old.start now.moves order)) rest
          ∙ ap (λ t. text ++ t) (sym next)
          ∙ so_far.printed;
      moves = moved
          ∙ ap (λ ms. after_order rules old.start ms order) so_far.moves
          ∙ sym (after_more rules old.start old.moves orders i d inside);
      begun = let P : List ℕ → Type 0 = λ t. Begins out t in
          subst P (sym says) (begins_more out text (ended (answer_text rules now.start now.moves order)) so_far.begun);
      keeps = record {
        rules = keeps.rules ∙ so_far.keeps.rules;
        start = keeps.start ∙ start;
        stands = keeps.stands;
      };
    }

-- an order was not carried out to its end
pub run_stopped : (rules : RuleParts) (old : Held) (out : List ℕ) (orders : List Order) (i : ℕ) (d : Order)
    (now new : Held) (text more : List ℕ) → i < length orders → RunSoFar rules old out orders i now text
    → Begins text more → IsAfterSome rules now.start now.moves (get_or orders i d ∷ []) new.moves → Keeps now new
    → Begins out more × IsAfterSome rules old.start old.moves orders new.moves × Keeps old new
run_stopped rules old out orders i d now new text more inside so_far begun some keeps =
    let P : Board → Type 0 = λ s. IsAfterSome rules s now.moves (get_or orders i d ∷ []) new.moves in (
      begins_so out text more so_far.begun begun,
      after_some rules old.start old.moves now.moves new.moves orders i d inside so_far.moves
          (subst P so_far.keeps.start some),
      record {
        rules = keeps.rules ∙ so_far.keeps.rules;
        start = keeps.start ∙ so_far.keeps.start;
        stands = keeps.stands;
      },
    )

-- all orders were carried out
pub run_all : (rules : RuleParts) (old : Held) (out : List ℕ) (orders : List Order) (i : ℕ) (now : Held) (text : List ℕ)
    → length orders ≤ i → RunSoFar rules old out orders i now text
    → (text ++ session_text rules old.start now.moves [] ≡ out ++ session_text rules old.start old.moves orders)
    × (now.moves ≡ after_orders rules old.start old.moves orders)
    × IsAfterSome rules old.start old.moves orders now.moves
run_all rules old out orders i now text far so_far =
    let moves : now.moves ≡ after_orders rules old.start old.moves orders =
    so_far.moves ∙ ap (after_orders rules old.start old.moves) (take_all i orders far) in (
      ap (λ os. text ++ session_text rules old.start now.moves os) (sym (drop_all i orders far)) ∙ so_far.printed,
      moves,
      record {
        count = length orders;
        within = omega arith;
        moves = moves
            ∙ ap (after_orders rules old.start old.moves) (sym (take_all (length orders) orders (omega arith)));
      },
    )

-- what holds always holds after a refusal
pub on_err : {X Y P : Type 0} (result : Result X Y) → P → OnErr result P
on_err (Ok x) holds = tt
on_err (Err e) holds = holds

pub begins_on_err : {X Y : Type 0} (result : Result X Y) (a b c : List ℕ) → Begins a b → OnErr result (Begins b c)
    → OnErr result (Begins a c)
begins_on_err (Ok x) a b c first second = tt
begins_on_err (Err e) a b c first second = begins_so a b c first second
