-- Many stock moves at once, link by link.
use Rattle.std.proofs.Common.{◌≡◌, ◌≢◌, inl, inr, ℕ, ◌+◌, ◌-◌, ◌<◌, ◌≤◌, Bool, true, false, ◌++◌, length, reverse}
use Rattle.std.proofs.Common.{refl, ap, sym, ◌∙◌, subst, arith}
use Rattle.std.specs.Prelude.{Option, Some, None, IsTrue, nat_le, nat_lt, if◌then◌else◌}
use Rattle.std.proofs.lemmas.Bool.{cases_lt}
use Rattle.std.proofs.lemmas.Bool.Decides.{nat_tests}
use Rattle.card_links.specs.Chains.{size_at}
use Rattle.card_links.proofs.Each.{each}
use Rattle.card_links.proofs.Cutting.{each_used, each_more, each_less, each_beyond}
use Rattle.card_links.proofs.Sums.{two_below}
use Rattle.game_rules.specs.declared.RuleParts.{RuleParts}
use Rattle.game_rules.specs.Board.{top_part, below_top}
use Rattle.game_rules.specs.NextByStock.{queue}
use Rattle.game_rules.proofs.StockMoves.{with_stock}
use Rattle.packed_state.specs.declared.stock.Border.{Border}
use Rattle.packed_state.specs.declared.stock.StockUndo.{StockUndo}
use Rattle.packed_state.specs.Packed.{Linked, IsLinked, cards_at, board_of, HoldsFoundations}
use Rattle.packed_state.specs.Turning.{turned, with_redeals}
use Rattle.packed_state.specs.StockRuns.{moved_to, cut_at, can_be_cut, before_run}
use Rattle.packed_state.proofs.Boards.{same_boards}
use Rattle.packed_state.proofs.Keeping.{others_hold}
use Rattle.packed_state.proofs.Tops.{size_is}
use Rattle.packed_state.proofs.ListsTurned.{with_links, waste_list, stock_list, turned_left, turned_there, turned_other}
use Rattle.packed_state.proofs.ListsTurned.{piles_stay, cells_stay, reserve_stays, heights_stay, slots_stay}
use Rattle.packed_state.proofs.Queues.{length-queue, cut-here, cut-down, cut-up}
use Rattle.packed_state.proofs.Queues.{cut_at as board_cut}

-- a board with as many cards as the tables have room for
pub few_in_queue : (l : Linked) → IsLinked l → size_at l.links 89 + size_at l.links 88 ≤ 208
few_in_queue l h =
    let long = h.chained.sizes_length in let all = h.chained.all in let fits = h.chained.fits in
    let two = two_below l.links.sizes 89 88 (omega arith) (omega arith) (λ e. absurd (omega arith)) in
    omega arith

pub queue_long : (l : Linked) → length (queue (board_of l)) ≡ size_at l.links 89 + size_at l.links 88
queue_long l =
    let q = length-queue (board_of l) in let s = size_is l 89 in let w = size_is l 88 in
    omega arith

-- where the queue is cut
abbrev pub here : Linked → Border
here l = record { stock = size_at l.links 89; redeals_left = l.redeals_left }

pub here_cut : (l : Linked) → board_cut (here l) (board_of l) ≡ board_of l
here_cut l =
    ap (λ n. board_cut (let b : Border = record { stock = n; redeals_left = l.redeals_left } in b) (board_of l))
    (size_is l 89)
    ∙ cut-here (board_of l)

-- the two ways to a cut
first : (b : Bool) (x y : Linked) → b ≡ true → (if b then x else y) ≡ x
first true x y e = refl
first false x y e = cc

second : (b : Bool) (x y : Linked) → b ≡ false → (if b then x else y) ≡ y
second true x y e = cc
second false x y e = refl

pub down_to : (l : Linked) (n : ℕ) → n < size_at l.links 89
    → moved_to l n ≡ turned l 89 88 (size_at l.links 89 - n)
down_to l n below = first (nat_lt n (size_at l.links 89)) _ _ (grind (arith, nat_tests))

pub up_to : (l : Linked) (n : ℕ) → size_at l.links 89 ≤ n
    → moved_to l n ≡ turned l 88 89 (n - size_at l.links 89)
up_to l n above = second (nat_lt n (size_at l.links 89)) _ _ (grind (arith, nat_tests))

chosen : {X : Type 0} (b : Bool) (x : X) → IsTrue b → (if b then Some x else None) ≡ Some x
chosen true x h = refl
chosen false x h = cc

fits : (a b : ℕ) → a ≤ b → IsTrue (nat_le a b)
fits a b h = grind (arith, nat_tests)

at_most : (a b : ℕ) → IsTrue (nat_le a b) → a ≤ b
at_most a b h = grind (arith, nat_tests)

pub can_cut : (l : Linked) (border : Border) → border.stock ≤ size_at l.links 89 + size_at l.links 88
    → IsTrue (can_be_cut border l)
can_cut l border within = fits _ _ within

-- the redeals that are left change no link
redealt : (m : Linked) (b : Border) (r : ℕ) → cut_at b (with_redeals m r) ≡ cut_at b m
redealt m b r = elim (cases_lt b.stock (size_at m.links 89)) [
  | inl below ↦
      ap (λ x. with_redeals x b.redeals_left) (down_to (with_redeals m r) b.stock below)
      ∙ sym (ap (λ x. with_redeals x b.redeals_left) (down_to m b.stock below))
  | inr above ↦
      ap (λ x. with_redeals x b.redeals_left) (up_to (with_redeals m r) b.stock above)
      ∙ sym (ap (λ x. with_redeals x b.redeals_left) (up_to m b.stock above))
]

same_if : (a b : Bool) (x y : Linked) → a ≡ b → (IsTrue b → x ≡ y)
    → (let r : Option Linked = (if a then Some x else None) in r) ≡ (if b then Some y else None)
same_if true true x y e f = ap (λ m. let r : Option Linked = Some m in r) (f refl)
same_if true false x y e f = cc
same_if false true x y e f = cc
same_if false false x y e f = refl

module _ (l : Linked) (h : IsLinked l) where
  down : ◌≢◌ {A = ℕ} 89 88
  down e = absurd (omega arith)

  up : ◌≢◌ {A = ℕ} 88 89
  up e = absurd (omega arith)

  -- the board after cards went from the stock to the waste
  waste_board : (d r : ℕ) → d ≤ size_at l.links 89 → board_of (with_redeals (turned l 89 88 d) r)
      ≡ with_stock (board_of l) (below_top d (cards_at l 89)) (cards_at l 88 ++ reverse (top_part d (cards_at l 89))) r
  waste_board d r enough =
      same_boards _ _ _ _ _ _ _ _ _ _ _ _ _ _ r _ _
      (piles_stay l h 89 88 d (stock_list l) (waste_list l) down enough)
      (cells_stay l h 89 88 d (stock_list l) (waste_list l) down enough)
      (reserve_stays l h 89 88 d (stock_list l) (waste_list l) down enough)
      (turned_left l h 89 88 d (stock_list l) (waste_list l) down enough)
      (turned_there l h 89 88 d (stock_list l) (waste_list l) down enough)
      (heights_stay l h 89 88 d (stock_list l) (waste_list l) down enough
      (λ i li q. absurd (omega arith)) (λ i li q. absurd (omega arith)))
      (turned_other l h 89 88 d (stock_list l) (waste_list l) down enough 106 (omega arith)
      (λ q. absurd (omega arith)) (λ q. absurd (omega arith)))
      (slots_stay l h 89 88 d (stock_list l) (waste_list l) down enough)

  -- and after cards went from the waste to the stock
  stock_board : (d r : ℕ) → d ≤ size_at l.links 88 → board_of (with_redeals (turned l 88 89 d) r)
      ≡ with_stock (board_of l) (cards_at l 89 ++ reverse (top_part d (cards_at l 88))) (below_top d (cards_at l 88)) r
  stock_board d r enough =
      same_boards _ _ _ _ _ _ _ _ _ _ _ _ _ _ r _ _
      (piles_stay l h 88 89 d (waste_list l) (stock_list l) up enough)
      (cells_stay l h 88 89 d (waste_list l) (stock_list l) up enough)
      (reserve_stays l h 88 89 d (waste_list l) (stock_list l) up enough)
      (turned_there l h 88 89 d (waste_list l) (stock_list l) up enough)
      (turned_left l h 88 89 d (waste_list l) (stock_list l) up enough)
      (heights_stay l h 88 89 d (waste_list l) (stock_list l) up enough
      (λ i li q. absurd (omega arith)) (λ i li q. absurd (omega arith)))
      (turned_other l h 88 89 d (waste_list l) (stock_list l) up enough 106 (omega arith)
      (λ q. absurd (omega arith)) (λ q. absurd (omega arith)))
      (slots_stay l h 88 89 d (waste_list l) (stock_list l) up enough)

  -- a cut of the links is one of the board
  pub is_cut : (border : Border) → border.stock ≤ size_at l.links 89 + size_at l.links 88
      → board_of (cut_at border l) ≡ board_cut border (board_of l)
  is_cut border within =
      let s = size_is l 89 in let q = queue_long l in
      elim (cases_lt border.stock (size_at l.links 89)) [
        | inl below ↦
            let d : ℕ = size_at l.links 89 - border.stock in
            ap (λ m. board_of (with_redeals m border.redeals_left)) (down_to l border.stock below)
            ∙ waste_board d border.redeals_left (omega arith)
            ∙ cut-down border (board_of l) d (omega arith) (omega arith)
        | inr above ↦
            let d : ℕ = border.stock - size_at l.links 89 in
            ap (λ m. board_of (with_redeals m border.redeals_left)) (up_to l border.stock above)
            ∙ stock_board d border.redeals_left (omega arith)
            ∙ cut-up border (board_of l) d (omega arith) (omega arith) (omega arith)
      ]

  -- a queue that is cut where it is cut
  still : moved_to l (size_at l.links 89) ≡ l
  still =
      let none : size_at l.links 89 - size_at l.links 89 ≡ 0 = omega arith in
      up_to l (size_at l.links 89) (omega arith) ∙ ap (turned l 88 89) none

  -- what a cut keeps
  pub cut_used : (border : Border) → (cut_at border l).links.used ≡ l.links.used
  cut_used border = elim (cases_lt border.stock (size_at l.links 89)) [
    | inl below ↦ ap (λ m. m.links.used) (down_to l border.stock below)
        ∙ each_used 89 88 l.links (size_at l.links 89 - border.stock)
    | inr above ↦ ap (λ m. m.links.used) (up_to l border.stock above)
        ∙ each_used 88 89 l.links (border.stock - size_at l.links 89)
  ]

  pub cut_cards : (border : Border) → (cut_at border l).cards ≡ l.cards
  cut_cards border = elim (cases_lt border.stock (size_at l.links 89)) [
    | inl below ↦ ap (λ m. m.cards) (down_to l border.stock below)
    | inr above ↦ ap (λ m. m.cards) (up_to l border.stock above)
  ]

  pub cut_stacked : (border : Border) → (cut_at border l).stacked ≡ l.stacked
  cut_stacked border = elim (cases_lt border.stock (size_at l.links 89)) [
    | inl below ↦ ap (λ m. m.stacked) (down_to l border.stock below)
    | inr above ↦ ap (λ m. m.stacked) (up_to l border.stock above)
  ]

  -- a cut leaves the foundations
  pub cut_holds : (rules : RuleParts) → HoldsFoundations rules l → (border : Border)
      → border.stock ≤ size_at l.links 89 + size_at l.links 88 → HoldsFoundations rules (cut_at border l)
  cut_holds rules holds border within =
      let few = h.sized.small.foundations in
      let left : ℕ = border.redeals_left in
      elim (cases_lt border.stock (size_at l.links 89)) [
        | inl below ↦
            let d : ℕ = size_at l.links 89 - border.stock in
            subst (λ (m : Linked). HoldsFoundations rules (with_redeals m left)) (sym (down_to l border.stock below))
            (others_hold rules l (with_redeals (turned l 89 88 d) left) refl
            (λ f lf. turned_other l h 89 88 d (stock_list l) (waste_list l) down (omega arith)
            (90 + f) (omega arith) (λ e. absurd (omega arith)) (λ e. absurd (omega arith)))
            holds)
        | inr above ↦
            let d : ℕ = border.stock - size_at l.links 89 in
            subst (λ (m : Linked). HoldsFoundations rules (with_redeals m left)) (sym (up_to l border.stock above))
            (others_hold rules l (with_redeals (turned l 88 89 d) left) refl
            (λ f lf. turned_other l h 88 89 d (waste_list l) (stock_list l) up (omega arith)
            (90 + f) (omega arith) (λ e. absurd (omega arith)) (λ e. absurd (omega arith)))
            holds)
      ]

  -- where a cut queue is cut, and how many cards it has
  pub cut_sizes : (border : Border) → border.stock ≤ size_at l.links 89 + size_at l.links 88
      → (size_at (cut_at border l).links 89 ≡ border.stock)
      × (size_at (cut_at border l).links 89 + size_at (cut_at border l).links 88
      ≡ size_at l.links 89 + size_at l.links 88)
  cut_sizes border within = elim (cases_lt border.stock (size_at l.links 89)) [
    | inl below ↦
        let d : ℕ = size_at l.links 89 - border.stock in
        let e = each 89 88 (omega arith) (omega arith) down l.links h.chained d (omega arith) in
        let left = e.left in let there = e.there in
        subst (λ (m : Linked). (size_at m.links 89 ≡ border.stock)
        × (size_at m.links 89 + size_at m.links 88 ≡ size_at l.links 89 + size_at l.links 88))
        (sym (down_to l border.stock below)) (omega arith, omega arith)
    | inr above ↦
        let d : ℕ = border.stock - size_at l.links 89 in
        let e = each 88 89 (omega arith) (omega arith) up l.links h.chained d (omega arith) in
        let left = e.left in let there = e.there in
        subst (λ (m : Linked). (size_at m.links 89 ≡ border.stock)
        × (size_at m.links 89 + size_at m.links 88 ≡ size_at l.links 89 + size_at l.links 88))
        (sym (up_to l border.stock above)) (omega arith, omega arith)
  ]

  -- the links of a table that is cut at a and then at b are those of one that is cut at b
  down_then : (a b : ℕ) → a < size_at l.links 89 → b ≤ size_at l.links 89 + size_at l.links 88
      → size_at (turned l 89 88 (size_at l.links 89 - a)).links 89 ≡ a
      → moved_to (turned l 89 88 (size_at l.links 89 - a)) b ≡ moved_to l b
  down_then a b la lb size =
      let s : ℕ = size_at l.links 89 in
      let m : Linked = turned l 89 88 (s - a) in
      elim (cases_lt b a) [
        | inl less ↦
            let n : size_at m.links 89 - b ≡ a - b = omega arith in
            down_to m b (omega arith) ∙ ap (turned m 89 88) n
            ∙ ap (with_links l) (each_more l.links 89 88 (s - a) (a - b) (s - b) (omega arith))
            ∙ sym (down_to l b (omega arith))
        | inr more ↦
            let n : b - size_at m.links 89 ≡ b - a = omega arith in
            up_to m b (omega arith) ∙ ap (turned m 88 89) n ∙ elim (cases_lt b s) [
              | inl less ↦
                  ap (with_links l) (each_less 89 88 (omega arith) (omega arith) down l.links h.chained
                  (s - a) (b - a) (s - b) (omega arith) (omega arith))
                  ∙ sym (down_to l b less)
              | inr beyond ↦
                  ap (with_links l) (each_beyond 89 88 (omega arith) (omega arith) down l.links h.chained
                  (s - a) (b - a) (b - s) (omega arith) (omega arith))
                  ∙ sym (up_to l b beyond)
            ]
      ]

  up_then : (a b : ℕ) → size_at l.links 89 ≤ a → a ≤ size_at l.links 89 + size_at l.links 88
      → size_at (turned l 88 89 (a - size_at l.links 89)).links 89 ≡ a
      → moved_to (turned l 88 89 (a - size_at l.links 89)) b ≡ moved_to l b
  up_then a b la within size =
      let s : ℕ = size_at l.links 89 in
      let m : Linked = turned l 88 89 (a - s) in
      elim (cases_lt b a) [
        | inl less ↦
            let n : size_at m.links 89 - b ≡ a - b = omega arith in
            down_to m b (omega arith) ∙ ap (turned m 89 88) n ∙ elim (cases_lt b s) [
              | inl beyond ↦
                  ap (with_links l) (each_beyond 88 89 (omega arith) (omega arith) up l.links h.chained
                  (a - s) (a - b) (s - b) (omega arith) (omega arith))
                  ∙ sym (down_to l b beyond)
              | inr some ↦
                  ap (with_links l) (each_less 88 89 (omega arith) (omega arith) up l.links h.chained
                  (a - s) (a - b) (b - s) (omega arith) (omega arith))
                  ∙ sym (up_to l b some)
            ]
        | inr more ↦
            let n : b - size_at m.links 89 ≡ b - a = omega arith in
            up_to m b (omega arith) ∙ ap (turned m 88 89) n
            ∙ ap (with_links l) (each_more l.links 88 89 (a - s) (b - a) (b - s) (omega arith))
            ∙ sym (up_to l b (omega arith))
      ]

  pub cut_again : (a b : Border) → a.stock ≤ size_at l.links 89 + size_at l.links 88
      → b.stock ≤ size_at l.links 89 + size_at l.links 88 → cut_at b (cut_at a l) ≡ cut_at b l
  cut_again a b within fits =
      let size = (cut_sizes a within).0 in
      elim (cases_lt a.stock (size_at l.links 89)) [
        | inl below ↦
            let is = down_to l a.stock below in
            let sized : size_at (turned l 89 88 (size_at l.links 89 - a.stock)).links 89 ≡ a.stock =
            subst (λ (m : Linked). size_at m.links 89 ≡ a.stock) is size in
            ap (λ m. cut_at b (with_redeals m a.redeals_left)) is
            ∙ redealt (turned l 89 88 (size_at l.links 89 - a.stock)) b a.redeals_left
            ∙ ap (λ m. with_redeals m b.redeals_left) (down_then a.stock b.stock below fits sized)
        | inr above ↦
            let is = up_to l a.stock above in
            let sized : size_at (turned l 88 89 (a.stock - size_at l.links 89)).links 89 ≡ a.stock =
            subst (λ (m : Linked). size_at m.links 89 ≡ a.stock) is size in
            ap (λ m. cut_at b (with_redeals m a.redeals_left)) is
            ∙ redealt (turned l 88 89 (a.stock - size_at l.links 89)) b a.redeals_left
            ∙ ap (λ m. with_redeals m b.redeals_left) (up_then a.stock b.stock above within sized)
      ]

  -- notes of stock moves give the same after further ones
  pub before_kept : (undo : StockUndo) (a : Border) → a.stock ≤ size_at l.links 89 + size_at l.links 88
      → before_run undo (cut_at a l) ≡ before_run undo l
  before_kept undo a within =
      let can : can_be_cut undo.before (cut_at a l) ≡ can_be_cut undo.before l =
      ap (nat_le undo.before.stock) (cut_sizes a within).1 in
      same_if _ _ _ _ can (λ t. cut_again a undo.before within (at_most _ _ t))

  pub before_again : (undo : StockUndo) (border : Border) → undo.before ≡ here l
      → border.stock ≤ size_at l.links 89 + size_at l.links 88 → before_run undo (cut_at border l) ≡ Some l
  before_again undo border e within =
      before_kept undo border within
      ∙ ap (λ b. let x : Option Linked = (if can_be_cut b l then Some (cut_at b l) else None) in x) e
      ∙ chosen (can_be_cut (here l) l) (cut_at (here l) l) (fits _ _ (omega arith))
      ∙ ap (λ m. let x : Option Linked = Some (with_redeals m l.redeals_left) in x) still
