-- A legal move on a board with a safe move, and what stands for it once the safe move was made.
use Rattle.std.proofs.Common.{◌≡◌, ℕ, ◌+◌, ◌-◌, ◌<◌, ◌≤◌, Bool, true, false, ◌||◌, List, [], ◌∷◌, ◌++◌, length, take}
use Rattle.std.proofs.Common.{drop, refl, ap, sym, ◌∙◌, subst, get_or-set_same, length-take, length-drop, length-append}
use Rattle.std.proofs.Common.{append_assoc, arith}
use Rattle.std.specs.Prelude.{IsTrue, not, min, Option, Some, None, is_none, is_some, nat_lt, nat_le, ◌==◌, slice_set}
use Rattle.std.specs.Option.{option_to_list}
use Rattle.std.proofs.lemmas.List.{set-set, set-get_or, take_at, drop_at, take-take, take-append-drop}
use Rattle.std.proofs.lemmas.List.{append-nil, drop-append-le}
use Rattle.std.proofs.lemmas.Bool.{leb-true, ltb-true, le-leb, lt-ltb, and_from}
use Rattle.std.proofs.lemmas.Bool.Decides.{nat_tests}
use Rattle.card_piles.specs.declared.Card.{Card}
use Rattle.card_piles.specs.Builds.{builds_on}
use Rattle.game_rules.specs.declared.RuleParts.{RuleParts}
use Rattle.game_rules.specs.declared.Place.{Place}
use Rattle.game_rules.specs.declared.Place.TheVariants.{Tableau, Cell, Foundation}
use Rattle.game_rules.specs.declared.Move.{Move}
use Rattle.game_rules.specs.declared.Move.TheVariants.{Carry}
use Rattle.game_rules.specs.Rules.{moves_groups}
use Rattle.game_rules.specs.Board.{Board, Pile, pile_at, entry_at, height_at, has_place, top_part, below_top}
use Rattle.game_rules.specs.Taking.{without, pile_without, pile_gives, is_run, can_take, taken}
use Rattle.game_rules.specs.Putting.{with_cards, can_put, is_next_on}
use Rattle.game_rules.specs.Play.{same_place, after, Legal, is_legal_carry}
use Rattle.game_rules.specs.Belonging.{Belongs}
use Rattle.game_rules.proofs.Limits.{both}
use Rattle.game_rules.proofs.LegalFacts.{CarryFacts}
use Rattle.game_rules.proofs.Carrying.{put_first}
use Rattle.safe_moves.proofs.Elsewhere.{carried, is_source, is_target, Apart, AgreeAt, agree-without, place-without}
use Rattle.safe_moves.proofs.Elsewhere.{place-with, can_take-agree, taken-agree, can_put-agree}
use Rattle.safe_moves.proofs.Elsewhere.{without_both, home_and_put}
use Rattle.safe_moves.proofs.AtHome.{Raised}
use Rattle.safe_moves.proofs.SafeFacts.{Allowed, after_carry, SafeFacts, source-gives, same_place-sym, apart-sym}
use Rattle.safe_moves.proofs.SafeFacts.{apart_home, apart_target, agree-after, place-after, raised-after, kept_safe}
use Rattle.safe_moves.proofs.SafeFacts.{free-later, face_up}

-- the board after the card of a place went to its foundation
abbrev pub sent_home : RuleParts → Board → Place → ℕ → Board
sent_home rules board from f = carried rules board from (Foundation f) 1

-- what became of a legal move: `next` is the board after it. The move is struck out ..
pub record Struck (rules : RuleParts) (board : Board) (p : Place) (f : ℕ) (c : Card) (next : Board) : Type 0 where
  pub place : Place
  pub safe : SafeFacts rules next place f c
  pub same : sent_home rules next place f ≡ sent_home rules board p f

-- .. or another move stands for it
pub record Kept (rules : RuleParts) (board : Board) (p : Place) (f : ℕ) (c : Card) (next : Board) : Type 0 where
  pub place : Place
  pub instead : Move
  pub safe : SafeFacts rules next place f c
  pub legal : Legal rules (sent_home rules board p f) instead
  pub same : sent_home rules next place f ≡ after rules (sent_home rules board p f) instead

legal_carry : (rules : RuleParts) (board : Board) (from to : Place) (count : ℕ) → IsTrue (has_place rules board from)
    → IsTrue (has_place rules board to) → same_place from to ≡ false → IsTrue (can_take rules board from count)
    → IsTrue (can_put rules board to (taken rules board from count)) → IsTrue (is_legal_carry rules board from to count)
legal_carry rules board from to count here there apart takes puts =
    and_from _ _ (and_from _ _ (and_from _ _ (and_from _ _ here there) (ap not apart)) takes) puts

-- a carry between other places
pub other_places : (rules : RuleParts) (board : Board) (p : Place) (f : ℕ) (c : Card) (from to : Place) (count : ℕ)
    → Allowed rules → SafeFacts rules board p f c
    → CarryFacts rules board from to count → IsTrue (is_source from) → IsTrue (is_target to) → Apart rules p from
    → same_place p to ≡ false → same_place (Foundation f) to ≡ false
    → Kept rules board p f c (carried rules board from to count)
other_places rules board p f c from to count allows safe facts s t apart_from apart_to apart_home_to =
    let sp = source-gives p safe.gives in
    let b : Board = sent_home rules board p f in
    let next : Board = carried rules board from to count in
    let ca : List Card = taken rules board p 1 in
    let cs : List Card = taken rules board from count in
    let at_home = apart_home rules from f s in
    let agree_from : AgreeAt rules board b from
    = agree-after rules board p (Foundation f) 1 from sp apart_from
    (same_place-sym (Foundation f) from ∙ at_home.places) in
    let agree_to : AgreeAt rules board b to
    = agree-after rules board p (Foundation f) 1 to sp (apart_target rules p to t apart_to) apart_home_to in
    let agree_p : AgreeAt rules board next p
    = agree-after rules board from to count p s (apart-sym rules p from apart_from) (same_place-sym to p ∙ apart_to) in
    let agree_f : AgreeAt rules board next (Foundation f)
    = agree-after rules board from to count (Foundation f) s at_home
    (same_place-sym to (Foundation f) ∙ apart_home_to) in
    let take_same = can_take-agree rules board b from count s agree_from in
    let taken_same = taken-agree rules board b from count s agree_from in
    let ca_same : ca ≡ taken rules next p 1 = taken-agree rules board next p 1 sp agree_p in
    let without_p : Board = without rules board p 1 in
    let without_from : Board = without rules board from count in
    record {
      place = p;
      instead = Carry from to count;
      safe = kept_safe rules board next p f c safe agree_p agree_f (place-after rules board from to count p s t)
          (place-after rules board from to count (Foundation f) s t) (raised-after rules board from to count s t);
      legal = legal_carry rules b from to count
          (place-after rules board p (Foundation f) 1 from sp refl ∙ facts.from_place)
          (place-after rules board p (Foundation f) 1 to sp refl ∙ facts.to_place)
          facts.apart
          (sym take_same ∙ facts.takes)
          (subst (λ (cards : List Card). IsTrue (can_put rules b to cards)) taken_same
          (sym (can_put-agree rules board b to cs t agree_to) ∙ facts.puts));
      same =
          ap (λ (cards : List Card). with_cards (without rules next p 1) (Foundation f) cards) (sym ca_same)
          ∙ ap (λ (z : Board). with_cards z (Foundation f) ca) (put_first rules without_from p to 1 cs apart_to)
          ∙ ap (λ (z : Board). with_cards (with_cards z to cs) (Foundation f) ca)
          (without_both rules board from p count 1 s sp (apart-sym rules p from apart_from))
          ∙ sym (home_and_put (without rules without_p from count) f to ca cs apart_home_to)
          ∙ ap (λ (z : Board). with_cards z to cs)
          (sym (put_first rules without_p from (Foundation f) count ca at_home.places))
          ∙ ap (λ (cards : List Card). with_cards (without rules b from count) to cards) taken_same
          ∙ sym (after_carry rules b from to count allows);
    }

same_pile : (xs ys : List Card) (m n : ℕ) → xs ≡ ys → m ≡ n
    → ◌≡◌ {A = Pile} (record { cards = xs; face_down = m }) (record { cards = ys; face_down = n })
same_pile xs ys m n cards down =
    ap (λ (cards : List Card). record { cards = cards; face_down = m }) cards
    ∙ ap (λ (n : ℕ). record { cards = ys; face_down = n }) down

-- a pile with cards of which the last is c, and the pile without c
uncovered : (pile : Pile) (ys : List Card) (c : Card) → pile.face_down ≤ length pile.cards - 1
    → pile_without 1 (record { cards = pile.cards ++ (ys ++ c ∷ []); face_down = pile.face_down })
    ≡ record { cards = pile.cards ++ ys; face_down = pile.face_down }
uncovered pile ys c up =
    let regroup : pile.cards ++ (ys ++ c ∷ []) ≡ (pile.cards ++ ys)
    ++ c ∷ [] = sym (append_assoc pile.cards ys (c ∷ [])) in
    let inner = length-append pile.cards ys in
    let size : length (pile.cards ++ ys) ≡ length ((pile.cards ++ ys) ++ c ∷ []) - 1 = omega
    (arith, length-append (pile.cards ++ ys) (c ∷ [])) in
    let cards : below_top 1 (pile.cards ++ (ys ++ c ∷ [])) ≡ pile.cards ++ ys
    = ap (below_top 1) regroup ∙ take_at (pile.cards ++ ys) (c ∷ []) _ size in
    let whole : length (pile.cards ++ (ys ++ c ∷ [])) ≡ length pile.cards + length ys + 1
    = ap length regroup ∙ omega (arith, length-append (pile.cards ++ ys) (c ∷ []), inner) in
    let down : min pile.face_down (length (pile.cards ++ (ys ++ c ∷ [])) - 1 - 1) ≡ pile.face_down = omega
    (arith, whole, up) in
    same_pile _ _ _ _ cards down

top_of_grown : (xs ys : List Card) (c : Card) → top_part 1 (xs ++ (ys ++ c ∷ [])) ≡ c ∷ []
top_of_grown xs ys c =
    let regroup : xs ++ (ys ++ c ∷ []) ≡ (xs ++ ys) ++ c ∷ [] = sym (append_assoc xs ys (c ∷ [])) in
    let size : length (xs ++ ys) ≡ length ((xs ++ ys) ++ c ∷ []) - 1 = omega
    (arith, length-append (xs ++ ys) (c ∷ [])) in
    ap (top_part 1) regroup ∙ drop_at (xs ++ ys) (c ∷ []) _ size

-- the card c on top of a pile can be sent home
landed_pile : (rules : RuleParts) (z : Board) (q : ℕ) (ys : List Card) (c : Card)
    → IsTrue (has_place rules z (Tableau q))
    → pile_at (with_cards z (Tableau q) (ys ++ c ∷ [])) q
    ≡ record { cards = (pile_at z q).cards ++ (ys ++ c ∷ []); face_down = (pile_at z q).face_down }
landed_pile rules z q ys c here = get_or-set_same z.piles q _ _ (ltb-true _ _ here)

pub landed_taken : (rules : RuleParts) (z : Board) (q : ℕ) (ys : List Card) (c : Card)
    → IsTrue (has_place rules z (Tableau q))
    → taken rules (with_cards z (Tableau q) (ys ++ c ∷ [])) (Tableau q) 1 ≡ c ∷ []
landed_taken rules z q ys c here =
    ap (λ (pile : Pile). top_part 1 pile.cards) (landed_pile rules z q ys c here)
    ∙ top_of_grown (pile_at z q).cards ys c

gives_one : (rules : RuleParts) (pile : Pile) (c : Card) → pile.face_down + 1 ≤ length pile.cards
    → top_part 1 pile.cards ≡ c ∷ [] → IsTrue (pile_gives rules pile 1)
gives_one rules pile c up top =
    and_from _ _ (and_from _ _ (le-leb (pile.face_down + 1) (length pile.cards) up) refl)
    (ap (is_run rules) top)

landed_takes : (rules : RuleParts) (z : Board) (q : ℕ) (ys : List Card) (c : Card)
    → IsTrue (has_place rules z (Tableau q))
    → (pile_at z q).face_down ≤ length (pile_at z q).cards - 1
    → IsTrue (can_take rules (with_cards z (Tableau q) (ys ++ c ∷ [])) (Tableau q) 1)
landed_takes rules z q ys c here up =
    let pile : Pile = pile_at z q in
    let size = length-append pile.cards (ys ++ c ∷ []) in
    let last = length-append ys (c ∷ []) in
    ap (λ (pile : Pile). pile_gives rules pile 1) (landed_pile rules z q ys c here)
    ∙ gives_one rules (record { cards = pile.cards ++ (ys ++ c ∷ []); face_down = pile.face_down }) c
    (omega (arith, size, last, up)) (top_of_grown pile.cards ys c)

-- sent home from there, it leaves the pile as it is without c
pub landed_home : (rules : RuleParts) (z : Board) (q f : ℕ) (ys : List Card) (c : Card)
    → IsTrue (has_place rules z (Tableau q))
    → (pile_at z q).face_down ≤ length (pile_at z q).cards - 1
    → sent_home rules (with_cards z (Tableau q) (ys ++ c ∷ [])) (Tableau q) f ≡ with_cards (with_cards z (Tableau q) ys)
    (Foundation f) (c ∷ [])
landed_home rules z q f ys c here up =
    let old : Pile = pile_at z q in
    let full : Pile = record { cards = old.cards ++ (ys ++ c ∷ []); face_down = old.face_down } in
    let less : Pile = record { cards = old.cards ++ ys; face_down = old.face_down } in
    let a : Board = with_cards z (Tableau q) (ys ++ c ∷ []) in
    let piles : slice_set a.piles q (pile_without 1 (pile_at a q)) ≡ slice_set z.piles q less
    = ap (λ (pile : Pile). slice_set a.piles q (pile_without 1 pile)) (landed_pile rules z q ys c here)
    ∙ ap (λ (pile : Pile). slice_set a.piles q pile) (uncovered old ys c up)
    ∙ set-set z.piles q full less in
    ap (λ (cards : List Card). with_cards (without rules a (Tableau q) 1) (Foundation f) cards)
    (landed_taken rules z q ys c here)
    ∙ ap (λ (piles : List Pile). with_cards (record z { piles = piles }) (Foundation f) (c ∷ [])) piles

-- what is known where c comes to lie on a pile
pub landed_safe : (rules : RuleParts) (a z : Board) (p : Place) (q f : ℕ) (ys : List Card) (c : Card)
    → SafeFacts rules a p f c
    → IsTrue (has_place rules z (Tableau q)) → IsTrue (has_place rules z (Foundation f))
    → (pile_at z q).face_down ≤ length (pile_at z q).cards - 1
    → height_at a f ≡ height_at z f → Raised a (with_cards z (Tableau q) (ys ++ c ∷ []))
    → SafeFacts rules (with_cards z (Tableau q) (ys ++ c ∷ [])) (Tableau q) f c
landed_safe rules a z p q f ys c safe here home up heights raised =
    let b : Board = with_cards z (Tableau q) (ys ++ c ∷ []) in
    record {
      gives = refl;
      place = place-with rules z (Tableau q) (Tableau q) (ys ++ c ∷ []) refl ∙ here;
      home = home;
      takes = landed_takes rules z q ys c here up;
      card = landed_taken rules z q ys c here;
      next = subst (λ (h : ℕ). IsTrue (is_next_on rules f h c)) heights safe.next;
      free = free-later rules a b c raised safe.free;
    }

nothing_put : (z : Board) (q : ℕ) → with_cards z (Tableau q) [] ≡ z
nothing_put z q =
    let old : Pile = pile_at z q in
    ap (λ (cards : List Card).
    record z { piles = slice_set z.piles q (record { cards = cards; face_down = old.face_down }) })
    (append-nil old.cards)
    ∙ ap (λ (piles : List Pile). record z { piles = piles }) (set-get_or z.piles q _)

-- c alone goes to another pile
pub alone_to_pile : (rules : RuleParts) (board : Board) (p : Place) (f q : ℕ) (c : Card) → Belongs rules board
    → SafeFacts rules board p f c
    → IsTrue (has_place rules board (Tableau q)) → same_place p (Tableau q) ≡ false
    → Struck rules board p f c (carried rules board p (Tableau q) 1)
alone_to_pile rules board p f q c belongs safe here apart =
    let s = source-gives p safe.gives in
    let z : Board = without rules board p 1 in
    let there : Board = with_cards z (Tableau q) (taken rules board p 1) in
    let landed : Board = with_cards z (Tableau q) ([] ++ c ∷ []) in
    let same : landed ≡ there = ap (with_cards z (Tableau q)) (sym safe.card) in
    let agree : pile_at board q ≡ pile_at z q = agree-without rules board p (Tableau q) 1 s
    (apart_target rules p (Tableau q) refl apart) in
    let heights : height_at board f ≡ height_at z f = agree-without rules board p (Foundation f) 1 s
    (apart_home rules p f s) in
    let up : (pile_at z q).face_down ≤ length (pile_at z q).cards - 1
    = subst (λ (pile : Pile). pile.face_down ≤ length pile.cards - 1) agree (face_up rules board q belongs here) in
    let here_z : IsTrue (has_place rules z (Tableau q)) = place-without rules board p (Tableau q) 1 s ∙ here in
    let home_z : IsTrue (has_place rules z (Foundation f)) = place-without rules board p
    (Foundation f) 1 s ∙ safe.home in
    let raised : Raised board landed = subst (λ (b : Board). Raised board b) (sym same)
    (raised-after rules board p (Tableau q) 1 s refl) in
    record {
      place = Tableau q;
      safe = subst (λ (b : Board). SafeFacts rules b (Tableau q) f c) same
          (landed_safe rules board z p q f [] c safe here_z home_z up heights raised);
      same =
          ap (λ (b : Board). sent_home rules b (Tableau q) f) (sym same)
          ∙ landed_home rules z q f [] c here_z up
          ∙ ap (λ (b : Board). with_cards b (Foundation f) (c ∷ [])) (nothing_put z q)
          ∙ ap (λ (cards : List Card). with_cards z (Foundation f) cards) (sym safe.card);
    }

-- c alone goes to a cell
entry_put : (entry : Option Card) (c : Card) → entry ≡ Some c → IsTrue (is_some entry)
entry_put None c h = cc
entry_put (Some d) c h = refl

none_entry : (entry : Option Card) → IsTrue (is_none entry) → entry ≡ None
none_entry None h = refl
none_entry (Some c) h = cc

pub alone_to_cell : (rules : RuleParts) (board : Board) (p : Place) (f q : ℕ) (c : Card) → SafeFacts rules board p f c
    → IsTrue (has_place rules board (Cell q)) → IsTrue (is_none (entry_at board.cells q))
    → same_place p (Cell q) ≡ false → Struck rules board p f c (carried rules board p (Cell q) 1)
alone_to_cell rules board p f q c safe here empty apart =
    let s = source-gives p safe.gives in
    let z : Board = without rules board p 1 in
    let there : Board = with_cards z (Cell q) (taken rules board p 1) in
    let landed : Board = with_cards z (Cell q) (c ∷ []) in
    let same : landed ≡ there = ap (with_cards z (Cell q)) (sym safe.card) in
    let agree : entry_at board.cells q ≡ entry_at z.cells q = agree-without rules board p (Cell q) 1 s
    (apart_target rules p (Cell q) refl apart) in
    let heights : height_at board f ≡ height_at z f = agree-without rules board p (Foundation f) 1 s
    (apart_home rules p f s) in
    let here_z : IsTrue (has_place rules z (Cell q)) = place-without rules board p (Cell q) 1 s ∙ here in
    let home_z : IsTrue (has_place rules z (Foundation f)) = place-without rules board p
    (Foundation f) 1 s ∙ safe.home in
    let raised : Raised board landed = subst (λ (b : Board). Raised board b) (sym same)
    (raised-after rules board p (Cell q) 1 s refl) in
    let entry : entry_at landed.cells q ≡ Some c = get_or-set_same z.cells q (Some c) None (ltb-true _ _ here_z) in
    let card : taken rules landed (Cell q) 1 ≡ c ∷ [] = ap option_to_list entry in
    let empty_z : entry_at z.cells q ≡ None = sym agree ∙ none_entry (entry_at board.cells q) empty in
    let restored : slice_set landed.cells q None ≡ z.cells
    = set-set z.cells q (Some c) None
    ∙ ap (λ (e : Option Card). slice_set z.cells q e) (sym empty_z)
    ∙ set-get_or z.cells q None in
    let safe_there : SafeFacts rules landed (Cell q) f c = record {
      gives = refl;
      place = place-with rules z (Cell q) (Cell q) (c ∷ []) refl ∙ here_z;
      home = home_z;
      takes = entry_put (entry_at landed.cells q) c entry;
      card = card;
      next = subst (λ (h : ℕ). IsTrue (is_next_on rules f h c)) heights safe.next;
      free = free-later rules board landed c raised safe.free;
    } in
    record {
      place = Cell q;
      safe = subst (λ (b : Board). SafeFacts rules b (Cell q) f c) same safe_there;
      same =
          ap (λ (b : Board). sent_home rules b (Cell q) f) (sym same)
          ∙ ap (λ (cards : List Card). with_cards (without rules landed (Cell q) 1) (Foundation f) cards) card
          ∙ ap (λ (cells : List (Option Card)). with_cards (record z { cells = cells }) (Foundation f) (c ∷ []))
          restored
          ∙ ap (λ (cards : List Card). with_cards z (Foundation f) cards) (sym safe.card);
    }

-- a group with c at its end moves without c
run_front : (rules : RuleParts) (ys : List Card) (c : Card) → IsTrue (is_run rules (ys ++ c ∷ []))
    → IsTrue (is_run rules ys)
run_front rules [] c h = refl
run_front rules (y ∷ []) c h = refl
run_front rules (y ∷ x ∷ ys) c h =
    let parts = both (builds_on rules.group_build rules.wrap rules.max_rank x y)
    (is_run rules (x ∷ (ys ++ c ∷ []))) h in
    and_from _ _ parts.0 (run_front rules (x ∷ ys) c parts.1)

put_front : (rules : RuleParts) (board : Board) (q : ℕ) (ys : List Card) (c : Card) → 0 < length ys
    → IsTrue (can_put rules board (Tableau q) (ys ++ c ∷ [])) → IsTrue (can_put rules board (Tableau q) ys)
put_front rules board q [] c some h = absurd (omega arith)
put_front rules board q (y ∷ ys) c some h = h

-- a pile whose top is c
pub record Topped (pile : Pile) (xs : List Card) (c : Card) : Type 0 where
  pub cards : pile.cards ≡ xs ++ c ∷ []
  pub less : below_top 1 pile.cards ≡ xs
  pub size : length pile.cards ≡ length xs + 1

pub topped : (pile : Pile) (c : Card) → top_part 1 pile.cards ≡ c ∷ [] → Topped pile (below_top 1 pile.cards) c
topped pile c h =
    let split : pile.cards ≡ below_top 1 pile.cards ++ c ∷ []
    = sym (take-append-drop (length pile.cards - 1) pile.cards)
    ∙ ap (λ (ys : List Card). below_top 1 pile.cards ++ ys) h in
    record {
      cards = split;
      less = refl;
      size = ap (length {A = Card}) split ∙ length-append (below_top 1 pile.cards) (c ∷ []);
    }

group_cards : (xs : List Card) (c : Card) (k : ℕ) → k ≤ length xs
    → top_part (k + 1) (xs ++ c ∷ []) ≡ top_part k xs ++ c ∷ []
group_cards xs c k few =
    let size = length-append xs (c ∷ []) in
    let start : length (xs ++ c ∷ []) - (k + 1) ≡ length xs - k = omega (arith, size) in
    ap (λ (n : ℕ). drop n (xs ++ c ∷ [])) start ∙ drop-append-le (length xs - k) xs (c ∷ []) (omega arith)

-- c and then the cards under it, or all at once
taken_twice : (pile : Pile) (k : ℕ) → 0 < k → k + 1 ≤ length pile.cards
    → pile_without k (pile_without 1 pile) ≡ pile_without (k + 1) pile
taken_twice pile k some few =
    let size : length (below_top 1 pile.cards) ≡ length pile.cards - 1 = omega
    (arith, length-take (length pile.cards - 1) pile.cards) in
    let start : length (below_top 1 pile.cards) - k ≡ length pile.cards - (k + 1) = omega (arith, size) in
    let cards : below_top k (below_top 1 pile.cards) ≡ below_top (k + 1) pile.cards
    = ap (λ (n : ℕ). take n (below_top 1 pile.cards)) start ∙ take-take (length pile.cards - (k + 1))
    (length pile.cards - 1) pile.cards (omega arith) in
    let down : min (min pile.face_down (length pile.cards - 1 - 1)) (length (below_top 1 pile.cards) - k - 1)
    ≡ min pile.face_down (length pile.cards - (k + 1) - 1)
    = omega (arith, size) in
    same_pile _ _ _ _ cards down

without_twice : (rules : RuleParts) (board : Board) (p k : ℕ) → 0 < k → k + 1 ≤ length (pile_at board p).cards
    → IsTrue (has_place rules board (Tableau p))
    → without rules (without rules board (Tableau p) 1) (Tableau p) k ≡ without rules board (Tableau p) (k + 1)
without_twice rules board p k some few here =
    let pile : Pile = pile_at board p in
    let once : Board = without rules board (Tableau p) 1 in
    let now : pile_at once p ≡ pile_without 1 pile = get_or-set_same board.piles p _ _ (ltb-true _ _ here) in
    ap (λ (piles : List Pile). record board { piles = piles })
    (ap (λ (x : Pile). slice_set once.piles p (pile_without k x)) now
    ∙ set-set board.piles p (pile_without 1 pile) (pile_without k (pile_without 1 pile))
    ∙ ap (λ (x : Pile). slice_set board.piles p x) (taken_twice pile k some few))

-- what a pile gives
pub record GivesFacts (rules : RuleParts) (pile : Pile) (count : ℕ) : Type 0 where
  pub some : 0 < count
  pub enough : pile.face_down + count ≤ length pile.cards
  pub groups : IsTrue ((count == 1) || moves_groups rules.groups)
  pub run : IsTrue (is_run rules (top_part count pile.cards))

pub gives_facts : (rules : RuleParts) (pile : Pile) (count : ℕ) → IsTrue (pile_gives rules pile count)
    → GivesFacts rules pile count
gives_facts rules pile count h =
    let to_run = both _ _ h in
    let to_groups = both _ _ to_run.0 in
    let to_enough = both (nat_lt 0 count) (nat_le (pile.face_down + count) (length pile.cards)) to_groups.0 in
    record { some = ltb-true _ _ to_enough.0; enough = leb-true _ _ to_enough.1; groups = to_groups.1; run = to_run.1 }

gives_from : (rules : RuleParts) (pile : Pile) (count : ℕ) → GivesFacts rules pile count
    → IsTrue (pile_gives rules pile count)
gives_from rules pile count h =
    and_from _ _ (and_from _ _ (and_from _ _ (lt-ltb 0 count h.some)
    (le-leb (pile.face_down + count) (length pile.cards) h.enough)) h.groups) h.run

groups_also : (g : Bool) (k : ℕ) → 0 < k → IsTrue ((k + 1 == 1) || g) → IsTrue ((k == 1) || g)
groups_also true k some h = grind (arith, nat_tests)
groups_also false k some h = grind (arith, nat_tests)

gives_less : (rules : RuleParts) (pile : Pile) (c : Card) (k : ℕ) → 0 < k → GivesFacts rules pile (k + 1)
    → Topped pile (below_top 1 pile.cards) c → IsTrue (pile_gives rules (pile_without 1 pile) k)
gives_less rules pile c k some facts top =
    let xs : List Card = below_top 1 pile.cards in
    let few : k ≤ length xs = (let e = facts.enough in let n = top.size in omega (arith, e, n)) in
    let group : top_part (k + 1) pile.cards ≡ top_part k xs ++ c ∷ [] = ap (top_part (k + 1)) top.cards
    ∙ group_cards xs c k few in
    gives_from rules (pile_without 1 pile) k (record {
      some = some;
      enough = (let e = facts.enough in let n = top.size in omega (arith, e, n));
      groups = groups_also (moves_groups rules.groups) k some facts.groups;
      run = run_front rules (top_part k xs) c
          (subst (λ (cards : List Card). IsTrue (is_run rules cards)) group facts.run);
    })

pub group_to_pile : (rules : RuleParts) (board : Board) (p q f k : ℕ) (c : Card) → Allowed rules → Belongs rules board
    → SafeFacts rules board (Tableau p) f c
    → 0 < k → CarryFacts rules board (Tableau p) (Tableau q) (k + 1)
    → Kept rules board (Tableau p) f c (carried rules board (Tableau p) (Tableau q) (k + 1))
group_to_pile rules board p q f k c allows belongs safe some facts =
    let pile : Pile = pile_at board p in
    let xs : List Card = below_top 1 pile.cards in
    let gives = gives_facts rules pile (k + 1) facts.takes in
    let top = topped pile c safe.card in
    let few : k ≤ length xs = (let e = gives.enough in let n = top.size in omega (arith, e, n)) in
    let few_all : k + 1 ≤ length pile.cards = (let e = gives.enough in omega (arith, e)) in
    let ys : List Card = top_part k xs in
    let group : top_part (k + 1) pile.cards ≡ ys ++ c ∷ [] = ap (top_part (k + 1)) top.cards ∙ group_cards xs c k few in
    let ys_size : 0 < length ys = omega (arith, length-drop (length xs - k) xs) in
    let apart : Apart rules (Tableau p) (Tableau q) = apart_target rules (Tableau p) (Tableau q) refl facts.apart in
    let b : Board = sent_home rules board (Tableau p) f in
    let z : Board = without rules board (Tableau p) (k + 1) in
    let once : Board = without rules board (Tableau p) 1 in
    let there : Board = with_cards z (Tableau q) (taken rules board (Tableau p) (k + 1)) in
    let landed : Board = with_cards z (Tableau q) (ys ++ c ∷ []) in
    let same : landed ≡ there = ap (with_cards z (Tableau q)) (sym group) in
    let agree : pile_at board q ≡ pile_at z q = agree-without rules board (Tableau p) (Tableau q) (k + 1) refl apart in
    let up : (pile_at z q).face_down ≤ length (pile_at z q).cards - 1
    = subst (λ (pile : Pile). pile.face_down ≤ length pile.cards - 1) agree
    (face_up rules board q belongs facts.to_place) in
    let here_z : IsTrue (has_place rules z (Tableau q)) = place-without rules board (Tableau p) (Tableau q) (k + 1) refl
    ∙ facts.to_place in
    let home_z : IsTrue (has_place rules z (Foundation f)) = place-without rules board (Tableau p) (Foundation f)
    (k + 1) refl ∙ safe.home in
    let raised : Raised board landed = subst (λ (b : Board). Raised board b) (sym same)
    (raised-after rules board (Tableau p) (Tableau q) (k + 1) refl refl) in
    let pile_b : pile_at b p ≡ pile_without 1 pile = get_or-set_same board.piles p _ _
    (ltb-true _ _ facts.from_place) in
    let agree_to : AgreeAt rules board b (Tableau q) = agree-after rules board (Tableau p) (Foundation f) 1
    (Tableau q) refl apart refl in
    let group_b : taken rules b (Tableau p) k ≡ ys = ap (λ (pile : Pile). top_part k pile.cards) pile_b in
    let puts_b : IsTrue (can_put rules b (Tableau q) ys)
    = sym (can_put-agree rules board b (Tableau q) ys refl agree_to)
    ∙ put_front rules board q ys c ys_size
    (subst (λ (cards : List Card). IsTrue (can_put rules board (Tableau q) cards)) group facts.puts) in
    record {
      place = Tableau q;
      instead = Carry (Tableau p) (Tableau q) k;
      safe = subst (λ (b : Board). SafeFacts rules b (Tableau q) f c) same
          (landed_safe rules board z (Tableau p) q f ys c safe here_z home_z up refl raised);
      legal = legal_carry rules b (Tableau p) (Tableau q) k
          (place-after rules board (Tableau p) (Foundation f) 1 (Tableau p) refl refl ∙ facts.from_place)
          (place-after rules board (Tableau p) (Foundation f) 1 (Tableau q) refl refl ∙ facts.to_place)
          facts.apart
          (ap (λ (pile : Pile). pile_gives rules pile k) pile_b ∙ gives_less rules pile c k some gives top)
          (subst (λ (cards : List Card). IsTrue (can_put rules b (Tableau q) cards)) (sym group_b) puts_b);
      same =
          ap (λ (b : Board). sent_home rules b (Tableau q) f) (sym same)
          ∙ landed_home rules z q f ys c here_z up
          ∙ ap (λ (w : Board). with_cards (with_cards w (Tableau q) ys) (Foundation f) (c ∷ []))
          (sym (without_twice rules board p k some few_all facts.from_place))
          ∙ ap (λ (cards : List Card). with_cards (with_cards (without rules once (Tableau p) k) (Tableau q) ys)
          (Foundation f) cards) (sym safe.card)
          ∙ sym (home_and_put (without rules once (Tableau p) k) f (Tableau q)
          (taken rules board (Tableau p) 1) ys refl)
          ∙ ap (λ (w : Board). with_cards w (Tableau q) ys)
          (sym (put_first rules once (Tableau p) (Foundation f) k (taken rules board (Tableau p) 1) refl))
          ∙ ap (λ (cards : List Card). with_cards (without rules b (Tableau p) k) (Tableau q) cards) (sym group_b)
          ∙ sym (after_carry rules b (Tableau p) (Tableau q) k allows);
    }
