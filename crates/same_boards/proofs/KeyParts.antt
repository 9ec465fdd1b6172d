-- Bytes read back: cards from their bytes, and the parts of a key from the key.
use Rattle.std.proofs.Common.{◌≡◌, ℕ, ◌+◌, ◌-◌, ◌*◌, ◌/◌, ◌%◌, ◌<◌, ◌≤◌, Bool, true, false, List, [], ◌∷◌, ◌++◌, map}
use Rattle.std.proofs.Common.{length, refl, ap, ap₂, sym, ◌∙◌, subst, arith, append_assoc}
use Rattle.std.specs.Prelude.{Option, Some, None, IfSome, ◌==◌, if◌then◌else◌}
use Rattle.std.specs.List.{All, concat}
use Rattle.std.specs.List.Sorted.{IsPermutation}
use Rattle.std.proofs.lemmas.List.{length-map}
use Rattle.std.proofs.lemmas.List.Elements.{All-head, All-tail}
use Rattle.std.proofs.lemmas.List.Sorted.{IsPermutation-map}
use Rattle.std.proofs.lemmas.Nat.{div-mul-add, mod-mul-add}
use Rattle.std.proofs.lemmas.Bool.{ne_eqb}
use Rattle.card_piles.specs.declared.Suit.{Suit}
use Rattle.card_piles.specs.declared.Suit.TheVariants.{Clubs, Diamonds, Hearts, Spades}
use Rattle.card_piles.specs.declared.Card.{Card}
use Rattle.card_piles.specs.Cards.{place_of}
use Rattle.card_piles.specs.Ranks.{IsRank}
use Rattle.game_rules.specs.Board.{Pile, empty_pile, suit_at}
use Rattle.game_rules.specs.Ranked.{AreCards}
use Rattle.same_boards.specs.Keys.{card_byte, entry_byte, card_bytes, counted, pile_bytes, row_bytes}
use Rattle.same_boards.specs.Bytes.{card_of_byte, entry_of_byte}

-- ---- cards, entries and piles from their bytes

abbrev pub IsGood : Card → Type 0
IsGood card = IsRank card.rank

abbrev pub IsGoodEntry : Option Card → Type 0
IsGoodEntry entry = IfSome entry (λ card. IsRank card.rank)

abbrev pub IsGoodPile : Pile → Type 0
IsGoodPile pile = AreCards pile.cards

abbrev pub pile_of_bytes : List ℕ → Pile
pile_of_bytes [] = empty_pile
pile_of_bytes (n ∷ []) = empty_pile
pile_of_bytes (n ∷ face_down ∷ bytes) = record { cards = map card_of_byte bytes; face_down = face_down }

suit_of_place : (s : Suit) → suit_at (place_of s) ≡ s
suit_of_place Clubs = refl
suit_of_place Diamonds = refl
suit_of_place Hearts = refl
suit_of_place Spades = refl

pub card-back : (card : Card) → IsGood card → card_of_byte (card_byte card) ≡ card
card-back card good =
    let p : ℕ = place_of card.suit in
    let r : ℕ = card.rank in
    let low : 1 ≤ r = good.0 in
    let high : r ≤ 13 = good.1 in
    let small : r - 1 < 13 = omega arith in
    let form : card_byte card - 1 ≡ p * 13 + (r - 1) = omega arith in
    let suit : suit_at ((card_byte card - 1) / 13) ≡ card.suit =
    ap (λ (n : ℕ). suit_at (n / 13)) form ∙ ap suit_at (div-mul-add p 13 (r - 1) small) ∙ suit_of_place card.suit in
    let rank : (card_byte card - 1) % 13 + 1 ≡ r =
    ap (λ (n : ℕ). n % 13 + 1) form ∙ ap (λ (n : ℕ). n + 1) (mod-mul-add p 13 (r - 1) small)
    ∙ (let e : r - 1 + 1 ≡ r = omega arith in e) in
    let whole : card_of_byte (card_byte card) ≡ card = ap₂
    (λ (s : Suit) (n : ℕ). record { suit = s; rank = n }) suit rank in
    whole

entry_some : (n : ℕ) → 0 < n → entry_of_byte n ≡ Some (card_of_byte n)
entry_some n h = let no : (n == 0) ≡ false = ne_eqb n 0 (λ e. omega arith) in rw no

pub entry-back : (entry : Option Card) → IsGoodEntry entry → entry_of_byte (entry_byte entry) ≡ entry
entry-back None good = refl
entry-back (Some card) good = entry_some (card_byte card) (omega arith)
    ∙ ap (λ (c : Card). Some c) (card-back card good)

pub map-back : {A B : Type 0} (f : A → B) (g : B → A) (P : A → Type 0) → ((x : A) → P x → g (f x) ≡ x) → (xs : List A)
    → All P xs → map g (map f xs) ≡ xs
map-back f g P back [] all = refl
map-back {A = A} f g P back (x ∷ xs) all =
    ap₂ (λ (y : A) (ys : List A). y ∷ ys) (back x (All-head P x xs all)) (map-back f g P back xs (All-tail P x xs all))

pub cards-back : (cards : List Card) → All IsGood cards → map card_of_byte (card_bytes cards) ≡ cards
cards-back cards all = map-back card_byte card_of_byte IsGood card-back cards all

pub pile-back : (pile : Pile) → IsGoodPile pile → pile_of_bytes (pile_bytes pile) ≡ pile
pile-back pile good = ap (λ (cards : List Card). record { cards = cards; face_down = pile.face_down })
    (cards-back pile.cards good)

pub row-back : (row : List (Option Card)) → All IsGoodEntry row → map entry_of_byte (row_bytes row) ≡ row
row-back row all = map-back entry_byte entry_of_byte IsGoodEntry entry-back row all

-- lists whose bytes are equal, or equal up to order
pub same-from_bytes : {A B : Type 0} (f : A → B) (g : B → A) (P : A → Type 0) → ((x : A) → P x → g (f x) ≡ x)
    → (xs ys : List A) → All P xs → All P ys
    → map f xs ≡ map f ys → xs ≡ ys
same-from_bytes {B = B} f g P back xs ys all_x all_y e =
    sym (map-back f g P back xs all_x) ∙ ap (λ (zs : List B). map g zs) e ∙ map-back f g P back ys all_y

pub permutation-from_bytes : {A B : Type 0} (f : A → B) (g : B → A) (P : A → Type 0) → ((x : A) → P x → g (f x) ≡ x)
    → (xs ys : List A) → All P xs → All P ys
    → IsPermutation (map f xs) (map f ys) → IsPermutation xs ys
permutation-from_bytes {A = A} f g P back xs ys all_x all_y h =
    let there : IsPermutation (map g (map f xs)) (map g (map f ys)) = IsPermutation-map g (map f xs) (map f ys) h in
    let one : IsPermutation xs (map g (map f ys)) = subst (λ (zs : List A). IsPermutation zs (map g (map f ys)))
    (map-back f g P back xs all_x) there in
    subst (λ (zs : List A). IsPermutation xs zs) (map-back f g P back ys all_y) one

-- ---- a list of bytes taken apart

pub same_split : (xs ys r s : List ℕ) → length xs ≡ length ys → xs ++ r ≡ ys ++ s → (xs ≡ ys) × (r ≡ s)
same_split [] [] r s size e = (refl, e)
same_split [] (y ∷ ys) r s size e = absurd (omega arith)
same_split (x ∷ xs) [] r s size e = absurd (omega arith)
same_split (x ∷ xs) (y ∷ ys) r s size e =
    let first : x ≡ y = cc in
    let rest : xs ++ r ≡ ys ++ s = cc in
    let n : length xs ≡ length ys = omega arith in
    let parts = same_split xs ys r s n rest in
    (ap₂ (λ (z : ℕ) (zs : List ℕ). z ∷ zs) first parts.0, parts.1)

pub counted_split : (xs ys r s : List ℕ) → counted xs ++ r ≡ counted ys ++ s → (xs ≡ ys) × (r ≡ s)
counted_split xs ys r s e =
    let size : length xs ≡ length ys = cc in
    let rest : xs ++ r ≡ ys ++ s = cc in
    same_split xs ys r s size rest

pub if_split : (t : Bool) (x y r s : List ℕ) → length x ≡ length y → (if t then x else []) ++ r ≡ (if t then y else [])
    ++ s → (t ≡ true → x ≡ y) × (r ≡ s)
if_split true x y r s size e = let parts = same_split x y r s size e in (λ _. parts.0, parts.1)
if_split false x y r s size e = (λ h. cc, e)

-- pieces that tell where they end
abbrev pub Splits : (List ℕ → Type 0) → Type 0
Splits P = (p q r s : List ℕ) → P p → P q → p ++ r ≡ q ++ s → (p ≡ q) × (r ≡ s)

pub concat_split : (P : List ℕ → Type 0) → Splits P → (ps qs : List (List ℕ)) (r s : List ℕ) → All P ps → All P qs
    → length ps ≡ length qs
    → concat ps ++ r ≡ concat qs ++ s → (ps ≡ qs) × (r ≡ s)
concat_split P splits [] [] r s all_p all_q size e = (refl, e)
concat_split P splits [] (q ∷ qs) r s all_p all_q size e = absurd (omega arith)
concat_split P splits (p ∷ ps) [] r s all_p all_q size e = absurd (omega arith)
concat_split P splits (p ∷ ps) (q ∷ qs) r s all_p all_q size e =
    let whole : p ++ (concat ps ++ r) ≡ q ++ (concat qs ++ s) = sym (append_assoc p (concat ps) r) ∙ e
    ∙ append_assoc q (concat qs) s in
    let first = splits p q (concat ps ++ r) (concat qs ++ s) (All-head P p ps all_p) (All-head P q qs all_q) whole in
    let n : length ps ≡ length qs = omega arith in
    let rest = concat_split P splits ps qs r s (All-tail P p ps all_p) (All-tail P q qs all_q) n first.1 in
    (ap₂ (λ (z : List ℕ) (zs : List (List ℕ)). z ∷ zs) first.0 rest.0, rest.1)

abbrev pub IsPileBytes : List ℕ → Type 0
IsPileBytes [] = ⊥
IsPileBytes (n ∷ []) = ⊥
IsPileBytes (n ∷ face_down ∷ bytes) = n ≡ length bytes

pub pile_splits : Splits IsPileBytes
pile_splits [] q r s hp hq e = absurd hp
pile_splits (n ∷ []) q r s hp hq e = absurd hp
pile_splits (n ∷ f ∷ xs) [] r s hp hq e = absurd hq
pile_splits (n ∷ f ∷ xs) (m ∷ []) r s hp hq e = absurd hq
pile_splits (n ∷ f ∷ xs) (m ∷ g ∷ ys) r s hp hq e =
    let first : n ≡ m = cc in
    let second : f ≡ g = cc in
    let rest : xs ++ r ≡ ys ++ s = cc in
    let parts = same_split xs ys r s (sym hp ∙ first ∙ hq) rest in
    let bytes : xs ≡ ys = parts.0 in
    let whole : n ∷ f ∷ xs ≡ m ∷ g ∷ ys = cc in
    (whole, parts.1)

pub pile_bytes-is : (pile : Pile) → IsPileBytes (pile_bytes pile)
pile_bytes-is pile = sym (length-map pile.cards card_byte)

pub row_splits : (m : ℕ) → Splits (λ row. length row ≡ m)
row_splits m p q r s hp hq e = same_split p q r s (hp ∙ sym hq) e
