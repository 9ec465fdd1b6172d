-- Following links, and what one changed link changes.
use Rattle.std.proofs.Common.{◌≡◌, ◌≢◌, ℕ, zero, suc, ◌+◌, ◌<◌, List, ◌∷◌, ◌++◌, length, get_or, set, refl, sym, ap}
use Rattle.std.proofs.Common.{ap₂, ◌∙◌, arith}
use Rattle.std.proofs.lemmas.List.{get_or-set_other}
use Rattle.std.proofs.lemmas.List.{get_or_default}
use Rattle.card_links.specs.Chains.{Chains, IsChained, link, follow, chain, size_at, slot_at}

pub follow_more : (under : List ℕ) (n s : ℕ) → follow under (suc n) s ≡ link under (follow under n s)
follow_more under zero s = refl
follow_more under (suc n) s = follow_more under n (link under s)

pub follow_add : (under : List ℕ) (m n k s : ℕ) → k ≡ m + n → follow under k s ≡ follow under n (follow under m s)
follow_add under zero n k s e = let f : k ≡ n = omega arith in ap (λ x. follow under x s) f
follow_add under (suc m) n zero s e = absurd (omega arith)
follow_add under (suc m) n (suc k) s e = follow_add under m n k (link under s) (omega arith)

-- a link that is changed at a slot that is not passed
pub follow_frame : (under : List ℕ) (x v n s : ℕ) → ((k : ℕ) → k < n → follow under k s ≢ x)
    → follow (set under x v) n s ≡ follow under n s
follow_frame under x v zero s h = refl
follow_frame under x v (suc n) s h =
    let here : s ≢ x = h 0 (omega arith) in
    rw (get_or-set_other under x s v 255 here)
    (follow_frame under x v n (link under s) (λ k lt. h (suc k) (omega arith)))

-- chains that agree slot by slot
pub chain_same : (a b : List ℕ) (n s t : ℕ) → ((k : ℕ) → k < n → follow a k s ≡ follow b k t)
    → chain a n s ≡ chain b n t
chain_same a b zero s t h = refl
chain_same a b (suc n) s t h =
    let here : s ≡ t = h 0 (omega arith) in
    ap₂ ◌∷◌ here (chain_same a b n (link a s) (link b t) (λ k lt. h (suc k) (omega arith)))

pub chain_add : (under : List ℕ) (m n k s : ℕ) → k ≡ m + n
    → chain under k s ≡ chain under m s ++ chain under n (follow under m s)
chain_add under zero n k s e = let f : k ≡ n = omega arith in ap (λ x. chain under x s) f
chain_add under (suc m) n zero s e = absurd (omega arith)
chain_add under (suc m) n (suc k) s e = ap (λ xs. s ∷ xs) (chain_add under m n k (link under s) (omega arith))

pub length-chain : (under : List ℕ) (n s : ℕ) → length (chain under n s) ≡ n
length-chain under zero s = refl
length-chain under (suc n) s = ap suc (length-chain under n (link under s))

pub get_or-chain : (under : List ℕ) (n s k d : ℕ) → k < n → get_or (chain under n s) k d ≡ follow under k s
get_or-chain under zero s k d h = absurd (omega arith)
get_or-chain under (suc n) s zero d h = refl
get_or-chain under (suc n) s (suc k) d h = get_or-chain under n (link under s) k d (omega arith)

-- a step of a walk as the code makes it
pub step : (under : List ℕ) (n m s x y d : ℕ) → x ≡ follow under n s → m ≡ suc n → y ≡ x → y < length under
    → get_or under y d ≡ follow under m s
step under n m s x y d e em ey lt =
    rw em (get_or_default under y d 255 lt ∙ ap (λ z. get_or under z 255) (ey ∙ e) ∙ sym (follow_more under n s))

-- a slot inside a chain, where the size is known of the value that callers see
pub inside : (a b : Chains) (p k n : ℕ) → a ≡ b → IsChained a → p < 315 → k < n → n < size_at b p
    → slot_at a p k < a.used
inside a b p k n e chained lt kn nb =
    let same : size_at a p ≡ size_at b p = ap (λ x. size_at x p) e in
    chained.within p k lt (omega arith)
