-- the four calls keep each key once
use Rattle.std.proofs.Common.{◌≡◌, ℕ, ◌<◌, Bool, false, List, [], ◌∷◌, ◌++◌, length, get_or, take, drop, sym, ap, ◌∙◌}
use Rattle.std.proofs.Common.{subst, arith, take-append-drop}
use Rattle.std.specs.Cmp.{IsEquivalence}
use Rattle.std.specs.List.{All, AllPairs}
use Rattle.std.proofs.lemmas.List.{get_or_append_left, append_assoc, length-append}
use Rattle.std.proofs.lemmas.List.Elements.{All-append, All-cons, All-head, All-tail}
use Rattle.std.proofs.lemmas.List.Elements.{All-from_recursion, recursion_from_All}
use Rattle.std.proofs.lemmas.List.Kept.{AllPairs-cons}
use Rattle.transposition.specs.Memo.{IsAbsent, HoldsEachKeyOnce, BecomesNewest, LeavesLast}
use Rattle.transposition.proofs.Cached.{right_of}
use Rattle.transposition.proofs.Once.{pairs_head, pairs_tail}

-- what holds of all of two lists joined holds of each
both : {A : Type 0} (P : A → Type 0) (xs ys : List A) → All P (xs ++ ys) → All P xs × All P ys
both P xs ys all =
    let r = right_of P xs ys (recursion_from_All P (xs ++ ys) all) in
    (All-from_recursion P xs r.0, All-from_recursion P ys r.1)

module _ {A : Type 0} (R : A → A → Type 0) where
  front_pairs : (xs ys : List A) → AllPairs R (xs ++ ys) → AllPairs R xs
  front_pairs xs ys h i j d lt le =
      let less : i < length xs = omega (arith, lt, le) in
      let within : j < length (xs ++ ys) = (let l = length-append xs ys in omega (arith, l, le)) in
      let first : get_or (xs ++ ys) i d ≡ get_or xs i d = get_or_append_left xs ys d i less in
      let second : get_or (xs ++ ys) j d ≡ get_or xs j d = get_or_append_left xs ys d j le in
      subst (λ a. R a (get_or xs j d)) first (subst (λ b. R (get_or (xs ++ ys) i d) b) second (h i j d lt within))

  module _ (flip : (a b : A) → R a b → R b a) where
    -- one more element, which R relates to all others
    with_one : (xs ys : List A) (x : A) → AllPairs R (xs ++ ys) → All (R x) xs → All (R x) ys
        → AllPairs R (xs ++ x ∷ ys)
    with_one [] ys x h before after = AllPairs-cons R x ys after h
    with_one (z ∷ xs) ys x h before after =
        let others = both (R z) xs ys (pairs_head R z (xs ++ ys) h) in
        AllPairs-cons R z (xs ++ x ∷ ys)
        (All-append (R z) xs (x ∷ ys) others.0 (All-cons (R z) x ys (flip x z (All-head (R x) z xs before)) others.1))
        (with_one xs ys x (pairs_tail R z (xs ++ ys) h) (All-tail (R x) z xs before) after)

    -- without one element, which R relates to all others
    without_one : (xs ys : List A) (x : A) → AllPairs R (xs ++ x ∷ ys) → AllPairs R (xs ++ ys)
        × All (R x) xs × All (R x) ys
    without_one [] ys x h = (pairs_tail R x ys h, (λ k d lt. absurd (omega (arith, lt))), pairs_head R x ys h)
    without_one (z ∷ xs) ys x h =
        let less = without_one xs ys x (pairs_tail R z (xs ++ x ∷ ys) h) in
        let others = both (R z) xs (x ∷ ys) (pairs_head R z (xs ++ x ∷ ys) h) in (
          AllPairs-cons R z (xs ++ ys) (All-append (R z) xs ys others.0 (All-tail (R z) x ys others.1)) less.0,
          All-cons (R x) z xs (flip z x (All-head (R z) x ys others.1)) less.1,
          less.2,
        )

module _ {K : Type 0} (eq : K → K → Bool) (laws : IsEquivalence eq) where
  abbrev differs : K → K → Type 0
  differs a b = eq a b ≡ false

  flipped : (a b : K) → differs a b → differs b a
  flipped a b h = laws.symm b a ∙ h

  -- a new key becomes the last live one
  pub once-entered : (live finished : List K) (key : K) → HoldsEachKeyOnce eq live finished → IsAbsent eq key live
      → IsAbsent eq key finished
      → HoldsEachKeyOnce eq (live ++ key ∷ []) finished
  once-entered live finished key once not_live not_finished =
      subst (AllPairs differs) (sym (append_assoc live (key ∷ []) finished))
      (with_one differs flipped live finished key once not_live not_finished)

  -- a finished key becomes the newest
  pub once-looked : (live finished finished' : List K) (key : K) → BecomesNewest eq key finished finished'
      → HoldsEachKeyOnce eq live finished
      → HoldsEachKeyOnce eq live finished'
  once-looked live finished finished' key looked once =
      let a = looked.before in
      let b = looked.after in
      let was : AllPairs differs ((live ++ a) ++ looked.found ∷ b) =
      subst (AllPairs differs) (sym (append_assoc live a (looked.found ∷ b)))
      (subst (λ f. AllPairs differs (live ++ f)) looked.old_is once) in
      let less = without_one differs flipped (live ++ a) b looked.found was in
      let apart = both (differs looked.found) live a less.1 in
      subst (λ f. AllPairs differs (live ++ f)) (sym looked.new_is)
      (with_one differs flipped live (a ++ b) looked.found
      (subst (AllPairs differs) (append_assoc live a b) less.0) apart.0
      (All-append (differs looked.found) a b apart.1 less.2))

  -- the last live key becomes the newest finished one
  pub once-left : (capacity : ℕ) (live finished live' finished' : List K)
      → LeavesLast capacity live finished live' finished' → HoldsEachKeyOnce eq live finished
      → HoldsEachKeyOnce eq live' finished'
  once-left capacity live finished live' finished' left once =
      let all = left.key ∷ finished in
      let whole : live ++ finished ≡ (live' ++ take capacity all) ++ drop capacity all =
      ap (λ l. l ++ finished) left.live_is ∙ append_assoc live' (left.key ∷ []) finished
      ∙ ap (λ f. live' ++ f) (sym (take-append-drop capacity all))
      ∙ sym (append_assoc live' (take capacity all) (drop capacity all)) in
      subst (λ f. AllPairs differs (live' ++ f)) (sym left.finished_is)
      (front_pairs differs (live' ++ take capacity all) (drop capacity all) (subst (AllPairs differs) whole once))
