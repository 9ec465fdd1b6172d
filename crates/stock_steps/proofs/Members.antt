-- Which elements a list has, by recursion on the list, and lists whose elements are apart.
use Rattle.std.proofs.Common.{◌≡◌, ◌≢◌, ◌⊎◌, inl, inr, ℕ, zero, suc, ◌<◌, Bool, true, false, List, [], ◌∷◌, ◌++◌}
use Rattle.std.proofs.Common.{length, map, refl, ap, sym, ◌∙◌, arith, IsTrue, get_or, cond}
use Rattle.std.specs.List.{AllPairs, Contains, filter}

-- no two elements are equal
abbrev pub AreApart : {A : Type 0} → List A → Type 0
AreApart xs = AllPairs (λ a b. a ≢ b) xs

-- the element stands in the list
abbrev pub Mem : {A : Type 0} → A → List A → Type 0
Mem a [] = ⊥
Mem a (x ∷ xs) = (a ≡ x) ⊎ Mem a xs

pub Contains-from_Mem : {A : Type 0} (a : A) (xs : List A) → Mem a xs → Contains xs a
Contains-from_Mem a [] h = absurd h
Contains-from_Mem {A = A} a (x ∷ xs) h =
    let rest : Mem a xs → Contains xs a = Contains-from_Mem a xs in
    elim h [
      | inl e ↦ (0, omega arith, sym e)
      | inr there ↦ let at : Contains xs a = rest there in (suc at.0, omega (arith, at.1), at.2)
    ]

Mem-at : {A : Type 0} (a : A) (xs : List A) (k : ℕ) → k < length xs → get_or xs k a ≡ a → Mem a xs
Mem-at a [] k h e = absurd (omega arith)
Mem-at a (x ∷ xs) zero h e = inl (sym e)
Mem-at a (x ∷ xs) (suc k) h e = inr (Mem-at a xs k (omega arith) e)

pub Mem-from_Contains : {A : Type 0} (a : A) (xs : List A) → Contains xs a → Mem a xs
Mem-from_Contains a xs h = Mem-at a xs h.0 h.1 h.2

pub Mem-left : {A : Type 0} (a : A) (xs ys : List A) → Mem a xs → Mem a (xs ++ ys)
Mem-left a [] ys h = absurd h
Mem-left a (x ∷ xs) ys h =
    let rest : Mem a xs → Mem a (xs ++ ys) = Mem-left a xs ys in
    elim h [ inl e ↦ inl e | inr there ↦ inr (rest there) ]

pub Mem-right : {A : Type 0} (a : A) (xs ys : List A) → Mem a ys → Mem a (xs ++ ys)
Mem-right a [] ys h = h
Mem-right a (x ∷ xs) ys h = inr (Mem-right a xs ys h)

pub Mem-append : {A : Type 0} (a : A) (xs ys : List A) → Mem a (xs ++ ys) → Mem a xs ⊎ Mem a ys
Mem-append a [] ys h = inr h
Mem-append a (x ∷ xs) ys h =
    let rest : Mem a (xs ++ ys) → Mem a xs ⊎ Mem a ys = Mem-append a xs ys in
    elim h [
      | inl e ↦ inl (inl e)
      | inr there ↦ elim (rest there) [ inl left ↦ inl (inr left) | inr right ↦ inr right ]
    ]

pub Mem-map : {A B : Type 0} (f : A → B) (a : A) (xs : List A) → Mem a xs → Mem (f a) (map f xs)
Mem-map f a [] h = absurd h
Mem-map f a (x ∷ xs) h =
    let rest : Mem a xs → Mem (f a) (map f xs) = Mem-map f a xs in
    elim h [ inl e ↦ inl (ap f e) | inr there ↦ inr (rest there) ]

pub Mem-from_map : {A B : Type 0} (f : A → B) (b : B) (xs : List A) → Mem b (map f xs) → (a : A) × Mem a xs × (b ≡ f a)
Mem-from_map f b [] h = absurd h
Mem-from_map {A = A} f b (x ∷ xs) h =
    let rest : Mem b (map f xs) → (a : A) × Mem a xs × (b ≡ f a) = Mem-from_map f b xs in
    elim h [
      | inl e ↦ (x, inl refl, e)
      | inr there ↦ let at : (a : A) × Mem a xs × (b ≡ f a) = rest there in (at.0, inr at.1, at.2)
    ]

filter_step : {A : Type 0} (test : A → Bool) (a x : A) (xs : List A) (t : Bool) → test x ≡ t → IsTrue (test a)
    → (Mem a xs → Mem a (filter test xs)) → Mem a (x ∷ xs) → Mem a (cond t (x ∷ filter test xs) (filter test xs))
filter_step test a x xs true e passes rest h = elim h [ inl same ↦ inl same | inr there ↦ inr (rest there) ]
filter_step test a x xs false e passes rest h = elim h [
  | inl same ↦
      let failed : test a ≡ false = ap test same ∙ e in
      cc
  | inr there ↦ rest there
]

pub Mem-filter : {A : Type 0} (test : A → Bool) (a : A) (xs : List A) → IsTrue (test a) → Mem a xs
    → Mem a (filter test xs)
Mem-filter test a [] passes h = absurd h
Mem-filter test a (x ∷ xs) passes h = filter_step test a x xs (test x) refl passes (Mem-filter test a xs passes) h

kept_step : {A : Type 0} (test : A → Bool) (a x : A) (xs : List A) (t : Bool) → test x ≡ t
    → (Mem a (filter test xs) → IsTrue (test a) × Mem a xs) → Mem a (cond t (x ∷ filter test xs) (filter test xs))
    → IsTrue (test a) × Mem a (x ∷ xs)
kept_step test a x xs true e rest h = elim h [
  | inl same ↦ (ap test same ∙ e, inl same)
  | inr there ↦ let at : IsTrue (test a) × Mem a xs = rest there in (at.0, inr at.1)
]
kept_step test a x xs false e rest h = let at : IsTrue (test a) × Mem a xs = rest h in (at.0, inr at.1)

pub Mem-from_filter : {A : Type 0} (test : A → Bool) (a : A) (xs : List A) → Mem a (filter test xs)
    → IsTrue (test a) × Mem a xs
Mem-from_filter test a [] h = absurd h
Mem-from_filter test a (x ∷ xs) h = kept_step test a x xs (test x) refl (Mem-from_filter test a xs) h

-- no element stands twice

abbrev pub Distinct : {A : Type 0} → List A → Type 0
Distinct [] = Unit {0}
Distinct {A = A} (x ∷ xs) = ((y : A) → Mem y xs → x ≢ y) × Distinct xs

Mem-get_or : {A : Type 0} (xs : List A) (k : ℕ) (d : A) → k < length xs → Mem (get_or xs k d) xs
Mem-get_or [] k d h = absurd (omega arith)
Mem-get_or (x ∷ xs) zero d h = inl refl
Mem-get_or (x ∷ xs) (suc k) d h = inr (Mem-get_or xs k d (omega arith))

pub AreApart-from_Distinct : {A : Type 0} (xs : List A) → Distinct xs → AreApart xs
AreApart-from_Distinct [] h i j d less within = absurd (omega arith)
AreApart-from_Distinct (x ∷ xs) h i zero d less within = absurd (omega arith)
AreApart-from_Distinct (x ∷ xs) h zero (suc j) d less within = h.0 (get_or xs j d) (Mem-get_or xs j d (omega arith))
AreApart-from_Distinct (x ∷ xs) h (suc i) (suc j) d less within = AreApart-from_Distinct xs h.1 i j d
    (omega arith) (omega arith)

pub Distinct-from_AreApart : {A : Type 0} (xs : List A) → AreApart xs → Distinct xs
Distinct-from_AreApart [] h = tt
Distinct-from_AreApart (x ∷ xs) h = (
  λ y here e.
      let at : Contains xs y = Contains-from_Mem y xs here in
      h 0 (suc at.0) y (omega arith) (omega (arith, at.1)) (e ∙ sym at.2),
  Distinct-from_AreApart xs (λ i j d less within. h (suc i) (suc j) d (omega arith) (omega arith)),
)

pub Distinct-append : {A : Type 0} (xs ys : List A) → Distinct xs → Distinct ys → ((a : A) → Mem a xs → Mem a ys → ⊥)
    → Distinct (xs ++ ys)
Distinct-append [] ys h k apart = k
Distinct-append (x ∷ xs) ys h k apart = (
  λ y here e. elim (Mem-append y xs ys here) [
    | inl left ↦ h.0 y left e
    | inr right ↦ apart y (inl (sym e)) right
  ],
  Distinct-append xs ys h.1 k (λ a left right. apart a (inr left) right),
)

pub Distinct-map : {A B : Type 0} (f : A → B) (xs : List A) → ((a b : A) → f a ≡ f b → a ≡ b) → Distinct xs
    → Distinct (map f xs)
Distinct-map f [] apart h = tt
Distinct-map {A = A} f (x ∷ xs) apart h = (
  λ y here e.
      let at : (a : A) × Mem a xs × (y ≡ f a) = Mem-from_map f y xs here in
      h.0 at.0 at.1 (apart x at.0 (e ∙ at.2)),
  Distinct-map f xs apart h.1,
)

distinct_filter_step : {A : Type 0} (test : A → Bool) (x : A) (xs : List A) (t : Bool) → ((y : A) → Mem y xs → x ≢ y)
    → Distinct (filter test xs) → Distinct (cond t (x ∷ filter test xs) (filter test xs))
distinct_filter_step test x xs true apart rest = (λ y here e. apart y (Mem-from_filter test y xs here).1 e, rest)
distinct_filter_step test x xs false apart rest = rest

pub Distinct-filter : {A : Type 0} (test : A → Bool) (xs : List A) → Distinct xs → Distinct (filter test xs)
Distinct-filter test [] h = tt
Distinct-filter test (x ∷ xs) h = distinct_filter_step test x xs (test x) h.0 (Distinct-filter test xs h.1)
