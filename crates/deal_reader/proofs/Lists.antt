-- The loops over the entries of a part.
use Rattle.std.proofs.Common.{◌≡◌, ℕ, List, [], ◌∷◌, ◌++◌, length, Ok, Err, refl, ap, append_assoc, append-nil, sym}
use Rattle.std.specs.Prelude.{Result}
use Rattle.serde_json.specs.Data.{Data, Items, no_items, item}
use Rattle.json_tree.specs.Choice.{◌>>=◌}
use Rattle.game_rules.specs.declared.Part.{Part}
use Rattle.deal_reader.specs.declared.fault.DealFault.{DealFault}
use Rattle.deal_reader.specs.Entries.{place_after, entries_from, list_at, lists_from}

-- the entries so far, before those of the rest
abbrev pub with_front : {A : Type 0} → List A → Result (List A) DealFault → Result (List A) DealFault
with_front front r = r >>= λ rest. Ok (front ++ rest)

front-grows : {A : Type 0} (front : List A) (x : A) (r : Result (List A) DealFault)
    → with_front front (r >>= λ rest. Ok (x ∷ rest)) ≡ with_front (front ++ x ∷ []) r
front-grows front x (Ok rest) = ap (λ xs. Ok xs) (sym (append_assoc front (x ∷ []) rest))
front-grows front x (Err fault) = refl

pub with_front-nil : {A : Type 0} (r : Result (List A) DealFault) → with_front [] r ≡ r
with_front-nil (Ok rest) = refl
with_front-nil (Err fault) = refl

pub with_front-end : {A : Type 0} (read : ℕ → Data → Result A DealFault) (place : ℕ) (front : List A)
    → with_front front (entries_from read place no_items) ≡ Ok front
with_front-end read place front = ap (λ xs. Ok xs) (append-nil front)

pub entries_from-entry : {A : Type 0} (read : ℕ → Data → Result A DealFault) (place : ℕ) (front : List A) (d : Data)
    (ds : Items) (x : A)
    → read place d ≡ Ok x → with_front front (entries_from read place (item d ds)) ≡ with_front (front ++ x ∷ [])
    (entries_from read (place_after place 1) ds)
entries_from-entry read place front d ds x h = rw h (front-grows front x (entries_from read (place_after place 1) ds))

pub entries_from-fault : {A : Type 0} (read : ℕ → Data → Result A DealFault) (place : ℕ) (front : List A) (d : Data)
    (ds : Items) (fault : DealFault)
    → read place d ≡ Err fault → with_front front (entries_from read place (item d ds)) ≡ Err fault
entries_from-fault read place front d ds fault h = rw h refl

pub lists_from-list : {A : Type 0} (part : Part) (read : ℕ → Data → Result A DealFault) (place : ℕ)
    (front : List (List A)) (d : Data) (ds : Items) (xs : List A)
    → list_at part read place d ≡ Ok xs → with_front front (lists_from part read place (item d ds)) ≡ with_front
    (front ++ xs ∷ []) (lists_from part read (place_after place (length xs)) ds)
lists_from-list part read place front d ds xs h = rw h
    (front-grows front xs (lists_from part read (place_after place (length xs)) ds))

pub lists_from-fault : {A : Type 0} (part : Part) (read : ℕ → Data → Result A DealFault) (place : ℕ)
    (front : List (List A)) (d : Data) (ds : Items) (fault : DealFault)
    → list_at part read place d ≡ Err fault → with_front front (lists_from part read place (item d ds)) ≡ Err fault
lists_from-fault part read place front d ds fault h = rw h refl
