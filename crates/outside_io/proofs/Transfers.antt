-- What several reads took, and what several writes wrote, one after the other.
use Rattle.std.proofs.Common.{◌≡◌, ◌<◌, ◌≤◌, ◌-◌, ℕ, List, ◌++◌, length, take, drop, Option, Some, None, Result, Ok}
use Rattle.std.proofs.Common.{Err, OnErr, refl, sym, ap, ◌∙◌, subst, append-nil, append_assoc, length-append}
use Rattle.std.proofs.Common.{take-append-drop, arith}
use Rattle.std.proofs.Math.Seq.{take-append_seam}
use Rattle.std.proofs.lemmas.List.{take_all, length-drop}
use Rattle.std.specs.Io.KnownBytes.{Consumes, IsAtEnd, Keeps, Appends}
use Rattle.std.proofs.KnownBytes.{Appends-trans}
use Rattle.outside_io.specs.Reading.{ReadsFront}
use Rattle.outside_io.specs.Calls.{AppendsPart}

pub OnErr-any : {T E : Type 0} (r : Result T E) (P : Type 0) → P → OnErr r P
OnErr-any (Ok x) P p = tt
OnErr-any (Err e) P p = p

-- a reader at its end gave all its bytes
pub reads_to_end : (most : ℕ) (before after : Option (List ℕ)) (old new done : List ℕ) → new ≡ old ++ done
    → Consumes before after done → length done ≤ most → IsAtEnd after
    → ReadsFront most before after old new
reads_to_end most None after old new done grew taken few end = record {
  bytes = done;
  known = tt;
  taken = tt;
  grew = grew ∙ ap (λ xs. old ++ xs) (sym (take_all most done few));
}
reads_to_end most (Some xs) None old new done grew taken few end = absurd taken
reads_to_end most (Some xs) (Some ys) old new done grew taken few end = record {
  bytes = done;
  known = taken ∙ (ap (λ l. done ++ l) end ∙ append-nil done);
  taken = taken ∙ ap (λ l. l ++ ys) (sym (take_all most done few));
  grew = grew ∙ ap (λ l. old ++ l) (sym (take_all most done few));
}

-- a reader gave as many bytes as were asked for
pub reads_most : (most : ℕ) (before after : Option (List ℕ)) (old new done : List ℕ) → new ≡ old ++ done
    → Consumes before after done → length done ≡ most
    → ReadsFront most before after old new
reads_most most None after old new done grew taken full = record {
  bytes = done;
  known = tt;
  taken = tt;
  grew = grew ∙ ap (λ xs. old ++ xs) (sym (take_all most done (omega (arith, full))));
}
reads_most most (Some xs) None old new done grew taken full = absurd taken
reads_most most (Some xs) (Some ys) old new done grew taken full =
    let front : take most xs ≡ done = ap (take most) taken
    ∙ (ap (λ n. take n (done ++ ys)) (sym full) ∙ take-append_seam done ys) in
    record {
      bytes = xs;
      known = refl;
      taken = taken ∙ ap (λ l. l ++ ys) (sym front);
      grew = grew ∙ ap (λ l. old ++ l) (sym front);
    }

-- a writer that took nothing holds what it held
pub Keeps-from_nothing : (old new : Option (List ℕ)) (bytes : List ℕ) → Appends old new (take 0 bytes) → Keeps old new
Keeps-from_nothing None new bytes h = tt
Keeps-from_nothing (Some xs) None bytes h = h
Keeps-from_nothing (Some xs) (Some ys) bytes h = h ∙ append-nil xs

-- a writer that holds what it held after some bytes
pub Appends-kept : (old mid new : Option (List ℕ)) (bytes : List ℕ) → Appends old mid bytes → Keeps mid new
    → Appends old new bytes
Appends-kept None mid new bytes h k = tt
Appends-kept (Some xs) None new bytes h k = absurd h
Appends-kept (Some xs) (Some ys) None bytes h k = absurd k
Appends-kept (Some xs) (Some ys) (Some zs) bytes h k = k ∙ h

-- of a piece more bytes were written, the first of the rest
pub Appends-more : (old mid new : Option (List ℕ)) (piece bytes rest : List ℕ) (count : ℕ) → piece ≡ bytes ++ rest
    → Appends old mid bytes → Appends mid new (take count rest)
    → (done : List ℕ) × (piece ≡ done ++ take (length rest - count) (drop count rest)) × Appends old new done
Appends-more old mid new piece bytes rest count is before after = (
  bytes ++ take count rest,
  is ∙ ap (λ l. bytes ++ l) (sym (take-append-drop count rest))
      ∙ sym (append_assoc bytes (take count rest) (drop count rest))
      ∙ ap (λ l. (bytes ++ take count rest) ++ l)
      (sym (take_all (length rest - count) (drop count rest) (omega (arith, length-drop count rest)))),
  Appends-trans old mid new bytes (take count rest) before after,
)

-- of a piece nothing more was written, and some of it is left
pub AppendsPart-stopped : (old mid new : Option (List ℕ)) (piece bytes rest : List ℕ) → piece ≡ bytes ++ rest
    → 0 < length rest → Appends old mid bytes → Keeps mid new → AppendsPart old new piece
AppendsPart-stopped old mid new piece bytes rest is some before kept = (
  length bytes,
  omega (arith, some, ap (λ (xs : List ℕ). length xs) is, length-append bytes rest),
  subst (Appends old new) (sym (ap (take (length bytes)) is ∙ take-append_seam bytes rest))
      (Appends-kept old mid new bytes before kept),
)
