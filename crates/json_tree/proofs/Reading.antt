-- What `serde_json` read is the tree of the bytes, and one byte more than the limit tells that a file is too long.
use Rattle.std.proofs.Common.{◌≡◌, List, ℕ, Bool, true, false, cond, Some, None, refl, ap, IsUtf8, ◌<◌, ◌≤◌, length}
use Rattle.std.proofs.Common.{Err, lt-ltb, le-ltb, ltb-true, ltb-false, take, nat_lt, sym, ◌∙◌, arith, lit<}
use Rattle.std.proofs.lemmas.List.{take_all, length-take-le}
use Rattle.std.specs.Str.{is_utf8}
use Rattle.std.proofs.lemmas.Str.{IsUtf8-from_is_utf8, is_utf8-from_IsUtf8}
use Rattle.serde_json.specs.Data.{Data}
use Rattle.serde_json.specs.Read.{read}
use Rattle.std.specs.declared.option.Option.{Option}
use Rattle.json_tree.specs.declared.read.FileFault.TheVariants.{TooLong}
use Rattle.json_tree.specs.Tree.{tree_of, object_of, or_no_object, max_file_length}

pub tree_of-read : (bytes : List ℕ) (d : Data) → IsUtf8 bytes → read bytes ≡ Some d → tree_of bytes ≡ Some d
unfolding tree_of
tree_of-read bytes d text h = rw (is_utf8-from_IsUtf8 bytes text) h

pub tree_of-refused : (bytes : List ℕ) → (IsUtf8 bytes → read bytes ≡ None) → tree_of bytes ≡ None
unfolding tree_of
tree_of-refused bytes h =
    let by_test : (b : Bool) → is_utf8 bytes ≡ b → cond b (read bytes) None ≡ None =
    λ b. elim b as (λ b. is_utf8 bytes ≡ b → cond b (read bytes) None ≡ None)
    [ true ↦ λ e. h (IsUtf8-from_is_utf8 bytes e) | false ↦ λ e. refl ] in
    by_test (is_utf8 bytes) refl

pub object_of-too_long : (bytes : List ℕ) → max_file_length < length bytes → object_of bytes ≡ Err TooLong
unfolding object_of
object_of-too_long bytes long = rw (lt-ltb _ _ long) refl

pub object_of-tree : (bytes : List ℕ) → length bytes ≤ max_file_length → (tree : Option Data) → tree_of bytes ≡ tree
    → object_of bytes ≡ or_no_object tree
unfolding object_of
object_of-tree bytes short tree h = rw (le-ltb _ _ short) (ap or_no_object h)

-- A file that is cut one byte past the limit reads as the whole file.
pub object_of-take : (bytes : List ℕ) → object_of (take 65537 bytes) ≡ object_of bytes
object_of-take bytes =
    let by_test : (b : Bool) → nat_lt 65537 (length bytes) ≡ b → object_of (take 65537 bytes) ≡ object_of bytes =
    λ b. elim b as (λ b. nat_lt 65537 (length bytes) ≡ b → object_of (take 65537 bytes) ≡ object_of bytes) [
      | true ↦ λ e. let long = ltb-true _ _ e in
          let front : max_file_length < length (take 65537 bytes) = rw
          (length-take-le 65537 bytes (omega arith)) (lit< tt) in
          object_of-too_long (take 65537 bytes) front ∙ sym (object_of-too_long bytes (omega arith))
      | false ↦ λ e. ap object_of (take_all 65537 bytes (ltb-false _ _ e))
    ] in
    by_test (nat_lt 65537 (length bytes)) refl
