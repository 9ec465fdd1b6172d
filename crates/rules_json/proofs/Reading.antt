-- From the object of a file to its rules.
use Rattle.std.proofs.Common.{◌≡◌, List, ℕ, Ok, Err, refl, ap, take}
use Rattle.serde_json.specs.Data.{Data}
use Rattle.json_tree.specs.declared.read.FileFault.{FileFault}
use Rattle.json_tree.specs.Tree.{object_of}
use Rattle.json_tree.proofs.Reading.{object_of-take}
use Rattle.rules_json.specs.Faults.{of_file}
use Rattle.rules_json.specs.RulesFile.{rules_of, rules_of_tree}

pub rules_of-object : (bytes : List ℕ) (top : Data) → object_of bytes ≡ Ok top → rules_of bytes ≡ rules_of_tree top
unfolding rules_of
rules_of-object bytes top h = rw h refl

pub rules_of-fault : (bytes : List ℕ) (fault : FileFault) → object_of bytes ≡ Err fault
    → rules_of bytes ≡ Err (of_file fault)
unfolding rules_of
rules_of-fault bytes fault h = rw h refl

-- A file that is cut one byte past the limit gives what the whole file gives.
pub rules_of-take : (bytes : List ℕ) → rules_of (take 65537 bytes) ≡ rules_of bytes
unfolding rules_of
rules_of-take bytes = rw (object_of-take bytes) refl
