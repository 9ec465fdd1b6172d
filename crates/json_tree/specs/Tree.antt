-- The tree of a file's bytes.
use Rattle.std.specs.Prelude.{ℕ, List, length, nat_lt, Option, Some, None, Result, Ok, Err, if◌then◌else◌, is_some}
use Rattle.std.specs.Str.{is_utf8}
use Rattle.serde_json.specs.Data.{Data}
use Rattle.serde_json.specs.Read.{read}
use Rattle.serde_json.specs.Find.{as_object}
use Rattle.json_tree.specs.declared.read.FileFault.{FileFault}
use Rattle.json_tree.specs.declared.read.FileFault.TheVariants.{TooLong, NotJson, NotObject}

-- the greatest length of a rules file or a deal file
abbrev pub max_file_length : ℕ
max_file_length = 65536

-- the tree that `serde_json` states for the bytes, which are to be UTF-8
unfoldable pub tree_of : List ℕ → Option Data
tree_of bytes = if is_utf8 bytes then read bytes else None

-- the tree is an object
abbrev pub or_no_object : Option Data → Result Data FileFault
or_no_object None = Err NotJson
or_no_object (Some top) = if is_some (as_object top) then Ok top else Err NotObject

-- the object that a file stands for, or the first reason why there is none
unfoldable pub object_of : List ℕ → Result Data FileFault
object_of bytes = if nat_lt max_file_length (length bytes) then Err TooLong else or_no_object (tree_of bytes)
