use Rattle.std.proofs.Common.{◌≡◌, ◌∙◌, sym, refl, Some, None, true, false}
use Rattle.serde_json.specs.View.{view}
use Rattle.json_tree.proofs.Reading.{tree_of-read, tree_of-refused, object_of-too_long, object_of-tree}
use Rattle.json_tree.proofs.read.read_object.Goals as goal

pub returns-then-bytes-gt-MAX_FILE_LENGTH-clause-fault : goal.returns-then-bytes-gt-MAX_FILE_LENGTH-clause-fault
returns-then-bytes-gt-MAX_FILE_LENGTH-clause-fault c _ = object_of-too_long c.args.bytes.now
    c.if-bytes-gt-MAX_FILE_LENGTH.true

pub returns-then-is_object-clause-object : goal.returns-then-is_object-clause-object
returns-then-is_object-clause-object c =
    let tree = tree_of-read c.args.bytes.now (view c.in-Ok.top) c.in-Ok.ensures.ok.0 c.in-Ok.ensures.ok.1 in
    object_of-tree c.args.bytes.now c.if-bytes-gt-MAX_FILE_LENGTH.false _ tree ∙ rw (sym c.if-is_object.ensures) refl

pub returns-else-is_object-clause-fault : goal.returns-else-is_object-clause-fault
returns-else-is_object-clause-fault c _ =
    let tree = tree_of-read c.args.bytes.now (view c.in-Ok.top) c.in-Ok.ensures.ok.0 c.in-Ok.ensures.ok.1 in
    object_of-tree c.args.bytes.now c.if-bytes-gt-MAX_FILE_LENGTH.false _ tree ∙ rw (sym c.if-is_object.ensures) refl

pub returns-in-Err-2-clause-fault : goal.returns-in-Err-2-clause-fault
returns-in-Err-2-clause-fault c _ =
    object_of-tree c.args.bytes.now c.if-bytes-gt-MAX_FILE_LENGTH.false None
    (tree_of-refused c.args.bytes.now
    (c.in-Err.ensures.err (λ memory. let no : false ≡ true = c.if-is_memory.ensures.1 memory in cc)))
