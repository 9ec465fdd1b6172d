-- The faults of a rules file: how they are printed, and those that come from the file itself.
use Rattle.std.specs.Prelude.{List, ℕ, ◌++◌, codes, decimal}
use Rattle.json_tree.specs.declared.read.FileFault.{FileFault}
use Rattle.json_tree.specs.declared.read.FileFault.TheVariants as file
use Rattle.rules_json.specs.declared.fault.RulePart.{RulePart}
use Rattle.rules_json.specs.declared.fault.RulePart.TheVariants as part
use Rattle.rules_json.specs.declared.fault.RulesFault.{RulesFault}
use Rattle.rules_json.specs.declared.fault.RulesFault.TheVariants.{TooLong, NotJson, NotObject, UnknownKey, WrongType}
use Rattle.rules_json.specs.declared.fault.RulesFault.TheVariants.{BadValue, Conflict, Memory}

-- how a part is printed
abbrev pub part_text : RulePart → List ℕ
part_text part.Top = codes "top"
part_text part.Tableau = codes "tableau"
part_text part.Foundations = codes "foundations"
part_text part.Hole = codes "hole"
part_text part.Sequences = codes "sequences"
part_text part.Cells = codes "cells"
part_text part.Reserve = codes "reserve"
part_text part.Stock = codes "stock"

-- how a fault is printed
abbrev pub rules_fault_text : RulesFault → List ℕ
rules_fault_text TooLong = codes "too-long"
rules_fault_text NotJson = codes "not-json"
rules_fault_text NotObject = codes "not-object"
rules_fault_text (UnknownKey part) = codes "unknown-key " ++ part_text part
rules_fault_text (WrongType part) = codes "wrong-type " ++ part_text part
rules_fault_text (BadValue part) = codes "bad-value " ++ part_text part
rules_fault_text (Conflict number) = codes "conflict " ++ decimal number
rules_fault_text Memory = codes "memory"

-- a fault of the file itself is a fault of its rules
abbrev pub of_file : FileFault → RulesFault
of_file file.TooLong = TooLong
of_file file.NotJson = NotJson
of_file file.NotObject = NotObject
of_file file.Memory = Memory
