-- The values of a part. Each gives what it stands for, its default where it is absent, or its fault.
use Rattle.std.specs.Prelude.{ℕ, ◌&&◌, List, Bool, nat_le, Option, Some, None, Result, Ok, Err, codes, if◌then◌else◌}
use Rattle.std.specs.Prelude.{is_some, ⊤}
use Rattle.std.specs.Str.{bytes_eq}
use Rattle.serde_json.specs.Data.{Data}
use Rattle.serde_json.specs.Find.{as_str, as_bool, as_object}
use Rattle.json_tree.specs.Fields.{has_only_keys, whole_number}
use Rattle.json_tree.specs.Choice.{◌>>=◌}
use Rattle.game_rules.specs.declared.Redeals.{Redeals}
use Rattle.game_rules.specs.declared.Redeals.TheVariants.{Times, Unlimited}
use Rattle.rules_json.specs.declared.fault.RulePart.{RulePart}
use Rattle.rules_json.specs.declared.fault.RulePart.TheVariants as part
use Rattle.rules_json.specs.declared.fault.RulesFault.{RulesFault}
use Rattle.rules_json.specs.declared.fault.RulesFault.TheVariants.{UnknownKey, WrongType, BadValue}

-- what has another type than it should have
abbrev pub or_wrong_type : {A : Type 0} → RulePart → Option A → Result A RulesFault
or_wrong_type part None = Err (WrongType part)
or_wrong_type part (Some x) = Ok x

-- what is not listed
abbrev pub or_bad_value : {A : Type 0} → RulePart → Option A → Result A RulesFault
or_bad_value part None = Err (BadValue part)
or_bad_value part (Some x) = Ok x

-- an object with these keys alone, or nothing
abbrev pub part_with : RulePart → List (List ℕ) → Option Data → Result ⊤ RulesFault
part_with part keys None = Ok tt
part_with part keys (Some d) =
    if is_some (as_object d) then (if has_only_keys keys d then Ok tt else Err (UnknownKey part))
    else Err (WrongType part)

-- a number from low to high
abbrev pub number_within : RulePart → ℕ → ℕ → ℕ → Result ℕ RulesFault
number_within part low high n = if nat_le low n && nat_le n high then Ok n else Err (BadValue part)

-- a whole number from low to high
abbrev pub number : RulePart → ℕ → ℕ → ℕ → Option Data → Result ℕ RulesFault
number part low high default None = Ok default
number part low high default (Some d) = or_wrong_type part (whole_number d) >>= number_within part low high

-- a truth value
abbrev pub truth : RulePart → Bool → Option Data → Result Bool RulesFault
truth part default None = Ok default
truth part default (Some d) = or_wrong_type part (as_bool d)

-- a string that names a value
abbrev pub word : {A : Type 0} → RulePart → (List ℕ → Option A) → A → Option Data → Result A RulesFault
word part names default None = Ok default
word part names default (Some d) = or_wrong_type part (as_str d) >>= λ text. or_bad_value part (names text)

-- the word for no end of redeals
abbrev pub redeals_named : List ℕ → Option Redeals
redeals_named text = if bytes_eq text (codes "unlimited") then Some Unlimited else None

-- a whole number of redeals, at most 99, or a word
abbrev pub redeals_of : Data → Option ℕ → Result Redeals RulesFault
redeals_of d None = word part.Stock redeals_named (Times 0) (Some d)
redeals_of d (Some n) = number_within part.Stock 0 99 n >>= λ times. Ok (Times times)

-- as many redeals as are given, or none
abbrev pub redeals : Option Data → Result Redeals RulesFault
redeals None = Ok (Times 0)
redeals (Some d) = redeals_of d (whole_number d)
