-- Numbers in decimal digits, with no sign and no leading zero.
use Rattle.std.specs.Prelude.{ℕ, ◌^◌, ◌&&◌, List, nat_lt, nat_le, Option, Some, None, decimal, if◌then◌else◌}
use Rattle.std.specs.Str.{bytes_eq}
use Rattle.std.specs.Str.Parse.{digits_value}

-- the number below 2 ^ 64 whose decimal text this is
unfoldable pub number_of : List ℕ → Option ℕ
number_of text = if nat_lt (digits_value 10 text) (2 ^ 64) && bytes_eq (decimal (digits_value 10 text)) text
    then Some (digits_value 10 text) else None

-- the number, where it is within the limits
abbrev pub within : ℕ → ℕ → Option ℕ → Option ℕ
within low high None = None
within low high (Some n) = if nat_le low n && nat_le n high then Some n else None

-- the number within the limits whose decimal text this is
abbrev pub number_within : ℕ → ℕ → List ℕ → Option ℕ
number_within low high text = within low high (number_of text)
