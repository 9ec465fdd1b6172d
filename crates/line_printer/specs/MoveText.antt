-- The texts of moves, written and read.
use Rattle.std.specs.Prelude.{ℕ, Bool, true, false, not, ◌==◌, ◌&&◌, ◌||◌, nat_lt, List, [], ◌∷◌, ◌++◌, Option}
use Rattle.std.specs.Prelude.{Some, None, codes, decimal, if◌then◌else◌}
use Rattle.std.specs.List.{slice_split}
use Rattle.std.specs.Str.{bytes_eq}
use Rattle.std.specs.Str.Parse.{digits_value}
use Rattle.game_rules.specs.Play.{is_empty}
use Rattle.game_rules.specs.declared.Move.{Move}
use Rattle.game_rules.specs.declared.Move.TheVariants.{Carry, Deal, Redeal}
use Rattle.game_rules.specs.declared.Place.{Place}
use Rattle.game_rules.specs.declared.Place.TheVariants.{Tableau, Cell, Reserve, Waste, Foundation, Hole, Slot}

-- the text of a place: its letter, and its number among the places of its kind
abbrev pub place_text : Place → List ℕ
place_text (Tableau i) = codes "t" ++ decimal i
place_text (Cell i) = codes "c" ++ decimal i
place_text (Reserve i) = codes "r" ++ decimal i
place_text Waste = codes "w"
place_text (Foundation i) = codes "f" ++ decimal i
place_text Hole = codes "h"
place_text (Slot i) = codes "s" ++ decimal i

-- whether a place is a pile of the tableau
abbrev pub is_pile : Place → Bool
is_pile (Tableau i) = true
is_pile place = false

-- whether the text of a carry gives its count: between two piles always, elsewhere where it is not 1
abbrev pub shows_count : Place → Place → ℕ → Bool
shows_count from to count = (is_pile from && is_pile to) || not (count == 1)

-- the text of a move
abbrev pub move_text : Move → List ℕ
move_text (Carry from to count) =
    place_text from ++ codes " " ++ place_text to
    ++ (if shows_count from to count then codes " " ++ decimal count else [])
move_text Deal = codes "deal"
move_text Redeal = codes "redeal"

-- the number from 0 to 255 whose decimal text this is
unfoldable pub number_of : List ℕ → Option ℕ
number_of text =
    if nat_lt (digits_value 10 text) 256 && bytes_eq (decimal (digits_value 10 text)) text
    then Some (digits_value 10 text) else None

-- the place of a kind that has a number
abbrev pub numbered : (ℕ → Place) → Option ℕ → Option Place
numbered kind (Some i) = Some (kind i)
numbered kind None = None

-- the place whose text this is; the letters are `t` 116, `c` 99, `r` 114, `f` 102, `s` 115, `w` 119 and `h` 104
abbrev pub place_of_text : List ℕ → Option Place
place_of_text [] = None
place_of_text (letter ∷ digits) =
    if letter == 116 then numbered Tableau (number_of digits) else
    if letter == 99 then numbered Cell (number_of digits) else
    if letter == 114 then numbered Reserve (number_of digits) else
    if letter == 102 then numbered Foundation (number_of digits) else
    if letter == 115 then numbered Slot (number_of digits) else
    if (letter == 119) && is_empty digits then Some Waste else
    if (letter == 104) && is_empty digits then Some Hole else None

-- the carry of one card whose text gives no count
abbrev pub short_carry : Option Place → Option Place → Option Move
short_carry (Some from) (Some to) = if shows_count from to 1 then None else Some (Carry from to 1)
short_carry (Some from) None = None
short_carry None to = None

-- the carry whose text gives its count
abbrev pub long_carry : Option Place → Option Place → Option ℕ → Option Move
long_carry (Some from) (Some to) (Some count) = if shows_count from to count then Some (Carry from to count) else None
long_carry (Some from) (Some to) None = None
long_carry (Some from) None count = None
long_carry None to count = None

-- the move that the words of a text name
abbrev pub move_of_words : List (List ℕ) → Option Move
move_of_words [] = None
move_of_words (word ∷ []) =
    if bytes_eq word (codes "deal") then Some Deal else
    if bytes_eq word (codes "redeal") then Some Redeal else None
move_of_words (from ∷ to ∷ []) = short_carry (place_of_text from) (place_of_text to)
move_of_words (from ∷ to ∷ count ∷ []) = long_carry (place_of_text from) (place_of_text to) (number_of count)
move_of_words (from ∷ to ∷ count ∷ more ∷ words) = None

-- the move whose text this is
unfoldable pub move_of_text : List ℕ → Option Move
move_of_text text = move_of_words (slice_split (λ b. b == 32) text)
