-- The words of a rules file: the value that each names, and the one word of each value.
use Rattle.std.specs.Prelude.{ℕ, List, Option, Some, None, option_map, codes, if◌then◌else◌}
use Rattle.std.specs.Str.{bytes_eq}
use Rattle.card_piles.specs.declared.Build.{Build}
use Rattle.card_piles.specs.declared.Build.TheVariants.{NoBuild, AnySuit, RedBlack, SameSuit}
use Rattle.card_piles.specs.CardText.{card_of_text, text_of_card}
use Rattle.game_rules.specs.declared.Layout.{Layout}
use Rattle.game_rules.specs.declared.Layout.TheVariants.{Even, Triangle}
use Rattle.game_rules.specs.declared.Face.{Face}
use Rattle.game_rules.specs.declared.Face.TheVariants.{AllUp, TopUp}
use Rattle.game_rules.specs.declared.Groups.{Groups}
use Rattle.game_rules.specs.declared.Groups.TheVariants.{One, Run}
use Rattle.game_rules.specs.declared.Spaces.{Spaces}
use Rattle.game_rules.specs.declared.Spaces.TheVariants.{Any, King, NoFill}
use Rattle.game_rules.specs.declared.Target.{Target}
use Rattle.game_rules.specs.declared.Target.TheVariants.{ToWaste, ToTableau, ToHole}
use Rattle.game_rules.specs.declared.HoleStart.{HoleStart}
use Rattle.game_rules.specs.declared.HoleStart.TheVariants.{Dealt, Named}

-- the layout of a word
abbrev pub layout_named : List ℕ → Option Layout
layout_named text =
    if bytes_eq text (codes "even") then Some Even else
    if bytes_eq text (codes "triangle") then Some Triangle else None

-- the word of a layout
abbrev pub layout_word : Layout → List ℕ
layout_word Even = codes "even"
layout_word Triangle = codes "triangle"

-- which cards lie face up, by a word
abbrev pub face_named : List ℕ → Option Face
face_named text =
    if bytes_eq text (codes "all up") then Some AllUp else
    if bytes_eq text (codes "top up") then Some TopUp else None

-- the word for which cards lie face up
abbrev pub face_word : Face → List ℕ
face_word AllUp = codes "all up"
face_word TopUp = codes "top up"

-- the build rule of a word
abbrev pub build_named : List ℕ → Option Build
build_named text =
    if bytes_eq text (codes "none") then Some NoBuild else
    if bytes_eq text (codes "any-suit") then Some AnySuit else
    if bytes_eq text (codes "red-black") then Some RedBlack else
    if bytes_eq text (codes "same-suit") then Some SameSuit else None

-- the word of a build rule
abbrev pub build_word : Build → List ℕ
build_word NoBuild = codes "none"
build_word AnySuit = codes "any-suit"
build_word RedBlack = codes "red-black"
build_word SameSuit = codes "same-suit"

-- how many cards move at once, by a word
abbrev pub groups_named : List ℕ → Option Groups
groups_named text =
    if bytes_eq text (codes "one") then Some One else
    if bytes_eq text (codes "run") then Some Run else None

-- the word for how many cards move at once
abbrev pub groups_word : Groups → List ℕ
groups_word One = codes "one"
groups_word Run = codes "run"

-- what fills a space, by a word
abbrev pub spaces_named : List ℕ → Option Spaces
spaces_named text =
    if bytes_eq text (codes "any") then Some Any else
    if bytes_eq text (codes "king") then Some King else
    if bytes_eq text (codes "none") then Some NoFill else None

-- the word for what fills a space
abbrev pub spaces_word : Spaces → List ℕ
spaces_word Any = codes "any"
spaces_word King = codes "king"
spaces_word NoFill = codes "none"

-- where the stock deals to, by a word
abbrev pub target_named : List ℕ → Option Target
target_named text =
    if bytes_eq text (codes "waste") then Some ToWaste else
    if bytes_eq text (codes "tableau") then Some ToTableau else
    if bytes_eq text (codes "hole") then Some ToHole else None

-- the word for where the stock deals to
abbrev pub target_word : Target → List ℕ
target_word ToWaste = codes "waste"
target_word ToTableau = codes "tableau"
target_word ToHole = codes "hole"

-- how the hole begins: with the next card of the deal, or with the card of a text
abbrev pub start_named : List ℕ → Option HoleStart
start_named text = if bytes_eq text (codes "deal") then Some Dealt else option_map Named (card_of_text text)

-- the word or the card's text for how the hole begins
abbrev pub start_word : HoleStart → List ℕ
start_word Dealt = codes "deal"
start_word (Named card) = text_of_card card
