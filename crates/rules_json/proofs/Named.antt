-- Each word names the value that it was written for.
use Rattle.std.proofs.Common.{◌≡◌, Some, refl}
use Rattle.card_piles.specs.declared.Build.{Build}
use Rattle.card_piles.specs.declared.Build.TheVariants.{NoBuild, AnySuit, RedBlack, SameSuit}
use Rattle.game_rules.specs.declared.Layout.{Layout}
use Rattle.game_rules.specs.declared.Layout.TheVariants.{Even, Triangle}
use Rattle.game_rules.specs.declared.Face.{Face}
use Rattle.game_rules.specs.declared.Face.TheVariants.{AllUp, TopUp}
use Rattle.game_rules.specs.declared.Groups.{Groups}
use Rattle.game_rules.specs.declared.Groups.TheVariants.{One, Run}
use Rattle.game_rules.specs.declared.Spaces.{Spaces}
use Rattle.game_rules.specs.declared.Spaces.TheVariants.{Any, King, NoFill}
use Rattle.game_rules.specs.declared.Target.{Target}
use Rattle.game_rules.specs.declared.Target.TheVariants.{ToWaste, ToTableau, ToHole}
use Rattle.rules_json.specs.Words.{layout_named, layout_word, face_named, face_word, build_named, build_word}
use Rattle.rules_json.specs.Words.{groups_named, groups_word, spaces_named, spaces_word, target_named, target_word}

pub layout_named-word : (layout : Layout) → layout_named (layout_word layout) ≡ Some layout
layout_named-word Even = refl
layout_named-word Triangle = refl

pub face_named-word : (face : Face) → face_named (face_word face) ≡ Some face
face_named-word AllUp = refl
face_named-word TopUp = refl

pub build_named-word : (build : Build) → build_named (build_word build) ≡ Some build
build_named-word NoBuild = refl
build_named-word AnySuit = refl
build_named-word RedBlack = refl
build_named-word SameSuit = refl

pub groups_named-word : (groups : Groups) → groups_named (groups_word groups) ≡ Some groups
groups_named-word One = refl
groups_named-word Run = refl

pub spaces_named-word : (spaces : Spaces) → spaces_named (spaces_word spaces) ≡ Some spaces
spaces_named-word Any = refl
spaces_named-word King = refl
spaces_named-word NoFill = refl

pub target_named-word : (target : Target) → target_named (target_word target) ≡ Some target
target_named-word ToWaste = refl
target_named-word ToTableau = refl
target_named-word ToHole = refl
