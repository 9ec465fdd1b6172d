-- The numbers of a file as the bytes that a board is made of. The reading of a file does not rest on this page.
use Rattle.std.specs.Prelude.{ℕ, min, map}
use Rattle.game_rules.specs.declared.BoardParts.{BoardParts}

-- a number above 255 as 255
abbrev pub narrow : ℕ → ℕ
narrow number = min number 255

-- the parts with each number above 255 as 255
abbrev pub narrowed : BoardParts → BoardParts
narrowed parts = record parts {
  face_down = map narrow parts.face_down;
  redeals_left = narrow parts.redeals_left;
  foundations = map narrow parts.foundations;
}
