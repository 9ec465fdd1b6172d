-- What a session keeps beside what it means: its notes, and room in its lists. Clauses outside this crate cite none of it.
use Rattle.std.specs.Prelude.{◌≡◌, ℕ, ◌+◌, ◌≤◌, List, [], ◌∷◌, reverse, length, Option, Some, None}
use Rattle.game_rules.specs.declared.RuleParts.{RuleParts}
use Rattle.game_rules.specs.declared.Move.{Move}
use Rattle.game_rules.specs.Playable.{IsPlayable}
use Rattle.game_rules.specs.Board.{Board}
use Rattle.game_rules.specs.Play.{Legal, after}
use Rattle.packed_state.specs.declared.Undo.{Undo}
use Rattle.packed_state.specs.Packed.{Linked, board_of}
use Rattle.packed_state.specs.Undoing.{before}
use Rattle.play_session.specs.Moves.{Moves}
use Rattle.play_session.specs.Held.{Held, Stands}

-- a packed board, if there is one, and those that come before it
abbrev pub with_earlier : Option Linked → (Linked → List Linked) → List Linked
with_earlier None rest = []
with_earlier (Some l) rest = l ∷ rest l

-- the packed boards before each move, given what the moves noted, all the latest first
abbrev pub earlier : List Undo → Linked → List Linked
earlier [] l = []
earlier (undo ∷ undos) l = with_earlier (before undo l) (earlier undos)

-- the session with these moves and what the standing ones noted
abbrev pub held : RuleParts → Board → List Move → List Move → Linked → List Undo → Held
held rules start standing undone packed undos = record {
  rules = rules;
  start = start;
  moves = record { standing = standing; undone = undone };
  packed = packed;
  earlier = earlier (reverse undos) packed;
}

-- each packed board is the one before a move, all the latest first, and the first move was made on the start
abbrev pub AreLed : RuleParts → Board → List Move → Linked → List Linked → Type 0
AreLed rules start [] l [] = board_of l ≡ start
AreLed rules start [] l (e ∷ earlier) = ⊥
AreLed rules start (m ∷ moves) l [] = ⊥
AreLed rules start (m ∷ moves) l (e ∷ earlier) =
    Legal rules (board_of e) m × (board_of l ≡ after rules (board_of e) m) × AreLed rules start moves e earlier

-- so many moves in all, for which each list of a session has room: the standing ones, their notes, and those taken back
pub record HaveRoom (moves : Moves) (standing notes undone : ℕ) : Type 0 where
  pub standing_room : length moves.standing + length moves.undone ≤ standing
  pub notes_room : length moves.standing + length moves.undone ≤ notes
  pub undone_room : length moves.standing + length moves.undone ≤ undone

-- what always holds of a session with so many notes
pub record IsHeld (s : Held) (notes : ℕ) : Type 0 where
  pub playable : IsPlayable s.rules
  pub stands : Stands s
  pub led : AreLed s.rules s.start (reverse s.moves.standing) s.packed s.earlier
  pub noted : notes ≡ length s.moves.standing
