-- What always holds of a session, kept by each of its calls.
use Rattle.std.proofs.Common.{◌≡◌, ◌++◌, ◌∙◌, ◌+◌, ◌<◌, ◌≤◌, ℕ, List, [], ◌∷◌, reverse, length, Option, Some, None, refl, ap}
use Rattle.std.proofs.Common.{sym, subst, arith, length-append}
use Rattle.std.proofs.lemmas.List.{reverse-append, reverse-reverse}
use Rattle.game_rules.specs.declared.RuleParts.{RuleParts}
use Rattle.game_rules.specs.declared.Move.{Move}
use Rattle.game_rules.specs.Board.{Board}
use Rattle.game_rules.specs.Playable.{IsPlayable}
use Rattle.game_rules.specs.Play.{Legal, after}
use Rattle.game_rules.specs.Belonging.{Belongs}
use Rattle.game_rules.specs.Winning.{Line}
use Rattle.packed_state.specs.declared.Undo.{Undo}
use Rattle.packed_state.specs.Packed.{Linked, board_of}
use Rattle.packed_state.specs.Undoing.{before}
use Rattle.play_session.specs.Held.{Held, board, Stands}
use Rattle.play_session.specs.Kept.{with_earlier, earlier, held, AreLed, HaveRoom, IsHeld}
use Rattle.play_session.proofs.Lines.{Line-append, Line-board, Line-belongs}

-- the moves lead from the start to the packed board
pub AreLed-Line : (rules : RuleParts) (start : Board) (moves : List Move) (l : Linked) (boards : List Linked)
    → AreLed rules start moves l boards → Line rules start (reverse moves) (board_of l)
AreLed-Line rules start [] l [] led = led
AreLed-Line rules start [] l (e ∷ boards) led = absurd led
AreLed-Line rules start (m ∷ moves) l [] led = absurd led
AreLed-Line rules start (m ∷ moves) l (e ∷ boards) led =
    let P : List Move → Type 0 = λ ms. Line rules start ms (board_of l) in
    subst P (sym (reverse-append (m ∷ []) moves))
    (Line-append rules start (reverse moves) (board_of e) m (board_of l)
    (AreLed-Line rules start moves e boards led.2) led.0 led.1)

-- the packed board is the one that the standing moves give
pub stands_here : (s : Held) → Stands s → board_of s.packed ≡ board s
stands_here s stands = Line-board s.rules s.start s.moves.standing (board_of s.packed) stands.line

-- that board belongs to the rules
pub stands_well : (s : Held) → IsPlayable s.rules → Stands s → Belongs s.rules (board s)
stands_well s playable stands =
    subst (λ b. Belongs s.rules b) (stands_here s stands)
    (Line-belongs s.rules s.start s.moves.standing (board_of s.packed) playable stands.belongs stands.line)

-- a session in which no move stands and none is taken back
pub held_start : (rules : RuleParts) (start : Board) (l : Linked) → IsPlayable rules → Belongs rules start
    → board_of l ≡ start → IsHeld (held rules start [] [] l []) 0
held_start rules start l playable belongs is = record {
  playable = playable;
  stands = record { belongs = belongs; line = is; end = board_of l; again = refl };
  led = is;
  noted = refl;
}

-- one more move stands, and what is taken back now is legal in turn from there
pub held_more : (rules : RuleParts) (start : Board) (standing undone : List Move) (l : Linked) (undos : List Undo)
    (m : Move) (undo : Undo) (stood : List Move) (left : List Move) (new : Linked) (noted : List Undo) (end : Board)
    → IsHeld (held rules start standing undone l undos) (length undos) → Legal rules (board_of l) m
    → board_of new ≡ after rules (board_of l) m → before undo new ≡ Some l
    → Line rules (board_of new) (reverse left) end → stood ≡ standing ++ m ∷ [] → noted ≡ undos ++ undo ∷ []
    → IsHeld (held rules start stood left new noted) (length noted)
held_more rules start standing undone l undos m undo stood left new noted end holds legal is back again s n =
    let moves : reverse stood ≡ m ∷ reverse standing = ap reverse s ∙ reverse-append standing (m ∷ []) in
    let boards : earlier (reverse noted) new ≡ l ∷ earlier (reverse undos) l =
    ap (λ us. earlier (reverse us) new) n
    ∙ ap (λ us. earlier us new) (reverse-append undos (undo ∷ []))
    ∙ ap (λ there. with_earlier there (earlier (reverse undos))) back in
    let P : List Move → Type 0 = λ ms. Line rules start ms (board_of new) in
    record {
      playable = holds.playable;
      stands = record {
        belongs = holds.stands.belongs;
        line = subst P (sym s)
            (Line-append rules start standing (board_of l) m (board_of new) holds.stands.line legal is);
        end = end;
        again = again;
      };
      led = rw (moves, boards) (legal, is, holds.led);
      noted = let more = holds.noted in
          rw (s, n) (omega (arith, more, length-append standing (m ∷ []), length-append undos (undo ∷ [])));
    }

-- the last standing move was taken back
pub held_less : (rules : RuleParts) (start : Board) (standing undone : List Move) (l : Linked) (undos : List Undo)
    (m : Move) (undo : Undo) (stood left : List Move) (new : Linked) (noted : List Undo)
    → IsHeld (held rules start standing undone l undos) (length undos) → before undo l ≡ Some new
    → standing ≡ stood ++ m ∷ [] → undos ≡ noted ++ undo ∷ [] → left ≡ undone ++ m ∷ []
    → IsHeld (held rules start stood left new noted) (length noted)
held_less rules start standing undone l undos m undo stood left new noted holds back s n t =
    let moves : reverse standing ≡ m ∷ reverse stood = ap reverse s ∙ reverse-append stood (m ∷ []) in
    let boards : earlier (reverse undos) l ≡ new ∷ earlier (reverse noted) new =
    ap (λ us. earlier (reverse us) l) n
    ∙ ap (λ us. earlier us l) (reverse-append noted (undo ∷ []))
    ∙ ap (λ there. with_earlier there (earlier (reverse noted))) back in
    let P : List Move → Type 0 = λ ms. AreLed rules start ms l (earlier (reverse undos) l) in
    let Q : List Linked → Type 0 = λ es. AreLed rules start (m ∷ reverse stood) l es in
    let led : AreLed rules start (m ∷ reverse stood) l (new ∷ earlier (reverse noted) new) =
    subst Q boards (subst P moves holds.led) in
    let line : Line rules start (reverse (reverse stood)) (board_of new) =
    AreLed-Line rules start (reverse stood) new (earlier (reverse noted) new) led.2 in
    let L : List Move → Type 0 = λ ms. Line rules start ms (board_of new) in
    let A : Board → Type 0 = λ b. Line rules b (reverse undone) holds.stands.end in
    let R : List Move → Type 0 = λ ms. Line rules (board_of new) ms holds.stands.end in
    let last : reverse left ≡ m ∷ reverse undone = ap reverse t ∙ reverse-append undone (m ∷ []) in
    let count : length standing ≡ length stood + 1 = ap length s ∙ length-append stood (m ∷ []) in
    let notes : length undos ≡ length noted + 1 = ap length n ∙ length-append noted (undo ∷ []) in
    record {
      playable = holds.playable;
      stands = record {
        belongs = holds.stands.belongs;
        line = subst L (reverse-reverse stood) line;
        end = holds.stands.end;
        again = subst R (sym last) (led.0, subst A led.1 holds.stands.again);
      };
      led = led.2;
      noted = let more = holds.noted in omega (arith, more, count, notes);
    }

-- the move to make again is legal
pub next_legal : (rules : RuleParts) (board : Board) (undone left : List Move) (m : Move) (end : Board)
    → Line rules board (reverse undone) end → undone ≡ left ++ m ∷ []
    → Line rules board (m ∷ reverse left) end
next_legal rules board undone left m end again t =
    let P : List Move → Type 0 = λ ms. Line rules board ms end in
    subst P (ap reverse t ∙ reverse-append left (m ∷ [])) again

-- each list has room for one more standing move, where none is taken back any more
pub room_made : (standing stood left : List Move) (m : Move) (x y z : ℕ) → stood ≡ standing ++ m ∷ [] → left ≡ []
    → length standing < x → length standing < y → length standing < z
    → HaveRoom (record { standing = stood; undone = left }) x y z
room_made standing stood left m x y z s t p q r =
    let count : length stood ≡ length standing + 1 = ap length s ∙ length-append standing (m ∷ []) in
    let none : length left ≡ 0 = ap length t in
    record {
      standing_room = omega (arith, count, none, p);
      notes_room = omega (arith, count, none, q);
      undone_room = omega (arith, count, none, r);
    }

-- where no move is taken back, none is left to make again
pub none_left : (rules : RuleParts) (board : Board) (left : List Move) → left ≡ []
    → Line rules board (reverse left) board
none_left rules board left t =
    let P : List Move → Type 0 = λ ms. Line rules board ms board in subst P (sym (ap reverse t)) refl

-- the lists keep their room where a move goes from one end to the other
pub room_kept : (standing undone stood left : List Move) (m : Move) (a b c x y z : ℕ)
    → HaveRoom (record { standing = standing; undone = undone }) a b c → standing ≡ stood ++ m ∷ []
    → left ≡ undone ++ m ∷ [] → a ≤ x → b ≤ y → c ≤ z → HaveRoom (record { standing = stood; undone = left }) x y z
room_kept standing undone stood left m a b c x y z room s t p q r =
    let one : length standing ≡ length stood + 1 = ap length s ∙ length-append stood (m ∷ []) in
    let two : length left ≡ length undone + 1 = ap length t ∙ length-append undone (m ∷ []) in
    let f = room.standing_room in
    let g = room.notes_room in
    let h = room.undone_room in
    record {
      standing_room = omega (arith, one, two, f, p);
      notes_room = omega (arith, one, two, g, q);
      undone_room = omega (arith, one, two, h, r);
    }

-- and back
pub room_again : (standing undone stood left : List Move) (m : Move) (a b c x y z : ℕ)
    → HaveRoom (record { standing = standing; undone = undone }) a b c → undone ≡ left ++ m ∷ []
    → stood ≡ standing ++ m ∷ [] → a ≤ x → b ≤ y → c ≤ z → HaveRoom (record { standing = stood; undone = left }) x y z
room_again standing undone stood left m a b c x y z room s t p q r =
    let one : length undone ≡ length left + 1 = ap length s ∙ length-append left (m ∷ []) in
    let two : length stood ≡ length standing + 1 = ap length t ∙ length-append standing (m ∷ []) in
    let f = room.standing_room in
    let g = room.notes_room in
    let h = room.undone_room in
    record {
      standing_room = omega (arith, one, two, f, p);
      notes_room = omega (arith, one, two, g, q);
      undone_room = omega (arith, one, two, h, r);
    }
