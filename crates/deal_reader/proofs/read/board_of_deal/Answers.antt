use Rattle.std.proofs.Common.{◌∙◌, sym, ap, inl, inr, Err}
use Rattle.game_rules.specs.Position.{board_of_parts, fault_of}
use Rattle.deal_reader.specs.Position.{deal_fault}
use Rattle.deal_reader.proofs.Narrowing.{position_of_deal-board, position_of_deal-fault}
use Rattle.deal_reader.proofs.read.board_of_deal.Goals as goal

pub returns-in-Ok-clause-value : goal.returns-in-Ok-clause-value
returns-in-Ok-clause-value c =
    position_of_deal-board c.args.rules.now c.args.deal c.in-Ok.board c.parts.ensures.playable
    (sym c.if-fills_face_down.ensures)
    (c.in-Ok.ensures.board ∙ ap (board_of_parts c.args.rules.now) c.in_ok-parts.ensures)
    (ap (fault_of c.args.rules.now) (sym c.in_ok-parts.ensures) ∙ c.in-Ok.ensures.right)
    c.in-Ok.ensures.belongs

pub returns-in-Err-clause-value : goal.returns-in-Err-clause-value
returns-in-Err-clause-value c =
    elim c.in-Err.ensures.fault [
      | inl memory ↦ inl (c.deal_fault.ensures ∙ ap deal_fault memory)
      | inr is ↦ inr (position_of_deal-fault c.args.rules.now c.args.deal c.in-Err.fault c.parts.ensures.playable
          (sym c.if-fills_face_down.ensures)
          (ap (fault_of c.args.rules.now) (sym c.in_ok-parts.ensures) ∙ is)
          ∙ ap (λ f. Err f) (sym c.deal_fault.ensures))
    ]
