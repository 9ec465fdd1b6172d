use Rattle.std.proofs.Common.{◌∙◌, ap, sym, Err}
use Rattle.win_replay.proofs.Plays.{played_more, stopped_at, played_all, not_true}
use Rattle.win_replay.proofs.replay.Goals as goal

pub returns-in-Err-NotLegal : goal.returns-in-Err-NotLegal
returns-in-Err-NotLegal c = record {
  replayed = stopped_at _ _ _ c.loop-at.at _ _ c.loop-at-test.true c.loop-at.invariant
      (c.play.ensures.not_legal.0 (c.in-Err-NotLegal.is ∙ ap Err c.in-Err-NotLegal.field-0-is));
}

pub loop-at-preserved : goal.loop-at-preserved
loop-at-preserved c =
    played_more _ _ _ c.loop-at.at _ _ _ c.loop-at-test.true c.loop-at.invariant c.in-Ok.ensures.legal
    c.in-Ok.ensures.moved c.play.ensures.belongs

pub returns-then-is_won : goal.returns-then-is_won
returns-then-is_won c = record {
  replayed = (
    c.loop-at.board,
    played_all _ _ _ c.loop-at.at _ c.loop-at-test.false c.loop-at.invariant,
    sym c.is_won.ensures ∙ c.if-is_won.true,
  );
}

pub returns : goal.returns
returns c = record {
  replayed = (
    c.loop-at.board,
    played_all _ _ _ c.loop-at.at _ c.loop-at-test.false c.loop-at.invariant,
    not_true _ (sym c.is_won.ensures ∙ c.if-is_won.false),
  );
}
