use Rattle.std.proofs.Common.{◌+◌, ◌∙◌, ◌++◌, [], ◌∷◌, ap, length-append}
use Rattle.deal_survey.proofs.Allowed.{AreAllowed-append_one, grew_by_one}
use Rattle.deal_survey.proofs.seeds.judge_each.Goals as goal

pub loop-place-preserved : goal.loop-place-preserved
loop-place-preserved g c =
    let so_far = c.loop-place.invariant in
    let judged = c.in_ok-judged.judged in
    let same = c.in_ok-judged.ensures.same in
    let next = (so_far.same (c.args.from + c.loop-place.place) judged).0 c.in_ok-judged.ensures.allowed in
    record {
      answers = so_far.answers ++ judged ∷ [];
      grew = grew_by_one c.args.out.now.items c.loop-place.out.items c.push.new.self.items so_far.answers judged
          so_far.grew c.in_ok-push.ensures.items;
      one_each = length-append so_far.answers (judged ∷ []) ∙ ap (λ n. n + 1) so_far.one_each;
      allowed = AreAllowed-append_one (g.J.Judge.allows c.args.judge.now) c.args.from so_far.answers judged
          so_far.allowed (rw so_far.one_each next);
      same = λ seed other. (
        λ h. (so_far.same seed other).0 ((same seed other).0 h),
        λ h. (same seed other).1 ((so_far.same seed other).1 h),
      );
    }
