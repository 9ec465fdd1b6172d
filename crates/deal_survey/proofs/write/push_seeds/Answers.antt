use Rattle.std.proofs.Common.{string_bytes}
use Rattle.deal_survey.proofs.SeedLines.{seed_lines_pushed}
use Rattle.deal_survey.proofs.write.push_seeds.Goals as goal

pub loop-place-preserved : goal.loop-place-preserved
loop-place-preserved c =
    seed_lines_pushed (string_bytes c.args.text.now) (string_bytes c.loop-place.text) _ c.args.from c.args.answers.now
    c.loop-place.place _ c.loop-place-test.true c.loop-place.invariant c.in_ok-write.ensures.bytes
