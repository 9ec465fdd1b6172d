use Rattle.std.proofs.Common.{◌∙◌, ◌==◌, ap, List, find, option_map}
use Rattle.outside_io.specs.declared.memory_sink.Failure.{Failure}
use Rattle.outside_io.proofs.Listing.{kept-append}
use Rattle.outside_io.proofs.memory_sink.MemorySink.fail_at.Goals as goal

pub returns-clause-listed : goal.returns-clause-listed
returns-clause-listed c other =
    ap (λ (failing : List Failure). option_map (λ (f : Failure). f.kept)
    (find (λ (f : Failure). f.call == other) failing)) c.in_ok-push.ensures.items
    ∙ kept-append c.args.self.now.failing.items _ other
