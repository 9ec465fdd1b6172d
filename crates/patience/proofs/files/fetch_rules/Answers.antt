use Rattle.std.proofs.lemmas.Result.{IfOk-weaker, IfErr-weaker}
use Rattle.solver_words.specs.Texts.{texts}
use Rattle.patience.proofs.Fetched.{read_as, has_rules, rules-stopped}
use Rattle.patience.proofs.files.fetch_rules.Goals as goal

pub returns-clause-accepted : goal.returns-clause-accepted
returns-clause-accepted g c =
    let files = g.S.Shelf.files c.args.shelf.now in
    let fetched = read_as files c.word_at-name.result.now c.deref.result.now c.in_ok-bytes.bytes.items 65536
    c.deref.ensures.value c.in_ok-bytes.ensures.fetched in
    IfOk-weaker c.rules_of_bytes.result _ _
    (λ rules accepted.
    has_rules files (texts c.args.words.now) c.args.job c.word_at-name.result.now c.deref.result.now rules
    c.word_at-name.ensures c.requires fetched accepted)
    c.rules_of_bytes.ensures.accepted

pub returns-clause-stopped : goal.returns-clause-stopped
returns-clause-stopped g c =
    let files = g.S.Shelf.files c.args.shelf.now in
    let fetched = read_as files c.word_at-name.result.now c.deref.result.now c.in_ok-bytes.bytes.items 65536
    c.deref.ensures.value c.in_ok-bytes.ensures.fetched in
    IfErr-weaker c.rules_of_bytes.result _ _
    (λ stop stopped. rules-stopped
    (record {
      files = files;
      before = g.S.Shelf.faults c.args.shelf.now;
      after = g.S.Shelf.faults c.fetch_file.new.shelf;
    })
    (texts c.args.words.now) c.args.job c.word_at-name.result.now c.deref.result.now stop
    c.word_at-name.ensures c.requires fetched stopped)
    c.rules_of_bytes.ensures.refused
