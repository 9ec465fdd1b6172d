use Rattle.std.proofs.lemmas.Result.{IfOk-weaker, IfErr-weaker}
use Rattle.solver_words.specs.Texts.{texts}
use Rattle.patience.proofs.Fetched.{read_as, has_deal, deal-stopped}
use Rattle.patience.proofs.files.fetch_deal.Goals as goal

pub returns-clause-accepted : goal.returns-clause-accepted
returns-clause-accepted g c =
    let files = g.S.Shelf.files c.args.shelf.now in
    let fetched = read_as files c.word_at-name.result.now c.deref.result.now c.in_ok-bytes.bytes.items 65536
    c.deref.ensures.value c.in_ok-bytes.ensures.fetched in
    IfOk-weaker c.board_of_bytes.result _ _
    (λ board accepted. has_deal files (texts c.args.words.now) c.args.job c.word_at-name.result.now c.deref.result.now
    c.args.rules.now board
    c.word_at-name.ensures c.requires.has_rules c.requires.takes fetched accepted)
    c.board_of_bytes.ensures.accepted

pub returns-clause-stopped : goal.returns-clause-stopped
returns-clause-stopped g c =
    let files = g.S.Shelf.files c.args.shelf.now in
    let fetched = read_as files c.word_at-name.result.now c.deref.result.now c.in_ok-bytes.bytes.items 65536
    c.deref.ensures.value c.in_ok-bytes.ensures.fetched in
    IfErr-weaker c.board_of_bytes.result _ _
    (λ stop stopped. deal-stopped
    (record {
      files = files;
      before = g.S.Shelf.faults c.args.shelf.now;
      after = g.S.Shelf.faults c.fetch_file.new.shelf;
    })
    (texts c.args.words.now) c.args.job c.word_at-name.result.now c.deref.result.now c.args.rules.now stop
    c.word_at-name.ensures c.requires.has_rules c.requires.takes fetched stopped)
    c.board_of_bytes.ensures.refused
