use Rattle.serde_json.specs.View.{view}
use Rattle.deal_reader.proofs.RoundTrip.{text-written, position_of-written}
use Rattle.deal_reader.proofs.write.write_position.Goals as goal

pub returns-clause-text : goal.returns-clause-text
returns-clause-text c = text-written c.args.rules.now c.args.board.now
    (view c.in_ok-tree.tree) c.in_ok-text.text.items c.in_ok-tree.ensures c.in_ok-text.ensures.text

pub returns-clause-reads_back : goal.returns-clause-reads_back
returns-clause-reads_back c =
    position_of-written c.args.rules.now c.args.board.now
    (view c.in_ok-tree.tree) c.in_ok-text.text.items c.parts.ensures.playable c.requires c.in_ok-tree.ensures
    c.in_ok-text.ensures.text c.in_ok-text.ensures.utf8 c.in_ok-text.ensures.reads_back
