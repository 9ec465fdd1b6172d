use Rattle.deal_reader.proofs.CardNames.{name-is_utf8}
use Rattle.deal_reader.proofs.names.card_name.Goals as goal

pub returns-in-Err : goal.returns-in-Err
returns-in-Err c = absurd
    (c.in-Err.ensures.cases.0 (name-is_utf8 c.args.card c.args.bytes.now c.rank.ensures.in_range c.requires))
