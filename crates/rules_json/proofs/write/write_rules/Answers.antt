use Rattle.std.proofs.Common.{◌≡◌, ◌∙◌, ap, Ok}
use Rattle.game_rules.specs.Playable.{IsPlayable}
use Rattle.rules_json.proofs.RoundTrip.{rules_of-written}
use Rattle.rules_json.proofs.write.write_rules.Goals as goal

pub returns-clause-reads_back : goal.returns-clause-reads_back
returns-clause-reads_back c =
    let text = c.in_ok-text.ensures in
    let playable : IsPlayable c.parts-parts.result = rw c.parts-parts.ensures.value c.parts-parts.ensures.playable in
    rules_of-written c.parts-parts.result _ _ playable c.in_ok-tree.ensures.named c.in_ok-tree.ensures.tree text.text
    text.utf8 text.reads_back
    ∙ ap Ok c.parts-parts.ensures.value
