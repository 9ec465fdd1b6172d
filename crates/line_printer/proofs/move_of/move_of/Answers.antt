use Rattle.std.proofs.Common.{◌∙◌, sym}
use Rattle.line_printer.proofs.Words.{one_word, two_words, three_words, more_words}
use Rattle.line_printer.proofs.move_of.move_of.Goals as goal

pub returns-in_default : goal.returns-in_default
returns-in_default c = c.stock_move.ensures ∙ sym (one_word c.args.text.now c.in_default.ensures.parts)

pub returns-in_default-split_once : goal.returns-in_default-split_once
returns-in_default-split_once c =
    c.short_carry.ensures
    ∙ sym (two_words c.args.text.now c.in-Some.from.now c.in-Some.rest.now c.in-Some.ensures.parts
    c.in_default-split_once.ensures.parts)

pub returns-in-None : goal.returns-in-None
returns-in-None c =
    c.long_carry.ensures
    ∙ sym (three_words c.args.text.now c.in-Some.from.now c.in-Some.rest.now c.in-Some-split_once.to.now
    c.in-Some-split_once.count.now
    c.in-Some.ensures.parts c.in-Some-split_once.ensures.parts c.in-None.ensures.parts)

pub returns-in-Some-split_once-2 : goal.returns-in-Some-split_once-2
returns-in-Some-split_once-2 c =
    sym (more_words c.args.text.now c.in-Some.from.now c.in-Some.rest.now c.in-Some-split_once.to.now
    c.in-Some-split_once.count.now
    c.in-Some-split_once-2.field-0.0.now c.in-Some-split_once-2.field-0.1.now
    c.in-Some.ensures.parts c.in-Some-split_once.ensures.parts c.in-Some-split_once-2.ensures.parts)
