use Rattle.std.proofs.Common.{sym, ◌∙◌}
use Rattle.rpki_xml.proofs.Plains.{plain_ends, plain_all}
use Rattle.rpki_xml.proofs.lexing.split_plain.Goals as goal

pub returns-in-Some-clause-front : goal.returns-in-Some-clause-front
returns-in-Some-clause-front c = c.split_at.ensures.front ∙ sym (plain_ends c.args.stop c.args.b.now c.in-Some.end c.in-Some.ensures).0

pub returns-in-Some-clause-back : goal.returns-in-Some-clause-back
returns-in-Some-clause-back c = c.split_at.ensures.back ∙ sym (plain_ends c.args.stop c.args.b.now c.in-Some.end c.in-Some.ensures).1

pub returns-in-None-clause-front : goal.returns-in-None-clause-front
returns-in-None-clause-front c = sym (plain_all c.args.stop c.args.b.now c.in-None.ensures).0

pub returns-in-None-clause-back : goal.returns-in-None-clause-back
returns-in-None-clause-back c = sym (plain_all c.args.stop c.args.b.now c.in-None.ensures).1
