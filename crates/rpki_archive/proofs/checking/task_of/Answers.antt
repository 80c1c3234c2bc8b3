use Rattle.std.proofs.Common.{◌∙◌, codes, sym}
use Rattle.rpki_ca.proofs.Commands.{only_word}
use Rattle.rpki_archive.proofs.checking.task_of.Goals as goal

pub returns-in-Some-batch-clause-some : goal.returns-in-Some-batch-clause-some
returns-in-Some-batch-clause-some c = only_word c.args.words.now c.in-Some-batch.field-0.now (codes "batch") (sym c.len.ensures ∙ c.if-len-ne1.false) c.in-Some-batch.ensures.value c.in-Some-batch.is-batch

pub returns-in-Some-explain-clause-some : goal.returns-in-Some-explain-clause-some
returns-in-Some-explain-clause-some c = only_word c.args.words.now c.in-Some-explain.field-0.now (codes "explain") (sym c.len.ensures ∙ c.if-len-ne1.false) c.in-Some-explain.ensures.value c.in-Some-explain.is-explain
