use Rattle.std.proofs.Common.{◌∙◌, codes, inl, inr, refl, sym}
use Rattle.rpki_ca.proofs.Commands.{only_word}
use Rattle.command_line.proofs.own_text.Goals as goal

pub returns-in-Some-text-clause-some : goal.returns-in-Some-text-clause-some
returns-in-Some-text-clause-some c = inl (only_word c.args.words.now c.in-Some-text.field-0.now (codes "--help") (sym c.len.ensures ∙ c.if-len-ne1.false) c.in-Some-text.ensures.value c.in-Some-text.is-text, refl)

pub returns-in-Some-text-2-clause-some : goal.returns-in-Some-text-2-clause-some
returns-in-Some-text-2-clause-some c = inr (only_word c.args.words.now c.in-Some-text-2.field-0.now (codes "--version") (sym c.len.ensures ∙ c.if-len-ne1.false) c.in-Some-text-2.ensures.value c.in-Some-text-2.is-text-2, refl)
