use Rattle.std.proofs.Common.{refl, sym, ◌∙◌}
use Rattle.rpki_external.proofs.WordParts.{named_in_vain}
use Rattle.rpki_external.proofs.word_parts.signature_at.Goals as goal

pub returns-in-None-clause-none : goal.returns-in-None-clause-none
returns-in-None-clause-none c = λ _. named_in_vain c.args.words.now c.args.index c.args.name.now c.in-Some.word.now c.in-Some-behind_name.digits.now c.in-Some.ensures.value (sym c.as_bytes.ensures.value ∙ c.in-Some-behind_name.ensures.some) ((rw c.in-None.is at c.in_ok-octets.ensures.none) refl)
