use Rattle.std.proofs.Common.{List, ℕ, Some, sym, ap, ◌∙◌}
use Rattle.rpki_text.proofs.HandleLaws.{handle_of_text-some, handle_of_text-none}
use Rattle.rpki_xmltext.proofs.texts.handle_of.Goals as goal

pub returns-in-Ok : goal.returns-in-Ok
returns-in-Ok g c = handle_of_text-some c.args.text.now c.in-Ok.ensures.accepted ∙ ap (λ (l : List ℕ). Some l) (sym c.in-Ok.ensures.name)

pub returns-in-Err-Pattern : goal.returns-in-Err-Pattern
returns-in-Err-Pattern g c = handle_of_text-none c.args.text.now (c.in-Err-Pattern.ensures.pattern (cc c.in-Err-Pattern.field-0-is))
