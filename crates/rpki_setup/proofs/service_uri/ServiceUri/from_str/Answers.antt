use Rattle.std.proofs.Common.{List, ℕ, Some, sym, ap, ◌∙◌}
use Rattle.rpki_setup.specs.declared.service_uri.ServiceUri.TheVariants.{Https, Http}
use Rattle.rpki_setup.proofs.Services.{kept, lawful}
use Rattle.rpki_setup.proofs.service_uri.ServiceUri.from_str.Goals as goal

pub returns-then-is_http-clause-value : goal.returns-then-is_http-clause-value
returns-then-is_http-clause-value c = kept c.args.text.now (sym c.is_http.ensures ∙ c.if-is_http.true) ∙ ap (λ (l : List ℕ). Some (Http l)) (sym c.in_ok-from_str.ensures)

pub returns-clause-value : goal.returns-clause-value
returns-clause-value c =
    lawful c.args.text.now (sym c.is_http.ensures ∙ c.if-is_http.false) c.in_ok-from_str-2.ensures.accepted ∙ ap (λ (l : List ℕ). Some (Https l)) (sym c.in_ok-from_str-2.ensures.text)
