use Rattle.std.proofs.Common.{Option, List, ℕ, sym, ap, subst, ◌∙◌}
use Rattle.std.specs.Borrow.{Bor}
use Rattle.std.specs.Option.{option_map}
use Rattle.std.specs.Prelude.{IfSome}
use Rattle.rpki_xml.specs.declared.kept.Text.{Text}
use Rattle.rpki_xml.specs.Kept.{kept_text}
use Rattle.rpki_xml.specs.Lettered.{AreOctets}
use Rattle.rpki_xml.proofs.element.ElementRef.namespace.Goals as goal

pub as_text-requires : goal.as_text-requires
as_text-requires c =
    let is = sym (c.namespace.ensures c.self.inside.source.now) ∙ ap (option_map (λ (t : Bor Text). kept_text c.self.inside.source.now t.now)) c.in-Some.is in
    rw c.octets.ensures (subst (λ (o : Option (List ℕ)). IfSome o AreOctets) is c.self.invariant.0.namespace)
