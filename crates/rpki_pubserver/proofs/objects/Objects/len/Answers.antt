use Rattle.std.proofs.Common.{◌∙◌, length, ap, sym}
use Rattle.std.proofs.lemmas.List.{length-map}
use Rattle.std.specs.Prelude.{string_bytes}
use Rattle.rpki_pubserver.specs.Places.{Places}
use Rattle.rpki_pubserver.proofs.Emptying.{none_empty_count}
use Rattle.rpki_pubserver.proofs.Live.{live_ordered}
use Rattle.rpki_pubserver.proofs.Placing.{placed_sorted}
use Rattle.rpki_pubserver.proofs.objects.Objects.len.Goals as goal

pub returns-clause-number : goal.returns-clause-number
returns-clause-number c =
    let es = c.self.inside.places.entries in
    c.len.ensures.len
    ∙ sym (length-map es (λ e. (string_bytes e.0, e.1)))
    ∙ ap (λ (p : Places). length p) c.self.view_is
    ∙ none_empty_count c.args.self.now (placed_sorted es c.args.self.now c.self.view_is c.self.invariant) c.requires

pub returns-clause-ordered : goal.returns-clause-ordered
returns-clause-ordered c = live_ordered c.args.self.now (placed_sorted c.self.inside.places.entries c.args.self.now c.self.view_is c.self.invariant)
