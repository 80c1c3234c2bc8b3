use Rattle.std.proofs.Common.{◌∙◌, ap, sym}
use Rattle.std.specs.Option.{option_map}
use Rattle.rpki_pubserver.specs.Places.{Places, flattened, live, placed}
use Rattle.rpki_pubserver.specs.Store.{octets_at}
use Rattle.rpki_pubserver.proofs.Live.{octets_live}
use Rattle.rpki_pubserver.proofs.Placing.{lookup_placed, placed_ordered}
use Rattle.rpki_pubserver.proofs.objects.Objects.get.Goals as goal

pub returns-in_err-get : goal.returns-in_err-get
returns-in_err-get c =
    let es = c.self.inside.places.entries in
    let uri = c.args.uri.now in
    ap (λ o. option_map (λ b. b.now) o) c.from_residual.ensures
    ∙ sym (ap (λ (p : Places). octets_at (live p) uri) (sym c.self.view_is) ∙ octets_live uri (placed es) (placed_ordered es c.self.invariant) ∙ ap flattened (sym (lookup_placed uri es) ∙ sym c.in_err-get.ensures.value))

pub returns : goal.returns
returns c =
    let es = c.self.inside.places.entries in
    let uri = c.args.uri.now in
    c.as_ref.ensures.value
    ∙ sym (ap (λ (p : Places). octets_at (live p) uri) (sym c.self.view_is) ∙ octets_live uri (placed es) (placed_ordered es c.self.invariant) ∙ ap flattened (sym (lookup_placed uri es) ∙ sym c.in_ok-get.ensures.value))
