use Rattle.std.proofs.Common.{◌∙◌, ap, option_map}
use Rattle.std.specs.Map.{lookup}
use Rattle.std.specs.Str.{bytes_eq}
use Rattle.rpki_pubserver.specs.Places.{Places, flattened}
use Rattle.rpki_pubserver.proofs.Placing.{lookup_placed}
use Rattle.rpki_pubserver.proofs.told.Told.hash_at.Goals as goal

pub returns-in_err-get : goal.returns-in_err-get
returns-in_err-get c =
    let uri = c.args.uri.now in
    ap (λ o. option_map (λ b. b.now) o) c.from_residual.ensures
    ∙ ap flattened (c.in_err-get.ensures.value ∙ lookup_placed uri c.self.inside.places.entries ∙ ap (λ (p : Places). lookup (bytes_eq uri) p) c.self.view_is)

pub returns : goal.returns
returns c =
    let uri = c.args.uri.now in
    c.as_ref.ensures.value
    ∙ ap flattened (c.in_ok-get.ensures.value ∙ lookup_placed uri c.self.inside.places.entries ∙ ap (λ (p : Places). lookup (bytes_eq uri) p) c.self.view_is)
