use Rattle.std.proofs.Common.{◌∙◌, ap, is_some}
use Rattle.std.specs.Map.{lookup}
use Rattle.std.specs.Str.{bytes_eq}
use Rattle.rpki_pubserver.specs.Places.{Places}
use Rattle.rpki_pubserver.proofs.Placing.{lookup_placed}
use Rattle.rpki_pubserver.proofs.Telling.{some_iff}
use Rattle.rpki_pubserver.proofs.told.Told.has.Goals as goal

pub returns : goal.returns
returns c =
    let uri = c.args.uri.now in
    some_iff c.contains_key.result (lookup (bytes_eq uri) c.args.self.now)
    (c.contains_key.ensures ∙ ap is_some (lookup_placed uri c.self.inside.places.entries ∙ ap (λ (p : Places). lookup (bytes_eq uri) p) c.self.view_is))
