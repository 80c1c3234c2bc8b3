use Rattle.std.proofs.Common.{List, ℕ, Some, sym, ap, ◌∙◌}
use Rattle.rpki_xmltext.proofs.Uris.{uri_is, uri_fails}
use Rattle.rpki_xmltext.proofs.texts.uri_of.Goals as goal

pub returns-in-Ok : goal.returns-in-Ok
returns-in-Ok g c = uri_is g.K.UriKind.kind c.args.text.now c.in-Ok.ensures.accepted ∙ ap (λ (l : List ℕ). Some l) (sym c.in-Ok.ensures.text)

pub returns-in-Err : goal.returns-in-Err
returns-in-Err g c = rw c.error_of.ensures (uri_fails g.K.UriKind.kind c.args.text.now c.in-Err.error c.in-Err.ensures.fault)
