use Rattle.std.proofs.Common.{◌≡◌, ◌≢◌, None, [], ap, sym, ◌∙◌}
use Rattle.std.specs.Option.{option_copied}
use Rattle.rpki_der.specs.Flat.{before}
use Rattle.rpki_der.specs.Grammar.{primitive}
use Rattle.rpki_der.proofs.Flats.{nothing_left, something_left, whole_taken, whole_behind, whole_refused}
use Rattle.rpki_der.proofs.flat.take_whole_primitive.Goals as goal

pub returns-in_err-content : goal.returns-in_err-content
returns-in_err-content c =
    let e : c.from_residual.result ≡ None = c.from_residual.ensures in
    ap option_copied e ∙ sym (whole_refused (primitive c.args.tag) (before c.args.mode c.args.octets.now) c.in_err-content.ensures.none)

pub returns-then-is_empty : goal.returns-then-is_empty
returns-then-is_empty c =
    let e : c.in_ok-content.rest.now ≡ [] = nothing_left _ c.if-is_empty.ensures in
    sym (whole_taken (primitive c.args.tag) (before c.args.mode c.args.octets.now) _ _ c.in_ok-content.ensures.found e)

pub returns-else-is_empty : goal.returns-else-is_empty
returns-else-is_empty c =
    let n : c.in_ok-content.rest.now ≢ [] = something_left _ c.if-is_empty.ensures in
    sym (whole_behind (primitive c.args.tag) (before c.args.mode c.args.octets.now) _ _ c.in_ok-content.ensures.found n)
