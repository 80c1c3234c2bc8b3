use Rattle.std.proofs.Common.{◌≡◌, ◌<◌, Some, length, refl}
use Rattle.std.specs.Prelude.{slice_get}
use Rattle.std.proofs.lemmas.Option.{slice_get_read}
use Rattle.rpki_updown.proofs.resource_class_entitlements.first_with.Goals as goal

pub returns : goal.returns
returns c =
    let within : c.in_ok-place.place < length c.args.certs = rw c.as_slice.ensures at c.in_ok-place.ensures.within in
    let at : slice_get c.args.certs c.in_ok-place.place ≡ Some c.swap_remove.result =
    slice_get_read c.args.certs (length c.args.certs) c.in_ok-place.place c.swap_remove.result refl within (rw c.into_vec-certs.ensures at c.swap_remove.ensures.value) in
    let f = (rw c.as_slice.ensures at c.in_ok-place.ensures.found) c.swap_remove.result at in
    record { place = c.in_ok-place.place; at = at; has = f.0; before = f.1 }
