use Rattle.std.proofs.Common.{◌∙◌, ap, sym}
use Rattle.std.specs.Map.{lookup}
use Rattle.std.specs.Str.{bytes_eq}
use Rattle.rpki_pubserver.specs.Places.{Places, placed, with_object}
use Rattle.rpki_pubserver.proofs.Placing.{lookup_placed, set_placed}
use Rattle.rpki_pubserver.proofs.Telling.{none_set}
use Rattle.rpki_pubserver.proofs.told.Told.set.Goals.{in-Some, in_default}
use Rattle.rpki_pubserver.proofs.told.Told.set.Goals as goal

pub returns : goal.returns
returns c =
    let es = c.self.inside.places.entries in
    let uri = c.args.uri.now in
    elim c.match-get_mut.branch [
      | in-Some w ↦
          ap (λ i. placed i.places.entries) w.self-inside-is
          ∙ ap placed ((c.get_mut.follows.holds c.args.hash).0)
          ∙ set_placed uri es c.args.hash
          ∙ ap (λ (p : Places). with_object p uri c.args.hash) c.self.view_is
      | in_default w ↦
          ap (λ i. placed i.places.entries) w.self-inside-is
          ∙ ap (λ m. placed m.entries) c.get_mut.follows.holds-at-none
          ∙ c.self.view_is
          ∙ sym (none_set uri c.args.self.now c.args.hash (ap (λ (p : Places). lookup (bytes_eq uri) p) (sym c.self.view_is) ∙ sym (lookup_placed uri es) ∙ sym w.in_default.ensures.value))
    ]
