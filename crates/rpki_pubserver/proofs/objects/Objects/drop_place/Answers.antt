use Rattle.std.proofs.Common.{◌≡◌, ◌∙◌, Some, None, ap, sym}
use Rattle.std.specs.Map.{lookup, remove_entry}
use Rattle.std.specs.Str.{bytes_eq}
use Rattle.rpki_pubserver.specs.Places.{Places, live, placed}
use Rattle.rpki_pubserver.proofs.Emptying.{not_empty_none, not_empty_some}
use Rattle.rpki_pubserver.proofs.Entries.{removed_elsewhere, removed_here}
use Rattle.rpki_pubserver.proofs.Live.{live_dropped}
use Rattle.rpki_pubserver.proofs.Placing.{lookup_placed, placed_ordered, removed_placed}
use Rattle.rpki_pubserver.proofs.objects.Objects.drop_place.Goals.{in-Some-remove+in-Some-remove-2, in-Some-remove+in-None-1, in-None-1}
use Rattle.rpki_pubserver.proofs.objects.Objects.drop_place.Goals as goal

-- whatever was in it, the place is taken out
taken_out : (c : goal.Joined-remove) → c.match-remove.self ≡ remove_entry (bytes_eq c.args.uri.now) (placed c.self.inside.places.entries)
taken_out c =
    let is = ap placed c.remove.ensures.entries ∙ removed_placed c.args.uri.now c.self.inside.places.entries in
    elim c.match-remove.branch [
      | in-Some-remove+in-Some-remove-2 w ↦ w.self-is ∙ is
      | in-Some-remove+in-None-1 w ↦ w.self-is ∙ is
      | in-None-1 w ↦ w.self-is ∙ is
    ]

pub returns-in-Some-None-clause-dropped : goal.returns-in-Some-None-clause-dropped
returns-in-Some-None-clause-dropped c =
    let es = c.self.inside.places.entries in
    let uri = c.args.uri.now in
    not_empty_none uri c.match-remove.self (ap (λ (p : Places). lookup (bytes_eq uri) p) (taken_out c) ∙ removed_here uri (placed es) (placed_ordered es c.self.invariant))

pub returns-in-Some-None-clause-elsewhere : goal.returns-in-Some-None-clause-elsewhere
returns-in-Some-None-clause-elsewhere c =
    let uri = c.args.uri.now in
    λ other apart.
    ap (λ (p : Places). lookup (bytes_eq other) p) (taken_out c)
    ∙ removed_elsewhere other uri apart (placed c.self.inside.places.entries)
    ∙ ap (λ (p : Places). lookup (bytes_eq other) p) c.self.view_is

pub returns-in-Some-None-clause-live : goal.returns-in-Some-None-clause-live
returns-in-Some-None-clause-live c =
    let es = c.self.inside.places.entries in
    let uri = c.args.uri.now in
    let found : lookup (bytes_eq uri) (placed es) ≡ Some None = sym (lookup_placed uri es) ∙ sym c.in-Some-None.ensures.value ∙ ap Some c.in-Some-None.field-0-is in
    ap live (taken_out c) ∙ live_dropped uri (placed es) found ∙ ap live c.self.view_is

pub returns-in-Some-Some-clause-dropped : goal.returns-in-Some-Some-clause-dropped
returns-in-Some-Some-clause-dropped c =
    let uri = c.args.uri.now in
    not_empty_some uri c.args.self.now _ (ap (λ (p : Places). lookup (bytes_eq uri) p) (sym c.self.view_is) ∙ sym (lookup_placed uri c.self.inside.places.entries) ∙ sym c.in-Some-Some.ensures.value ∙ ap Some c.in-Some-Some.field-0-is)

pub returns-in-None-clause-dropped : goal.returns-in-None-clause-dropped
returns-in-None-clause-dropped c =
    let uri = c.args.uri.now in
    not_empty_none uri c.args.self.now (ap (λ (p : Places). lookup (bytes_eq uri) p) (sym c.self.view_is) ∙ sym (lookup_placed uri c.self.inside.places.entries) ∙ sym c.in-None.ensures.value)
