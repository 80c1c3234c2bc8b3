use Rattle.std.proofs.Common.{◌∙◌, Some, Option, ap, sym, List, ℕ}
use Rattle.std.specs.Str.{bytes_eq}
use Rattle.std.specs.Map.{lookup}
use Rattle.rpki_pubserver.specs.Places.{Places, live, placed, with_object}
use Rattle.rpki_pubserver.proofs.Live.{live_set}
use Rattle.rpki_pubserver.proofs.Placing.{lookup_placed, set_placed, not_nowhere, placed_sorted}
use Rattle.rpki_pubserver.proofs.objects.Objects.exchange.Goals.{in-Some, in_default}
use Rattle.rpki_pubserver.proofs.objects.Objects.exchange.Goals as goal

pub returns-clause-put : goal.returns-clause-put
returns-clause-put c =
    let es = c.self.inside.places.entries in
    let uri = c.args.uri.now in
    elim c.match-get_mut.branch [
      | in-Some w ↦
          ap (λ i. placed i.places.entries) w.self-inside-is
          ∙ ap placed ((c.get_mut.follows.holds w.swap.new.x).0)
          ∙ set_placed uri es w.swap.new.x
          ∙ ap (λ (p : Places). with_object p uri w.swap.new.x) c.self.view_is
          ∙ ap (λ (o : Option (List ℕ)). with_object c.args.self.now uri o) w.swap.ensures.x_after
      | in_default w ↦ absurd (not_nowhere uri c.args.self.now c.requires (ap (λ (p : Places). lookup (bytes_eq uri) p) (sym c.self.view_is) ∙ sym (lookup_placed uri es) ∙ sym w.in_default.ensures.value))
    ]

pub returns-clause-live : goal.returns-clause-live
returns-clause-live c =
    ap live (returns-clause-put c) ∙ live_set c.args.uri.now c.args.self.now c.args.object.now (placed_sorted c.self.inside.places.entries c.args.self.now c.self.view_is c.self.invariant) c.requires

pub returns-clause-taken : goal.returns-clause-taken
returns-clause-taken c =
    let es = c.self.inside.places.entries in
    let uri = c.args.uri.now in
    elim c.match-get_mut.branch [
      | in-Some w ↦ ap Some (w.object-is ∙ w.swap.ensures.y_after) ∙ w.in-Some.ensures.value ∙ lookup_placed uri es ∙ ap (λ (p : Places). lookup (bytes_eq uri) p) c.self.view_is
      | in_default w ↦ absurd (not_nowhere uri c.args.self.now c.requires (ap (λ (p : Places). lookup (bytes_eq uri) p) (sym c.self.view_is) ∙ sym (lookup_placed uri es) ∙ sym w.in_default.ensures.value))
    ]
