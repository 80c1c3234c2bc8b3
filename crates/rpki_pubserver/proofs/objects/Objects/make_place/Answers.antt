use Rattle.std.proofs.Common.{◌≡◌, ◌∙◌, None, ap, sym, subst, false, List, ℕ}
use Rattle.std.specs.Option.{is_some}
use Rattle.std.specs.BTreeMap.{insert_entry}
use Rattle.std.specs.Cmp.Lexicographic.{slice_cmp}
use Rattle.std.specs.List.{list_any}
use Rattle.std.specs.Map.{keys_of, lookup}
use Rattle.std.specs.Ordering.{nat_cmp}
use Rattle.std.specs.Str.{bytes_eq}
use Rattle.rpki_pubserver.specs.Places.{HasPlace, Places, live, placed}
use Rattle.rpki_pubserver.proofs.Entries.{put_elsewhere}
use Rattle.rpki_pubserver.proofs.Live.{live_new}
use Rattle.rpki_pubserver.proofs.Placing.{lookup_placed, inserted_placed, some_found, new_place, place_still}
use Rattle.rpki_pubserver.proofs.objects.Objects.make_place.Goals as goal

pub returns-then-contains_key-clause-here : goal.returns-then-contains_key-clause-here
returns-then-contains_key-clause-here c =
    let es = c.self.inside.places.entries in
    let uri = c.args.uri.now in
    subst (λ (p : Places). HasPlace p uri) c.self.view_is (sym (some_found uri (placed es)) ∙ ap is_some (sym (lookup_placed uri es)) ∙ sym c.if-contains_key.ensures)

pub returns-clause-here : goal.returns-clause-here
returns-clause-here c =
    let es = c.self.inside.places.entries in
    let uri = c.args.uri.now in
    let put : placed c.insert.new.self.entries ≡ insert_entry (slice_cmp nat_cmp) (placed es) uri None =
    ap placed c.in_ok-insert.ensures.entries ∙ inserted_placed es c.in_ok-text.text None ∙ ap (λ (k : List ℕ). insert_entry (slice_cmp nat_cmp) (placed es) k None) c.in_ok-text.ensures.ok in
    subst (λ (p : Places). HasPlace p uri) (sym put) (new_place uri (placed es) None)

pub returns-clause-others : goal.returns-clause-others
returns-clause-others c =
    let es = c.self.inside.places.entries in
    let uri = c.args.uri.now in
    let put : placed c.insert.new.self.entries ≡ insert_entry (slice_cmp nat_cmp) (placed es) uri None =
    ap placed c.in_ok-insert.ensures.entries ∙ inserted_placed es c.in_ok-text.text None ∙ ap (λ (k : List ℕ). insert_entry (slice_cmp nat_cmp) (placed es) k None) c.in_ok-text.ensures.ok in
    λ other has. subst (λ (p : Places). HasPlace p other) (sym put) (place_still uri other (placed es) None (subst (λ (p : Places). HasPlace p other) (sym c.self.view_is) has))

pub returns-clause-elsewhere : goal.returns-clause-elsewhere
returns-clause-elsewhere c =
    let es = c.self.inside.places.entries in
    let uri = c.args.uri.now in
    let put : placed c.insert.new.self.entries ≡ insert_entry (slice_cmp nat_cmp) (placed es) uri None =
    ap placed c.in_ok-insert.ensures.entries ∙ inserted_placed es c.in_ok-text.text None ∙ ap (λ (k : List ℕ). insert_entry (slice_cmp nat_cmp) (placed es) k None) c.in_ok-text.ensures.ok in
    λ other apart. ap (λ (p : Places). lookup (bytes_eq other) p) put ∙ put_elsewhere other uri apart (placed es) None ∙ ap (λ (p : Places). lookup (bytes_eq other) p) c.self.view_is

pub returns-clause-live : goal.returns-clause-live
returns-clause-live c =
    let es = c.self.inside.places.entries in
    let uri = c.args.uri.now in
    let none : list_any (bytes_eq uri) (keys_of (placed es)) ≡ false = sym (some_found uri (placed es)) ∙ ap is_some (sym (lookup_placed uri es)) ∙ sym c.if-contains_key.ensures in
    ap (λ l. live (placed l)) c.in_ok-insert.ensures.entries
    ∙ ap live (inserted_placed es c.in_ok-text.text None ∙ ap (λ (k : List ℕ). insert_entry (slice_cmp nat_cmp) (placed es) k None) c.in_ok-text.ensures.ok)
    ∙ live_new uri (placed es) none
    ∙ ap live c.self.view_is
