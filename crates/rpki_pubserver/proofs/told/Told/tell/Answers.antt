use Rattle.std.proofs.Common.{◌≡◌, ◌∙◌, ap, is_some, List, ℕ}
use Rattle.std.specs.BTreeMap.{insert_entry}
use Rattle.std.specs.Cmp.Lexicographic.{slice_cmp}
use Rattle.std.specs.Map.{lookup}
use Rattle.std.specs.Ordering.{nat_cmp}
use Rattle.std.specs.Str.{bytes_eq}
use Rattle.rpki_pubserver.specs.Places.{Places, placed}
use Rattle.rpki_pubserver.proofs.Entries.{put_elsewhere, put_here}
use Rattle.rpki_pubserver.proofs.Placing.{inserted_placed, lookup_placed}
use Rattle.rpki_pubserver.proofs.Telling.{not_none, not_some}
use Rattle.rpki_pubserver.proofs.told.Told.tell.Goals as goal

-- the entries by their texts
looked : (uri : List ℕ) (c : goal.In_ok-insert) → lookup (bytes_eq uri) (placed c.self.inside.places.entries) ≡ lookup (bytes_eq uri) c.args.self.now
looked uri c = ap (λ (p : Places). lookup (bytes_eq uri) p) c.self.view_is

put : (c : goal.In_ok-insert) → placed c.insert.new.self.entries ≡ insert_entry (slice_cmp nat_cmp) (placed c.self.inside.places.entries) c.args.uri.now c.args.hash
put c =
    let es = c.self.inside.places.entries in
    ap placed c.in_ok-insert.ensures.entries ∙ inserted_placed es c.in_ok-text.text c.args.hash ∙ ap (λ (k : List ℕ). insert_entry (slice_cmp nat_cmp) (placed es) k c.args.hash) c.in_ok-text.ensures.ok

pub returns-then-contains_key-clause-here : goal.returns-then-contains_key-clause-here
returns-then-contains_key-clause-here c =
    let uri = c.args.uri.now in
    λ none. absurd (not_none (lookup (bytes_eq uri) c.args.self.now)
    (c.if-contains_key.ensures ∙ ap is_some (lookup_placed uri c.self.inside.places.entries ∙ ap (λ (p : Places). lookup (bytes_eq uri) p) c.self.view_is)) none)

pub returns-clause-here : goal.returns-clause-here
returns-clause-here c =
    let uri = c.args.uri.now in
    λ none. ap (λ (p : Places). lookup (bytes_eq uri) p) (put c) ∙ put_here uri (placed c.self.inside.places.entries) c.args.hash

pub returns-clause-first : goal.returns-clause-first
returns-clause-first c =
    let uri = c.args.uri.now in
    λ there some. absurd (not_some (lookup (bytes_eq uri) c.args.self.now) there
    (c.if-contains_key.ensures ∙ ap is_some (lookup_placed uri c.self.inside.places.entries ∙ looked uri c)) some)

pub returns-clause-elsewhere : goal.returns-clause-elsewhere
returns-clause-elsewhere c =
    let uri = c.args.uri.now in
    λ other apart.
    ap (λ (p : Places). lookup (bytes_eq other) p) (put c)
    ∙ put_elsewhere other uri apart (placed c.self.inside.places.entries) c.args.hash
    ∙ looked other c
