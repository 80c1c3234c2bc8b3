use Rattle.std.proofs.Common.{◌≡◌, ◌∙◌, Some, Option, ap, arith, sym, List, ℕ}
use Rattle.std.specs.Map.{lookup}
use Rattle.std.specs.Str.{bytes_eq}
use Rattle.std.proofs.lemmas.Option.{slice_get-get_or}
use Rattle.rpki_pubserver.specs.Changes.{code_under, uri_of}
use Rattle.rpki_pubserver.specs.Places.{flattened, with_object}
use Rattle.rpki_pubserver.proofs.Decided.{known_behind, next_refused, one_more_decided}
use Rattle.rpki_pubserver.proofs.deciding.first_refused.Goals as goal

pub returns-in-Some-clause-some : goal.returns-in-Some-clause-some
returns-in-Some-clause-some c =
    let e = c.index-changes-place.result in
    let lt = c.deciding-test.true in
    let at = c.index-changes-place.is in
    let uri : c.as_str-uri.result.now ≡ uri_of e = c.as_str-uri.ensures.text ∙ c.uri_of.ensures in
    let there = c.hash_at.ensures ∙ ap (λ (u : List ℕ). flattened (lookup (bytes_eq u) c.deciding.told)) uri in
    λ store ordered agrees. record {
      element = e;
      stands = slice_get-get_or c.args.changes.now c.deciding.place e lt ∙ ap Some (sym at);
      first = next_refused c.args.base.now store c.args.changes.now c.deciding.place e c.deciding.told lt at (c.deciding.invariant.decided store ordered agrees) c.in-Some.code
          (c.in-Some.ensures ∙ ap (λ (o : Option (List ℕ)). code_under c.args.base.now e o) there);
    }

pub deciding-preserved : goal.deciding-preserved
deciding-preserved c =
    let e = c.index-changes-place.result in
    let lt = c.deciding-test.true in
    let at = c.index-changes-place.is in
    let uri : c.as_str-uri.result.now ≡ uri_of e = c.as_str-uri.ensures.text ∙ c.uri_of.ensures in
    let there = c.hash_at.ensures ∙ ap (λ (u : List ℕ). flattened (lookup (bytes_eq u) c.deciding.told)) uri in
    let set : c.set.new.self ≡ known_behind c.deciding.told e =
    c.set.ensures
    ∙ ap (λ (u : List ℕ). with_object c.deciding.told u c.in_ok-hash_of.field-0) uri
    ∙ ap (λ (o : Option (List ℕ)). with_object c.deciding.told (uri_of e) o) c.in_ok-hash_of.ensures in
    record {
      within = omega (arith, lt);
      decided = λ store ordered agrees. one_more_decided c.args.base.now store c.args.changes.now c.deciding.place e c.deciding.told lt at (c.deciding.invariant.decided store ordered agrees) c.set.new.self
          (sym c.in_default.is ∙ c.code_under.ensures ∙ ap (λ (o : Option (List ℕ)). code_under c.args.base.now e o) there) set;
    }
