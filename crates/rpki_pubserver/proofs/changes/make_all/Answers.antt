use Rattle.std.proofs.Common.{◌≡◌, ◌∙◌, None, Option, ap, arith, get_or, refl, sym, ℕ, List}
use Rattle.std.specs.Map.{keys_of, lookup}
use Rattle.std.specs.Str.{bytes_eq}
use Rattle.std.proofs.lemmas.List.{get_or-map, length-set}
use Rattle.rpki_pubserver.specs.Changes.{changed, uri_of}
use Rattle.rpki_pubserver.specs.Places.{Places, live, object_of, with_object, with_octets}
use Rattle.rpki_pubserver.proofs.Emptying.{same_still}
use Rattle.rpki_pubserver.proofs.Entries.{set_elsewhere}
use Rattle.rpki_pubserver.proofs.Keeping.{get_any, get_behind, same_keys}
use Rattle.rpki_pubserver.proofs.Live.{octets_changed}
use Rattle.rpki_pubserver.proofs.Making.{one_more_made}
use Rattle.rpki_pubserver.proofs.changes.make_all.Goals as goal

pub making-preserved : goal.making-preserved
making-preserved c =
    let i : ℕ = c.making.place in
    let so_far = c.making.invariant in
    let size = so_far.size in
    let lt = c.making-test.true in
    let e = c.index-changes-place.result in
    let uri : c.as_str.result.now ≡ uri_of e = c.as_str.ensures.text ∙ c.uri_of.ensures in
    let object : get_or c.making.next i c.index-next-place.result ≡ object_of e =
    get_any c.making.next i c.index-next-place.result None (omega (arith, lt, size)) ∙ so_far.rest i (omega arith) ∙ get_or-map object_of c.args.changes.now i e None lt ∙ ap object_of (sym c.index-changes-place.is) in
    let put : c.exchange.new.self ≡ with_object c.making.objects (uri_of e) (object_of e) =
    c.exchange.ensures.put ∙ ap (λ (u : List ℕ). with_object c.making.objects u (get_or c.making.next i c.index-next-place.result)) uri ∙ ap (λ (o : Option (List ℕ)). with_object c.making.objects (uri_of e) o) object in
    let next : live c.exchange.new.self ≡ changed (live c.making.objects) e =
    c.exchange.ensures.live
    ∙ ap (λ (u : List ℕ). with_octets (live c.making.objects) u (get_or c.making.next i c.index-next-place.result)) uri
    ∙ ap (λ (o : Option (List ℕ)). with_octets (live c.making.objects) (uri_of e) o) object
    ∙ octets_changed (live c.making.objects) e in
    record {
      within = omega (arith, lt);
      size = length-set c.making.next i c.exchange.new.object ∙ size;
      rest = λ k le. get_behind c.making.next i k c.exchange.new.object None (omega (arith, le)) ∙ so_far.rest k (omega (arith, le));
      made = next ∙ one_more_made (live c.args.objects.now) c.args.changes.now i e (live c.making.objects) lt c.index-changes-place.is so_far.made;
      elsewhere = same_still c.args.changes.now i e (uri_of e) c.making.objects c.exchange.new.self lt c.index-changes-place.is refl
          (λ other apart. ap (λ (p : Places). lookup (bytes_eq other) p) put ∙ set_elsewhere other (uri_of e) apart c.making.objects (object_of e))
          c.args.objects.now so_far.elsewhere;
      keys = ap (λ (p : Places). keys_of p) put ∙ same_keys (uri_of e) c.making.objects (object_of e) ∙ so_far.keys;
    }
