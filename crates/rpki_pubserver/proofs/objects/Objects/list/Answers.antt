use Rattle.std.proofs.Common.{◌≡◌, ◌∷◌, ◌∙◌, None, Option, ap, subst, sym, List, ℕ}
use Rattle.std.specs.Prelude.{string_bytes}
use Rattle.sha2.specs.Sha256.{sha256}
use Rattle.rpki_text.specs.Uri.{fault_of, rsync}
use Rattle.rpki_publication.specs.ListElement.{ListElementFields}
use Rattle.rpki_publication.specs.ListReply.{IsWritableListElement}
use Rattle.rpki_publication.proofs.Digits.{sha256_digest}
use Rattle.rpki_pubserver.proofs.Listing.{one_more_listed, one_writable_more}
use Rattle.rpki_pubserver.proofs.objects.Objects.list.Goals as goal

pub loop-text-preserved-in-Continue-1 : goal.loop-text-preserved-in-Continue-1
loop-text-preserved-in-Continue-1 c =
    let so_far = c.loop-text.invariant in
    let octets : List ℕ = c.in-Some-place.object in
    let e : ListElementFields = c.new.result in
    let uri : List ℕ = string_bytes c.in-Some.text.now in
    let made : List ℕ → List ℕ → ListElementFields = (λ u h. record { uri = u; hash = h }) in
    let text = c.in-Ok.ensures.text ∙ c.as_str.ensures.value in
    let is : e ≡ record { uri = uri; hash = sha256 octets } = c.new.ensures ∙ ap (λ (u : List ℕ). made u c.hash.result.now) text ∙ ap (λ (h : List ℕ). made uri h) c.hash.ensures in
    let lawful : fault_of rsync uri ≡ None = subst (λ (u : List ℕ). fault_of rsync u ≡ None) c.as_str.ensures.value c.in-Ok.ensures.accepted in
    record {
      all = one_more_listed c.loop-text.elements.items c.push.new.self.items _ c.loop-text.text-iterator c.next.new.self c.in-Some.text.now octets e so_far.all
          (c.in-Some.ensures.steps ∙ ap (λ (o : Option (List ℕ)). (c.in-Some.text.now, o) ∷ c.next.new.self) c.in-Some-place.is) is c.in_ok-push.ensures.items;
      writable = one_writable_more c.loop-text.elements.items c.push.new.self.items e so_far.writable (subst IsWritableListElement (sym is) (record { uri = lawful; hash = sha256_digest octets })) c.in_ok-push.ensures.items;
    }
