use Rattle.std.proofs.Common.{◌≡◌, ◌∙◌, ◌++◌, ◌∷◌, [], None, Some, ap, append-nil, option_map, subst, sym, List, ℕ}
use Rattle.std.specs.List.{AllByRecursion}
use Rattle.rpki_publication.specs.ListElement.{ListElementFields}
use Rattle.rpki_publication.specs.ListReply.{IsWritableListElement}
use Rattle.rpki_pubserver.proofs.Listing.{one_writable_more}
use Rattle.rpki_pubserver.specs.Deciding.{known_objects}
use Rattle.rpki_pubserver.proofs.Telling.{none_known, objects_more, some_known}
use Rattle.rpki_pubserver.proofs.deciding.listed.Goals.{in-Some+in_ok-clone+in_ok-push, in_default}
use Rattle.rpki_pubserver.proofs.deciding.listed.Goals as goal

pub loop-one-preserved : goal.loop-one-preserved
loop-one-preserved c =
    let one = c.one-item.result in
    let so_far = c.loop-one.invariant in
    elim c.match-hash.branch [
      | in-Some+in_ok-clone+in_ok-push w ↦
          let digest : List ℕ = w.in-Some.hash.now in
          let e : ListElementFields = w.new-element.result in
          let here : one.1 ≡ Some digest = sym c.hash.ensures ∙ ap (λ o. option_map (λ h. h.now) o) w.in-Some.is in
          let uri : w.in_ok-clone.field-0 ≡ one.0 = w.in_ok-clone.ensures ∙ w.uri.ensures in
          let is : e ∷ [] ≡ known_objects (one ∷ []) = ap (λ (x : ListElementFields). x ∷ []) w.new-element.ensures ∙ ap (λ (u : List ℕ). record { uri = u; hash = digest } ∷ []) uri ∙ sym (some_known one digest here) in
          let made : c.match-hash.elements.items ≡ c.loop-one.elements.items ++ e ∷ [] = ap (λ v. v.items) w.elements-is ∙ w.in_ok-push.ensures.items in
          record {
            list = made ∙ ap (λ (l : List ListElementFields). c.loop-one.elements.items ++ l) is ∙ objects_more c.args.known.now c.loop-one.one-index one c.loop-one.elements.items c.loop-one-test.true c.one-item.is so_far.list;
            writable = one_writable_more c.loop-one.elements.items c.match-hash.elements.items e so_far.writable w.uri-uri.ensures.writable made;
          }
      | in_default w ↦
          let none : one.1 ≡ None = sym c.hash.ensures ∙ ap (λ o. option_map (λ h. h.now) o) w.in_default.is in
          let kept = ap (λ v. v.items) w.elements-is in
          record {
            list =
                kept
                ∙ sym (append-nil c.loop-one.elements.items)
                ∙ ap (λ (l : List ListElementFields). c.loop-one.elements.items ++ l) (sym (none_known one none))
                ∙ objects_more c.args.known.now c.loop-one.one-index one c.loop-one.elements.items c.loop-one-test.true c.one-item.is so_far.list;
            writable = subst (λ (l : List ListElementFields). AllByRecursion IsWritableListElement l) (sym kept) so_far.writable;
          }
    ]
