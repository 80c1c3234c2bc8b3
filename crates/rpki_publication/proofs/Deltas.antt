-- The text of a query of small changes.
use Rattle.std.proofs.Common.{ℕ, ◌+◌, ◌*◌, ◌≤◌, List, [], ◌∷◌, length, Some, None, ap, arith, length-append}
use Rattle.std.specs.Prelude.{codes}
use Rattle.std.specs.List.{AllByRecursion}
use Rattle.std.proofs.lemmas.List.{append-nil}
use Rattle.hex.specs.Hex.{encode_lower}
use Rattle.rpki_xmltext.specs.Parts.{attribute}
use Rattle.rpki_xmltext.proofs.Bounds.{leaf_size}
use Rattle.rpki_xmltext.proofs.Elements.{whole_text}
use Rattle.rpki_xml.specs.Element.{Element, Elements, elements_of, first}
use Rattle.rpki_xml.specs.Spelling.{spelled, spelled_all}
use Rattle.rpki_publication.specs.declared.message.Message.TheVariants as message
use Rattle.rpki_publication.specs.declared.publish_delta_element.PublishDeltaElement.{PublishDeltaElement}
use Rattle.rpki_publication.specs.declared.publish_delta_element.PublishDeltaElement.TheVariants as change
use Rattle.rpki_publication.specs.declared.query.Query.TheVariants as query
use Rattle.rpki_publication.specs.Change.{change_element, IsSmallChange}
use Rattle.rpki_publication.specs.Message.{element_of, text_of}
use Rattle.rpki_publication.specs.Publish.{tag_text}
use Rattle.rpki_publication.proofs.Bounds.{tag_size, three_attributes, published_size, root_size, query_start}

small_change : (c : PublishDeltaElement) → IsSmallChange c → length (spelled (change_element c)) ≤ 1300
unfolding change_element
small_change (change.Publish p) h =
    let k = published_size p.tag p.uri p.content None 64 64 h.0 h.1.0 tt h.1.1 in
    omega (arith, k)
small_change (change.Update u) h =
    let k = published_size u.tag u.uri u.content (Some u.hash) 64 64 h.1.0 h.1.1.0 h.0 h.1.1.1 in
    omega (arith, k)
small_change (change.Withdraw w) h =
    let k = leaf_size (codes "withdraw") (attribute (codes "tag") (tag_text w.tag) ∷ attribute (codes "uri") w.uri ∷ attribute (codes "hash") (encode_lower w.hash) ∷ []) [] in
    let b = three_attributes (tag_text w.tag) w.uri w.hash 64 (tag_size 64 w.tag h.1.0) h.1.1 h.0 in
    omega (arith, k, b)

joined : (x : Element) (xs : Elements) (a b c : ℕ) → length (spelled x) ≤ a → length (spelled_all xs) ≤ b → a + b ≤ c → length (spelled_all (first x.head x.children xs)) ≤ c
joined x xs a b c h k le =
    let alone' = ap (λ (l : List ℕ). length l) (append-nil (whole_text x)) in
    let e = length-append (whole_text x) (spelled_all xs) in
    omega (arith, h, k, le, alone', e)

small_changes : (cs : List PublishDeltaElement) → AllByRecursion IsSmallChange cs → length (spelled_all (elements_of change_element cs)) ≤ 1300 * length cs
small_changes [] h = omega arith
small_changes (c ∷ cs) h = joined (change_element c) (elements_of change_element cs) 1300 (1300 * length cs) (1300 * length (c ∷ cs)) (small_change c h.0) (small_changes cs h.1) (omega arith)

-- the text of a query of them has at most 1300 octets for each, and 200 more
pub small_delta : (cs : List PublishDeltaElement) → AllByRecursion IsSmallChange cs → length (text_of (message.Query (query.Delta cs))) ≤ 200 + 1300 * length cs
unfolding text_of element_of
small_delta cs h =
    let r = root_size (codes "query") (elements_of change_element cs) query_start in
    let k = small_changes cs h in
    omega (arith, r, k)
