-- The certificates and the request in a document are together no longer than the document.
use Rattle.std.proofs.Common.{◌≡◌, ℕ, ◌+◌, ◌≤◌, Bool, true, false, cond, List, [], ◌∷◌, length, sum_by, Option, Some, filter, refl, ap, subst, arith}
use Rattle.std.specs.Prelude.{codes}
use Rattle.std.proofs.lemmas.List.Sums.{sum_by-cons}
use Rattle.base64.specs.Engines.{standard}
use Rattle.base64.specs.GeneralPurpose.{encode_of}
use Rattle.rpki_common.specs.Chaining.{◌>>=◌}
use Rattle.rpki_common.specs.Items as items
use Rattle.rpki_common.proofs.Truths.{none_some, same_some, same_octets}
use Rattle.rpki_xmltext.proofs.Attributes.{then_some}
use Rattle.rpki_xmltext.proofs.Bounds.{whole, content_size}
use Rattle.rpki_xmltext.proofs.Sizes.{weight, size, document_size}
use Rattle.rpki_sets.specs.Texts.{read_all}
use Rattle.rpki_text.specs.Base64.{base64_content}
use Rattle.rpki_text.proofs.Base64Laws.{length-encode, size_low}
use Rattle.rpki_updown.specs.declared.payload_type.PayloadType.{PayloadType}
use Rattle.rpki_updown.specs.declared.payload_type.PayloadType.TheVariants as kind
use Rattle.rpki_updown.specs.Entitlements.{IssuedOf, ClassOf, IssuanceOf, AskedOf}
use Rattle.rpki_xml.specs.Element.{Element, Elements, none, first, listed}
use Rattle.rpki_xml.specs.Lettered.{AreLettered, IsLetteredHead, AreOctets}
use Rattle.rpki_xml.specs.Lexing.{IsDocument}
use Rattle.rpki_xml.specs.Name.{local_name}
use Rattle.rpki_xml.specs.Tables.{each_of, the_child}
use Rattle.rpki_xml.proofs.Letters.{document_lettered}
use Rattle.rpki_provisioning.specs.declared.shape.PayloadShape.{PayloadShape}
use Rattle.rpki_provisioning.specs.declared.shape.PayloadShape.TheVariants as shape
use Rattle.rpki_provisioning.specs.Class.{certificate_in, issuer_in, is_certificate, is_issuer, certificates_in, Certificates, class_start_in, class_in, issuance_of_class, issuance_in}
use Rattle.rpki_provisioning.specs.Filling.{issued_size, class_size, issuance_size, payload_size}
use Rattle.rpki_provisioning.specs.Message.{payload_in, message_root_in, shape_in}
use Rattle.rpki_provisioning.specs.Request.{request_in}
use Rattle.rpki_provisioning.specs.Shape.{MessageShape}

-- ---- one text

content_length : (text content : List ℕ) → AreOctets text → base64_content text ≡ Some content → length content ≤ length text
content_length text content l e =
    let size = content_size text content l e in
    let low = size_low (length content) (length (encode_of standard content)) (length-encode content) in
    omega (arith, size, low)

text_within : (e : Element) (n : ℕ) → n ≤ length e.head.text → n ≤ whole e
text_within e n h = omega (arith, h)

certificate_tally : (e : Element) (i : IssuedOf (List ℕ)) → IsLetteredHead e.head → certificate_in e ≡ Some i → issued_size i ≤ whole e
unfolding certificate_in
certificate_tally e i l is =
    let a = then_some _ _ i is in
    let b = then_some _ _ i a.2 in
    let c = then_some _ _ i b.2 in
    let u = then_some _ _ i c.2 in
    let q = then_some _ _ i u.2 in
    let o = then_some (base64_content e.head.text) _ i q.2 in
    subst (λ (j : IssuedOf (List ℕ)). issued_size j ≤ whole e) (same_some (record { uri = u.0; req_limit = q.0; cert = o.0 }) i o.2) (text_within e (length o.0) (content_length e.head.text o.0 l.text o.1))

issuer_tally : (e : Element) (octets : List ℕ) → IsLetteredHead e.head → issuer_in e ≡ Some octets → length octets ≤ whole e
unfolding issuer_in
issuer_tally e octets l is =
    let a = then_some _ _ octets is in
    let b = then_some _ _ octets a.2 in
    text_within e (length octets) (content_length e.head.text octets l.text b.2)

request_tally : (e : Element) (r : AskedOf (List ℕ)) → IsLetteredHead e.head → request_in e ≡ Some r → length r.csr ≤ whole e
unfolding request_in
request_tally e r l is =
    let a = then_some _ _ r is in
    let b = then_some _ _ r a.2 in
    let c = then_some _ _ r b.2 in
    let n = then_some _ _ r c.2 in
    let q = then_some _ _ r n.2 in
    let o = then_some (base64_content e.head.text) _ r q.2 in
    subst (λ (j : AskedOf (List ℕ)). length j.csr ≤ whole e) (same_some (record { class_name = n.0; limit = q.0; csr = o.0 }) r o.2) (text_within e (length o.0) (content_length e.head.text o.0 l.text o.1))

-- ---- the certificates of a class

pub not_both : (e : Element) → is_certificate e ≡ true → is_issuer e ≡ true → ⊥
not_both e c i =
    let a = ap (λ (l : List ℕ). length l) (same_octets (local_name e.head.name) (codes "certificate") c) in
    let b = ap (λ (l : List ℕ). length l) (same_octets (local_name e.head.name) (codes "issuer") i) in
    differ (length (local_name e.head.name)) a b
  where
    differ : (n : ℕ) → n ≡ 11 → n ≡ 6 → ⊥
    differ n a b = omega (arith, a, b)

abbrev Tally : ℕ → List Element → List Element → Type 0
Tally n certificates issuers = (xs : List (IssuedOf (List ℕ))) (ys : List (List ℕ)) → read_all certificate_in certificates ≡ Some xs → read_all issuer_in issuers ≡ Some ys
    → sum_by issued_size xs + sum_by (λ (o : List ℕ). length o) ys ≤ n

one_more : (e : Element) (n : ℕ) (certificates issuers : List Element) (b c : Bool) → IsLetteredHead e.head → is_certificate e ≡ b → is_issuer e ≡ c → Tally n certificates issuers
    → Tally (whole e + n) (cond b (e ∷ certificates) certificates) (cond c (e ∷ issuers) issuers)
unfolding read_all
one_more e n certificates issuers true true l is is' more xs ys p q = absurd (not_both e is is')
one_more e n certificates issuers true false l is is' more xs ys p q =
    let a = then_some (certificate_in e) _ xs p in
    let m = then_some (read_all certificate_in certificates) _ xs a.2 in
    let one = certificate_tally e a.0 l a.1 in
    let others = more m.0 ys m.1 q in
    let split = sum_by-cons issued_size a.0 m.0 in
    subst (λ (list : List (IssuedOf (List ℕ))). sum_by issued_size list + sum_by (λ (o : List ℕ). length o) ys ≤ whole e + n) (same_some (a.0 ∷ m.0) xs m.2)
    (within (sum_by issued_size (a.0 ∷ m.0)) (issued_size a.0) (sum_by issued_size m.0) (sum_by (λ (o : List ℕ). length o) ys) (whole e) n split one others)
  where
    within : (s a m o w n : ℕ) → s ≡ a + m → a ≤ w → m + o ≤ n → s + o ≤ w + n
    within s a m o w n x y z = omega (arith, x, y, z)
one_more e n certificates issuers false true l is is' more xs ys p q =
    let a = then_some (issuer_in e) _ ys q in
    let m = then_some (read_all issuer_in issuers) _ ys a.2 in
    let one = issuer_tally e a.0 l a.1 in
    let others = more xs m.0 p m.1 in
    let split = sum_by-cons (λ (o : List ℕ). length o) a.0 m.0 in
    subst (λ (list : List (List ℕ)). sum_by issued_size xs + sum_by (λ (o : List ℕ). length o) list ≤ whole e + n) (same_some (a.0 ∷ m.0) ys m.2)
    (within (sum_by (λ (o : List ℕ). length o) (a.0 ∷ m.0)) (length a.0) (sum_by (λ (o : List ℕ). length o) m.0) (sum_by issued_size xs) (whole e) n split one others)
  where
    within : (s a m o w n : ℕ) → s ≡ a + m → a ≤ w → o + m ≤ n → o + s ≤ w + n
    within s a m o w n x y z = omega (arith, x, y, z)
one_more e n certificates issuers false false l is is' more xs ys p q = let others = more xs ys p q in omega (arith, others)

children_tally : (es : Elements) → AreLettered es → Tally (size es) (filter is_certificate (listed es)) (filter is_issuer (listed es))
unfolding read_all
children_tally none l xs ys p q =
    subst (λ (list : List (IssuedOf (List ℕ))). sum_by issued_size list + sum_by (λ (o : List ℕ). length o) ys ≤ 0) (same_some [] xs p)
    (subst (λ (list : List (List ℕ)). sum_by issued_size [] + sum_by (λ (o : List ℕ). length o) list ≤ 0) (same_some [] ys q) (omega (arith)))
children_tally (first head children rest) l xs ys p q =
    let e : Element = record { head = head; children = children } in
    let more = one_more e (size rest) (filter is_certificate (listed rest)) (filter is_issuer (listed rest)) (is_certificate e) (is_issuer e) l.0 refl refl (children_tally rest l.1.1) xs ys p q in
    omega (arith, more)

pub one_read : {A X : Type 0} (read : A → Option X) (list : List A) (x : X) → items.the_one read list ≡ Some x → read_all read list ≡ Some (x ∷ [])
unfolding items.the_one read_all ◌>>=◌
one_read read [] x e = absurd (none_some x e)
one_read read (a ∷ []) x e = rw e refl
one_read read (a ∷ b ∷ more) x e = absurd (none_some x e)

certificates_tally : (es : Elements) (c : Certificates) → AreLettered es → certificates_in es ≡ Some c → sum_by issued_size c.issued + length c.issuer ≤ size es
unfolding certificates_in
certificates_tally es c l is =
    let a = then_some _ _ c is in
    let i = then_some (read_all certificate_in (filter is_certificate (listed es))) _ c a.2 in
    let o = then_some (items.the_one issuer_in (filter is_issuer (listed es))) _ c i.2 in
    let all = children_tally es l i.0 (o.0 ∷ []) i.1 (one_read issuer_in (filter is_issuer (listed es)) o.0 o.1) in
    let alone' = sum_by-cons (λ (o : List ℕ). length o) o.0 [] in
    subst (λ (d : Certificates). sum_by issued_size d.issued + length d.issuer ≤ size es) (same_some (record { issued = i.0; issuer = o.0 }) c o.2)
    (within (sum_by issued_size i.0) (sum_by (λ (o : List ℕ). length o) (o.0 ∷ [])) (length o.0) (size es) alone' all)
  where
    within : (s t o n : ℕ) → t ≡ o + 0 → s + t ≤ n → s + o ≤ n
    within s t o n e h = omega (arith, e, h)

class_tally : (e : Element) (c : ClassOf (List ℕ)) → AreLettered e.children → class_in e ≡ Some c → class_size c ≤ whole e
unfolding class_in
class_tally e c l is =
    let a = then_some _ _ c is in
    let b = then_some _ _ c a.2 in
    let s = then_some (class_start_in e.head) _ c b.2 in
    let d = then_some (certificates_in e.children) _ c s.2 in
    let within = certificates_tally e.children d.0 l d.1 in
    subst (λ (x : ClassOf (List ℕ)). class_size x ≤ whole e)
    (same_some (record { class_name = s.0.class_name; resource_set = s.0.resource_set; not_after = s.0.not_after; issued_certs = d.0.issued; signing_cert = record { url = s.0.url; cert = d.0.issuer } }) c d.2) (omega (arith, within))

classes_tally : (es : Elements) (list : List (ClassOf (List ℕ))) → AreLettered es → each_of class_in es ≡ Some list → sum_by class_size list ≤ size es
unfolding each_of
classes_tally none list l is = subst (λ (cs : List (ClassOf (List ℕ))). sum_by class_size cs ≤ 0) (same_some [] list is) (omega (arith))
classes_tally (first head children rest) list l is =
    let e : Element = record { head = head; children = children } in
    let c = then_some (class_in e) _ list is in
    let more = then_some (each_of class_in rest) _ list c.2 in
    let one = class_tally e c.0 l.1.0 c.1 in
    let others = classes_tally rest more.0 l.1.1 more.1 in
    let split = sum_by-cons class_size c.0 more.0 in
    subst (λ (cs : List (ClassOf (List ℕ))). sum_by class_size cs ≤ size (first head children rest)) (same_some (c.0 ∷ more.0) list more.2)
    (within (sum_by class_size (c.0 ∷ more.0)) (class_size c.0) (sum_by class_size more.0) (weight head) (size children) (size rest) split one others)
  where
    within : (s c m w k r : ℕ) → s ≡ c + m → c ≤ w + k → m ≤ r → s ≤ w + (k + r)
    within s c m w k r x y z = omega (arith, x, y, z)

-- ---- an answer with one certificate

pub one_sum : {A : Type 0} (f : A → ℕ) (list : List A) (a : A) → items.the_one (λ i. Some i) list ≡ Some a → f a ≤ sum_by f list
unfolding items.the_one
one_sum f [] a e = absurd (none_some a e)
one_sum {A} f (b ∷ []) a e = let split = sum_by-cons f b [] in subst (λ (i : A). f i ≤ sum_by f (b ∷ [])) (same_some b a e) (omega (arith, split))
one_sum f (b ∷ c ∷ more) a e = absurd (none_some a e)

issuance_tally : (e : Element) (i : IssuanceOf (List ℕ)) → AreLettered e.children → issuance_in e ≡ Some i → issuance_size i ≤ whole e
unfolding issuance_in issuance_of_class
issuance_tally e i l is =
    let c = then_some (class_in e) _ i is in
    let o = then_some (items.the_one (λ j. Some j) c.0.issued_certs) _ i c.2 in
    let all = class_tally e c.0 l c.1 in
    let one = one_sum issued_size c.0.issued_certs o.0 o.1 in
    subst (λ (x : IssuanceOf (List ℕ)). issuance_size x ≤ whole e)
    (same_some (record { class_name = c.0.class_name; resource_set = c.0.resource_set; not_after = c.0.not_after; issued_cert = o.0; signing_cert = c.0.signing_cert }) i o.2) (omega (arith, all, one))

-- ---- messages

pub record IsWithin (n : ℕ) (e : Element) : Type 0 where
  pub head : IsLetteredHead e.head
  pub below : AreLettered e.children
  pub fits : whole e ≤ n

pub child_within : (children : Elements) (e : Element) → AreLettered children → the_child children ≡ Some e → IsWithin (size children) e
child_within none e l is = absurd (none_some e is)
child_within (first head children none) e l is =
    subst (λ (x : Element). IsWithin (size (first head children none)) x) (same_some (record { head = head; children = children }) e is) (record { head = l.0; below = l.1.0; fits = omega (arith) })
child_within (first head children (first h cs rest)) e l is = absurd (none_some e is)

payload_tally : (type : PayloadType) (children : Elements) (p : PayloadShape) → AreLettered children → payload_in type children ≡ Some p → payload_size p ≤ size children
unfolding payload_in
payload_tally kind.List children p l is =
    let n = then_some _ _ p is in
    subst (λ (x : PayloadShape). payload_size x ≤ size children) (same_some shape.List p n.2) (omega (arith))
payload_tally kind.ListResponse children p l is =
    let c = then_some (each_of class_in children) _ p is in
    subst (λ (x : PayloadShape). payload_size x ≤ size children) (same_some (shape.ListResponse c.0) p c.2) (classes_tally children c.0 l c.1)
payload_tally kind.Issue children p l is =
    let e = then_some (the_child children) _ p is in
    let r = then_some (request_in e.0) _ p e.2 in
    let w = child_within children e.0 l e.1 in
    let fits = w.fits in
    let one = request_tally e.0 r.0 w.head r.1 in
    subst (λ (x : PayloadShape). payload_size x ≤ size children) (same_some (shape.Issue r.0) p r.2) (omega (arith, one, fits))
payload_tally kind.IssueResponse children p l is =
    let e = then_some (the_child children) _ p is in
    let r = then_some (issuance_in e.0) _ p e.2 in
    let w = child_within children e.0 l e.1 in
    let fits = w.fits in
    let one = issuance_tally e.0 r.0 w.below r.1 in
    subst (λ (x : PayloadShape). payload_size x ≤ size children) (same_some (shape.IssueResponse r.0) p r.2) (omega (arith, one, fits))
payload_tally kind.Revoke children p l is =
    let e = then_some (the_child children) _ p is in
    let k = then_some _ _ p e.2 in
    subst (λ (x : PayloadShape). payload_size x ≤ size children) (same_some (shape.Revoke k.0) p k.2) (omega (arith))
payload_tally kind.RevokeResponse children p l is =
    let e = then_some (the_child children) _ p is in
    let k = then_some _ _ p e.2 in
    subst (λ (x : PayloadShape). payload_size x ≤ size children) (same_some (shape.RevokeResponse k.0) p k.2) (omega (arith))
payload_tally kind.ErrorResponse children p l is =
    let r = then_some _ _ p is in
    subst (λ (x : PayloadShape). payload_size x ≤ size children) (same_some (shape.ErrorResponse r.0) p r.2) (omega (arith))

pub shape_tally : (b : List ℕ) (d : Element) (s : MessageShape) → IsDocument b d → shape_in d ≡ Some s → payload_size s.payload ≤ length b
unfolding shape_in
shape_tally b d s document is =
    let root = then_some (message_root_in d) _ s is in
    let p = then_some (payload_in root.0.payload d.children) _ s root.2 in
    let lettered = document_lettered b d document in
    let all = document_size b d document in
    let one = payload_tally root.0.payload d.children p.0 lettered.1.0 p.1 in
    subst (λ (x : MessageShape). payload_size x.payload ≤ length b) (same_some (record { sender = root.0.sender; recipient = root.0.recipient; payload = p.0 }) s p.2)
    (within (payload_size p.0) (size d.children) (weight d.head) (length b) one all)
  where
    within : (p c w n : ℕ) → p ≤ c → w + (c + 0) ≤ n → p ≤ n
    within p c w n x y = omega (arith, x, y)
