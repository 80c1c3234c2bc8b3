-- Every message that is read is writable.
use Rattle.std.proofs.Common.{◌≡◌, ℕ, ℤ, Bool, true, false, ◌<◌, ◌^◌, ◌&&◌, List, [], ◌∷◌, Option, Some, None, length, refl, subst, arith, IfSome}
use Rattle.std.specs.Prelude.{codes, filter, if◌then◌else◌, int_le, neg_ℤ, pos, ◌-ℤ◌}
use Rattle.std.specs.List.{AllByRecursion}
use Rattle.std.specs.Str.Parse.{without_leading_plus}
use Rattle.base64.specs.GeneralPurpose.{IsBytes}
use Rattle.rpki_base.specs.Civil.{IsMoment}
use Rattle.rpki_base.specs.Rfc3339.{in_range, rfc3339_time}
use Rattle.rpki_common.specs.Items as items
use Rattle.rpki_common.proofs.Truths.{none_some, same_some}
use Rattle.rpki_xmltext.specs.Parts.{required_by}
use Rattle.rpki_xmltext.specs.UriText.{uri_of_text}
use Rattle.rpki_xmltext.proofs.Attributes.{then_some, required_lettered, child_holds, found_holds}
use Rattle.rpki_xmltext.proofs.Lawful.{IsLawful, AreLawful, lawful, some_lawful, each_writable}
use Rattle.rpki_xmltext.proofs.Spelt.{content_bytes}
use Rattle.rpki_xmltext.proofs.Uris.{uri_lawful}
use Rattle.rpki_sets.specs.declared.run.Run.{Run}
use Rattle.rpki_sets.specs.AsNumbers.{as_blocks}
use Rattle.rpki_sets.specs.Ipv4Addresses.{ipv4_blocks}
use Rattle.rpki_sets.specs.Ipv6Addresses.{ipv6_blocks}
use Rattle.rpki_sets.specs.Resources.{Resources}
use Rattle.rpki_sets.specs.Runs.{IsSet}
use Rattle.rpki_sets.specs.Texts.{read_all}
use Rattle.rpki_sets.proofs.Fitting.{decimal_below-below}
use Rattle.rpki_sets.proofs.Printed.{as_set_read, ipv4_set_read, ipv6_set_read}
use Rattle.rpki_text.specs.Base64.{base64_content}
use Rattle.rpki_text.specs.Handle.{is_handle, handle_of_text, IsHandle}
use Rattle.rpki_text.specs.KeyIdentifier.{key_identifier_of_text}
use Rattle.rpki_text.specs.Uri.{rsync, fault_of}
use Rattle.rpki_text.proofs.HandleLaws.{IsHandle-from_test}
use Rattle.rpki_updown.specs.Entitlements.{IssuedOf, SigningOf, ClassOf, IssuanceOf, AskedOf, IssuedFields, SigningFields, ClassFields, IssuanceFields, IssuanceRequestFields}
use Rattle.rpki_updown.specs.KeyElement.{KeyElementFields}
use Rattle.rpki_updown.specs.NotPerformedResponse.{NotPerformedFields}
use Rattle.rpki_updown.specs.PayloadType.{payload_type_of_text}
use Rattle.rpki_updown.specs.RequestResourceLimit.{LimitFields}
use Rattle.rpki_updown.specs.declared.payload_type.PayloadType.{PayloadType}
use Rattle.rpki_updown.specs.declared.payload_type.PayloadType.TheVariants as kind
use Rattle.rpki_xml.specs.Content.{trimmed}
use Rattle.rpki_xml.specs.Element.{Head, Elements, none, first, Element, listed}
use Rattle.rpki_xml.specs.Lettered.{AreOctets, IsLetteredHead, AreLettered}
use Rattle.rpki_xml.specs.Tables.{required, optional, optional_by, where_there, each_of, the_child, no_child, at_most_one_child}
use Rattle.rpki_xml.specs.Trimmed.{AreTrimmed}
use Rattle.rpki_xml.proofs.Letters.{document_lettered}
use Rattle.rpki_xml.proofs.Trims.{document_trimmed}
use Rattle.rpki_provisioning.specs.declared.payload.Payload.{Payload}
use Rattle.rpki_provisioning.specs.declared.payload.Payload.TheVariants as payload
use Rattle.rpki_provisioning.specs.declared.shape.PayloadShape.{PayloadShape}
use Rattle.rpki_provisioning.specs.declared.shape.PayloadShape.TheVariants as shape
use Rattle.rpki_provisioning.specs.Class.{certificate_in, issuer_in, is_certificate, is_issuer, Certificates, certificates_in, ClassStart, class_start_in, class_in, issuance_of_class, issuance_in}
use Rattle.rpki_provisioning.specs.Limit.{limit_in, set_or_empty, set_in, resources_in}
use Rattle.rpki_provisioning.specs.Message.{payload_in, message_root_in, shape_in, message_of, Reads}
use Rattle.rpki_provisioning.specs.NotPerformed.{status_in, description_in, description_where_there, not_performed_in}
use Rattle.rpki_provisioning.specs.Request.{request_in, key_in}
use Rattle.rpki_provisioning.specs.Shape.{MessageOf, MessageFields, MessageShape, certificate_of, request_of, issued_by, signing_by, class_by, issuance_by, asked_by, payload_of_shape, message_of_shape}
use Rattle.rpki_provisioning.specs.Writable.{IsWritableLimit, IsWritableSet, IsWritableIssued, IsWritableSigning, IsWritableClass, IsWritableIssuance, IsWritableRequest, IsWritableKey, IsWritableNotPerformed, IsWritablePayload, IsWritable}
use Rattle.rpki_provisioning.proofs.Keys.{key_read}
use Rattle.rpki_cert.proofs.Reread.{certificate_decoded, request_decoded}

-- ---- shapes of which what is read is writable

record IsFitIssued (c : IssuedOf (List ℕ)) : Type 0 where
  uri' : fault_of rsync c.uri ≡ None
  limit' : IsWritableLimit c.req_limit
  cert' : IsBytes c.cert

record IsFitClass (c : ClassOf (List ℕ)) : Type 0 where
  name' : AreOctets c.class_name
  set' : IsWritableSet c.resource_set
  time' : IsMoment c.not_after
  issued' : AllByRecursion IsFitIssued c.issued_certs
  url' : fault_of rsync c.signing_cert.url ≡ None
  signing' : IsBytes c.signing_cert.cert

record IsFitIssuance (c : IssuanceOf (List ℕ)) : Type 0 where
  name' : AreOctets c.class_name
  set' : IsWritableSet c.resource_set
  time' : IsMoment c.not_after
  issued' : IsFitIssued c.issued_cert
  url' : fault_of rsync c.signing_cert.url ≡ None
  signing' : IsBytes c.signing_cert.cert

record IsFitRequest (a : AskedOf (List ℕ)) : Type 0 where
  name' : AreOctets a.class_name
  limit' : IsWritableLimit a.limit
  csr' : IsBytes a.csr

abbrev IsFit : PayloadShape → Type 0
IsFit shape.List = Unit {0}
IsFit (shape.ListResponse classes) = AllByRecursion IsFitClass classes
IsFit (shape.Issue request) = IsFitRequest request
IsFit (shape.IssueResponse response) = IsFitIssuance response
IsFit (shape.Revoke request) = IsWritableKey request
IsFit (shape.RevokeResponse response) = IsWritableKey response
IsFit (shape.ErrorResponse response) = IsWritableNotPerformed response

-- ---- attributes

there_holds : {X : Type 0} (P : X → Type 0) (rule : List ℕ → Option X) → ((text : List ℕ) (x : X) → rule text ≡ Some x → P x) → (text : Option (List ℕ)) (x : Option X) → where_there rule text ≡ Some x → IfSome x P
there_holds {X} P rule h None x e = subst (λ (o : Option X). IfSome o P) (same_some None x e) tt
there_holds {X} P rule h (Some text) x e =
    let p = then_some (rule text) (λ y. Some (Some y)) x e in
    subst (λ (o : Option X). IfSome o P) (same_some (Some p.0) x p.2) (h text p.0 p.1)

optional_holds : {X : Type 0} (P : X → Type 0) (rule : List ℕ → Option X) → ((text : List ℕ) (x : X) → rule text ≡ Some x → P x) → (local : List ℕ) (h : Head) (x : Option X) → optional_by rule local h ≡ Some x → IfSome x P
unfolding optional_by
optional_holds P rule each local h x e = let p = then_some (optional local h) (where_there rule) x e in there_holds P rule each p.0 x p.2

required_holds : {X : Type 0} (P : X → Type 0) (rule : List ℕ → Option X) → ((text : List ℕ) (x : X) → AreOctets text → rule text ≡ Some x → P x) → (local : List ℕ) (h : Head) (x : X) → IsLetteredHead h
    → required_by rule local h ≡ Some x → P x
unfolding required_by
required_holds P rule each local h x l e = let p = then_some (required local h) rule x e in each p.0 x (required_lettered local h p.0 l p.1) p.2

required_uri : (local : List ℕ) (h : Head) (u : List ℕ) → IsLetteredHead h → required_by (uri_of_text rsync) local h ≡ Some u → fault_of rsync u ≡ None
required_uri local h u l e = required_holds (λ v. fault_of rsync v ≡ None) (uri_of_text rsync) (λ t v k f. uri_lawful rsync t v f) local h u l e

limit_read : (h : Head) (x : LimitFields) → limit_in h ≡ Some x → IsWritableLimit x
unfolding limit_in
limit_read h x e =
    let a = then_some (optional_by as_blocks (codes "req_resource_set_as") h) _ x e in
    let b = then_some (optional_by ipv4_blocks (codes "req_resource_set_ipv4") h) _ x a.2 in
    let c = then_some (optional_by ipv6_blocks (codes "req_resource_set_ipv6") h) _ x b.2 in
    subst IsWritableLimit (same_some (record { asn = a.0; ipv4 = b.0; ipv6 = c.0 }) x c.2)
    (record {
      asn = optional_holds (IsSet 32) as_blocks as_set_read (codes "req_resource_set_as") h a.0 a.1;
      ipv4 = optional_holds (IsSet 32) ipv4_blocks ipv4_set_read (codes "req_resource_set_ipv4") h b.0 b.1;
      ipv6 = optional_holds (IsSet 128) ipv6_blocks ipv6_set_read (codes "req_resource_set_ipv6") h c.0 c.1;
    })

empty_set : (width : ℕ) → IsSet width []
empty_set width = record { maximal = tt; within = λ n h. absurd h }

set_there : (width : ℕ) (o : Option (List Run)) (runs : List Run) → IfSome o (IsSet width) → set_or_empty o ≡ Some runs → IsSet width runs
set_there width None runs h e = subst (IsSet width) (same_some [] runs e) (empty_set width)
set_there width (Some found) runs h e = subst (IsSet width) (same_some found runs e) h

set_read : (width : ℕ) (blocks : List ℕ → Option (List Run)) → ((text : List ℕ) (runs : List Run) → blocks text ≡ Some runs → IsSet width runs) → (local : List ℕ) (h : Head) (runs : List Run)
    → set_in blocks local h ≡ Some runs → IsSet width runs
unfolding set_in
set_read width blocks each local h runs e =
    let p = then_some (optional_by blocks local h) set_or_empty runs e in
    set_there width p.0 runs (optional_holds (IsSet width) blocks each local h p.0 p.1) p.2

resources_read : (h : Head) (x : Resources) → resources_in h ≡ Some x → IsWritableSet x
unfolding resources_in
resources_read h x e =
    let a = then_some (set_in as_blocks (codes "resource_set_as") h) _ x e in
    let b = then_some (set_in ipv4_blocks (codes "resource_set_ipv4") h) _ x a.2 in
    let c = then_some (set_in ipv6_blocks (codes "resource_set_ipv6") h) _ x b.2 in
    subst IsWritableSet (same_some (record { asn = a.0; ipv4 = b.0; ipv6 = c.0 }) x c.2)
    (record {
      asn = set_read 32 as_blocks as_set_read (codes "resource_set_as") h a.0 a.1;
      ipv4 = set_read 32 ipv4_blocks ipv4_set_read (codes "resource_set_ipv4") h b.0 b.1;
      ipv6 = set_read 128 ipv6_blocks ipv6_set_read (codes "resource_set_ipv6") h c.0 c.1;
    })

moment_in : (x s : ℤ) (b c : Bool) → int_le (neg_ℤ (pos 62167219200)) x ≡ b → int_le x (pos 253402300799) ≡ c → (if b && c then Some x else None) ≡ Some s → IsMoment s
moment_in x s true true e f is = subst IsMoment (same_some x s is) (grind (arith, e), grind (arith, f))
moment_in x s true false e f is = absurd (none_some s is)
moment_in x s false c e f is = absurd (none_some s is)

range_read : (x s : ℤ) → in_range x ≡ Some s → IsMoment s
range_read x s is = moment_in x s _ _ refl refl is

time_read : (text : List ℕ) (s : ℤ) → rfc3339_time text ≡ Some s → IsMoment s
unfolding rfc3339_time
time_read text s e =
    let a = then_some _ _ s e in
    let b = then_some _ _ s a.2 in
    let c = then_some _ _ s b.2 in
    let d = then_some _ _ s c.2 in
    let f = then_some _ _ s d.2 in
    let g = then_some _ _ s f.2 in
    let h = then_some _ _ s g.2 in
    let i = then_some _ _ s h.2 in
    let j = then_some _ _ s i.2 in
    let k = then_some _ _ s j.2 in
    let l = then_some _ _ s k.2 in
    let m = then_some _ _ s l.2 in
    let n = then_some _ _ s m.2 in
    let o = then_some _ _ s n.2 in
    range_read (o.0 -ℤ n.0) s o.2

handle_if : (b : Bool) (text h : List ℕ) → is_handle text ≡ b → (if b then Some text else None) ≡ Some h → IsHandle h
handle_if true text h e is = subst IsHandle (same_some text h is) (IsHandle-from_test text e)
handle_if false text h e is = absurd (none_some h is)

handle_read : (text h : List ℕ) → handle_of_text text ≡ Some h → IsHandle h
handle_read text h is = handle_if (is_handle text) text h refl is

-- ---- certificates and classes

certificate_read : (e : Element) (c : IssuedOf (List ℕ)) → IsLawful e → certificate_in e ≡ Some c → IsFitIssued c
unfolding certificate_in
certificate_read e c l is =
    let p = then_some _ _ c is in
    let q = then_some _ _ c p.2 in
    let r = then_some _ _ c q.2 in
    let u = then_some (required_by (uri_of_text rsync) (codes "cert_url") e.head) _ c r.2 in
    let m = then_some (limit_in e.head) _ c u.2 in
    let o = then_some (base64_content e.head.text) _ c m.2 in
    subst IsFitIssued (same_some (record { uri = u.0; req_limit = m.0; cert = o.0 }) c o.2)
    (record { uri' = required_uri (codes "cert_url") e.head u.0 l.head u.1; limit' = limit_read e.head m.0 m.1; cert' = content_bytes e.head.text o.0 l.head.text o.1 })

issuer_read : (e : Element) (o : List ℕ) → IsLawful e → issuer_in e ≡ Some o → IsBytes o
unfolding issuer_in
issuer_read e o l is =
    let p = then_some _ _ o is in
    let q = then_some _ _ o p.2 in
    content_bytes e.head.text o l.head.text q.2

all_read : {X : Type 0} (P : X → Type 0) (f : Element → Option X) → ((e : Element) (x : X) → IsLawful e → f e ≡ Some x → P x) → (list : List Element) (xs : List X) → AreLawful list → read_all f list ≡ Some xs
    → AllByRecursion P xs
unfolding read_all
all_read {X} P f h [] xs l is = subst (λ (a : List X). AllByRecursion P a) (same_some [] xs is) tt
all_read {X} P f h (e ∷ list) xs l is =
    let p = then_some (f e) _ xs is in
    let q = then_some (read_all f list) _ xs p.2 in
    subst (λ (a : List X). AllByRecursion P a) (same_some (p.0 ∷ q.0) xs q.2) (h e p.0 l.0 p.1, all_read P f h list q.0 l.1 q.1)

one_read : {A X : Type 0} (Q : A → Type 0) (P : X → Type 0) (f : A → Option X) → ((a : A) (x : X) → Q a → f a ≡ Some x → P x) → (list : List A) (x : X) → AllByRecursion Q list → items.the_one f list ≡ Some x → P x
unfolding items.the_one
one_read Q P f h [] x l is = absurd (none_some x is)
one_read Q P f h (a ∷ []) x l is = h a x l.0 is
one_read Q P f h (a ∷ b ∷ more) x l is = absurd (none_some x is)

record AreFit (c : Certificates) : Type 0 where
  issued' : AllByRecursion IsFitIssued c.issued
  issuer' : IsBytes c.issuer

certificates_read : (children : Elements) (c : Certificates) → AreLawful (listed children) → certificates_in children ≡ Some c → AreFit c
unfolding certificates_in
certificates_read children c l is =
    let p = then_some _ _ c is in
    let a = then_some (read_all certificate_in (filter is_certificate (listed children))) _ c p.2 in
    let b = then_some (items.the_one issuer_in (filter is_issuer (listed children))) _ c a.2 in
    subst AreFit (same_some (record { issued = a.0; issuer = b.0 }) c b.2)
    (record {
      issued' = all_read IsFitIssued certificate_in certificate_read (filter is_certificate (listed children)) a.0 (some_lawful is_certificate (listed children) l) a.1;
      issuer' = one_read IsLawful IsBytes issuer_in issuer_read (filter is_issuer (listed children)) b.0 (some_lawful is_issuer (listed children) l) b.1;
    })

record IsFitStart (s : ClassStart) : Type 0 where
  name' : AreOctets s.class_name
  url' : fault_of rsync s.url ≡ None
  set' : IsWritableSet s.resource_set
  time' : IsMoment s.not_after

start_read : (h : Head) (s : ClassStart) → IsLetteredHead h → class_start_in h ≡ Some s → IsFitStart s
unfolding class_start_in
start_read h s l is =
    let p = then_some _ _ s is in
    let q = then_some _ _ s p.2 in
    let n = then_some (required (codes "class_name") h) _ s q.2 in
    let u = then_some (required_by (uri_of_text rsync) (codes "cert_url") h) _ s n.2 in
    let r = then_some (resources_in h) _ s u.2 in
    let t = then_some (required_by rfc3339_time (codes "resource_set_notafter") h) _ s r.2 in
    subst IsFitStart (same_some (record { class_name = n.0; url = u.0; resource_set = r.0; not_after = t.0 }) s t.2)
    (record {
      name' = required_lettered (codes "class_name") h n.0 l n.1;
      url' = required_uri (codes "cert_url") h u.0 l u.1;
      set' = resources_read h r.0 r.1;
      time' = required_holds IsMoment rfc3339_time (λ text x k f. time_read text x f) (codes "resource_set_notafter") h t.0 l t.1;
    })

class_read : (e : Element) (c : ClassOf (List ℕ)) → IsLawful e → class_in e ≡ Some c → IsFitClass c
unfolding class_in
class_read e c l is =
    let p = then_some _ _ c is in
    let q = then_some _ _ c p.2 in
    let s = then_some (class_start_in e.head) _ c q.2 in
    let k = then_some (certificates_in e.children) _ c s.2 in
    let a = start_read e.head s.0 l.head s.1 in
    let b = certificates_read e.children k.0 (lawful e.children l.below l.trims) k.1 in
    subst IsFitClass
    (same_some (record { class_name = s.0.class_name; resource_set = s.0.resource_set; not_after = s.0.not_after; issued_certs = k.0.issued; signing_cert = record { url = s.0.url; cert = k.0.issuer } }) c k.2)
    (record { name' = a.name'; set' = a.set'; time' = a.time'; issued' = b.issued'; url' = a.url'; signing' = b.issuer' })

issuance_of : (c : ClassOf (List ℕ)) (i : IssuanceOf (List ℕ)) → IsFitClass c → issuance_of_class c ≡ Some i → IsFitIssuance i
unfolding issuance_of_class
issuance_of c i h is =
    let p = then_some (items.the_one (λ j. Some j) c.issued_certs) _ i is in
    let one = one_read IsFitIssued IsFitIssued (λ j. Some j) (λ a x k f. subst IsFitIssued (same_some a x f) k) c.issued_certs p.0 h.issued' p.1 in
    subst IsFitIssuance (same_some (record { class_name = c.class_name; resource_set = c.resource_set; not_after = c.not_after; issued_cert = p.0; signing_cert = c.signing_cert }) i p.2)
    (record { name' = h.name'; set' = h.set'; time' = h.time'; issued' = one; url' = h.url'; signing' = h.signing' })

issuance_read : (e : Element) (i : IssuanceOf (List ℕ)) → IsLawful e → issuance_in e ≡ Some i → IsFitIssuance i
unfolding issuance_in
issuance_read e i l is = let p = then_some (class_in e) issuance_of_class i is in issuance_of p.0 i (class_read e p.0 l p.1) p.2

-- ---- requests, keys, and what was not performed

request_read : (e : Element) (a : AskedOf (List ℕ)) → IsLawful e → request_in e ≡ Some a → IsFitRequest a
unfolding request_in
request_read e a l is =
    let p = then_some _ _ a is in
    let q = then_some _ _ a p.2 in
    let r = then_some _ _ a q.2 in
    let n = then_some (required (codes "class_name") e.head) _ a r.2 in
    let m = then_some (limit_in e.head) _ a n.2 in
    let o = then_some (base64_content e.head.text) _ a m.2 in
    subst IsFitRequest (same_some (record { class_name = n.0; limit = m.0; csr = o.0 }) a o.2)
    (record { name' = required_lettered (codes "class_name") e.head n.0 l.head n.1; limit' = limit_read e.head m.0 m.1; csr' = content_bytes e.head.text o.0 l.head.text o.1 })

record IsKeyOctets (k : List ℕ) : Type 0 where
  octets' : IsBytes k
  count' : length k ≡ 20

key_octets : (text k : List ℕ) → AreOctets text → key_identifier_of_text text ≡ Some k → IsKeyOctets k
key_octets text k h e = let r = key_read text k h e in record { octets' = r.octets; count' = r.count }

key_writable : (e : Element) (k : KeyElementFields) → IsLawful e → key_in e ≡ Some k → IsWritableKey k
unfolding key_in
key_writable e k l is =
    let p = then_some _ _ k is in
    let q = then_some _ _ k p.2 in
    let r = then_some _ _ k q.2 in
    let n = then_some (required (codes "class_name") e.head) _ k r.2 in
    let i = then_some (required_by key_identifier_of_text (codes "ski") e.head) _ k n.2 in
    let o = required_holds IsKeyOctets key_identifier_of_text key_octets (codes "ski") e.head i.0 l.head i.1 in
    subst IsWritableKey (same_some (record { class_name = n.0; key = i.0 }) k i.2)
    (record { class_name = required_lettered (codes "class_name") e.head n.0 l.head n.1; octets = o.octets'; count = o.count' })

status_read : (e : Element) (n : ℕ) → status_in e ≡ Some n → n < 2 ^ 64
unfolding status_in
status_read e n is =
    let p = then_some _ _ n is in
    let q = then_some _ _ n p.2 in
    decimal_below-below (2 ^ 64) (without_leading_plus e.head.text) n q.2

abbrev IsLawfulText : List ℕ → Type 0
IsLawfulText text = AreOctets text × (trimmed text ≡ text)

description_read : (e : Element) (text : List ℕ) → IsLawful e → description_in e ≡ Some text → IsLawfulText text
unfolding description_in
description_read e text l is =
    let p = then_some _ _ text is in
    let q = then_some _ _ text p.2 in
    subst IsLawfulText (same_some e.head.text text q.2) (l.head.text, l.trimmed')

description_there : (found : Option Element) (text : Option (List ℕ)) → IfSome found IsLawful → description_where_there found ≡ Some text → IfSome text IsLawfulText
description_there None text l is = subst (λ (o : Option (List ℕ)). IfSome o IsLawfulText) (same_some None text is) tt
description_there (Some e) text l is =
    let p = then_some (description_in e) (λ t. Some (Some t)) text is in
    subst (λ (o : Option (List ℕ)). IfSome o IsLawfulText) (same_some (Some p.0) text p.2) (description_read e p.0 l p.1)

octets_of : (text : Option (List ℕ)) → IfSome text IsLawfulText → IfSome text AreOctets
octets_of None h = tt
octets_of (Some text) h = h.0

trimmed_of : (text : Option (List ℕ)) → IfSome text IsLawfulText → IfSome text (λ t. trimmed t ≡ t)
trimmed_of None h = tt
trimmed_of (Some text) h = h.1

not_performed_read : (children : Elements) (r : NotPerformedFields) → AreLawful (listed children) → not_performed_in children ≡ Some r → IsWritableNotPerformed r
unfolding not_performed_in
not_performed_read none r l is = absurd (none_some r is)
not_performed_read (first h cs rest) r l is =
    let s = then_some (status_in (record { head = h; children = cs })) _ r is in
    let f = then_some (at_most_one_child rest) _ r s.2 in
    let d = then_some (description_where_there f.0) _ r f.2 in
    let t = description_there f.0 d.0 (found_holds IsLawful rest f.0 l.1 f.1) d.1 in
    subst IsWritableNotPerformed (same_some (record { status = s.0; description = d.0 }) r d.2)
    (record { status = status_read (record { head = h; children = cs }) s.0 s.1; description = octets_of d.0 t; trimmed = trimmed_of d.0 t })

-- ---- shapes

payload_read : (t : PayloadType) (children : Elements) (p : PayloadShape) → AreLettered children → AreTrimmed children → payload_in t children ≡ Some p → IsFit p
unfolding payload_in
payload_read kind.List children p l t is = let a = then_some (no_child children) _ p is in subst IsFit (same_some shape.List p a.2) tt
payload_read kind.ListResponse children p l t is =
    let a = then_some (each_of class_in children) _ p is in
    subst IsFit (same_some (shape.ListResponse a.0) p a.2) (each_writable class_in IsFitClass class_read children a.0 l t a.1)
payload_read kind.Issue children p l t is =
    let a = then_some (the_child children) _ p is in
    let b = then_some (request_in a.0) _ p a.2 in
    subst IsFit (same_some (shape.Issue b.0) p b.2) (request_read a.0 b.0 (child_holds IsLawful children a.0 (lawful children l t) a.1) b.1)
payload_read kind.IssueResponse children p l t is =
    let a = then_some (the_child children) _ p is in
    let b = then_some (issuance_in a.0) _ p a.2 in
    subst IsFit (same_some (shape.IssueResponse b.0) p b.2) (issuance_read a.0 b.0 (child_holds IsLawful children a.0 (lawful children l t) a.1) b.1)
payload_read kind.Revoke children p l t is =
    let a = then_some (the_child children) _ p is in
    let b = then_some (key_in a.0) _ p a.2 in
    subst IsFit (same_some (shape.Revoke b.0) p b.2) (key_writable a.0 b.0 (child_holds IsLawful children a.0 (lawful children l t) a.1) b.1)
payload_read kind.RevokeResponse children p l t is =
    let a = then_some (the_child children) _ p is in
    let b = then_some (key_in a.0) _ p a.2 in
    subst IsFit (same_some (shape.RevokeResponse b.0) p b.2) (key_writable a.0 b.0 (child_holds IsLawful children a.0 (lawful children l t) a.1) b.1)
payload_read kind.ErrorResponse children p l t is =
    let a = then_some (not_performed_in children) _ p is in
    subst IsFit (same_some (shape.ErrorResponse a.0) p a.2) (not_performed_read children a.0 (lawful children l t) a.1)

record IsFitRoot (r : MessageOf PayloadType) : Type 0 where
  sender' : IsHandle r.sender
  recipient' : IsHandle r.recipient

root_read : (e : Element) (r : MessageOf PayloadType) → IsLetteredHead e.head → message_root_in e ≡ Some r → IsFitRoot r
unfolding message_root_in
root_read e r l is =
    let p = then_some _ _ r is in
    let q = then_some _ _ r p.2 in
    let o = then_some _ _ r q.2 in
    let v = then_some _ _ r o.2 in
    let a = then_some (required_by handle_of_text (codes "sender") e.head) _ r v.2 in
    let b = then_some (required_by handle_of_text (codes "recipient") e.head) _ r a.2 in
    let t = then_some (required_by payload_type_of_text (codes "type") e.head) _ r b.2 in
    subst IsFitRoot (same_some (record { sender = a.0; recipient = b.0; payload = t.0 }) r t.2)
    (record {
      sender' = required_holds IsHandle handle_of_text (λ text h k f. handle_read text h f) (codes "sender") e.head a.0 l a.1;
      recipient' = required_holds IsHandle handle_of_text (λ text h k f. handle_read text h f) (codes "recipient") e.head b.0 l b.1;
    })

record IsFitShape (s : MessageShape) : Type 0 where
  sender' : IsHandle s.sender
  recipient' : IsHandle s.recipient
  payload' : IsFit s.payload

shape_read : (e : Element) (s : MessageShape) → IsLetteredHead e.head → AreLettered e.children → AreTrimmed e.children → shape_in e ≡ Some s → IsFitShape s
unfolding shape_in
shape_read e s h l t is =
    let r = then_some (message_root_in e) _ s is in
    let p = then_some (payload_in r.0.payload e.children) _ s r.2 in
    let a = root_read e r.0 h r.1 in
    subst IsFitShape (same_some (record { sender = r.0.sender; recipient = r.0.recipient; payload = p.0 }) s p.2)
    (record { sender' = a.sender'; recipient' = a.recipient'; payload' = payload_read r.0.payload e.children p.0 l t p.1 })

-- ---- what is read of them

issued_fit : (i : IssuedOf (List ℕ)) (c : IssuedFields) → IsFitIssued i → issued_by certificate_of i ≡ Some c → IsWritableIssued c
unfolding issued_by
issued_fit i c h is =
    let p = then_some (certificate_of i.cert) _ c is in
    subst IsWritableIssued (same_some (record { uri = i.uri; req_limit = i.req_limit; cert = p.0 }) c p.2)
    (record { uri = h.uri'; req_limit = h.limit'; cert = certificate_decoded i.cert p.0 h.cert' p.1 })

signing_fit : (i : SigningOf (List ℕ)) (c : SigningFields) → fault_of rsync i.url ≡ None → IsBytes i.cert → signing_by certificate_of i ≡ Some c → IsWritableSigning c
unfolding signing_by
signing_fit i c u b is =
    let p = then_some (certificate_of i.cert) _ c is in
    subst IsWritableSigning (same_some (record { url = i.url; cert = p.0 }) c p.2) (record { url = u; cert = certificate_decoded i.cert p.0 b p.1 })

all_fit : {A B : Type 0} (Q : A → Type 0) (P : B → Type 0) (f : A → Option B) → ((a : A) (b : B) → Q a → f a ≡ Some b → P b) → (list : List A) (xs : List B) → AllByRecursion Q list → read_all f list ≡ Some xs
    → AllByRecursion P xs
unfolding read_all
all_fit {A} {B} Q P f h [] xs l is = subst (λ (a : List B). AllByRecursion P a) (same_some [] xs is) tt
all_fit {A} {B} Q P f h (e ∷ list) xs l is =
    let p = then_some (f e) _ xs is in
    let q = then_some (read_all f list) _ xs p.2 in
    subst (λ (a : List B). AllByRecursion P a) (same_some (p.0 ∷ q.0) xs q.2) (h e p.0 l.0 p.1, all_fit Q P f h list q.0 l.1 q.1)

class_fit : (c : ClassOf (List ℕ)) (d : ClassFields) → IsFitClass c → class_by certificate_of c ≡ Some d → IsWritableClass d
unfolding class_by
class_fit c d h is =
    let i = then_some (read_all (issued_by certificate_of) c.issued_certs) _ d is in
    let s = then_some (signing_by certificate_of c.signing_cert) _ d i.2 in
    subst IsWritableClass (same_some (record { class_name = c.class_name; resource_set = c.resource_set; not_after = c.not_after; issued_certs = i.0; signing_cert = s.0 }) d s.2)
    (record {
      class_name = h.name';
      resource_set = h.set';
      not_after = h.time';
      issued_certs = all_fit IsFitIssued IsWritableIssued (issued_by certificate_of) issued_fit c.issued_certs i.0 h.issued' i.1;
      signing_cert = signing_fit c.signing_cert s.0 h.url' h.signing' s.1;
    })

issuance_fit : (c : IssuanceOf (List ℕ)) (d : IssuanceFields) → IsFitIssuance c → issuance_by certificate_of c ≡ Some d → IsWritableIssuance d
unfolding issuance_by
issuance_fit c d h is =
    let i = then_some (issued_by certificate_of c.issued_cert) _ d is in
    let s = then_some (signing_by certificate_of c.signing_cert) _ d i.2 in
    subst IsWritableIssuance (same_some (record { class_name = c.class_name; resource_set = c.resource_set; not_after = c.not_after; issued_cert = i.0; signing_cert = s.0 }) d s.2)
    (record {
      class_name = h.name';
      resource_set = h.set';
      not_after = h.time';
      issued_cert = issued_fit c.issued_cert i.0 h.issued' i.1;
      signing_cert = signing_fit c.signing_cert s.0 h.url' h.signing' s.1;
    })

asked_fit : (a : AskedOf (List ℕ)) (b : IssuanceRequestFields) → IsFitRequest a → asked_by request_of a ≡ Some b → IsWritableRequest b
unfolding asked_by
asked_fit a b h is =
    let p = then_some (request_of a.csr) _ b is in
    subst IsWritableRequest (same_some (record { class_name = a.class_name; limit = a.limit; csr = p.0 }) b p.2)
    (record { class_name = h.name'; limit = h.limit'; csr = request_decoded a.csr p.0 h.csr' p.1 })

payload_fit : (s : PayloadShape) (p : Payload) → IsFit s → payload_of_shape s ≡ Some p → IsWritablePayload p
unfolding payload_of_shape
payload_fit shape.List p h is = subst IsWritablePayload (same_some payload.List p is) tt
payload_fit (shape.ListResponse classes) p h is =
    let a = then_some (read_all (class_by certificate_of) classes) _ p is in
    subst IsWritablePayload (same_some (payload.ListResponse a.0) p a.2) (all_fit IsFitClass IsWritableClass (class_by certificate_of) class_fit classes a.0 h a.1)
payload_fit (shape.Issue request) p h is =
    let a = then_some (asked_by request_of request) _ p is in
    subst IsWritablePayload (same_some (payload.Issue a.0) p a.2) (asked_fit request a.0 h a.1)
payload_fit (shape.IssueResponse response) p h is =
    let a = then_some (issuance_by certificate_of response) _ p is in
    subst IsWritablePayload (same_some (payload.IssueResponse a.0) p a.2) (issuance_fit response a.0 h a.1)
payload_fit (shape.Revoke request) p h is = subst IsWritablePayload (same_some (payload.Revoke request) p is) h
payload_fit (shape.RevokeResponse response) p h is = subst IsWritablePayload (same_some (payload.RevokeResponse response) p is) h
payload_fit (shape.ErrorResponse response) p h is = subst IsWritablePayload (same_some (payload.ErrorResponse response) p is) h

message_fit : (s : MessageShape) (m : MessageFields) → IsFitShape s → message_of_shape s ≡ Some m → IsWritable m
unfolding message_of_shape
message_fit s m h is =
    let p = then_some (payload_of_shape s.payload) _ m is in
    subst IsWritable (same_some (record { sender = s.sender; recipient = s.recipient; payload = p.0 }) m p.2)
    (record { sender = h.sender'; recipient = h.recipient'; payload = payload_fit s.payload p.0 h.payload' p.1 })

-- ---- messages

pub message_writable : (octets : List ℕ) (m : MessageFields) → Reads octets m → IsWritable m
unfolding message_of
message_writable octets m r =
    let x = r.element in
    let l = document_lettered octets x r.document in
    let t = document_trimmed octets x r.document in
    let p = then_some (shape_in x) message_of_shape m r.message in
    message_fit p.0 m (shape_read x p.0 l.0 l.1.0 t.1.0 p.1) p.2
