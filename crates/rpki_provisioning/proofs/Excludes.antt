-- What octets can't be at once: a message, and what holds a certificate or a request that can't be read.
use Rattle.std.proofs.Common.{◌≡◌, ℕ, zero, suc, List, [], ◌∷◌, ◌++◌, ◌<◌, length, get_or, Option, Some, None, Any, map, sym, ap, subst, ◌∙◌, arith}
use Rattle.std.proofs.lemmas.List.Concat.{flat_map-cons}
use Rattle.std.specs.List.{AllByRecursion, flat_map}
use Rattle.rpki_common.proofs.Truths.{none_some}
use Rattle.rpki_xmltext.proofs.Attributes.{then_some}
use Rattle.rpki_xmltext.proofs.Read.{one_message}
use Rattle.rpki_sets.specs.Texts.{read_all}
use Rattle.rpki_updown.specs.Entitlements.{IssuedOf, SigningOf, ClassOf, IssuanceOf, AskedOf}
use Rattle.rpki_provisioning.specs.declared.payload.Payload.{Payload}
use Rattle.rpki_provisioning.specs.declared.shape.PayloadShape.{PayloadShape}
use Rattle.rpki_provisioning.specs.declared.shape.PayloadShape.TheVariants as shape
use Rattle.rpki_provisioning.specs.Answers.{class_certificates, certificates_of, request_in_shape, HoldsNoCertificate, HoldsNoRequest}
use Rattle.rpki_provisioning.specs.Message.{shape_in, message_of, HasShape, HasNoShape, Reads}
use Rattle.rpki_provisioning.specs.Shape.{MessageFields, MessageShape, certificate_of, request_of, issued_by, signing_by, class_by, issuance_by, asked_by, payload_of_shape, message_of_shape}

-- ---- where all are read, none isn't

abbrev IsRead : List ℕ → Type 0
IsRead o = certificate_of o ≡ None → ⊥

none_at : {X : Type 0} (P : X → Type 0) (xs : List X) → AllByRecursion (λ x. P x → ⊥) xs → (k : ℕ) (x : X) → k < length xs → get_or xs k x ≡ x → P x → ⊥
none_at P [] h k x lt e p = absurd (omega (arith, lt))
none_at P (y ∷ xs) h zero x lt e p = h.0 (subst P (sym e) p)
none_at P (y ∷ xs) h (suc k) x lt e p = none_at P xs h.1 k x (omega (arith, lt)) e p

none_any : {X : Type 0} (P : X → Type 0) (xs : List X) → AllByRecursion (λ x. P x → ⊥) xs → Any P xs → ⊥
none_any P xs h a = none_at P xs h a.0 a.1 a.2 a.3 a.4

both_all : {X : Type 0} (P : X → Type 0) (a b : List X) → AllByRecursion P a → AllByRecursion P b → AllByRecursion P (a ++ b)
both_all P [] b f g = g
both_all P (x ∷ a) b f g = (f.0, both_all P a b f.1 g)

some_read : {X : Type 0} (o : Option X) (x : X) → o ≡ Some x → o ≡ None → ⊥
some_read o x e n = none_some x (sym n ∙ e)

issued_read : (i : IssuedOf (List ℕ)) {D : Type 0} (f : List ℕ → Option D) (j : IssuedOf D) → issued_by f i ≡ Some j → f i.cert ≡ None → ⊥
unfolding issued_by
issued_read i f j e = let p = then_some (f i.cert) _ j e in some_read (f i.cert) p.0 p.1

signing_read : (s : SigningOf (List ℕ)) {D : Type 0} (f : List ℕ → Option D) (j : SigningOf D) → signing_by f s ≡ Some j → f s.cert ≡ None → ⊥
unfolding signing_by
signing_read s f j e = let p = then_some (f s.cert) _ j e in some_read (f s.cert) p.0 p.1

all_issued_read : {D : Type 0} (f : List ℕ → Option D) (list : List (IssuedOf (List ℕ))) (read : List (IssuedOf D)) → read_all (issued_by f) list ≡ Some read
    → AllByRecursion (λ o. f o ≡ None → ⊥) (map (λ i. i.cert) list)
unfolding read_all
all_issued_read f [] read e = tt
all_issued_read f (i ∷ more) read e =
    let p = then_some (issued_by f i) _ read e in
    let q = then_some (read_all (issued_by f) more) _ read p.2 in
    (issued_read i f p.0 p.1, all_issued_read f more q.0 q.1)

class_read : {D : Type 0} (f : List ℕ → Option D) (c : ClassOf (List ℕ)) (read : ClassOf D) → class_by f c ≡ Some read → AllByRecursion (λ o. f o ≡ None → ⊥) (class_certificates c)
unfolding class_by
class_read f c read e =
    let p = then_some (read_all (issued_by f) c.issued_certs) _ read e in
    let q = then_some (signing_by f c.signing_cert) _ read p.2 in
    both_all (λ o. f o ≡ None → ⊥) (map (λ i. i.cert) c.issued_certs) (c.signing_cert.cert ∷ []) (all_issued_read f c.issued_certs p.0 p.1) (signing_read c.signing_cert f q.0 q.1, tt)

classes_read : {D : Type 0} (f : List ℕ → Option D) (list : List (ClassOf (List ℕ))) (read : List (ClassOf D)) → read_all (class_by f) list ≡ Some read
    → AllByRecursion (λ o. f o ≡ None → ⊥) (flat_map class_certificates list)
unfolding read_all
classes_read f [] read e = tt
classes_read f (c ∷ more) read e =
    let p = then_some (class_by f c) _ read e in
    let q = then_some (read_all (class_by f) more) _ read p.2 in
    subst (λ (l : List (List ℕ)). AllByRecursion (λ o. f o ≡ None → ⊥) l) (sym (flat_map-cons class_certificates c more))
    (both_all (λ o. f o ≡ None → ⊥) (class_certificates c) (flat_map class_certificates more) (class_read f c p.0 p.1) (classes_read f more q.0 q.1))

issuance_read : {D : Type 0} (f : List ℕ → Option D) (i : IssuanceOf (List ℕ)) (read : IssuanceOf D) → issuance_by f i ≡ Some read
    → AllByRecursion (λ o. f o ≡ None → ⊥) (i.issued_cert.cert ∷ i.signing_cert.cert ∷ [])
unfolding issuance_by
issuance_read f i read e =
    let p = then_some (issued_by f i.issued_cert) _ read e in
    let q = then_some (signing_by f i.signing_cert) _ read p.2 in
    (issued_read i.issued_cert f p.0 p.1, (signing_read i.signing_cert f q.0 q.1, tt))

certificates_read : (s : PayloadShape) (p : Payload) → payload_of_shape s ≡ Some p → AllByRecursion IsRead (certificates_of s)
unfolding payload_of_shape
certificates_read shape.List p e = tt
certificates_read (shape.ListResponse classes) p e = let q = then_some (read_all (class_by certificate_of) classes) _ p e in classes_read certificate_of classes q.0 q.1
certificates_read (shape.Issue request) p e = tt
certificates_read (shape.IssueResponse response) p e = let q = then_some (issuance_by certificate_of response) _ p e in issuance_read certificate_of response q.0 q.1
certificates_read (shape.Revoke request) p e = tt
certificates_read (shape.RevokeResponse response) p e = tt
certificates_read (shape.ErrorResponse response) p e = tt

asked_read : (a : AskedOf (List ℕ)) {D : Type 0} (f : List ℕ → Option D) (b : AskedOf D) → asked_by f a ≡ Some b → f a.csr ≡ None → ⊥
unfolding asked_by
asked_read a f b e = let p = then_some (f a.csr) _ b e in some_read (f a.csr) p.0 p.1

same_request : (a b : List ℕ) → ◌≡◌ {A = Option (List ℕ)} (Some a) (Some b) → request_of b ≡ None → request_of a ≡ None
same_request a b e n = cc

request_read : (s : PayloadShape) (p : Payload) (r : List ℕ) → payload_of_shape s ≡ Some p → request_in_shape s ≡ Some r → request_of r ≡ None → ⊥
unfolding payload_of_shape
request_read shape.List p r e i n = none_some r i
request_read (shape.ListResponse classes) p r e i n = none_some r i
request_read (shape.Issue request) p r e i n =
    let q = then_some (asked_by request_of request) _ p e in
    asked_read request request_of q.0 q.1 (same_request request.csr r i n)
request_read (shape.IssueResponse response) p r e i n = none_some r i
request_read (shape.Revoke request) p r e i n = none_some r i
request_read (shape.RevokeResponse response) p r e i n = none_some r i
request_read (shape.ErrorResponse response) p r e i n = none_some r i

not_both : (s : PayloadShape) (r : List ℕ) → request_in_shape s ≡ Some r → Any (λ o. certificate_of o ≡ None) (certificates_of s) → ⊥
not_both shape.List r i a = none_some r i
not_both (shape.ListResponse classes) r i a = none_some r i
not_both (shape.Issue request) r i a = none_any (λ o. certificate_of o ≡ None) [] tt a
not_both (shape.IssueResponse response) r i a = none_some r i
not_both (shape.Revoke request) r i a = none_some r i
not_both (shape.RevokeResponse response) r i a = none_some r i
not_both (shape.ErrorResponse response) r i a = none_some r i

-- ---- messages

pub one_shape : (octets : List ℕ) (s t : MessageShape) → HasShape octets s → HasShape octets t → s ≡ t
one_shape octets s t h k = one_message shape_in octets s t h k

-- the shape of a message that is read, and that the message is read of it
record IsOfShape (octets : List ℕ) (m : MessageFields) : Type 0 where
  shape' : MessageShape
  has : HasShape octets shape'
  read : message_of_shape shape' ≡ Some m

of_shape : (octets : List ℕ) (m : MessageFields) → Reads octets m → IsOfShape octets m
unfolding message_of
of_shape octets m r =
    let p = then_some (shape_in r.element) message_of_shape m r.message in
    record { shape' = p.0; has = record { element = r.element; document = r.document; message = p.1 }; read = p.2 }

-- each shape of the octets of a message is read
payload_read : (octets : List ℕ) (m : MessageFields) (s : MessageShape) → Reads octets m → HasShape octets s → (p : Payload) × (payload_of_shape s.payload ≡ Some p)
unfolding message_of_shape
payload_read octets m s r h =
    let o = of_shape octets m r in
    let same = one_shape octets o.shape' s o.has h in
    let q = then_some (payload_of_shape s.payload) _ m (sym (ap message_of_shape same) ∙ o.read) in
    (q.0, q.1)

pub message : (octets : List ℕ) (m : MessageFields) → Reads octets m → HasNoShape octets → ⊥
message octets m r n = let o = of_shape octets m r in n o.shape' o.has

pub form : (octets : List ℕ) (s : MessageShape) → HasShape octets s → HasNoShape octets → ⊥
form octets s h n = n s h

pub certificate : (octets : List ℕ) (m : MessageFields) → Reads octets m → HoldsNoCertificate octets → ⊥
certificate octets m r h =
    let p = payload_read octets m h.shape r h.has in
    none_any (λ o. certificate_of o ≡ None) (certificates_of h.shape.payload) (certificates_read h.shape.payload p.0 p.1) h.unread

pub request : (octets : List ℕ) (m : MessageFields) → Reads octets m → HoldsNoRequest octets → ⊥
request octets m r h =
    let p = payload_read octets m h.shape r h.has in
    request_read h.shape.payload p.0 h.request p.1 h.is h.unread

pub faults : (octets : List ℕ) → HoldsNoCertificate octets → HoldsNoRequest octets → ⊥
faults octets c h =
    let same = one_shape octets c.shape h.shape c.has h.has in
    not_both h.shape.payload h.request h.is (subst (λ (s : MessageShape). Any (λ o. certificate_of o ≡ None) (certificates_of s.payload)) same c.unread)
