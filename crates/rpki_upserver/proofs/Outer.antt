-- An identity certificate is read as a resource certificate too, with the same key.
use Rattle.std.proofs.Common.{◌≡◌, ℕ, Bool, true, false, if◌then◌else◌, Option, None, Some, Result, Ok, Err, List, [], refl, sym, ap, subst, ◌∙◌}
use Rattle.std.specs.Prelude.{IsErrOf}
use Rattle.std.proofs.lemmas.List.{append-nil}
use Rattle.rpki_common.specs.Chaining.{◌>>=◌}
use Rattle.rpki_common.proofs.Bounds.{bound}
use Rattle.rpki_der.specs.declared.mode.Mode.{Mode}
use Rattle.rpki_der.specs.declared.mode.Mode.TheVariants.{Der}
use Rattle.rpki_der.specs.declared.error.DecodeError.{DecodeError}
use Rattle.rpki_der.specs.declared.error.DecodeError.TheVariants.{Malformed, OutOfMemory}
use Rattle.rpki_der.specs.Takes.{BeginsAs, Decodes, RefusesOctets}
use Rattle.rpki_der.proofs.Parts.{at_most_one}
use Rattle.rpki_der.specs.Grammar.{done, first, within, wrapped}
use Rattle.rpki_der.specs.Held.{with_octets}
use Rattle.rpki_der.specs.Identifier.{has_tag}
use Rattle.rpki_der.specs.Tags.{context, sequence}
use Rattle.rpki_der.specs.Value.{Constructed, End, Primitive, Value, Values, spelling, ◌▸◌}
use Rattle.rpki_der.specs.Whole.{whole_of}
use Rattle.rpki_base.specs.PublicKey.{KeyFields}
use Rattle.rpki_base.specs.RpkiSignatureAlgorithm.{spelled_x509, x509_algorithm}
use Rattle.rpki_base.specs.SignedData.{CanSpellSigned, signature_in, spelled_data, signed_as, signed_fields, signed_value}
use Rattle.rpki_idcert.specs.Extensions.{KnownExtensions, extension_list}
use Rattle.rpki_idcert.specs.IdCert.{CertificateFields, identity_certificate}
use Rattle.rpki_idcert.specs.Making.{IsReadAgain}
use Rattle.rpki_idcert.specs.TbsIdCert.{TbsFields, tbs_certificate as tbs_identity}
use Rattle.rpki_cert.specs.Cert.{CertFields, certificate, tbs_certificate, unread_extensions, what_is_signed}
use Rattle.rpki_der.proofs.Firsts.{done_is}

-- both go on from one value
step : {X Y Z R : Type 0} (o : Option X) (f : X → Option Y) (g : X → Option Z) (y : Y) (z : Z) → (o >>= f) ≡ Some y → (o >>= g) ≡ Some z → ((x : X) → f x ≡ Some y → g x ≡ Some z → R) → R
unfolding ◌>>=◌
step None f g y z h j k = cc
step (Some x) f g y z h j k = k x h j

record BothWithin {X Y : Type 0} (f : Values → Option X) (g : Values → Option Y) (x : X) (y : Y) : Type 0 where
  inner : Values
  one : f inner ≡ Some x
  other : g inner ≡ Some y

within_both : {X Y : Type 0} (tag : List ℕ) (f : Values → Option X) (g : Values → Option Y) (v : Value) (x : X) (y : Y) → within tag f v ≡ Some x → within tag g v ≡ Some y → BothWithin f g x y
unfolding within
within_both tag f g (Primitive identifier lengths contents) x y h k = cc
within_both tag f g (Constructed identifier form inner) x y h k = one (has_tag tag identifier) h k
  where
    one : (t : Bool) → (if t then f inner else None) ≡ Some x → (if t then g inner else None) ≡ Some y → BothWithin f g x y
    one true a b = record { inner = inner; one = a; other = b }
    one false a b = cc

record BothFirst {X Y A B : Type 0} (a : Value → Option A) (b : Value → Option B) (f : A × Values → Option X) (g : B × Values → Option Y) (x : X) (y : Y) : Type 0 where
  v : Value
  rest : Values
  p : A
  q : B
  first_is : a v ≡ Some p
  second_is : b v ≡ Some q
  one : f (p, rest) ≡ Some x
  other : g (q, rest) ≡ Some y

first_both : {X Y A B : Type 0} (a : Value → Option A) (b : Value → Option B) (f : A × Values → Option X) (g : B × Values → Option Y) (vs : Values) (x : X) (y : Y) → (first a vs >>= f) ≡ Some x → (first b vs >>= g) ≡ Some y → BothFirst a b f g x y
unfolding first ◌>>=◌
first_both a b f g End x y h k = cc
first_both {A = A} {B = B} a b f g (v ▸ vs) x y h k =
    let s = bound (a v >>= λ p. Some (p, vs)) f x h in
    let t = bound (b v >>= λ q. Some (q, vs)) g y k in
    let c = bound (a v) (λ p. Some (p, vs)) s.x s.found in
    let d = bound (b v) (λ q. Some (q, vs)) t.x t.found in
    let e : (c.x, vs) ≡ s.x = cc in
    let i : (d.x, vs) ≡ t.x = cc in
    record { v = v; rest = vs; p = c.x; q = d.x; first_is = c.found; second_is = d.found; one = ap f e ∙ s.then'; other = ap g i ∙ t.then' }

tbs_alike : (mode : Mode) (v : Value) (t : TbsFields) (k : KeyFields) → tbs_identity mode v ≡ Some t → tbs_certificate mode v ≡ Some k → k ≡ t.key
unfolding tbs_identity tbs_certificate
tbs_alike mode v t k h j =
    let a = within_both sequence _ _ v t k h j in
    step _ _ _ t k a.one a.other (λ version p q. step _ _ _ t k p q (λ serial p q. step _ _ _ t k p q (λ algorithm p q. step _ _ _ t k p q (λ issuer p q. step _ _ _ t k p q (λ validity p q. step _ _ _ t k p q (λ subject p q. step _ _ _ t k p q (λ key p q.
    let known = bound (first (wrapped (context 3) (extension_list mode)) key.1) _ t p in
    let unread = bound (first (wrapped (context 3) (unread_extensions mode)) key.1) _ k q in
    sym (done_is key.0 k unread.x.1 unread.then') ∙ ap (λ (f : TbsFields). f.key) (done_is _ t known.x.1 known.then'))))))))

held_with : (mode : Mode) (v : Value) (p : List ℕ × TbsFields) → with_octets (tbs_identity mode) v ≡ Some p → tbs_identity mode v ≡ Some p.1
unfolding with_octets
held_with mode v p h =
    let s = bound (tbs_identity mode v) _ p h in
    let e : Some (spelling v, s.x) ≡ Some p = s.then' in
    let f : (spelling v, s.x) ≡ p = cc in
    s.found ∙ ap (λ (q : List ℕ × TbsFields). Some q.1) f

one_key : (mode : Mode) (v : Value) (i : CertificateFields) (c : CertFields) → identity_certificate mode v ≡ Some i → certificate mode v ≡ Some c → c.key ≡ i.tbs.key
unfolding identity_certificate certificate signed_value signed_as
one_key mode v i c h j =
    let kept = bound (signed_as (tbs_certificate mode) what_is_signed (whole_of x509_algorithm) mode v) _ c j in
    let a = within_both sequence _ _ v i kept.x h kept.found in
    let b = first_both (with_octets (tbs_identity mode)) (tbs_certificate mode) _ _ a.inner i kept.x a.one a.other in
    let o = bound (signature_in (whole_of x509_algorithm) mode b.rest) _ i b.one in
    let s = bound (signature_in (whole_of x509_algorithm) mode b.rest) _ kept.x b.other in
    let w = held_with mode b.v b.p b.first_is in
    let e : Some (signed_fields b.p o.x) ≡ Some i = o.then' in
    let f : Some b.q ≡ Some kept.x = s.then' in
    let tbs : b.p.1 ≡ i.tbs = cc in
    let key : b.q ≡ kept.x = cc in
    let held : kept.x ≡ c.key = cc in
    sym held ∙ sym key ∙ tbs_alike mode b.v b.p.1 b.q w b.second_is ∙ ap (λ (f : TbsFields). f.key) tbs

pub same_key : (i : CertificateFields) (c : CertFields) → IsReadAgain Der i → CanSpellSigned spelled_x509 i.signed → BeginsAs (certificate Der) Der (spelled_data spelled_x509 i.signed) c → c.key ≡ i.tbs.key
same_key i c again spelled h =
    let own = subst (λ (o : List ℕ). BeginsAs (identity_certificate Der) Der o i) (append-nil (spelled_data spelled_x509 i.signed)) (again [] spelled) in
    let value : own.value ≡ h.value = (at_most_one Der (spelled_data spelled_x509 i.signed) own.value h.value own.rest h.rest own.begins h.begins).value in
    one_key Der h.value i c (subst (λ (v : Value). identity_certificate Der v ≡ Some i) value own.reads) h.reads

-- ---- an identity certificate is read as a resource certificate, whose extensions are unread

record Found {X : Type 0} (o : Option X) : Type 0 where
  x : X
  is : o ≡ Some x

step_found : {X Y Z : Type 0} (o : Option X) (f : X → Option Y) (g : X → Option Z) (y : Y) → (o >>= f) ≡ Some y → ((x : X) → f x ≡ Some y → Found (g x)) → Found (o >>= g)
unfolding ◌>>=◌
step_found None f g y h k = cc
step_found (Some x) f g y h k = k x h

then_found : {X Z : Type 0} (o : Option X) (g : X → Z) → Found o → Found (o >>= λ x. Some (g x))
unfolding ◌>>=◌
then_found None g h = let e : None ≡ Some h.x = h.is in cc
then_found (Some x) g h = record { x = g x; is = refl }

within_found : {X Y : Type 0} (tag : List ℕ) (f : Values → Option X) (g : Values → Option Y) (v : Value) (x : X) → within tag f v ≡ Some x → ((vs : Values) → f vs ≡ Some x → Found (g vs)) → Found (within tag g v)
unfolding within
within_found tag f g (Primitive identifier lengths contents) x h k = cc
within_found {Y = Y} tag f g (Constructed identifier form inner) x h k = one (has_tag tag identifier) h
  where
    one : (t : Bool) → (if t then f inner else None) ≡ Some x → Found {X = Y} (if t then g inner else None)
    one true a = k inner a
    one false a = cc

first_found : {X Y A B : Type 0} (a : Value → Option A) (b : Value → Option B) (f : A × Values → Option X) (g : B × Values → Option Y) (vs : Values) (x : X) → (first a vs >>= f) ≡ Some x → ((v : Value) (p : A) → a v ≡ Some p → Found (b v))
    → ((p : A) (q : B) (rest : Values) → f (p, rest) ≡ Some x → Found (g (q, rest))) → Found (first b vs >>= g)
unfolding first ◌>>=◌
first_found a b f g End x h there k = cc
first_found {A = A} {B = B} a b f g (v ▸ vs) x h there k =
    let s = bound (a v >>= λ p. Some (p, vs)) f x h in
    let c = bound (a v) (λ p. Some (p, vs)) s.x s.found in
    let e : (c.x, vs) ≡ s.x = cc in
    let q = there v c.x c.found in
    let r = k c.x q.x vs (ap f e ∙ s.then') in
    rw q.is (record { x = r.x; is = r.is })

done_found : {X Y : Type 0} (x z : X) (y : Y) (vs : Values) → done x vs ≡ Some z → Found (done y vs)
unfolding done
done_found x z y End h = record { x = y; is = refl }
done_found x z y (v ▸ vs) h = cc

wrapped_found : {X Y : Type 0} (tag : List ℕ) (f : Value → Option X) (g : Value → Option Y) (v : Value) (x : X) → wrapped tag f v ≡ Some x → ((v : Value) (x : X) → f v ≡ Some x → Found (g v)) → Found (wrapped tag g v)
unfolding wrapped
wrapped_found tag f g v x h k = within_found tag _ _ v x h (λ vs a. first_found f g _ _ vs x a k (λ p q rest b. done_found p x q rest b))

extensions_found : (mode : Mode) (v : Value) (x : KnownExtensions) → extension_list mode v ≡ Some x → Found (unread_extensions mode v)
unfolding extension_list unread_extensions
extensions_found mode v x h = within_found sequence _ _ v x h (λ vs a. step_found _ _ _ x a (λ all b. record { x = tt; is = refl }))

tbs_found : (mode : Mode) (v : Value) (t : TbsFields) → tbs_identity mode v ≡ Some t → Found (tbs_certificate mode v)
unfolding tbs_identity tbs_certificate
tbs_found mode v t h = within_found sequence _ _ v t h (λ vs a.
    step_found _ _ _ t a (λ version a. step_found _ _ _ t a (λ serial a. step_found _ _ _ t a (λ algorithm a. step_found _ _ _ t a (λ issuer a. step_found _ _ _ t a (λ validity a. step_found _ _ _ t a (λ subject a. step_found _ _ _ t a (λ key a.
    first_found (wrapped (context 3) (extension_list mode)) (wrapped (context 3) (unread_extensions mode)) _ _ key.1 t a
    (λ v x b. wrapped_found (context 3) _ _ v x b (extensions_found mode))
    (λ p q rest b. done_found _ t key.0 rest b)))))))))

outer_found : (mode : Mode) (v : Value) (i : CertificateFields) → identity_certificate mode v ≡ Some i → Found (certificate mode v)
unfolding identity_certificate certificate signed_value signed_as
outer_found mode v i h = then_found _ _ (within_found sequence _ _ v i h (λ vs a.
    first_found (with_octets (tbs_identity mode)) (tbs_certificate mode) _ _ vs i a
    (λ v p b. tbs_found mode v p.1 (held_with mode v p b))
    (λ p q rest b. step_found (signature_in (whole_of x509_algorithm) mode rest) _ _ i b (λ s c. record { x = _; is = refl }))))

-- what is written of a certificate that is read again isn't refused as a resource certificate
pub not_malformed : (i : CertificateFields) (r : Result CertFields DecodeError) → IsReadAgain Der i → CanSpellSigned spelled_x509 i.signed → Decodes (certificate Der) (λ c. c) Der (spelled_data spelled_x509 i.signed) r → IsErrOf r Malformed → ⊥
unfolding RefusesOctets
not_malformed i (Ok c) again spelled d e = cc
not_malformed i (Err OutOfMemory) again spelled d e = cc
not_malformed i (Err Malformed) again spelled d e =
    let own = subst (λ (o : List ℕ). BeginsAs (identity_certificate Der) Der o i) (append-nil (spelled_data spelled_x509 i.signed)) (again [] spelled) in
    let read = outer_found Der own.value i own.reads in
    let none : certificate Der own.value ≡ None = d own.value own.rest own.begins in
    let some : certificate Der own.value ≡ Some read.x = read.is in
    cc
