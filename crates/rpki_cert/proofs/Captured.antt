-- A value that was captured, and is read by its octets.
use Rattle.std.proofs.Common.{◌≡◌, ℕ, ◌+◌, ◌*◌, ◌≤◌, arith, Option, None, Some, Result, Ok, Err, List, [], refl, sym, ap, subst, ◌∙◌}
use Rattle.std.proofs.lemmas.List.{append-nil}
use Rattle.rpki_common.specs.Chaining.{◌>>=◌}
use Rattle.rpki_common.proofs.Truths.{same_some, some_none}
use Rattle.rpki_der.specs.declared.error.DecodeError.{DecodeError}
use Rattle.rpki_der.specs.declared.error.DecodeError.TheVariants.{Malformed, OutOfMemory}
use Rattle.rpki_der.specs.declared.mode.Mode.{Mode}
use Rattle.rpki_der.specs.Grammar.{any, primitive, so}
use Rattle.rpki_der.specs.Held.{with_octets, up_to}
use Rattle.rpki_der.specs.Position.{Position}
use Rattle.rpki_der.specs.Tags.{context}
use Rattle.rpki_der.specs.InDer.{CountedLacks}
use Rattle.rpki_der.specs.Takes.{Refuses, Decodes}
use Rattle.rpki_der.specs.Ticks.{left, CountedOne, CountedRefuses, TakesCounted, DecodesCounted}
use Rattle.rpki_der.specs.Value.{Value, spelling, IsValue, Begins}
use Rattle.rpki_der.specs.Whole.{IsWhole, RefusesWhole, HoldsOne, whole_of}
use Rattle.rpki_der.proofs.Counting.{takes_so, refuses_so, decodes}
use Rattle.rpki_der.proofs.Holding.{takes_with_octets, refuses_with_octets}
use Rattle.rpki_der.proofs.Leftovers.{takes_alike, refuses_alike}
use Rattle.rpki_der.proofs.Parts.{at_most_one}
use Rattle.rpki_base.specs.WritingLaws.{whole_begins}
use Rattle.rpki_base.specs.PublicKey.{KeyFields}
use Rattle.rpki_base.specs.RpkiSignatureAlgorithm.{x509_algorithm}
use Rattle.rpki_base.specs.SignedData.{signed_as}
use Rattle.rpki_cert.specs.Access.{uri_location}
use Rattle.rpki_cert.specs.Cert.{CertFields, tbs_certificate, what_is_signed, certificate}
use Rattle.rpki_der.proofs.Insides.{lacks}

spelled_begins : (mode : Mode) (v : Value) → IsValue mode v → Begins mode (spelling v) v []
spelled_begins mode v l = record { lawful = l; parts = sym (append-nil (spelling v)) }

octets_begin : (mode : Mode) (v : Value) (octets : List ℕ) → IsValue mode v → any v ≡ Some octets → Begins mode octets v []
octets_begin mode v octets l e = subst (λ o. Begins mode o v []) (same_some _ _ e) (spelled_begins mode v l)

pub captured_takes : {X : Type 0} (c : ℕ) (grammar : Value → Option X) (p q : Position) (b a : ℕ) (octets : List ℕ) (x : X) → CountedOne c any p q b a octets → IsWhole grammar p.mode octets x → CountedOne c grammar p q b a x
captured_takes c grammar p q b a octets x t w =
    let s = at_most_one p.mode octets w.value t.takes.value [] [] w.begins (octets_begin p.mode t.takes.value octets t.takes.begins.lawful t.takes.reads) in
    record {
      takes = record { value = t.takes.value; begins = t.takes.begins; reads = subst (λ v. grammar v ≡ Some x) s.value w.reads; levels = t.takes.levels; mode = t.takes.mode };
      least = t.least;
      most = t.most;
    }

most_left : (c x y b a : ℕ) → a + c * y ≤ b + c * x → a ≤ b + c * x + 8
most_left c x y b a h = omega (arith, h)

refused : {X : Type 0} (c : ℕ) (grammar : Value → Option X) (p q : Position) (b a : ℕ) (octets : List ℕ) (e : DecodeError) → CountedOne c any p q b a octets → RefusesWhole grammar p.mode octets e → Refuses grammar p e
unfolding Refuses RefusesWhole
refused c grammar p q b a octets Malformed t n = λ v rest h.
    let s = at_most_one p.mode p.here v t.takes.value rest q.here h t.takes.begins in
    rw s.value (n t.takes.value (octets_begin p.mode t.takes.value octets t.takes.begins.lawful t.takes.reads))
refused c grammar p q b a octets OutOfMemory t n = tt

pub captured_refuses : {X : Type 0} (c : ℕ) (grammar : Value → Option X) (p q : Position) (b a : ℕ) (octets : List ℕ) (e : DecodeError) → CountedOne c any p q b a octets → RefusesWhole grammar p.mode octets e → CountedRefuses c grammar p b a e
captured_refuses c grammar p q b a octets e t n = record { refuses = refused c grammar p q b a octets e t n; least = omega (arith, t.least); most = most_left c (left p) (left q) b a t.most }

pub captured_result : {X : Type 0} (c : ℕ) (grammar : Value → Option X) (mode : Mode) (p q : Position) (b a : ℕ) (octets : List ℕ) (r : Result X DecodeError) → mode ≡ p.mode → CountedOne c any p q b a octets → HoldsOne grammar (λ x. x) mode octets r → TakesCounted c grammar (λ x. x) p q b a r
captured_result c grammar mode p q b a octets (Ok x) m t w = captured_takes c grammar p q b a octets x t (subst (λ n. IsWhole grammar n octets x) m w)
captured_result c grammar mode p q b a octets (Err e) m t n = captured_refuses c grammar p q b a octets e t (subst (λ o. RefusesWhole grammar o octets e) m n)

-- no value is captured
unread : {X : Type 0} (grammar : Value → Option X) (p : Position) (e : DecodeError) → Refuses any p e → Refuses grammar p e
unfolding Refuses
unread grammar p Malformed n = λ v rest h. absurd (some_none _ (n v rest h))
unread grammar p OutOfMemory n = tt

pub uncaptured : {X : Type 0} (c : ℕ) (grammar : Value → Option X) (p : Position) (b a : ℕ) (e : DecodeError) → CountedRefuses c any p b a e → CountedRefuses c grammar p b a e
uncaptured c grammar p b a e n = record { refuses = unread grammar p e n.refuses; least = n.least; most = n.most }

-- a location
pub whole_value : {X : Type 0} (grammar : Value → Option X) (mode : Mode) (v : Value) (octets : List ℕ) → IsValue mode v → any v ≡ Some octets → whole_of grammar mode octets ≡ grammar v
whole_value grammar mode v octets l e = whole_begins grammar mode octets v (subst (λ o. Begins mode o v []) (sym (append-nil octets)) (octets_begin mode v octets l e))

pub captured_location : (p q : Position) (b a : ℕ) (octets : List ℕ) (mode : Mode) (o : Option (List ℕ)) → mode ≡ p.mode → o ≡ whole_of (primitive (context 6)) mode octets → CountedOne 1 any p q b a octets → CountedOne 1 uri_location p q b a o
captured_location p q b a octets mode o m e t = record {
  takes = record {
    value = t.takes.value;
    begins = t.takes.begins;
    reads = ap Some (sym (e ∙ ap (λ n. whole_of (primitive (context 6)) n octets) m ∙ whole_value (primitive (context 6)) p.mode t.takes.value octets t.takes.begins.lawful t.takes.reads));
    levels = t.takes.levels;
    mode = t.takes.mode;
  };
  least = t.least;
  most = t.most;
}

-- ---- nothing is there

pub lacks_at_once : {X : Type 0} (c : ℕ) (o : Option X) (octets : List ℕ) (b : ℕ) → o ≡ None → CountedLacks c o octets b b Malformed
lacks_at_once c o octets b e = record { lacks = lacks o e; least = omega arith; most = omega arith }

-- ---- what is read, seen in another way

pub takes_view : {X Y Z : Type 0} (c : ℕ) (f : Value → Option X) (g : Value → Option Y) (made : X → Y) (view : Z → X) (p q : Position) (b a : ℕ) (r : Result Z DecodeError) → ((v : Value) → so f (λ x. Some (made x)) v ≡ g v) → TakesCounted c f view p q b a r
    → TakesCounted c g (λ z. made (view z)) p q b a r
takes_view c f g made view p q b a (Ok z) h t = takes_alike c _ g p q b a _ h (takes_so c f (λ x. Some (made x)) p q b a (view z) _ t refl)
takes_view c f g made view p q b a (Err e) h n = refuses_alike c _ g p b a e h (refuses_so c f (λ x. Some (made x)) p b a e n)

-- ---- a certificate with its octets

abbrev signed_key : Mode → Value → Option KeyFields
signed_key mode = signed_as (tbs_certificate mode) what_is_signed (whole_of x509_algorithm) mode

abbrev with_slice : List ℕ × KeyFields → Option CertFields
with_slice held = Some (record { slice = held.0; key = held.1 })

cert_found : (o : Option KeyFields) (octets : List ℕ) → ((o >>= λ key. Some (octets, key)) >>= with_slice) ≡ (o >>= λ key. Some (record { slice = octets; key = key }))
unfolding ◌>>=◌
cert_found None octets = refl
cert_found (Some key) octets = refl

cert_is : (mode : Mode) (v : Value) → so (with_octets (signed_key mode)) with_slice v ≡ certificate mode v
unfolding so with_octets certificate
cert_is mode v = cert_found (signed_key mode v) (spelling v)

pub cert_taken : (mode : Mode) (p q : Position) (b a : ℕ) (key : KeyFields) (octets : List ℕ) → octets ≡ up_to p.here q.here → CountedOne 2 (signed_key mode) p q b a key → CountedOne 2 (certificate mode) p q b a (record { slice = octets; key = key })
cert_taken mode p q b a key octets e t = takes_alike 2 _ _ p q b a _ (cert_is mode) (takes_so 2 _ with_slice p q b a (octets, key) _ (takes_with_octets 2 _ p q b a key octets e t) refl)

pub cert_refused : (mode : Mode) (p : Position) (b a : ℕ) (e : DecodeError) → CountedRefuses 2 (signed_key mode) p b a e → CountedRefuses 2 (certificate mode) p b a e
cert_refused mode p b a e n = refuses_alike 2 _ _ p b a e (cert_is mode) (refuses_so 2 _ with_slice p b a e (refuses_with_octets 2 _ p b a e n))

-- ---- a value at the beginning of octets

pub decodes_counted : {X Y : Type 0} (c : ℕ) (grammar : Mode → Value → Option X) (mode : Mode) (octets : List ℕ) (p q : Position) (view : Y → X) (b a : ℕ) (r : Result Y DecodeError) → p ≡ record { mode = mode; here = octets; levels = [] } → TakesCounted c (grammar p.mode) view p q b a r → DecodesCounted c (grammar mode) view mode octets b a r
decodes_counted c grammar mode octets p q view b a r e t = decodes c (grammar mode) view mode octets p q b a r e (subst (λ (m : Mode). TakesCounted c (grammar m) view p q b a r) (ap (λ (s : Position). s.mode) e) t)

pub decodes_uncounted : {X Y : Type 0} (c : ℕ) (grammar : Value → Option X) (mode : Mode) (octets : List ℕ) (view : Y → X) (b a : ℕ) (r : Result Y DecodeError) → DecodesCounted c grammar view mode octets b a r → Decodes grammar view mode octets r
decodes_uncounted c grammar mode octets view b a (Ok y) t = t.begins
decodes_uncounted c grammar mode octets view b a (Err e) n = n.refuses

-- ---- octets that are one value, and a conversion

pub whole_some : {X Y : Type 0} (grammar : Value → Option X) (convert : X → Option Y) (mode : Mode) (octets : List ℕ) (x : X) (y : Y) → IsWhole grammar mode octets x → convert x ≡ Some y → IsWhole (so grammar convert) mode octets y
unfolding so ◌>>=◌
whole_some grammar convert mode octets x y w e = record { value = w.value; begins = w.begins; reads = rw w.reads e }

pub whole_no : {X Y : Type 0} (grammar : Value → Option X) (convert : X → Option Y) (mode : Mode) (octets : List ℕ) (x : X) → IsWhole grammar mode octets x → convert x ≡ None → RefusesWhole (so grammar convert) mode octets Malformed
unfolding RefusesWhole so ◌>>=◌
whole_no grammar convert mode octets x w e = λ v b.
    let s = at_most_one mode octets v w.value [] [] b w.begins in
    rw (s.value, w.reads) e

pub whole_refused : {X Y : Type 0} (grammar : Value → Option X) (convert : X → Option Y) (mode : Mode) (octets : List ℕ) (e : DecodeError) → RefusesWhole grammar mode octets e → RefusesWhole (so grammar convert) mode octets e
unfolding RefusesWhole so ◌>>=◌
whole_refused grammar convert mode octets Malformed n = λ v b. rw (n v b) refl
whole_refused grammar convert mode octets OutOfMemory n = tt
