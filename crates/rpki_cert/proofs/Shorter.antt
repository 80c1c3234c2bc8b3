-- What is written of a value is no longer than any octets in DER that it was read of.
use Rattle.std.specs.Prelude.{nat_lt, if◌then◌else◌, is_some, bytes_eq}
use Rattle.std.proofs.Common.{◌≡◌, ℕ, suc, ◌+◌, ◌<◌, ◌≤◌, Bool, true, false, Option, None, Some, List, [], ◌∷◌, ◌++◌, length, length-append, refl, sym, ap, subst, ◌∙◌, arith}
use Rattle.std.proofs.lemmas.Bool.{ltb-false}
use Rattle.std.proofs.lemmas.List.{append-nil}
use Rattle.base64.specs.GeneralPurpose.{IsBytes}
use Rattle.base64.proofs.EngineFacts.{front_bytes}
use Rattle.rpki_common.specs.Chaining.{◌>>=◌}
use Rattle.rpki_common.proofs.Bounds.{bound}
use Rattle.rpki_common.proofs.Truths.{none_some, same_some, same_octets}
use Rattle.rpki_der.specs.declared.mode.Mode.{Mode}
use Rattle.rpki_der.specs.declared.mode.Mode.TheVariants.{Der}
use Rattle.rpki_der.specs.Bits.{BitFields, bits, bit_string}
use Rattle.rpki_der.specs.Grammar.{primitive, within, first, optional, so}
use Rattle.rpki_der.specs.Held.{with_octets}
use Rattle.rpki_der.specs.Identifier.{has_tag, tag_of}
use Rattle.rpki_der.specs.Lengths.{IsLength}
use Rattle.rpki_der.specs.Null.{null}
use Rattle.rpki_der.specs.Oid.{oid}
use Rattle.rpki_der.specs.Tags.{sequence, null_tag, oid_tag, bit_string_tag}
use Rattle.rpki_der.specs.Takes.{BeginsAs}
use Rattle.rpki_der.specs.Value.{Form, Definite, Indefinite, Value, Primitive, Constructed, Values, End, ◌▸◌, lengths_of, end_mark, spelling, spellings, IsValue, AreValues}
use Rattle.rpki_der.specs.Whole.{alone, whole_of}
use Rattle.rpki_der.specs.Writing.{der_length, with_bit_6, der_primitive, der_constructed}
use Rattle.rpki_der.proofs.Firsts.{first_is, done_is}
use Rattle.rpki_der.proofs.Flats.{alone_only}
use Rattle.rpki_base.specs.AlgorithmIdentifier.{algorithm_identifier, spelled_identifier}
use Rattle.rpki_base.specs.Bits.{spelled_bits}
use Rattle.rpki_base.specs.ObjectIdentifiers.{sha256_with_rsa}
use Rattle.rpki_base.specs.RpkiSignatureAlgorithm.{RpkiAlgorithm, x509_meaning, x509_algorithm, spelled_x509}
use Rattle.rpki_base.specs.Signature.{SignatureParts}
use Rattle.rpki_base.specs.SignedData.{SignedParts, Signed, algorithm_in, signature_in, signed_as, signed_fields, signed_value, spelled_parts, spelled_data, CanSpellSigned}
use Rattle.rpki_base.specs.WritingLaws.{length-der_length}
use Rattle.rpki_cert.specs.Csr.{request_info, certification_request}
use Rattle.rpki_cert.specs.CsrAttributes.{ca_attributes}
use Rattle.rpki_cert.specs.Making.{CaRequest}

-- ---- length octets

at_most : (b : Bool) (x y : List ℕ) (k : ℕ) → (b ≡ true → length x ≤ k) → (b ≡ false → length y ≤ k) → length (if b then x else y) ≤ k
at_most true x y k f g = f refl
at_most false x y k f g = g refl

in_one : (n : ℕ) → n < 128 → length (der_length n) ≤ 1
in_one n h = at_most (nat_lt n 128) _ _ 1 (λ t. omega arith) (λ f. absurd (omega (arith, ltb-false n 128 f)))

in_two : (n : ℕ) → n < 256 → length (der_length n) ≤ 2
in_two n h =
    at_most (nat_lt n 128) _ _ 2 (λ t. omega arith) (λ a.
    at_most (nat_lt n 256) _ _ 2 (λ t. omega arith) (λ f. absurd (omega (arith, ltb-false n 256 f))))

in_three : (n : ℕ) → n < 65536 → length (der_length n) ≤ 3
in_three n h =
    at_most (nat_lt n 128) _ _ 3 (λ t. omega arith) (λ a.
    at_most (nat_lt n 256) _ _ 3 (λ t. omega arith) (λ b.
    at_most (nat_lt n 65536) _ _ 3 (λ t. omega arith) (λ f. absurd (omega (arith, ltb-false n 65536 f)))))

in_four : (n : ℕ) → n < 16777216 → length (der_length n) ≤ 4
in_four n h =
    at_most (nat_lt n 128) _ _ 4 (λ t. omega arith) (λ a.
    at_most (nat_lt n 256) _ _ 4 (λ t. omega arith) (λ b.
    at_most (nat_lt n 65536) _ _ 4 (λ t. omega arith) (λ d.
    at_most (nat_lt n 16777216) _ _ 4 (λ t. omega arith) (λ f. absurd (omega (arith, ltb-false n 16777216 f))))))

-- the written length octets of a number are no more than the length octets of one that is no less
pub lengths_no_longer : (mode : Mode) (lengths : List ℕ) (m n : ℕ) → IsLength mode lengths n → IsBytes lengths → m ≤ n → length (der_length m) ≤ length lengths
lengths_no_longer mode [] m n p h le = absurd p
lengths_no_longer mode (a ∷ []) m n p h le = in_one m (omega (arith, p.0, p.1))
lengths_no_longer mode (a ∷ b ∷ []) m n p h le = let x : b < 256 = h 1 in in_two m (omega (arith, p.2))
lengths_no_longer mode (a ∷ b ∷ c ∷ []) m n p h le = let x : b < 256 = h 1 in let y : c < 256 = h 2 in in_three m (omega (arith, p.2))
lengths_no_longer mode (a ∷ b ∷ c ∷ d ∷ []) m n p h le = let x : b < 256 = h 1 in let y : c < 256 = h 2 in let z : d < 256 = h 3 in in_four m (omega (arith, p.2))
lengths_no_longer mode (a ∷ b ∷ c ∷ d ∷ e ∷ more) m n p h le = omega (arith, length-der_length m)

-- they say a number of four octets at most
pub lengths_below : (mode : Mode) (lengths : List ℕ) (n : ℕ) → IsLength mode lengths n → IsBytes lengths → n < 4294967296
lengths_below mode [] n p h = absurd p
lengths_below mode (a ∷ []) n p h = omega (arith, p.0, p.1)
lengths_below mode (a ∷ b ∷ []) n p h = let x : b < 256 = h 1 in omega (arith, p.2)
lengths_below mode (a ∷ b ∷ c ∷ []) n p h = let x : b < 256 = h 1 in let y : c < 256 = h 2 in omega (arith, p.2)
lengths_below mode (a ∷ b ∷ c ∷ d ∷ []) n p h = let x : b < 256 = h 1 in let y : c < 256 = h 2 in let z : d < 256 = h 3 in omega (arith, p.2)
lengths_below mode (a ∷ b ∷ c ∷ d ∷ e ∷ []) n p h = let x : b < 256 = h 1 in let y : c < 256 = h 2 in let z : d < 256 = h 3 in let w : e < 256 = h 4 in omega (arith, p.2)
lengths_below mode (a ∷ b ∷ c ∷ d ∷ e ∷ f ∷ more) n p h = omega (arith, p.1)

-- ---- octets of parts

pub back_bytes : (a b : List ℕ) → IsBytes (a ++ b) → IsBytes b
back_bytes [] b h = h
back_bytes (x ∷ a) b h = back_bytes a b (λ i. h (suc i))

-- the second of three parts
mid_bytes : (a b c : List ℕ) → IsBytes (a ++ (b ++ c)) → IsBytes b
mid_bytes a b c h = front_bytes b c (back_bytes a (b ++ c) h)

-- ---- values

length-tag_of : (i : List ℕ) → length (tag_of i) ≡ length i
length-tag_of [] = refl
length-tag_of (a ∷ more) = refl

length-with_bit_6 : (i : List ℕ) → length (with_bit_6 i) ≡ length i
length-with_bit_6 [] = refl
length-with_bit_6 (a ∷ more) = refl

length-tagged : (tag i : List ℕ) → has_tag tag i ≡ true → length i ≡ length tag
length-tagged tag i t = sym (length-tag_of i) ∙ ap length (same_octets (tag_of i) tag t)

holds : {X : Type 0} (b : Bool) (o : Option X) (x : X) → (if b then o else None) ≡ Some x → (b ≡ true) × (o ≡ Some x)
holds true o x e = (refl, e)
holds false o x e = absurd (none_some x e)

spelled_in : (tag c i l d : List ℕ) → length i ≡ length tag → length (der_length (length c)) ≤ length l → length c ≤ length d → length (tag ++ (der_length (length c) ++ c)) ≤ length (i ++ (l ++ d))
spelled_in tag c i l d e f g = omega (arith, length-append tag (der_length (length c) ++ c), length-append (der_length (length c)) c, length-append i (l ++ d), length-append l d)

-- with contents that are no longer than those that were read
pub primitive_no_longer : (mode : Mode) (tag : List ℕ) (v : Value) (c d : List ℕ) → IsValue mode v → IsBytes (spelling v) → primitive tag v ≡ Some c → length d ≤ length c
    → length (der_primitive tag d) ≤ length (spelling v)
primitive_no_longer mode tag (Primitive i l x) c d p h e le =
    let t = holds (has_tag tag i) (Some x) c e in
    let is : length x ≡ length c = ap length (same_some x c t.1) in
    let short : length d ≤ length x = omega arith in
    spelled_in tag d i l x (length-tagged tag i t.0) (lengths_no_longer mode l (length d) (length x) p.2 (mid_bytes i l x h) short) short
primitive_no_longer mode tag (Constructed i f vs) c d p h e le = absurd (none_some c e)

constructed_spelled : (tag c i l d : List ℕ) → has_tag tag i ≡ true → IsLength Der l (length d) → IsBytes (i ++ (l ++ (d ++ []))) → length c ≤ length d
    → length (der_constructed tag c) ≤ length (i ++ (l ++ (d ++ [])))
constructed_spelled tag c i l d t p h le =
    let lengths = lengths_no_longer Der l (length c) (length d) p (mid_bytes i l (d ++ []) h) le in
    spelled_in (with_bit_6 tag) c i l (d ++ []) (length-tagged tag i t ∙ sym (length-with_bit_6 tag)) lengths (omega (arith, length-append d []))

pub constructed_no_longer : (tag c i : List ℕ) (f : Form) (vs : Values) → IsValue Der (Constructed i f vs) → IsBytes (spelling (Constructed i f vs)) → has_tag tag i ≡ true
    → length c ≤ length (spellings vs) → length (der_constructed tag c) ≤ length (spelling (Constructed i f vs))
constructed_no_longer tag c i (Definite l) vs p h t le = constructed_spelled tag c i l (spellings vs) t p.2 h le
constructed_no_longer tag c i Indefinite vs p h t le = absurd p.2

pub contents_below : (i : List ℕ) (f : Form) (vs : Values) → IsValue Der (Constructed i f vs) → IsBytes (spelling (Constructed i f vs)) → length (spellings vs) < 4294967296
contents_below i (Definite l) vs p h = lengths_below Der l (length (spellings vs)) p.2 (mid_bytes i l (spellings vs ++ []) h)
contents_below i Indefinite vs p h = absurd p.2

inner_bytes : (i : List ℕ) (f : Form) (vs : Values) → IsBytes (spelling (Constructed i f vs)) → IsBytes (spellings vs)
inner_bytes i f vs h = front_bytes (spellings vs) (end_mark f) (back_bytes (lengths_of f) (spellings vs ++ end_mark f) (back_bytes i (lengths_of f ++ (spellings vs ++ end_mark f)) h))

-- ---- the first of several values

pub record Front (vs : Values) (v : Value) (more : Values) : Type 0 where
  pub lawful : IsValue Der v
  pub others : AreValues Der more
  pub bytes : IsBytes (spelling v)
  pub other_bytes : IsBytes (spellings more)
  pub count : length (spellings vs) ≡ length (spelling v) + length (spellings more)

front_of : (v : Value) (more : Values) → AreValues Der (v ▸ more) → IsBytes (spelling v ++ spellings more) → Front (v ▸ more) v more
front_of v more p h = record {
  lawful = p.0;
  others = p.1;
  bytes = front_bytes (spelling v) (spellings more) h;
  other_bytes = back_bytes (spelling v) (spellings more) h;
  count = length-append (spelling v) (spellings more);
}

front : (vs : Values) (v : Value) (more : Values) → vs ≡ v ▸ more → AreValues Der vs → IsBytes (spellings vs) → Front vs v more
front vs v more e p h =
    subst (λ us. Front us v more) (sym e) (front_of v more (subst (AreValues Der) e p) (subst (λ us. IsBytes (spellings us)) e h))

-- ---- the values of a request

oid_contents : (v : Value) (name : List ℕ) → oid v ≡ Some name → primitive oid_tag v ≡ Some name
unfolding oid so
oid_contents v name e =
    let b = bound (primitive oid_tag v) _ name e in
    b.found ∙ (holds _ (Some b.x) name b.then').1

null_contents : (v : Value) (u : Unit {0}) → null v ≡ Some u → primitive null_tag v ≡ Some []
unfolding null
null_contents (Primitive i l []) u e = rw ((holds (has_tag null_tag i) (Some tt) u e).0) refl
null_contents (Primitive i l (a ∷ more)) u e = absurd (none_some u e)
null_contents (Constructed i f vs) u e = absurd (none_some u e)

bits_count : (c : List ℕ) (b : BitFields) → bits c ≡ Some b → length c ≡ length b.octets + 1
bits_count [] b e = absurd (none_some b e)
bits_count (a ∷ []) b e = let s : 0 ≡ length b.octets = ap (λ (k : BitFields). length k.octets) (same_some _ b (holds _ _ b e).1) in omega arith
bits_count (a ∷ c ∷ more) b e = let s : length (c ∷ more) ≡ length b.octets = ap (λ (k : BitFields). length k.octets) (same_some _ b (holds _ _ b e).1) in omega arith

bits_no_longer : (v : Value) (b : BitFields) → IsValue Der v → IsBytes (spelling v) → bit_string v ≡ Some b → length (spelled_bits b.octets) ≤ length (spelling v)
unfolding bit_string so
bits_no_longer v b p h e =
    let c = bound (primitive bit_string_tag v) bits b e in
    let n = bits_count c.x b c.then' in
    primitive_no_longer Der bit_string_tag v c.x (0 ∷ b.octets) p h c.found (omega arith)

-- ---- its algorithm

abbrev spelled_parameter : Bool → List ℕ
spelled_parameter true = der_primitive null_tag []
spelled_parameter false = []

parameter_there : (v : Value) (vs : Values) (q : Option (Unit {0}) × Values) → Front (v ▸ vs) v vs → (null v >>= λ u. Some (Some u, vs)) ≡ Some q
    → length (spelled_parameter (is_some q.0)) ≤ length (spellings (v ▸ vs))
parameter_there v vs q r e =
    let b = bound (null v) (λ u. Some (Some u, vs)) q e in
    let is : true ≡ is_some q.0 = ap (λ (k : Option (Unit {0}) × Values). is_some k.0) (same_some _ q b.then') in
    let short : length (spelled_parameter true) ≤ length (spelling v) = primitive_no_longer Der null_tag v [] [] r.lawful r.bytes (null_contents v b.x b.found) (omega arith) in
    rw (← is) (omega (arith, r.count))

parameter_not_there : (vs us : Values) (q : Option (Unit {0}) × Values) → ◌≡◌ {A = Option (Option (Unit {0}) × Values)} (Some (None, us)) (Some q)
    → length (spelled_parameter (is_some q.0)) ≤ length (spellings vs)
parameter_not_there vs us q e =
    let is : false ≡ is_some q.0 = ap (λ (k : Option (Unit {0}) × Values). is_some k.0) (same_some _ q e) in
    rw (← is) (omega arith)

parameter_by : (b : Bool) (v : Value) (vs : Values) (q : Option (Unit {0}) × Values) → Front (v ▸ vs) v vs → (if b then (null v >>= λ u. Some (Some u, vs)) else Some (None, v ▸ vs)) ≡ Some q
    → length (spelled_parameter (is_some q.0)) ≤ length (spellings (v ▸ vs))
parameter_by true v vs q r e = parameter_there v vs q r e
parameter_by false v vs q r e = parameter_not_there (v ▸ vs) (v ▸ vs) q e

parameter_within : (vs : Values) (q : Option (Unit {0}) × Values) → AreValues Der vs → IsBytes (spellings vs) → optional null_tag null vs ≡ Some q
    → length (spelled_parameter (is_some q.0)) ≤ length (spellings vs)
unfolding optional
parameter_within End q p h e = parameter_not_there End End q e
parameter_within (v ▸ vs) q p h e = parameter_by _ v vs q (front_of v vs p h) e

identifier_spelled : (name i : List ℕ) (parameter : Bool) (f : Form) (vs : Values) → IsValue Der (Constructed i f vs) → IsBytes (spelling (Constructed i f vs)) → has_tag sequence i ≡ true
    → length (der_primitive oid_tag name ++ spelled_parameter parameter) ≤ length (spellings vs)
    → length (spelled_identifier name parameter) ≤ length (spelling (Constructed i f vs))
identifier_spelled name i true f vs p h t le = constructed_no_longer sequence (der_primitive oid_tag name ++ der_primitive null_tag []) i f vs p h t le
identifier_spelled name i false f vs p h t le = constructed_no_longer sequence (der_primitive oid_tag name) i f vs p h t (omega (arith, length-append (der_primitive oid_tag name) []))

pub identifier_no_longer : (v : Value) (a : List ℕ × Bool) → IsValue Der v → IsBytes (spelling v) → algorithm_identifier v ≡ Some a → length (spelled_identifier a.0 a.1) ≤ length (spelling v)
unfolding algorithm_identifier within
identifier_no_longer (Primitive i l c) a p h e = absurd (none_some a e)
identifier_no_longer (Constructed i f vs) a p h e =
    let t = holds (has_tag sequence i) _ a e in
    let n = bound (first oid vs) _ a t.1 in
    let q = bound (optional null_tag null n.x.1) _ a n.then' in
    let is = done_is _ a q.x.1 q.then' in
    let o = first_is oid vs n.x n.found in
    let r = front vs o.value n.x.1 o.parts p.3 (inner_bytes i f vs h) in
    let name : length (der_primitive oid_tag n.x.0) ≤ length (spelling o.value) =
    primitive_no_longer Der oid_tag o.value n.x.0 n.x.0 r.lawful r.bytes (oid_contents o.value n.x.0 o.reads) (omega arith) in
    let parameter = parameter_within n.x.1 q.x r.others r.other_bytes q.found in
    let parts : length (der_primitive oid_tag n.x.0 ++ spelled_parameter (is_some q.x.0)) ≤ length (spellings vs) =
    omega (arith, r.count, length-append (der_primitive oid_tag n.x.0) (spelled_parameter (is_some q.x.0))) in
    subst (λ (k : List ℕ × Bool). length (spelled_identifier k.0 k.1) ≤ length (spelling (Constructed i f vs))) is (identifier_spelled n.x.0 i (is_some q.x.0) f vs p h t.0 parts)

meant : (y : List ℕ × Bool) (a : RpkiAlgorithm) → x509_meaning y ≡ Some a → spelled_identifier y.0 y.1 ≡ spelled_x509 a
meant y a e =
    let t = holds (bytes_eq y.0 sha256_with_rsa) _ a e in
    let name : y.0 ≡ sha256_with_rsa = same_octets y.0 sha256_with_rsa t.0 in
    let null' : y.1 ≡ a.null = ap (λ (k : RpkiAlgorithm). k.null) (same_some _ a t.1) in
    rw (name, null') refl

x509_value : (v : Value) (a : RpkiAlgorithm) → IsValue Der v → IsBytes (spelling v) → x509_algorithm v ≡ Some a → length (spelled_x509 a) ≤ length (spelling v)
unfolding x509_algorithm so
x509_value v a p h e =
    let b = bound (algorithm_identifier v) x509_meaning a e in
    subst (λ o. length o ≤ length (spelling v)) (meant b.x a b.then') (identifier_no_longer v b.x p h b.found)

pub x509_no_longer : (octets : List ℕ) (a : RpkiAlgorithm) → IsBytes octets → whole_of x509_algorithm Der octets ≡ Some a → length (spelled_x509 a) ≤ length octets
unfolding whole_of
x509_no_longer octets a h e =
    let b = bound (alone Der octets) x509_algorithm a e in
    let w = alone_only Der octets b.x b.found in
    let is : octets ≡ spelling b.x = w.parts ∙ append-nil (spelling b.x) in
    rw is (x509_value b.x a w.lawful (subst IsBytes is h) b.then')

-- ---- the request

-- what is written of an algorithm is no longer than octets that are read as it
abbrev pub AreShort : {A : Type 0} → (Mode → List ℕ → Option A) → (A → List ℕ) → Type 0
AreShort {A} reads spelled = (octets : List ℕ) (a : A) → IsBytes octets → reads Der octets ≡ Some a → length (spelled a) ≤ length octets

held_slice : {T : Type 0} (grammar : Value → Option T) (v : Value) (p : List ℕ × T) → with_octets grammar v ≡ Some p → p.0 ≡ spelling v
unfolding with_octets
held_slice {T} grammar v p e =
    let b = bound (grammar v) _ p e in
    sym (ap (λ (q : List ℕ × T). q.0) (same_some _ p b.then'))

signature_within : {A : Type 0} (reads : Mode → List ℕ → Option A) (spelled : A → List ℕ) (vs : Values) (s : SignatureParts A) → AreShort reads spelled → AreValues Der vs → IsBytes (spellings vs)
    → signature_in reads Der vs ≡ Some s
    → length (spelled s.algorithm ++ spelled_bits s.value) ≤ length (spellings vs)
unfolding signature_in so ◌>>=◌
signature_within {A} reads spelled vs s short p h e =
    let a = bound (first (algorithm_in reads Der) vs) _ s e in
    let b = bound (first bit_string a.x.1) _ s a.then' in
    let is = done_is _ s b.x.1 b.then' in
    let o = first_is (algorithm_in reads Der) vs a.x a.found in
    let r = front vs o.value a.x.1 o.parts p h in
    let k = first_is bit_string a.x.1 b.x b.found in
    let t = front a.x.1 k.value b.x.1 k.parts r.others r.other_bytes in
    let algorithm : length (spelled a.x.0) ≤ length (spelling o.value) = short (spelling o.value) a.x.0 r.bytes o.reads in
    let bits' : length (spelled_bits b.x.0.octets) ≤ length (spelling k.value) = bits_no_longer k.value b.x.0 t.lawful t.bytes k.reads in
    let all : length (spelled a.x.0 ++ spelled_bits b.x.0.octets) ≤ length (spellings vs) = omega (arith, r.count, t.count, length-append (spelled a.x.0) (spelled_bits b.x.0.octets)) in
    subst (λ (q : SignatureParts A). length (spelled q.algorithm ++ spelled_bits q.value) ≤ length (spellings vs)) is all

parts_within : {A T : Type 0} (tbs : Mode → Value → Option T) (reads : Mode → List ℕ → Option A) (spelled : A → List ℕ) (vs : Values) (c : Signed A T) → AreShort reads spelled → AreValues Der vs
    → IsBytes (spellings vs)
    → (first (with_octets (tbs Der)) vs >>= λ held. signature_in reads Der held.1 >>= λ s. Some (signed_fields held.0 s)) ≡ Some c → length (spelled_parts spelled c.signed) ≤ length (spellings vs)
parts_within {A} {T} tbs reads spelled vs c short p h e =
    let a = bound (first (with_octets (tbs Der)) vs) _ c e in
    let s = bound (signature_in reads Der a.x.1) _ c a.then' in
    let is = same_some _ c s.then' in
    let o = first_is (with_octets (tbs Der)) vs a.x a.found in
    let r = front vs o.value a.x.1 o.parts p h in
    let slice : length a.x.0.0 ≡ length (spelling o.value) = ap length (held_slice (tbs Der) o.value a.x.0 o.reads) in
    let signature = signature_within reads spelled a.x.1 s.x short r.others r.other_bytes s.found in
    let all : length (a.x.0.0 ++ (spelled s.x.algorithm ++ spelled_bits s.x.value)) ≤ length (spellings vs) =
    omega (arith, r.count, length-append a.x.0.0 (spelled s.x.algorithm ++ spelled_bits s.x.value)) in
    subst (λ (q : Signed A T). length (spelled_parts spelled q.signed) ≤ length (spellings vs)) is all

-- what is written of signed data is no longer than this, and can be written
pub record IsNoLonger {A : Type 0} (spelled : A → List ℕ) (d : SignedParts A) (n : ℕ) : Type 0 where
  pub count : length (spelled_data spelled d) ≤ n
  pub can : CanSpellSigned spelled d

pub signed_no_longer : {A T : Type 0} (tbs : Mode → Value → Option T) (reads : Mode → List ℕ → Option A) (spelled : A → List ℕ) (v : Value) (c : Signed A T) → AreShort reads spelled → IsValue Der v
    → IsBytes (spelling v) → signed_value tbs reads Der v ≡ Some c → IsNoLonger spelled c.signed (length (spelling v))
unfolding signed_value signed_as within
signed_no_longer tbs reads spelled (Primitive i l d) c short p h e = absurd (none_some c e)
signed_no_longer tbs reads spelled (Constructed i f vs) c short p h e =
    let t = holds (has_tag sequence i) _ c e in
    let le = parts_within tbs reads spelled vs c short p.3 (inner_bytes i f vs h) t.1 in
    let below = contents_below i f vs p h in
    record { count = constructed_no_longer sequence (spelled_parts spelled c.signed) i f vs p h t.0 le; can = omega arith }

pub request_no_longer : (octets : List ℕ) (r : CaRequest) → IsBytes octets → BeginsAs (certification_request ca_attributes (whole_of x509_algorithm) Der) Der octets r
    → IsNoLonger spelled_x509 r.signed (length octets)
unfolding certification_request
request_no_longer octets r h b =
    let front' : IsBytes (spelling b.value) = front_bytes (spelling b.value) b.rest (subst IsBytes b.begins.parts h) in
    let n = signed_no_longer (request_info ca_attributes) (whole_of x509_algorithm) spelled_x509 b.value r x509_no_longer b.begins.lawful front' b.reads in
    let count : length octets ≡ length (spelling b.value ++ b.rest) = ap length b.begins.parts in
    record { count = omega (arith, n.count, length-append (spelling b.value) b.rest); can = n.can }

pub request_length : (octets : List ℕ) (r : CaRequest) → IsBytes octets → BeginsAs (certification_request ca_attributes (whole_of x509_algorithm) Der) Der octets r
    → length (spelled_data spelled_x509 r.signed) ≤ length octets
request_length octets r h b = (request_no_longer octets r h b).count

pub request_spelled : (octets : List ℕ) (r : CaRequest) → IsBytes octets → BeginsAs (certification_request ca_attributes (whole_of x509_algorithm) Der) Der octets r
    → CanSpellSigned spelled_x509 r.signed
request_spelled octets r h b = (request_no_longer octets r h b).can
