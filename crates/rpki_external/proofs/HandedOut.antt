-- A message has the octets of what is read of it, each once; so the questions of it are short.
use Rattle.std.proofs.Common.{◌≡◌, ℕ, ◌+◌, ◌*◌, ◌≤◌, Option, None, Some, Ok, List, [], ◌∷◌, ◌++◌, length, map, sum_by, codes, refl, sym, ap, subst, ◌∙◌, arith, length-append}
use Rattle.std.proofs.Math.Nat.{mul-le-mul_left}
use Rattle.std.proofs.lemmas.Bool.{eqb-true}
use Rattle.std.proofs.lemmas.List.{append-nil}
use Rattle.std.proofs.lemmas.List.Concat.{flat_map-append}
use Rattle.std.proofs.lemmas.List.Sums.{sum_by-cons}
use Rattle.hex.specs.Hex.{encode_lower, lower_digits}
use Rattle.hex.proofs.HexLemmas.{length-encode_with}
use Rattle.sha2.proofs.Facts256.{length-sha256}
use Rattle.rpki_common.specs.Chaining.{◌>>=◌}
use Rattle.rpki_common.proofs.Bounds.{bound, chosen}
use Rattle.rpki_common.proofs.Truths.{none_some, same_some}
use Rattle.rpki_der.specs.declared.mode.Mode.{Mode}
use Rattle.rpki_der.specs.declared.mode.Mode.TheVariants.{Ber, Der}
use Rattle.rpki_der.specs.Bits.{BitFields, bits, bit_string}
use Rattle.rpki_der.specs.Grammar.{any, primitive, so, within, first, done, wrapped}
use Rattle.rpki_der.specs.Held.{held, with_octets}
use Rattle.rpki_der.specs.Identifier.{has_tag}
use Rattle.rpki_der.specs.InDer.{in_der}
use Rattle.rpki_der.specs.OctetString.{octets_under, octet_string}
use Rattle.rpki_der.specs.Position.{Position}
use Rattle.rpki_der.specs.Reader.{value_at, decoded}
use Rattle.rpki_der.specs.Tags.{sequence, set, context, bit_string_tag, octet_string_tag}
use Rattle.rpki_der.specs.Ticks.{nodes, CountedOne}
use Rattle.rpki_der.specs.Value.{Form, Definite, Indefinite, Value, Primitive, Constructed, Values, End, ◌▸◌, lengths_of, end_mark, spelling, spellings, IsForm, IsValue, AreValues}
use Rattle.rpki_der.specs.Whole.{whole_of}
use Rattle.rpki_der.proofs.Counting.{some_identifier, begins_left}
use Rattle.rpki_der.proofs.Decoding.{value_at-sound}
use Rattle.rpki_der.proofs.Firsts.{done_is}
use Rattle.rpki_der.proofs.Insides.{string_octets}
use Rattle.rpki_base.specs.declared.algorithm.PublicKeyFormat.{PublicKeyFormat}
use Rattle.rpki_base.specs.declared.algorithm.PublicKeyFormat.TheVariants.{Rsa, EcdsaP256}
use Rattle.rpki_base.specs.Bits.{spelled_bits}
use Rattle.rpki_base.specs.KeyIdentifier.{twenty, key_identifier_under}
use Rattle.rpki_base.specs.PublicKey.{KeyFields, public_key, spelled_algorithm, spelled_parts, spelled_key}
use Rattle.rpki_base.specs.RpkiSignatureAlgorithm.{x509_algorithm}
use Rattle.rpki_base.specs.Signature.{SignatureParts}
use Rattle.rpki_base.specs.SignedData.{Signed, signature_in, signed_as, signed_value}
use Rattle.rpki_idcert.specs.IdCert.{identity_certificate}
use Rattle.rpki_idcert.specs.TbsIdCert.{TbsFields, tbs_fields, tbs_certificate}
use Rattle.rpki_idcert.proofs.Sizes.{primitive_size, constructed_size}
use Rattle.rpki_sigmsg.specs.Attributes.{AttributeFields, signed_attributes}
use Rattle.rpki_sigmsg.specs.Beginning.{BeginsSigned}
use Rattle.rpki_sigmsg.specs.Crl.{CrlFields, revocation_list}
use Rattle.rpki_sigmsg.specs.Message.{MessageFields, ViewFields, CrlSet, crl_in_der, crl_set_of, if_any, crl_set, signed_parts, viewed_message, message_of_view, signed_message}
use Rattle.rpki_sigmsg.specs.Signer.{SignerFields, signer_info}
use Rattle.rpki_sigmsg.specs.TbsCrl.{tbs_crl}
use Rattle.rpki_sigmsg.proofs.Fields.{lawful_field}
use Rattle.rpki_ca.specs.Lines.{answer_lines}
use Rattle.rpki_external.specs.Lengths.{question_length, part_length, keys_length, handed_out, key_lines_length}
use Rattle.rpki_external.specs.Question.{QuestionFields, QuestionsFields, SignedPartFields, attributes_question, certificate_part, crl_part, message_questions}
use Rattle.rpki_external.specs.Receiving.{AreAskedOf}
use Rattle.rpki_external.specs.Running.{asked_lines, IsQuestionsAnswer}
use Rattle.rpki_external.specs.Records.{digest_of, questions_octets}
use Rattle.rpki_external.specs.Spelling.{four_words, key_line, part_line, part_name, question_line, question_lines, questions_text}

-- ---- what is read is within the octets

-- what a grammar reads of a lawful value is by this size no longer than the value
abbrev IsWithin : {X : Type 0} → Mode → (X → ℕ) → (Value → Option X) → Type 0
IsWithin {X = X} mode size grammar = (v : Value) (x : X) → IsValue mode v → grammar v ≡ Some x → size x ≤ length (spelling v)

-- what is read of lawful values is no longer than these and n octets
abbrev AreWithin : {X : Type 0} → Mode → ℕ → (X → ℕ) → (Values → Option X) → Type 0
AreWithin {X = X} mode n size fields = (vs : Values) (x : X) → AreValues mode vs → fields vs ≡ Some x → size x ≤ n + length (spellings vs)

-- a value has two octets at least
two : {X : Type 0} (mode : Mode) (grammar : Value → Option X) → IsWithin mode (λ x. 2) grammar
two mode grammar v x l e = omega (arith, begins_left mode (spelling v) v [] (record { lawful = l; parts = sym (append-nil (spelling v)) }))

-- the next field has a size, and what is read behind it is within the octets with that
next : {X Y : Type 0} (mode : Mode) (n : ℕ) (size : X → ℕ) (total : Y → ℕ) (grammar : Value → Option X) (f : X × Values → Option Y) → IsWithin mode size grammar → ((x : X) → AreWithin mode (n + size x) total (λ vs. f (x, vs))) → AreWithin mode n total (λ vs. first grammar vs >>= f)
next mode n size total grammar f g more vs y l e =
    let a = lawful_field mode grammar vs f y l e in
    let h = g a.is.value a.x.0 a.lawful a.is.reads in
    let k = more a.x.0 a.x.1 y a.rest a.then' in
    let s : length (spellings vs) ≡ length (spelling a.is.value ++ spellings a.x.1) = ap (λ (w : Values). length (spellings w)) a.is.parts in
    omega (arith, h, k, s, length-append (spelling a.is.value) (spellings a.x.1))

-- of the next field only this counts: two octets
pass : {X Y : Type 0} (mode : Mode) (n : ℕ) (total : Y → ℕ) (grammar : Value → Option X) (f : X × Values → Option Y) → ((x : X) → AreWithin mode (n + 2) total (λ vs. f (x, vs))) → AreWithin mode n total (λ vs. first grammar vs >>= f)
pass mode n total grammar f more = next mode n (λ x. 2) total grammar f (two mode grammar) more

last : {X : Type 0} (mode : Mode) (n : ℕ) (size : X → ℕ) (x : X) → size x ≤ n → AreWithin mode n size (done x)
last mode n size x h vs y l e = subst (λ y. size y ≤ n + length (spellings vs)) (done_is x y vs e) (omega (arith, h))

some_lengths : (mode : Mode) (f : Form) (n : ℕ) → IsForm mode f n → 1 ≤ length (lengths_of f)
some_lengths mode (Definite []) n p = absurd p
some_lengths mode (Definite (a ∷ l)) n p = omega arith
some_lengths mode Indefinite n p = omega arith

-- round the fields stand two octets
in_within : {X : Type 0} (mode : Mode) (size : X → ℕ) (tag : List ℕ) (fields : Values → Option X) → AreWithin mode 2 size fields → IsWithin mode size (within tag fields)
unfolding within
in_within mode size tag fields g (Primitive i l c) x p e = absurd (none_some x e)
in_within mode size tag fields g (Constructed i f vs) x p e =
    let h = g vs x p.3 (chosen (has_tag tag i) (fields vs) x e) in
    omega (arith, h, some_identifier i p.0, some_lengths mode f (length (spellings vs)) p.2, length-append i (lengths_of f ++ (spellings vs ++ end_mark f)), length-append (lengths_of f) (spellings vs ++ end_mark f), length-append (spellings vs) (end_mark f))

in_wrapped : {X : Type 0} (mode : Mode) (size : X → ℕ) (tag : List ℕ) (grammar : Value → Option X) → IsWithin mode size grammar → IsWithin mode (λ x. size x + 2) (wrapped tag grammar)
unfolding wrapped
in_wrapped mode size tag grammar g = in_within mode (λ x. size x + 2) tag _ (next mode _ size _ grammar _ g (λ x. last mode _ (λ x. size x + 2) x (omega arith)))

in_so : {X Y : Type 0} (mode : Mode) (size : X → ℕ) (total : Y → ℕ) (grammar : Value → Option X) (convert : X → Option Y) → IsWithin mode size grammar → ((x : X) (y : Y) → convert x ≡ Some y → total y ≤ size x) → IsWithin mode total (so grammar convert)
unfolding so
in_so mode size total grammar convert g f v y l e =
    let b = bound (grammar v) convert y e in
    omega (arith, g v b.x l b.found, f b.x y b.then')

with_them : {X : Type 0} (grammar : Value → Option X) (v : Value) (p : List ℕ × X) → with_octets grammar v ≡ Some p → (spelling v ≡ p.0) × (grammar v ≡ Some p.1)
unfolding with_octets
with_them {X = X} grammar v p e =
    let b = bound (grammar v) _ p e in
    let is : (spelling v, b.x) ≡ p = same_some _ _ b.then' in
    (ap (λ (q : List ℕ × X). q.0) is, b.found ∙ ap Some (ap (λ (q : List ℕ × X). q.1) is))

the_octets : {X : Type 0} (mode : Mode) (grammar : Value → Option X) → IsWithin mode (λ p. length p.0) (with_octets grammar)
the_octets mode grammar v p l e = omega (arith, ap length (with_them grammar v p e).0)

in_octets : {X : Type 0} (mode : Mode) (size : X → ℕ) (grammar : Value → Option X) → IsWithin mode size grammar → IsWithin mode (λ p. size p.1) (with_octets grammar)
in_octets mode size grammar g v p l e = g v p.1 l (with_them grammar v p e).1

-- ---- strings

contents : (mode : Mode) (tag : List ℕ) → IsWithin mode (λ c. length c) (primitive tag)
contents mode tag (Primitive i l c) d p e =
    let is : length c ≡ length d = ap length (same_some c d (chosen (has_tag tag i) (Some c) d e)) in
    omega (arith, is, length-append i (l ++ c), length-append l c)
contents mode tag (Constructed i f vs) d p e = absurd (none_some d e)

-- the octets of bits are among the contents
fewer : (c : List ℕ) (b : BitFields) → bits c ≡ Some b → length b.octets ≤ length c
fewer [] b e = absurd (none_some b e)
fewer (a ∷ []) b e = grind (arith, none_some)
fewer (a ∷ c ∷ more) b e = grind (arith, none_some)

bits_within : (mode : Mode) → IsWithin mode (λ b. length b.octets) bit_string
unfolding bit_string
bits_within mode = in_so mode (λ c. length c) (λ b. length b.octets) (primitive bit_string_tag) bits (contents mode bit_string_tag) fewer

-- an octet string, in pieces or not
string_within : (mode : Mode) (tag : List ℕ) → IsWithin mode (λ o. length o) (octets_under tag mode)
string_within mode tag v o l e =
    let old : Position = record { mode = mode; here = spelling v; levels = [] } in
    let new : Position = record { mode = mode; here = []; levels = [] } in
    let k = nodes v in
    let n = mul-le-mul_left k (two mode any v (spelling v) l refl) in
    let t : CountedOne k (octets_under tag mode) old new 0 k o = record {
      takes = record { value = v; begins = record { lawful = l; parts = sym (append-nil (spelling v)) }; reads = e; levels = refl; mode = refl };
      least = omega arith;
      most = omega (arith, n);
    } in
    omega (arith, string_octets k tag mode old new 0 k o t)

twenty_octets : (octets more : List ℕ) → twenty octets ≡ Some more → 20 ≤ length octets
twenty_octets octets more e = grind (arith, eqb-true, none_some)

name_within : (mode : Mode) (tag : List ℕ) → IsWithin mode (λ id. 20) (key_identifier_under tag mode)
unfolding key_identifier_under
name_within mode tag = in_so mode (λ o. length o) (λ id. 20) (octets_under tag mode) twenty (string_within mode tag) twenty_octets

-- ---- signed data

signature_within : {A : Type 0} (mode : Mode) (reads : Mode → List ℕ → Option A) → AreWithin mode 0 (λ s. length s.value + 2) (signature_in reads mode)
unfolding signature_in
signature_within {A} mode reads =
    let size : SignatureParts A → ℕ = λ s. length s.value + 2 in
    pass mode _ size _ _ (λ a. next mode _ (λ b. length b.octets) size bit_string _ (bits_within mode) (λ b. last mode _ size _ (omega arith)))

-- what is signed, by some size of it; the octets of the signature; and four octets round them
abbrev signed_size : {A T : Type 0} → (List ℕ × T → ℕ) → Signed A T → ℕ
signed_size size c = size (c.signed.slice, c.tbs) + length c.signed.signature.value + 4

in_signed : {A T : Type 0} (mode : Mode) (size : List ℕ × T → ℕ) (tbs : Mode → Value → Option T) (reads : Mode → List ℕ → Option A) → IsWithin mode size (with_octets (tbs mode)) → IsWithin mode (signed_size size) (signed_value tbs reads mode)
unfolding signed_value signed_as
in_signed {A} {T} mode size tbs reads g =
    in_within mode (signed_size {A = A} {T = T} size) sequence _ (next mode _ size _ (with_octets (tbs mode)) _ g (λ p vs c l e.
    let b = bound (signature_in reads mode vs) _ c e in
    let h = signature_within mode reads vs b.x l b.found in
    subst (λ (c : Signed A T). signed_size size c ≤ 2 + size p + length (spellings vs)) (same_some _ c b.then') (omega (arith, h))))

der_within : {X : Type 0} (size : X → ℕ) (grammar : Value → Option X) → IsWithin Der size grammar → (octets : List ℕ) (x : X) → in_der grammar octets ≡ Some x → size x ≤ length octets
unfolding decoded
der_within size grammar g octets x e =
    let b = bound (value_at Der octets) _ x e in
    let s = value_at-sound Der octets b.x.0 b.x.1 b.found in
    omega (arith, g b.x.0 x s.lawful b.then', ap length s.parts, length-append (spelling b.x.0) b.x.1)

-- ---- keys

key_within : (mode : Mode) → IsWithin mode (λ k. length k.bits) public_key
unfolding public_key
key_within mode =
    let size : KeyFields → ℕ = λ k. length k.bits in
    in_within mode size sequence _ (pass mode _ size _ _ (λ f. next mode _ (λ b. length b.octets) size bit_string _ (bits_within mode) (λ b. last mode _ size _ (omega arith))))

algorithm_size : (format : PublicKeyFormat) → length (spelled_algorithm format) ≤ 21
algorithm_size Rsa = omega arith
algorithm_size EcdsaP256 = omega arith

-- what is written round the bits of a key has 34 octets at most
key_size : (key : KeyFields) → length (spelled_key key) ≤ length key.bits + 34
key_size key = omega (arith, constructed_size sequence (spelled_parts key), length-append (spelled_algorithm key.format) (spelled_bits key.bits), algorithm_size key.format, primitive_size bit_string_tag (0 ∷ key.bits))

-- the key's bits are within what is signed of a certificate
tbs_within : (mode : Mode) → IsWithin mode (λ t. length t.key.bits) (tbs_certificate mode)
unfolding tbs_certificate
tbs_within mode =
    let size : TbsFields → ℕ = λ t. length t.key.bits in
    in_within mode size sequence (tbs_fields mode) (
    pass mode _ size _ _ (λ version'. pass mode _ size _ _ (λ serial. pass mode _ size _ _ (λ algorithm.
    pass mode _ size _ _ (λ issuer. pass mode _ size _ _ (λ validity. pass mode _ size _ _ (λ subject.
    next mode _ (λ k. length k.bits) size public_key _ (key_within mode) (λ key.
    pass mode _ size _ _ (λ known.
    last mode _ size _ (omega arith))))))))))

-- ---- CRLs

-- the octets that are signed of a CRL, those of the signature, and four
abbrev crl_size : CrlFields → ℕ
crl_size c = signed_size (λ p. length p.0) c

crl_read : IsWithin Der crl_size (revocation_list Der)
unfolding revocation_list
crl_read = in_signed Der (λ p. length p.0) tbs_crl (whole_of x509_algorithm) (the_octets Der (tbs_crl Der))

crl_within : (mode : Mode) → IsWithin mode (λ p. crl_size p.1) (with_octets crl_in_der)
crl_within mode =
    in_octets mode crl_size crl_in_der (in_so mode (λ o. length o) crl_size any (in_der (revocation_list Der)) (λ v o l e. omega (arith, ap length (same_some (spelling v) o e))) (der_within crl_size (revocation_list Der) crl_read))

-- the size of what is there
abbrev if_there : {X : Type 0} → (X → ℕ) → Option X → ℕ
if_there size None = 0
if_there size (Some x) = size x

-- the next field may be there
maybe : {X Y : Type 0} (mode : Mode) (n : ℕ) (size : X → ℕ) (total : Y → ℕ) (grammar : Value → Option X) (f : Option X × Values → Option Y) → IsWithin mode size grammar → ((o : Option X) → AreWithin mode (n + if_there size o) total (λ vs. f (o, vs))) → AreWithin mode n total (λ vs. if_any grammar vs >>= f)
unfolding if_any ◌>>=◌
maybe mode n size total grammar f g more End y l e = omega (arith, more None End y l e)
maybe {X = X} mode n size total grammar f g more (v ▸ vs) y l e =
    let a = bound (if_any grammar (v ▸ vs)) f y e in
    let b = bound (grammar v) (λ x. Some (Some x, vs)) a.x a.found in
    let is : (Some b.x, vs) ≡ a.x = same_some _ _ b.then' in
    let k = more (Some b.x) vs y l.1 (subst (λ (p : Option X × Values). f p ≡ Some y) (sym is) a.then') in
    omega (arith, k, g v b.x l.0 b.found, length-append (spelling v) (spellings vs))

set_size : (one : List ℕ × CrlFields) (other : Option (List ℕ × CrlFields)) → sum_by crl_size (crl_set_of one other).lists ≤ crl_size one.1 + if_there (λ p. crl_size p.1) other
set_size one None = omega arith
set_size one (Some other) = omega arith

set_within : (mode : Mode) → IsWithin mode (λ s. sum_by crl_size s.lists + 2) crl_set
unfolding crl_set
set_within mode =
    let size : CrlSet → ℕ = λ s. sum_by crl_size s.lists + 2 in
    in_within mode size (context 1) _ (next mode _ (λ p. crl_size p.1) size _ _ (crl_within mode) (λ one. maybe mode _ (λ p. crl_size p.1) size _ _ (crl_within mode) (λ other.
    last mode _ size _ (omega (arith, set_size one other)))))

-- ---- a message

attributes_within : (mode : Mode) → IsWithin mode (λ p. length p.0 + 2) (signed_attributes mode)
unfolding signed_attributes held
attributes_within mode = in_within mode (λ p. length p.0 + 2) (context 0) _ (λ vs p l e.
    let b = bound _ _ p e in
    omega (arith, ap (λ (q : List ℕ × AttributeFields). length q.0) (same_some _ p b.then')))

abbrev signer_size : SignerFields → ℕ
signer_size s = length s.attributes + length s.signature.value + 30

signer_within : (mode : Mode) → IsWithin mode signer_size (signer_info mode)
unfolding signer_info
signer_within mode =
    in_within mode signer_size sequence _ (
    pass mode _ signer_size _ _ (λ version. next mode _ (λ id. 20) signer_size _ _ (name_within mode (context 0)) (λ id.
    pass mode _ signer_size _ _ (λ digest. next mode _ (λ p. length p.0 + 2) signer_size _ _ (attributes_within mode) (λ attributes.
    pass mode _ signer_size _ _ (λ algorithm. next mode _ (λ p. length p.1) signer_size _ _ (in_octets mode (λ o. length o) (octet_string mode) (string_within mode octet_string_tag)) (λ signature.
    last mode _ signer_size _ (omega arith))))))))

-- what is signed of attributes, certificate, by some size of it, and CRLs, and each signature
abbrev message_size : (List ℕ × TbsFields → ℕ) → MessageFields → ℕ
message_size size m = length m.covered + length m.signature.value + signed_size size m.certificate + sum_by crl_size m.crls

certificate_within : (mode : Mode) (size : List ℕ × TbsFields → ℕ) → IsWithin mode size (with_octets (tbs_certificate mode)) → IsWithin mode (signed_size size) (identity_certificate mode)
unfolding identity_certificate
certificate_within mode size g = in_signed mode size tbs_certificate (whole_of x509_algorithm) g

parts_within : (mode : Mode) (size : List ℕ × TbsFields → ℕ) → IsWithin mode size (with_octets (tbs_certificate mode)) → IsWithin mode (λ w. message_size size w.message + 38) (signed_parts mode)
unfolding signed_parts
parts_within mode size g =
    let total : ViewFields → ℕ = λ w. message_size size w.message + 38 in
    let held' = in_octets mode (signed_size size) (identity_certificate mode) (certificate_within mode size g) in
    in_within mode total sequence _ (
    pass mode _ total _ _ (λ version. pass mode _ total _ _ (λ algorithms. pass mode _ total _ _ (λ content.
    next mode _ (λ p. signed_size size p.1 + 2) total _ _ (in_wrapped mode (λ p. signed_size size p.1) (context 0) _ held') (λ certificate.
    next mode _ (λ s. sum_by crl_size s.lists + 2) total _ _ (set_within mode) (λ crls.
    next mode _ (λ s. signer_size s + 2) total _ _ (in_wrapped mode signer_size set _ (signer_within mode)) (λ signer.
    last mode _ total _ (omega (arith, constructed_size set signer.attributes)))))))))

view_within : (mode : Mode) (size : List ℕ × TbsFields → ℕ) → IsWithin mode size (with_octets (tbs_certificate mode)) → IsWithin mode (λ w. message_size size w.message + 44) (viewed_message mode)
unfolding viewed_message
view_within mode size g =
    let total : ViewFields → ℕ = λ w. message_size size w.message + 44 in
    in_within mode total sequence _ (
    pass mode _ total _ _ (λ type. next mode _ (λ w. message_size size w.message + 38 + 2) total _ _ (in_wrapped mode (λ w. message_size size w.message + 38) (context 0) (signed_parts mode) (parts_within mode size g)) (λ parts.
    last mode _ total _ (omega arith))))

-- a message has 44 octets at least round what is asked of it
message_within : (size : List ℕ × TbsFields → ℕ) → IsWithin Ber size (with_octets (tbs_certificate Ber)) → (octets : List ℕ) (m : MessageFields) → BeginsSigned octets m → message_size size m + 44 ≤ length octets
unfolding signed_message
message_within size g octets m s =
    let total : ViewFields → ℕ = λ w. message_size size w.message + 44 in
    let h = in_so Ber total (λ n. message_size size n + 44) (viewed_message Ber) message_of_view (view_within Ber size g) (λ w n e. omega (arith, ap (message_size size) (same_some w.message n e))) s.value m s.begins.lawful s.reads in
    omega (arith, h, ap length s.begins.parts, length-append (spelling s.value) s.rest)

-- ---- what is handed out of a message

-- the octets of its questions without those of the keys, with four more for each CRL
abbrev asked_size : MessageFields → ℕ
asked_size m = question_length (attributes_question m) + part_length (certificate_part m.certificate) + sum_by crl_size m.crls

-- the certificate's key is handed out beside the certificate, which has its bits
asked_within : (octets : List ℕ) (m : MessageFields) → BeginsSigned octets m → asked_size m + 51 ≤ 2 * length octets
asked_within octets m s =
    let all = message_within (λ p. length p.0) (the_octets Ber (tbs_certificate Ber)) octets m s in
    let key = message_within (λ p. length p.1.key.bits) (in_octets Ber (λ t. length t.key.bits) (tbs_certificate Ber) (tbs_within Ber)) octets m s in
    omega (arith, all, key, key_size m.certificate.tbs.key)

crl_parts : (crls : List CrlFields) → sum_by part_length (map crl_part crls) ≤ sum_by crl_size crls
crl_parts [] = omega arith
crl_parts (c ∷ crls) = omega (arith, crl_parts crls, sum_by-cons part_length (crl_part c) (map crl_part crls), sum_by-cons crl_size c crls)

pub few_handed_out : (octets : List ℕ) (keys : List KeyFields) (q : QuestionsFields) → AreAskedOf octets keys q → handed_out q ≤ 2 * length octets + keys_length keys
few_handed_out octets keys q a =
    let m = a.signed in
    rw a.are (omega (arith, asked_within octets m a.begins, crl_parts m.crls, sum_by-cons part_length (certificate_part m.certificate) (map crl_part m.crls)))

-- ---- lines

digits : (octets : List ℕ) → length (encode_lower octets) ≡ 2 * length octets
digits octets = length-encode_with lower_digits octets

four : (a b c d : List ℕ) → length (four_words a b c d) ≡ length a + length b + length c + length d + 3
four a b c d = omega (arith, length-append a (codes " " ++ (b ++ (codes " " ++ (c ++ (codes " " ++ d))))), length-append b (codes " " ++ (c ++ (codes " " ++ d))), length-append c (codes " " ++ d))

question_size : (q : QuestionFields) → length (question_line q) ≡ length (part_name q.part) + 2 * question_length q + 3
question_size q = omega (arith, four (part_name q.part) (encode_lower (spelled_key q.key)) (encode_lower q.octets) (encode_lower q.signature), digits (spelled_key q.key), digits q.octets, digits q.signature)

part_size : (p : SignedPartFields) → length (part_line p) ≡ length (part_name p.part) + 2 * part_length p + 4
part_size p = omega (arith, four (part_name p.part) (codes "-") (encode_lower p.octets) (encode_lower p.signature), digits p.octets, digits p.signature)

line : (one : List ℕ) (lines : List (List ℕ)) → length (answer_lines (one ∷ lines)) ≡ length one + 1 + length (answer_lines lines)
line one lines = omega (arith, length-append (one ++ 10 ∷ []) (answer_lines lines), length-append one (10 ∷ []))

both : (lines more : List (List ℕ)) → length (answer_lines (lines ++ more)) ≡ length (answer_lines lines) + length (answer_lines more)
both lines more = ap length (flat_map-append (λ one. one ++ 10 ∷ []) lines more) ∙ length-append (answer_lines lines) (answer_lines more)

crl_lines : (crls : List CrlFields) → length (answer_lines (map part_line (map crl_part crls))) ≡ 2 * sum_by crl_size crls
crl_lines [] = refl
crl_lines (c ∷ crls) = omega (arith, line (part_line (crl_part c)) (map part_line (map crl_part crls)), part_size (crl_part c), crl_lines crls, sum_by-cons crl_size c crls)

text_size : (m : MessageFields) (keys : List KeyFields) → length (questions_text (message_questions m keys)) ≡ 2 * asked_size m + 30 + key_lines_length keys
text_size m keys =
    let own = attributes_question m in
    let part = certificate_part m.certificate in
    let crls = map part_line (map crl_part m.crls) in
    let lines = map key_line keys in
    omega (arith, line (question_line own) (part_line part ∷ (crls ++ lines)), line (part_line part) (crls ++ lines), both crls lines, question_size own, part_size part, crl_lines m.crls)

-- the line of the digest has 71 octets and its line feed
written_size : (q : QuestionsFields) → length (asked_lines q) ≡ length (questions_text q) + 72
written_size q =
    let last' = codes "digest " ++ encode_lower (digest_of q) in
    omega (arith, both (question_lines q) (last' ∷ []), line last' [], digits (digest_of q), length-sha256 (questions_octets q))

pub short_text : (octets : List ℕ) (keys : List KeyFields) (q : QuestionsFields) → AreAskedOf octets keys q → length (questions_text q) + 72 ≤ 4 * length octets + key_lines_length keys
short_text octets keys q a = rw a.are (omega (arith, asked_within octets a.signed a.begins, text_size a.signed keys))

pub short_answer : (octets : List ℕ) (keys : List KeyFields) (output : List ℕ) → IsQuestionsAnswer octets keys (Ok output) → length output ≤ 4 * length octets + key_lines_length keys
short_answer octets keys output a = rw a.2 (omega (arith, short_text octets keys a.0 a.1, written_size a.0))
