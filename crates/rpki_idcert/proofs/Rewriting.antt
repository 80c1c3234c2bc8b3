-- What is written of a signed value that was read is read again as the same.
use Rattle.std.proofs.Common.{◌≡◌, ℕ, ◌+◌, ◌<◌, length, length-append, arith, Option, Some, List, [], ◌∷◌, ◌++◌, refl, sym, ap, subst, ◌∙◌}
use Rattle.std.proofs.lemmas.List.{append-nil}
use Rattle.rpki_common.specs.Chaining.{◌>>=◌}
use Rattle.rpki_common.proofs.Bounds.{bound, chosen}
use Rattle.rpki_common.proofs.Truths.{none_some, same_some}
use Rattle.rpki_der.specs.declared.mode.Mode.{Mode}
use Rattle.rpki_der.specs.Bits.{bit_string}
use Rattle.rpki_der.specs.Identifier.{has_tag}
use Rattle.rpki_der.specs.Grammar.{within, first, done, so}
use Rattle.rpki_der.specs.Held.{with_octets}
use Rattle.rpki_der.specs.Tags.{sequence}
use Rattle.rpki_der.specs.Value.{Value, Primitive, Constructed, Values, End, ◌▸◌, spelling, IsValue, Begins}
use Rattle.rpki_der.specs.Whole.{alone, whole_of}
use Rattle.rpki_der.specs.Writing.{constructed_value, Spells}
use Rattle.rpki_der.proofs.Firsts.{first_is, done_is}
use Rattle.rpki_der.proofs.Flats.{alone_only}
use Rattle.rpki_der.proofs.Written.{spells_followed, spells_one, begins_constructed}
use Rattle.rpki_base.specs.SignedData.{SignedParts, Signed, algorithm_in, signature_in, signed_as, signed_value, spelled_data, CanSpellSigned}
use Rattle.rpki_base.specs.Signature.{SignatureParts}
use Rattle.rpki_base.specs.WritingLaws.{is_sequence}
use Rattle.rpki_base.proofs.Determined.{determined}
use Rattle.rpki_base.specs.Bits.{spelled_bits}
use Rattle.rpki_base.proofs.Keys.{bits_value, bits_spell, bits_within}

-- ---- the algorithm of what was read

-- octets that are read as this algorithm
pub record IsRead {A : Type 0} (reads : Mode → List ℕ → Option A) (mode : Mode) (a : A) : Type 0 where
  pub octets : List ℕ
  pub reads' : reads mode octets ≡ Some a

signature_read : {A : Type 0} (reads : Mode → List ℕ → Option A) (mode : Mode) (vs : Values) (s : SignatureParts A) → signature_in reads mode vs ≡ Some s → IsRead reads mode s.algorithm
unfolding signature_in so ◌>>=◌
signature_read {A} reads mode vs s e =
    let a = bound (first (algorithm_in reads mode) vs) _ s e in
    let b = bound (first bit_string a.x.1) _ s a.then' in
    let h = first_is (algorithm_in reads mode) vs a.x a.found in
    let is = done_is _ s b.x.1 b.then' in
    record { octets = spelling h.value; reads' = h.reads ∙ ap (λ (k : SignatureParts A). Some k.algorithm) is }

algorithm_read : {A T : Type 0} (tbs : Mode → Value → Option T) (reads : Mode → List ℕ → Option A) (mode : Mode) (v : Value) (c : Signed A T) → signed_value tbs reads mode v ≡ Some c → IsRead reads mode c.signed.signature.algorithm
unfolding signed_value signed_as within
algorithm_read tbs reads mode (Primitive i l d) c e = absurd (none_some c e)
algorithm_read {A} {T} tbs reads mode (Constructed i f vs) c e =
    let a = bound (first (with_octets (tbs mode)) vs) _ c (chosen (has_tag sequence i) _ c e) in
    let b = bound (signature_in reads mode a.x.1) _ c a.then' in
    let is = same_some _ c b.then' in
    let r = signature_read reads mode a.x.1 b.x b.found in
    record { octets = r.octets; reads' = r.reads' ∙ ap (λ (k : Signed A T). Some k.signed.signature.algorithm) is }

-- ---- the value that is written

octets_alone : (octets : List ℕ) (v : Value) → octets ≡ spelling v ++ [] → octets ≡ spelling v
octets_alone octets v e = e ∙ append-nil (spelling v)

spells_alone : (mode : Mode) (octets : List ℕ) (v : Value) → Begins mode octets v [] → Spells mode octets (v ▸ End)
spells_alone mode octets v b = subst (λ o. Spells mode o (v ▸ End)) (sym (octets_alone octets v b.parts)) (spells_one mode v b.lawful)

value_reads : {A T : Type 0} (tbs : Mode → Value → Option T) (reads : Mode → List ℕ → Option A) (mode : Mode) (slice algorithm value : List ℕ) (a : A) (t : T) (v w : Value) → slice ≡ spelling v → tbs mode v ≡ Some t → algorithm ≡ spelling w → reads mode algorithm ≡ Some a
    → signed_value tbs reads mode (constructed_value sequence (v ▸ w ▸ bits_value value ▸ End)) ≡ Some (record { signed = record { slice = slice; signature = record { algorithm = a; value = value } }; tbs = t })
unfolding signed_value signed_as with_octets signature_in within first done so bit_string ◌>>=◌
value_reads tbs reads mode slice algorithm [] a t v w p f q e = rw (p, f, (ap (reads mode) (sym q) ∙ e)) refl
value_reads tbs reads mode slice algorithm (b ∷ value) a t v w p f q e = rw (p, f, (ap (reads mode) (sym q) ∙ e)) refl

short_bits : {A : Type 0} (spelled : A → List ℕ) (d : SignedParts A) → CanSpellSigned spelled d → length d.signature.value + 1 < 4294967296
short_bits spelled d h =
    omega (arith, bits_within d.signature.value, length-append d.slice (spelled d.signature.algorithm ++ spelled_bits d.signature.value), length-append (spelled d.signature.algorithm) (spelled_bits d.signature.value), h)

-- the signed octets are one value, which is read as what is signed
pub record IsHeld {T : Type 0} (grammar : Value → Option T) (mode : Mode) (octets : List ℕ) (t : T) : Type 0 where
  pub value : Value
  pub begins : Begins mode octets value []
  pub reads : grammar value ≡ Some t

held : {T : Type 0} (grammar : Value → Option T) (mode : Mode) (octets : List ℕ) (t : T) → whole_of grammar mode octets ≡ Some t → IsHeld grammar mode octets t
unfolding whole_of
held grammar mode octets t e =
    let b = bound (alone mode octets) grammar t e in
    record { value = b.x; begins = alone_only mode octets b.x b.found; reads = b.then' }

pub written_again : {A T : Type 0} (tbs : Mode → Value → Option T) (reads : Mode → List ℕ → Option A) (spelled : A → List ℕ) (mode : Mode) (v : Value) (c : Signed A T) (rest : List ℕ) → IsValue mode v → signed_value tbs reads mode v ≡ Some c → CanSpellSigned spelled c.signed
    → ((o : List ℕ) (a : A) → reads mode o ≡ Some a → reads mode (spelled a) ≡ Some a) → ((a : A) → (w : Value) × Begins mode (spelled a ++ []) w [])
    → (w : Value) × Begins mode (spelled_data spelled c.signed ++ rest) w rest × (signed_value tbs reads mode w ≡ Some c)
written_again tbs reads spelled mode v c rest l e h again one =
    let a = c.signed.signature.algorithm in
    let s = held (tbs mode) mode c.signed.slice c.tbs (determined tbs reads mode v c l e) in
    let r = algorithm_read tbs reads mode v c e in
    let n = one a in
    let m : Begins mode (spelled a) n.0 [] = subst (λ o. Begins mode o n.0 []) (append-nil (spelled a)) n.1 in
    let short = short_bits spelled c.signed h in (
      constructed_value sequence (s.value ▸ n.0 ▸ bits_value c.signed.signature.value ▸ End),
      begins_constructed mode sequence _ rest _ is_sequence h (spells_followed mode _ _ _ _ (spells_alone mode c.signed.slice s.value s.begins) (spells_followed mode _ _ _ _ (spells_alone mode (spelled a) n.0 m) (bits_spell mode c.signed.signature.value short))),
      value_reads tbs reads mode c.signed.slice (spelled a) c.signed.signature.value a c.tbs s.value n.0 (octets_alone c.signed.slice s.value s.begins.parts) s.reads (octets_alone (spelled a) n.0 m.parts) (again r.octets a r.reads'),
    )
