-- Signed data that are written are taken again as the same.
use Rattle.std.proofs.Common.{◌≡◌, ℕ, ◌+◌, ◌<◌, Option, Some, List, [], ◌∷◌, ◌++◌, length, refl, sym, ap, subst, ◌∙◌, arith, length-append}
use Rattle.std.proofs.lemmas.List.{append-nil}
use Rattle.rpki_common.specs.Chaining.{◌>>=◌}
use Rattle.rpki_der.specs.declared.mode.Mode.{Mode}
use Rattle.rpki_der.specs.Tags.{sequence}
use Rattle.rpki_der.specs.Value.{Value, End, ◌▸◌, spelling, Begins}
use Rattle.rpki_der.specs.Grammar.{within, first, done, so}
use Rattle.rpki_der.specs.Bits.{bit_string}
use Rattle.rpki_der.specs.Writing.{constructed_value, Spells}
use Rattle.rpki_der.proofs.Written.{spells_followed, spells_one, begins_constructed}
use Rattle.rpki_base.specs.Bits.{spelled_bits}
use Rattle.rpki_base.specs.SignedData.{SignedParts, signature_in, signed_as, signed_data, spelled_data, CanSpellSigned}
use Rattle.rpki_base.specs.WritingLaws.{is_sequence}
use Rattle.rpki_base.proofs.Keys.{bits_value, bits_spell, bits_within}

-- octets that are one value
alone : (octets : List ℕ) (v : Value) → octets ≡ spelling v ++ [] → octets ≡ spelling v
alone octets v e = e ∙ append-nil (spelling v)

spells_alone : (mode : Mode) (octets : List ℕ) (v : Value) → Begins mode octets v [] → Spells mode octets (v ▸ End)
spells_alone mode octets v b = subst (λ o. Spells mode o (v ▸ End)) (sym (alone octets v b.parts)) (spells_one mode v b.lawful)

begins_alone : (mode : Mode) (octets : List ℕ) (v : Value) → Begins mode (octets ++ []) v [] → Begins mode octets v []
begins_alone mode octets v b = subst (λ o. Begins mode o v []) (append-nil octets) b

data_reads : {A : Type 0} (reads : Mode → List ℕ → Option A) (mode : Mode) (slice algorithm value : List ℕ) (a : A) (v w : Value) → slice ≡ spelling v → algorithm ≡ spelling w → reads mode algorithm ≡ Some a → signed_data reads mode (constructed_value sequence (v ▸ w ▸ bits_value value ▸ End)) ≡ Some (record { slice = slice; signature = record { algorithm = a; value = value } })
unfolding signed_data signed_as signature_in within first done so bit_string ◌>>=◌
data_reads reads mode slice algorithm [] a v w p q e = rw (p, (ap (reads mode) (sym q) ∙ e)) refl
data_reads reads mode slice algorithm (b ∷ value) a v w p q e = rw (p, (ap (reads mode) (sym q) ∙ e)) refl

data_bits : {A : Type 0} (spelled : A → List ℕ) (d : SignedParts A) → CanSpellSigned spelled d → length d.signature.value + 1 < 4294967296
data_bits spelled d h =
    omega (arith, bits_within d.signature.value, length-append d.slice (spelled d.signature.algorithm ++ spelled_bits d.signature.value), length-append (spelled d.signature.algorithm) (spelled_bits d.signature.value), h)

pub written_data : {A : Type 0} (reads : Mode → List ℕ → Option A) (spelled : A → List ℕ) (mode : Mode) (d : SignedParts A) (signed named : Value) (rest : List ℕ) → CanSpellSigned spelled d → Begins mode d.slice signed [] → Begins mode (spelled d.signature.algorithm ++ []) named [] → reads mode (spelled d.signature.algorithm) ≡ Some d.signature.algorithm → (v : Value) × Begins mode (spelled_data spelled d ++ rest) v rest × (signed_data reads mode v ≡ Some d)
written_data reads spelled mode d signed named rest h b n e =
    let m : Begins mode (spelled d.signature.algorithm) named [] = begins_alone mode (spelled d.signature.algorithm) named n in
    let short = data_bits spelled d h in (
      constructed_value sequence (signed ▸ named ▸ bits_value d.signature.value ▸ End),
      begins_constructed mode sequence _ rest _ is_sequence h (spells_followed mode _ _ _ _ (spells_alone mode d.slice signed b) (spells_followed mode _ _ _ _ (spells_alone mode (spelled d.signature.algorithm) named m) (bits_spell mode d.signature.value short))),
      data_reads reads mode d.slice (spelled d.signature.algorithm) d.signature.value d.signature.algorithm signed named (alone d.slice signed b.parts) (alone (spelled d.signature.algorithm) named m.parts) e,
    )
