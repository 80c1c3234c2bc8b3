-- Octets that are one value, which a grammar reads: how the pieces of what is written are put together.
use Rattle.std.proofs.Common.{◌≡◌, ℕ, ◌<◌, true, Option, Some, List, [], ◌++◌, length, refl, sym, ap, subst, ◌∙◌}
use Rattle.std.proofs.lemmas.List.{append-nil}
use Rattle.rpki_common.specs.Chaining.{◌>>=◌}
use Rattle.rpki_common.proofs.Truths.{equal_octets}
use Rattle.rpki_der.specs.declared.mode.Mode.{Mode}
use Rattle.rpki_der.specs.declared.mode.Mode.TheVariants.{Der}
use Rattle.rpki_der.specs.Grammar.{any, so, within, first, done, wrapped}
use Rattle.rpki_der.specs.Held.{with_octets}
use Rattle.rpki_der.specs.Identifier.{IsTag, has_tag}
use Rattle.rpki_der.specs.InDer.{in_der}
use Rattle.rpki_der.specs.Reader.{value_at, decoded}
use Rattle.rpki_der.specs.Value.{Value, Values, End, ◌▸◌, spelling, Begins}
use Rattle.rpki_der.specs.Whole.{IsWhole}
use Rattle.rpki_der.specs.Writing.{with_bit_6, constructed_value, der_constructed, Spells}
use Rattle.rpki_der.proofs.Decoding.{value_at-begins}
use Rattle.rpki_der.proofs.Written.{tagged, spells_one, spells_constructed}

-- the octets are one value, which the grammar reads as x
pub record Piece {X : Type 0} (mode : Mode) (grammar : Value → Option X) (octets : List ℕ) (x : X) : Type 0 where
  pub value : Value
  pub spells : Spells mode octets (value ▸ End)
  pub reads : grammar value ≡ Some x

pub parts_of_one : (mode : Mode) (octets : List ℕ) (v : Value) → Spells mode octets (v ▸ End) → octets ≡ spelling v
parts_of_one mode octets v s = s.parts ∙ append-nil (spelling v)

pub begins_as : {X : Type 0} (mode : Mode) (grammar : Value → Option X) (octets : List ℕ) (x : X) (p : Piece mode grammar octets x) (rest : List ℕ) → Begins mode (octets ++ rest) p.value rest
begins_as mode grammar octets x p rest = record { lawful = p.spells.lawful.0; parts = ap (λ o. o ++ rest) (parts_of_one mode octets p.value p.spells) }

pub of_begins : {X : Type 0} (mode : Mode) (grammar : Value → Option X) (octets : List ℕ) (x : X) (v : Value) → Begins mode (octets ++ []) v [] → grammar v ≡ Some x → Piece mode grammar octets x
of_begins mode grammar octets x v b e =
    let parts : octets ≡ spelling v = sym (append-nil octets) ∙ (b.parts ∙ append-nil (spelling v)) in
    record { value = v; spells = subst (λ o. Spells mode o (v ▸ End)) (sym parts) (spells_one mode v b.lawful); reads = e }

pub of_whole : {X : Type 0} (mode : Mode) (grammar : Value → Option X) (octets : List ℕ) (x : X) → IsWhole grammar mode octets x → Piece mode grammar octets x
of_whole mode grammar octets x w = of_begins mode grammar octets x w.value (subst (λ o. Begins mode o w.value []) (sym (append-nil octets)) w.begins) w.reads

pub is_whole : {X : Type 0} (mode : Mode) (grammar : Value → Option X) (octets : List ℕ) (x : X) → Piece mode grammar octets x → IsWhole grammar mode octets x
is_whole mode grammar octets x p = record { value = p.value; begins = subst (λ o. Begins mode o p.value []) (append-nil octets) (begins_as mode grammar octets x p []); reads = p.reads }

-- ---- constructed values

tag_fits : (tag : List ℕ) → IsTag tag → has_tag tag (with_bit_6 tag) ≡ true
tag_fits tag p = rw (tagged tag p).tag' (equal_octets tag)

pub within_written : {X : Type 0} (tag : List ℕ) (fields : Values → Option X) (vs : Values) → IsTag tag → within tag fields (constructed_value tag vs) ≡ fields vs
unfolding within
within_written tag fields vs p = rw (tag_fits tag p) refl

pub constructed : {X : Type 0} (mode : Mode) (tag content : List ℕ) (fields : Values → Option X) (vs : Values) (x : X) → IsTag tag → length content < 4294967296 → Spells mode content vs → fields vs ≡ Some x → Piece mode (within tag fields) (der_constructed tag content) x
constructed mode tag content fields vs x p h s e = record { value = constructed_value tag vs; spells = spells_constructed mode tag content vs p h s; reads = within_written tag fields vs p ∙ e }

one_reads : {X : Type 0} (field : Value → Option X) (v : Value) (x : X) → field v ≡ Some x → (first field (v ▸ End) >>= λ y. done y.0 y.1) ≡ Some x
unfolding first done ◌>>=◌
one_reads field v x e = rw e refl

pub wrapping : {X : Type 0} (mode : Mode) (tag content : List ℕ) (field : Value → Option X) (x : X) → IsTag tag → length content < 4294967296 → Piece mode field content x → Piece mode (wrapped tag field) (der_constructed tag content) x
unfolding wrapped
wrapping mode tag content field x p h q = constructed mode tag content (λ vs. first field vs >>= λ y. done y.0 y.1) (q.value ▸ End) x p h q.spells (one_reads field q.value x q.reads)

-- ---- the octets beside what is read

keeps_octets : {X : Type 0} (grammar : Value → Option X) (v : Value) (octets : List ℕ) (x : X) → octets ≡ spelling v → grammar v ≡ Some x → with_octets grammar v ≡ Some (octets, x)
unfolding with_octets ◌>>=◌
keeps_octets grammar v octets x p e = rw (e, p) refl

pub with_its_octets : {X : Type 0} (mode : Mode) (grammar : Value → Option X) (octets : List ℕ) (x : X) → Piece mode grammar octets x → Piece mode (with_octets grammar) octets (octets, x)
with_its_octets mode grammar octets x p = record { value = p.value; spells = p.spells; reads = keeps_octets grammar p.value octets x (parts_of_one mode octets p.value p.spells) p.reads }

-- ---- what is read of the octets of a value

reads_octets : {X : Type 0} (convert : List ℕ → Option X) (v : Value) (octets : List ℕ) (x : X) → octets ≡ spelling v → convert octets ≡ Some x → so any convert v ≡ Some x
unfolding so ◌>>=◌
reads_octets convert v octets x p e = ap convert (sym p) ∙ e

pub as_octets : {X : Type 0} (mode : Mode) (octets : List ℕ) (convert : List ℕ → Option X) (x : X) (v : Value) → Begins mode (octets ++ []) v [] → convert octets ≡ Some x → Piece mode (so any convert) octets x
as_octets mode octets convert x v b e =
    let parts : octets ≡ spelling v = sym (append-nil octets) ∙ (b.parts ∙ append-nil (spelling v)) in
    of_begins mode (so any convert) octets x v b (reads_octets convert v octets x parts e)

-- ---- what is inside of octets, in DER

decoded_by : {X : Type 0} (grammar : Value → Option X) (octets : List ℕ) (v : Value) (rest : List ℕ) (x : X) → value_at Der octets ≡ Some (v, rest) → grammar v ≡ Some x → decoded grammar Der octets ≡ Some x
unfolding decoded ◌>>=◌
decoded_by grammar octets v rest x e f = rw e f

pub inside_is : {X : Type 0} (grammar : Value → Option X) (octets : List ℕ) (x : X) → Piece Der grammar octets x → in_der grammar octets ≡ Some x
inside_is grammar octets x p = decoded_by grammar octets p.value [] x (value_at-begins Der octets p.value [] (subst (λ o. Begins Der o p.value []) (append-nil octets) (begins_as Der grammar octets x p []))) p.reads
