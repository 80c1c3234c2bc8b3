-- Places in maps by the octets of keys.
use Rattle.std.proofs.Common.{◌≡◌, ◌&&◌, ℕ, Bool, true, false, if◌then◌else◌, Some, List, bytes_eq, refl, sym, subst, ◌∙◌}
use Rattle.std.specs.Global.{Vec}
use Rattle.std.specs.BTreeMap.{BTreeMap, UpdatesBy}
use Rattle.std.specs.Map.{lookup, IsKeyTest, AreApart, KeepsOthers}
use Rattle.std.specs.Ordering.{is_eq, nat_cmp}
use Rattle.std.specs.Cmp.{eq_by_cmp_equiv}
use Rattle.std.specs.Cmp.Lexicographic.{slice_cmp, nat_list_cmp_total, nat_list_eq_equiv}
use Rattle.std.proofs.lemmas.Map.Text.{is_eq-slice_cmp}
use Rattle.std.proofs.lemmas.Slice.Eq.{bytes_eq-Decides}
use Rattle.rpki_base.specs.declared.algorithm.PublicKeyFormat.{PublicKeyFormat}
use Rattle.rpki_base.specs.declared.algorithm.PublicKeyFormat.TheVariants.{Rsa, EcdsaP256}
use Rattle.rpki_base.specs.PublicKey.{KeyFields}
use Rattle.rpki_ca.specs.Keys.{same_format, same_key}
use Rattle.rpki_replay.specs.Places.{place_of_bits, place_among, place_at}

apart : (bs cs ks : List ℕ) → bytes_eq bs cs ≡ false → is_eq (slice_cmp nat_cmp bs ks) ≡ true → is_eq (slice_cmp nat_cmp cs ks) ≡ false
apart bs cs ks n y =
    let same : bytes_eq bs ks ≡ true = sym (is_eq-slice_cmp bs ks) ∙ y in
    is_eq-slice_cmp cs ks ∙ nat_list_eq_equiv.symm cs ks ∙ sym (nat_list_eq_equiv.congr bs ks cs same) ∙ n

other_entries : {K X : Type 0} (eq : K → K → Bool) (test : K → Bool) (old new : List (K × X)) → KeepsOthers eq test old new → (other : K → Bool) → IsKeyTest eq other → AreApart test other → lookup other new ≡ lookup other old
unfolding KeepsOthers
other_entries eq test old new h = h

-- a map after the octets bs were given a place
pub placed : (m n : BTreeMap (Vec ℕ) ℕ) (bs : List ℕ) (place : ℕ) → UpdatesBy (λ x y. slice_cmp nat_cmp x.items y.items) (λ k. slice_cmp nat_cmp bs k.items) m n (Some place)
    → (cs : List ℕ) → place_of_bits cs n ≡ (if bytes_eq bs cs then Some place else place_of_bits cs m)
placed m n bs place h cs =
    elim (bytes_eq bs cs) as (λ t. bytes_eq bs cs ≡ t → place_of_bits cs n ≡ (if t then Some place else place_of_bits cs m)) [
      | true ↦ λ same. subst (λ (l : List ℕ). place_of_bits l n ≡ Some place) ((bytes_eq-Decides bs cs).0 same) h.1
      | false ↦ λ other. other_entries _ _ _ _ h.3 _ (λ x y. (eq_by_cmp_equiv nat_list_cmp_total).congr cs x.items y.items) (λ k. apart bs cs k.items other)
    ] refl

-- the places of all keys after the octets of one were given a place
pub placed_rsa : (old new elliptic : BTreeMap (Vec ℕ) ℕ) (key : KeyFields) (place : ℕ) → Rsa ≡ key.format
    → ((bits : List ℕ) → place_of_bits bits new ≡ (if bytes_eq key.bits bits then Some place else place_of_bits bits old))
    → (other : KeyFields) → place_at (record { rsa = new; elliptic = elliptic }) other ≡ (if same_key key other then Some place else place_at (record { rsa = old; elliptic = elliptic }) other)
placed_rsa old new elliptic key place is ok other = rw (← is) (by other.format other.bits)
  where
    by : (format : PublicKeyFormat) (bits : List ℕ) → place_among format bits (record { rsa = new; elliptic = elliptic })
        ≡ (if same_format Rsa format && bytes_eq key.bits bits then Some place else place_among format bits (record { rsa = old; elliptic = elliptic }))
    by Rsa bits = ok bits
    by EcdsaP256 bits = refl

pub placed_elliptic : (rsa old new : BTreeMap (Vec ℕ) ℕ) (key : KeyFields) (place : ℕ) → EcdsaP256 ≡ key.format
    → ((bits : List ℕ) → place_of_bits bits new ≡ (if bytes_eq key.bits bits then Some place else place_of_bits bits old))
    → (other : KeyFields) → place_at (record { rsa = rsa; elliptic = new }) other ≡ (if same_key key other then Some place else place_at (record { rsa = rsa; elliptic = old }) other)
placed_elliptic rsa old new key place is ok other = rw (← is) (by other.format other.bits)
  where
    by : (format : PublicKeyFormat) (bits : List ℕ) → place_among format bits (record { rsa = rsa; elliptic = new })
        ≡ (if same_format EcdsaP256 format && bytes_eq key.bits bits then Some place else place_among format bits (record { rsa = rsa; elliptic = old }))
    by Rsa bits = refl
    by EcdsaP256 bits = ok bits
