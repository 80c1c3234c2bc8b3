-- What the toy signer answers is what each signer promises.
use Rattle.std.proofs.Common.{◌≡◌, ◌≢◌, ℕ, ◌+◌, ◌<◌, ◌⊎◌, inl, inr, Bool, true, false, Option, None, Some, List, [], ◌∷◌, ◌++◌, length, refl, sym, ap, subst, ◌∙◌, arith}
use Rattle.std.proofs.Common.{suc}
use Rattle.sha2.specs.Sha256.{sha256}
use Rattle.std.proofs.Math.Seq.{drop-cons}
use Rattle.std.proofs.lemmas.List.{take-append-drop}
use Rattle.std.specs.Prelude.{slice_index_or, take, drop, ◌==◌, if◌then◌else◌}
use Rattle.std.specs.List.{AllByRecursion}
use Rattle.std.proofs.lemmas.Bool.{eqb-true, eqb-false}
use Rattle.std.proofs.lemmas.List.{map-append}
use Rattle.std.proofs.lemmas.Option.{none-some}
use Rattle.rpki_base.specs.declared.algorithm.PublicKeyFormat.{PublicKeyFormat}
use Rattle.rpki_base.specs.PublicKey.{KeyFields}
use Rattle.rpki_signer.specs.declared.toy_signer.ToyKey.{ToyKey}
use Rattle.rpki_signer.specs.Signer.{HeldKey, HoldsKey, LacksKey, AreDistinct}
use Rattle.rpki_signer.specs.ToySigner.{ToyState, key_of, held_key, keyring_of, IsSoundToy, key_numbered, after_drawing, IsTakenOut}
use Rattle.rpki_signer.proofs.Keyrings.{none_in, here, behind, first_or_behind, distinct_push, distinct_out}

-- ---- all numbers were drawn

abbrev pub AreBelow : ℕ → List ToyKey → Type 0
AreBelow next keys = AllByRecursion (λ k. k.number < next) keys

below_by : (seed next : ℕ) (k : ToyKey) (more : List ToyKey) (id : ℕ) (key : KeyFields) → k.number < next
    → ((held_key seed k ≡ record { id = id; key = key }) ⊎ HoldsKey (keyring_of seed more) id key) → (HoldsKey (keyring_of seed more) id key → id < next) → id < next
below_by seed next k more id key h (inl e) f = subst (λ i. i < next) (ap (λ (x : HeldKey ℕ). x.id) e) h
below_by seed next k more id key h (inr c) f = f c

pub held_below : (seed next : ℕ) (keys : List ToyKey) (id : ℕ) (key : KeyFields) → AreBelow next keys → HoldsKey (keyring_of seed keys) id key → id < next
held_below seed next [] id key b c = absurd (none_in (record { id = id; key = key }) c)
held_below seed next (k ∷ more) id key b c = below_by seed next k more id key b.0 (first_or_behind (held_key seed k) (record { id = id; key = key }) (keyring_of seed more) c) (held_below seed next more id key b.1)

pub lacks_next : (seed next : ℕ) (keys : List ToyKey) → AreBelow next keys → LacksKey (keyring_of seed keys) next
lacks_next seed next keys b key c = let h = held_below seed next keys next key b c in omega (arith, h)

below_push : (next : ℕ) (keys : List ToyKey) (format : PublicKeyFormat) → AreBelow next keys → AreBelow (next + 1) (keys ++ record { number = next; format = format } ∷ [])
below_push next [] format b = (omega arith, tt)
below_push next (k ∷ more) format b = (omega (arith, b.0), below_push next more format b.1)

below_later : (next : ℕ) (keys : List ToyKey) → AreBelow next keys → AreBelow (next + 1) keys
below_later next [] b = tt
below_later next (k ∷ more) b = (omega (arith, b.0), below_later next more b.1)

pub keyring_push : (seed : ℕ) (keys : List ToyKey) (k : ToyKey) → keyring_of seed (keys ++ k ∷ []) ≡ keyring_of seed keys ++ held_key seed k ∷ []
keyring_push seed keys k = map-append (held_key seed) keys (k ∷ [])

pub keyring_parts : (seed : ℕ) (front back : List ToyKey) → keyring_of seed (front ++ back) ≡ keyring_of seed front ++ keyring_of seed back
keyring_parts seed front back = map-append (held_key seed) front back

pub sound_push : (seed next : ℕ) (keys : List ToyKey) (format : PublicKeyFormat) → IsSoundToy seed next keys → IsSoundToy seed (next + 1) (keys ++ record { number = next; format = format } ∷ [])
sound_push seed next keys format s = record {
  distinct = subst AreDistinct (sym (keyring_push seed keys (record { number = next; format = format }))) (distinct_push (keyring_of seed keys) (held_key seed (record { number = next; format = format })) s.distinct (lacks_next seed next keys s.below));
  below = below_push next keys format s.below;
}

pub sound_later : (seed next : ℕ) (keys : List ToyKey) → IsSoundToy seed next keys → IsSoundToy seed (next + 1) keys
sound_later seed next keys s = record { distinct = s.distinct; below = below_later next keys s.below }

below_out : (next : ℕ) (front : List ToyKey) (k : ToyKey) (back : List ToyKey) → AreBelow next (front ++ k ∷ back) → AreBelow next (front ++ back)
below_out next [] k back b = b.1
below_out next (g ∷ front) k back b = (b.0, below_out next front k back b.1)

pub sound_out : (seed next : ℕ) (front : List ToyKey) (k : ToyKey) (back : List ToyKey) → IsSoundToy seed next (front ++ k ∷ back) → IsSoundToy seed next (front ++ back)
sound_out seed next front k back s = record {
  distinct = subst AreDistinct (sym (keyring_parts seed front back)) (distinct_out (keyring_of seed front) (held_key seed k) (keyring_of seed back) (subst AreDistinct (keyring_parts seed front (k ∷ back)) s.distinct));
  below = below_out next front k back s.below;
}

-- after a number was drawn, with its key or without
pub drawn_sound : (old new : ToyState) → IsSoundToy old.seed old.next old.keys → new ≡ after_drawing old → IsSoundToy new.seed new.next new.keys
drawn_sound old new s e = subst (λ (x : ToyState). IsSoundToy x.seed x.next x.keys) (sym e) (sound_later old.seed old.next old.keys s)

pub added_sound : (old new : ToyState) (number : ℕ) (format : PublicKeyFormat) → IsSoundToy old.seed old.next old.keys → new ≡ after_drawing old → number ≡ old.next → IsSoundToy new.seed new.next (new.keys ++ record { number = number; format = format } ∷ [])
added_sound old new number format s e n = rw n (subst (λ (x : ToyState). IsSoundToy x.seed x.next (x.keys ++ record { number = old.next; format = format } ∷ [])) (sym e) (sound_push old.seed old.next old.keys format s))

-- ---- a key by its number

same_some : (k l : ToyKey) → Some k ≡ Some l → k ≡ l
same_some k l e = ap (λ (o : Option ToyKey). given o) e
  where
    given : Option ToyKey → ToyKey
    given None = k
    given (Some x) = x

found_by : (seed : ℕ) (b : Bool) (k found : ToyKey) (more : List ToyKey) (number : ℕ) → (b ≡ true → k.number ≡ number) → (if b then Some k else key_numbered more number) ≡ Some found
    → (key_numbered more number ≡ Some found → HoldsKey (keyring_of seed more) number (key_of seed found)) → HoldsKey (keyring_of seed (k ∷ more)) number (key_of seed found)
found_by seed true k found more number t e f =
    let is : k ≡ found = same_some k found e in
    subst (λ n. HoldsKey (keyring_of seed (k ∷ more)) n (key_of seed found)) (t refl) (subst (λ (x : ToyKey). HoldsKey (keyring_of seed (k ∷ more)) k.number (key_of seed x)) is (here (held_key seed k) (keyring_of seed more)))
found_by seed false k found more number t e f = behind (held_key seed k) (record { id = number; key = key_of seed found }) (keyring_of seed more) (f e)

pub found_is_held : (seed : ℕ) (keys : List ToyKey) (number : ℕ) (found : ToyKey) → key_numbered keys number ≡ Some found → HoldsKey (keyring_of seed keys) number (key_of seed found)
found_is_held seed [] number found e = absurd (none-some found e)
found_is_held seed (k ∷ more) number found e = found_by seed (k.number == number) k found more number (eqb-true k.number number) e (found_is_held seed more number found)

missing_by : (seed : ℕ) (b : Bool) (k : ToyKey) (more : List ToyKey) (number : ℕ) (key : KeyFields) → (b ≡ false → k.number ≢ number) → (if b then Some k else key_numbered more number) ≡ None
    → ((held_key seed k ≡ record { id = number; key = key }) ⊎ HoldsKey (keyring_of seed more) number key) → (key_numbered more number ≡ None → HoldsKey (keyring_of seed more) number key → ⊥) → ⊥
missing_by seed true k more number key t e c f = absurd (none-some k (sym e))
missing_by seed false k more number key t e (inl p) f = t refl (ap (λ (x : HeldKey ℕ). x.id) p)
missing_by seed false k more number key t e (inr c) f = f e c

pub missing_is_lacked : (seed : ℕ) (keys : List ToyKey) (number : ℕ) → key_numbered keys number ≡ None → LacksKey (keyring_of seed keys) number
missing_is_lacked seed [] number e key c = none_in (record { id = number; key = key }) c
missing_is_lacked seed (k ∷ more) number e key c =
    missing_by seed (k.number == number) k more number key (eqb-false k.number number) e (first_or_behind (held_key seed k) (record { id = number; key = key }) (keyring_of seed more) c) (λ m d. missing_is_lacked seed more number m key d)

-- ---- a key is taken out

eta : (number : ℕ) (r : ToyKey) → r.number ≡ number → r ≡ record { number = number; format = r.format }
eta number r e = ap (λ n. record { number = n; format = r.format }) e

pub taken_out : (number i : ℕ) (items after : List ToyKey) (r : ToyKey) → i < length items → r ≡ slice_index_or items i r → r.number ≡ number → after ≡ take i items ++ drop (i + 1) items → IsTakenOut number items after
taken_out number i items after r h e n a =
    let next : i + 1 ≡ suc i = omega arith in
    let behind' : drop i items ≡ r ∷ drop (i + 1) items = drop-cons items i r h ∙ (ap (λ x. x ∷ drop (suc i) items) (sym e) ∙ ap (λ j. r ∷ drop j items) (sym next)) in
    record {
      format = r.format;
      front = take i items;
      back = drop (i + 1) items;
      was = sym (take-append-drop i items) ∙ (ap (λ l. take i items ++ l) behind' ∙ ap (λ x. take i items ++ x ∷ drop (i + 1) items) (eta number r n));
      is = a;
    }

pub out_sound : (seed next number : ℕ) (before after : List ToyKey) → IsTakenOut number before after → IsSoundToy seed next before → IsSoundToy seed next after
out_sound seed next number before after t s =
    subst (λ l. IsSoundToy seed next l) (sym t.is) (sound_out seed next t.front (record { number = number; format = t.format }) t.back (subst (λ l. IsSoundToy seed next l) t.was s))

-- ---- what is digested

pub three_pieces : (a b c x y z r : List ℕ) → a ≡ x → b ≡ y → c ≡ z → r ≡ sha256 ((a ++ b) ++ c) → r ≡ sha256 ((x ++ y) ++ z)
three_pieces a b c x y z r p q s e = e ∙ (ap (λ o. sha256 ((o ++ b) ++ c)) p ∙ (ap (λ o. sha256 ((x ++ o) ++ c)) q ∙ ap (λ o. sha256 ((x ++ y) ++ o)) s))
