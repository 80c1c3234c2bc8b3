-- What the toy signer answers exactly is what each signer promises.
use Rattle.std.proofs.Common.{◌⊎◌, inl, inr, ◌≡◌, ℕ, ◌<◌, ◌≤◌, Option, None, Some, Result, Ok, Err, List, [], ◌∷◌, ◌++◌, length, refl, sym, ap, subst, ◌∙◌, arith}
use Rattle.std.specs.Prelude.{◌≢◌, IfErr, MatchResult}
use Rattle.std.specs.Option.{option_map}
use Rattle.std.specs.Int.{to_be_bytes, from_be_bytes, w64}
use Rattle.std.proofs.lemmas.List.{append_cancel_left}
use Rattle.std.proofs.lemmas.Nat.{from_be_bytes-to_be_bytes_8}
use Rattle.std.proofs.lemmas.Option.{none-some}
use Rattle.sha2.proofs.Facts256.{length-sha256}
use Rattle.rpki_common.specs.Causes.{Rose}
use Rattle.rpki_base.specs.declared.algorithm.PublicKeyFormat.{PublicKeyFormat}
use Rattle.rpki_base.specs.declared.algorithm.PublicKeyFormat.TheVariants.{Rsa, EcdsaP256}
use Rattle.rpki_base.specs.declared.algorithm.SigningAlgorithm.{SigningAlgorithm}
use Rattle.rpki_base.specs.declared.errors.ToyFault.{ToyFault}
use Rattle.rpki_base.specs.Algorithm.{format_of}
use Rattle.rpki_base.specs.PublicKey.{KeyFields}
use Rattle.rpki_base.specs.Signature.{SignatureParts}
use Rattle.rpki_text.specs.Counts.{count_after}
use Rattle.rpki_signer.specs.declared.errors.CallError.{CallError}
use Rattle.rpki_signer.specs.declared.errors.CallError.TheVariants as call
use Rattle.rpki_signer.specs.declared.errors.KeyError.{KeyError}
use Rattle.rpki_signer.specs.declared.errors.KeyError.TheVariants as keys
use Rattle.rpki_signer.specs.declared.errors.SigningError.{SigningError}
use Rattle.rpki_signer.specs.declared.errors.SigningError.TheVariants as signing
use Rattle.rpki_signer.specs.declared.toy_signer.ToyKey.{ToyKey}
use Rattle.rpki_signer.specs.Toy.{ToyChecks, toy_signature}
use Rattle.rpki_signer.specs.Signer.{HeldKey, HoldsKey, AreDistinct, Stays, CallFails, KeyFails, SigningFails, CallSpares, KeySpares, SigningSpares, IsUnfit, IsKeyCreated, IsDestroyed, IsKeyOf, IsSignature, IsOneOff, IsDrawn}
use Rattle.rpki_signer.specs.ToySigner.{ToyState, key_of, held_key, keyring_of, state_of, IsSoundToy, AreCounts, key_numbered, after_creating, counted, after_fault, after_drawing, after_choosing, after_signing_once, one_off_key, IsToyGone, IsToyCreated, IsToyKey, IsToyDestroyed, IsToyFound, IsToyUnfit, IsToySigned, RefusesToyKey, IsToySignedOnce, IsToyRandom, octets_of_parts, once_of}
use Rattle.rpki_signer.proofs.Keyrings.{none_in, first_or_behind, one_key}
use Rattle.rpki_signer.proofs.ToySigners.{AreBelow, lacks_next, keyring_push, keyring_parts, found_is_held, missing_is_lacked}

-- ---- counts

rises : (n : ℕ) → n < 18446744073709551616 → n ≤ count_after n
rises n h = omega (arith, h)

rose : (n : ℕ) → Rose n (count_after n)
rose n = omega arith

-- ---- what stays

counted_stays : (s : ToyState) → Stays (state_of s) (state_of (counted s))
counted_stays s = record { later = record { faults = omega arith; overlong = omega arith; reused = omega arith }; keyring = refl; drawn = refl; random = refl }

drawing_stays : (s : ToyState) → Stays (state_of s) (state_of (after_drawing s))
drawing_stays s = record { later = record { faults = omega arith; overlong = omega arith; reused = omega arith }; keyring = refl; drawn = refl; random = refl }

fault_stays : (s : ToyState) → AreCounts s → Stays (state_of s) (state_of (after_fault s))
fault_stays s c = record { later = record { faults = rises s.faults c.faults; overlong = omega arith; reused = omega arith }; keyring = refl; drawn = refl; random = refl }

stays_by : (old is new : ToyState) → new ≡ is → Stays (state_of old) (state_of is) → Stays (state_of old) (state_of new)
stays_by old is new e s = subst (λ (x : ToyState). Stays (state_of old) (state_of x)) (sym e) s

stays_counted : (old new : ToyState) → new ≡ counted old → Stays (state_of old) (state_of new)
stays_counted old new e = stays_by old (counted old) new e (counted_stays old)

stays_drawing : (old new : ToyState) → new ≡ after_drawing old → Stays (state_of old) (state_of new)
stays_drawing old new e = stays_by old (after_drawing old) new e (drawing_stays old)

stays_fault : (old new : ToyState) → AreCounts old → new ≡ after_fault old → Stays (state_of old) (state_of new)
stays_fault old new c e = stays_by old (after_fault old) new e (fault_stays old c)

rose_fault : (old new : ToyState) → new ≡ after_fault old → Rose old.faults new.faults
rose_fault old new e = subst (λ (x : ToyState). Rose old.faults x.faults) (sym e) (rose old.faults)

-- ---- and what a call leaves that gives something, or is refused without a fault

faults_of : (old is new : ToyState) → new ≡ is → is.faults ≡ old.faults → new.faults ≡ old.faults
faults_of old is new e f = ap (λ (x : ToyState). x.faults) e ∙ f

counted_spares : (old new : ToyState) → new ≡ counted old → new.faults ≡ old.faults
counted_spares old new e = faults_of old (counted old) new e refl

drawing_spares : (old new : ToyState) → new ≡ after_drawing old → new.faults ≡ old.faults
drawing_spares old new e = faults_of old (after_drawing old) new e refl

choosing_by : (format : PublicKeyFormat) (reuse : Option ℕ) (s : ToyState) → s.reuse ≡ reuse → (after_choosing format s).faults ≡ s.faults
choosing_by Rsa (Some number) s e = rw e refl
choosing_by Rsa None s e = rw e refl
choosing_by EcdsaP256 o s e = refl

pub choosing_spares : (format : PublicKeyFormat) (s : ToyState) → (after_choosing format s).faults ≡ s.faults
choosing_spares format s = choosing_by format s.reuse s refl

pub created_spares : (format : PublicKeyFormat) (old new : ToyState) (result : Result ℕ (CallError ToyFault)) → IsToyCreated format old new result → IfErr result (CallSpares (state_of old) (state_of new))
created_spares format old new (Ok id) e = tt
created_spares format old new (Err (call.Signer fault)) e = tt
created_spares format old new (Err call.OutOfMemory) e = drawing_spares old new e.1

pub key_spares : (number : ℕ) (old new : ToyState) (result : Result KeyFields (KeyError ToyFault)) → IsToyKey number old new result → IfErr result (KeySpares (state_of old) (state_of new))
key_spares number old new (Ok key) e = tt
key_spares number old new (Err keys.KeyNotFound) e = counted_spares old new e.2
key_spares number old new (Err (keys.Signer fault)) e = tt
key_spares number old new (Err keys.OutOfMemory) e = counted_spares old new e.1

pub destroyed_spares : (number : ℕ) (old new : ToyState) (result : Result (Unit {0}) (KeyError ToyFault)) → IsToyDestroyed number old new result → IfErr result (KeySpares (state_of old) (state_of new))
destroyed_spares number old new (Ok u) e = tt
destroyed_spares number old new (Err keys.KeyNotFound) e = counted_spares old new e.2
destroyed_spares number old new (Err (keys.Signer fault)) e = tt
destroyed_spares number old new (Err keys.OutOfMemory) e = absurd e

pub refused_spares : (number : ℕ) (format : PublicKeyFormat) (old new : ToyState) (error : SigningError ToyFault) → RefusesToyKey number format old new error → SigningSpares (state_of old) (state_of new) error
refused_spares number format old new signing.KeyNotFound e = counted_spares old new e.2
refused_spares number format old new signing.IncompatibleKey e = counted_spares old new e.is
refused_spares number format old new (signing.Signer fault) e = tt
refused_spares number format old new signing.OutOfMemory e = counted_spares old new e.1.is

pub signed_spares : {A : Type 0} (kind : SigningAlgorithm) (number : ℕ) (message : List ℕ) (old new : ToyState) (result : Result (SignatureParts A) (SigningError ToyFault)) → IsToySigned kind number message old new (octets_of_parts result) → IfErr result (SigningSpares (state_of old) (state_of new))
signed_spares kind number message old new (Ok s) e = tt
signed_spares kind number message old new (Err error) e = refused_spares number (format_of kind) old new error e

pub once_spares : {A : Type 0} (kind : SigningAlgorithm) (message : List ℕ) (old new : ToyState) (result : Result (SignatureParts A × KeyFields) (CallError ToyFault)) → IsToySignedOnce kind message old new (once_of result) → IfErr result (CallSpares (state_of old) (state_of new))
once_spares kind message old new (Ok (s, k)) e = tt
once_spares kind message old new (Err (call.Signer fault)) e = tt
once_spares kind message old new (Err call.OutOfMemory) e = faults_of old (after_choosing (format_of kind) old) new e.1 (choosing_spares (format_of kind) old)

-- ---- making a key

after_added : (s : ToyState) (format : PublicKeyFormat) → IsSoundToy s.seed s.next s.keys → IsKeyCreated format (state_of s) (state_of (after_creating format s)) s.next
after_added s format sound = record {
  key = key_of s.seed (record { number = s.next; format = format });
  format_is = refl;
  new = lacks_next s.seed s.next s.keys sound.below;
  keyring = keyring_push s.seed s.keys (record { number = s.next; format = format });
  later = record { faults = omega arith; overlong = omega arith; reused = omega arith };
  no_fault = refl;
  drawn = refl;
  random = refl;
}

pub created_is : (format : PublicKeyFormat) (old new : ToyState) (result : Result ℕ (CallError ToyFault)) → IsSoundToy old.seed old.next old.keys → AreCounts old → IsToyCreated format old new result
    → MatchResult result (IsKeyCreated format (state_of old) (state_of new)) (λ e. Stays (state_of old) (state_of new) × CallFails (state_of old) (state_of new) e)
created_is format old new (Ok id) s c e = rw (e.1, e.2) (after_added old format s)
created_is format old new (Err (call.Signer fault)) s c e = (stays_fault old new c e.1, rose_fault old new e.1)
created_is format old new (Err call.OutOfMemory) s c e = (stays_drawing old new e.1, tt)

-- ---- a key

abbrev given : KeyFields → Option KeyFields → KeyFields
given d None = d
given d (Some x) = x

same_key : (a b : KeyFields) → Some a ≡ Some b → a ≡ b
same_key a b p = ap (λ (o : Option KeyFields). given a o) p

some_key : (seed : ℕ) (o : Option ToyKey) (key : KeyFields) → option_map (key_of seed) o ≡ Some key → (k : ToyKey) × (o ≡ Some k) × (key_of seed k ≡ key)
some_key seed None key e = absurd (none-some key e)
some_key seed (Some k) key e = (k, refl, same_key (key_of seed k) key e)

short_key : (seed : ℕ) (k : ToyKey) (key : KeyFields) → key_of seed k ≡ key → 65536 < length key.bits → ⊥
short_key seed k key e long =
    let sixteen : length (key_of seed k).bits ≡ 16 = refl in
    let same : length (key_of seed k).bits ≡ length key.bits = ap (λ (x : KeyFields). length x.bits) e in
    omega (arith, sixteen, same, long)

is_key : (old new : ToyState) (number : ℕ) (key : KeyFields) → option_map (key_of old.seed) (key_numbered old.keys number) ≡ Some key → new ≡ counted old → IsKeyOf number (state_of old) (state_of new) key
is_key old new number key e f =
    let k = some_key old.seed (key_numbered old.keys number) key e in
    record {
      stays = stays_counted old new f;
      no_fault = counted_spares old new f;
      holds = subst (λ x. HoldsKey (keyring_of old.seed old.keys) number x) k.2 (found_is_held old.seed old.keys number k.0 k.1);
      told = λ long. absurd (short_key old.seed k.0 key k.2 long);
    }

pub key_is : (number : ℕ) (old new : ToyState) (result : Result KeyFields (KeyError ToyFault)) → AreCounts old → IsToyKey number old new result
    → MatchResult result (IsKeyOf number (state_of old) (state_of new)) (λ e. Stays (state_of old) (state_of new) × KeyFails number (state_of old) (state_of new) e)
key_is number old new (Ok key) c e = is_key old new number key e.1 e.2
key_is number old new (Err keys.KeyNotFound) c e = (stays_counted old new e.2, missing_is_lacked old.seed old.keys number e.1)
key_is number old new (Err (keys.Signer fault)) c e = (stays_fault old new c e.1, rose_fault old new e.1)
key_is number old new (Err keys.OutOfMemory) c e = (stays_counted old new e.1, tt)

-- ---- a key less

gone_is : (old new : ToyState) (number : ℕ) → IsToyGone number old new → IsDestroyed number (state_of old) (state_of new)
gone_is old new number g =
    let k : ToyKey = record { number = number; format = g.out.format } in
    let parts = ap (keyring_of old.seed) g.out.was ∙ keyring_parts old.seed g.out.front (k ∷ g.out.back) in
    let left = ap (keyring_of old.seed) g.out.is ∙ keyring_parts old.seed g.out.front g.out.back in
    subst (λ (x : ToyState). IsDestroyed number (state_of old) (state_of x)) (sym g.is) (record {
      key = key_of old.seed k;
      front = keyring_of old.seed g.out.front;
      back = keyring_of old.seed g.out.back;
      held = parts;
      keyring = left;
      later = record { faults = omega arith; overlong = omega arith; reused = omega arith };
      no_fault = refl;
      drawn = refl;
      random = refl;
    })

pub destroyed_is : (number : ℕ) (old new : ToyState) (result : Result (Unit {0}) (KeyError ToyFault)) → AreCounts old → IsToyDestroyed number old new result
    → MatchResult result (λ _. IsDestroyed number (state_of old) (state_of new)) (λ e. Stays (state_of old) (state_of new) × KeyFails number (state_of old) (state_of new) e)
destroyed_is number old new (Ok u) c e = gone_is old new number e
destroyed_is number old new (Err keys.KeyNotFound) c e = (stays_counted old new e.2, missing_is_lacked old.seed old.keys number e.1)
destroyed_is number old new (Err (keys.Signer fault)) c e = (stays_fault old new c e.1, rose_fault old new e.1)
destroyed_is number old new (Err keys.OutOfMemory) c e = absurd e

-- ---- signatures

short_signature : (octets : List ℕ) (key : KeyFields) (message : List ℕ) → octets ≡ toy_signature key message → 65536 < length octets → ⊥
short_signature octets key message e long =
    let same : length octets ≡ length (toy_signature key message) = ap (λ (o : List ℕ). length o) e in
    omega (arith, length-sha256 (key.bits ++ message), same, long)

found_signs : (kind : SigningAlgorithm) (old new : ToyState) (number : ℕ) (message octets : List ℕ) (key : ToyKey) → IsToyFound number (format_of kind) old new key → octets ≡ toy_signature (key_of old.seed key) message
    → IsSignature ToyChecks kind number message (state_of old) (state_of new) octets
found_signs kind old new number message octets key f e = record {
  stays = stays_counted old new f.is;
  no_fault = counted_spares old new f.is;
  key = key_of old.seed key;
  holds = found_is_held old.seed old.keys number key f.found;
  signed = (f.fits, e);
  told = λ long. absurd (short_signature octets (key_of old.seed key) message e long);
}

unfit_is : (kind : SigningAlgorithm) (old new : ToyState) (number : ℕ) → AreDistinct (keyring_of old.seed old.keys) → IsToyUnfit number (format_of kind) old new → IsUnfit kind (keyring_of old.seed old.keys) number
unfit_is kind old new number d u =
    let key = key_of old.seed u.key in
    let holds = found_is_held old.seed old.keys number u.key u.found in
    record {
      key = key;
      holds = holds;
      only = λ other held. subst (λ (k : KeyFields). k.format ≢ format_of kind) (one_key (keyring_of old.seed old.keys) number key other d holds held) u.unfit;
    }

pub signed_is : (kind : SigningAlgorithm) (number : ℕ) (message : List ℕ) (old new : ToyState) (result : Result (List ℕ) (SigningError ToyFault)) → IsSoundToy old.seed old.next old.keys → AreCounts old → IsToySigned kind number message old new result
    → MatchResult result (λ octets. IsSignature ToyChecks kind number message (state_of old) (state_of new) octets) (λ e. Stays (state_of old) (state_of new) × SigningFails kind number (state_of old) (state_of new) e)
signed_is kind number message old new (Ok octets) s c e = found_signs kind old new number message octets e.0 e.1 e.2
signed_is kind number message old new (Err signing.KeyNotFound) s c e = (stays_counted old new e.2, missing_is_lacked old.seed old.keys number e.1)
signed_is kind number message old new (Err signing.IncompatibleKey) s c e = (stays_counted old new e.is, unfit_is kind old new number s.distinct e)
signed_is kind number message old new (Err (signing.Signer fault)) s c e = (stays_fault old new c e.1, rose_fault old new e.1)
signed_is kind number message old new (Err signing.OutOfMemory) s c e = (stays_counted old new e.1.is, tt)

-- ---- a key for one use

-- the number that comes next is that of no key
same_number : (m n : ℕ) → m < 18446744073709551616 → n < 18446744073709551616 → to_be_bytes w64 m ≡ to_be_bytes w64 n → m ≡ n
same_number m n p q e = sym (from_be_bytes-to_be_bytes_8 m p) ∙ ap (from_be_bytes w64) e ∙ from_be_bytes-to_be_bytes_8 n q

key_numbers : (seed : ℕ) (k l : ToyKey) → k.number < 18446744073709551616 → l.number < 18446744073709551616 → key_of seed k ≡ key_of seed l → k.number ≡ l.number
key_numbers seed k l p q e =
    same_number k.number l.number p q (append_cancel_left (to_be_bytes w64 seed) (to_be_bytes w64 k.number) (to_be_bytes w64 l.number) (ap (λ (x : KeyFields). x.bits) e))

fresh_by : (seed next : ℕ) (format : PublicKeyFormat) (k : ToyKey) (more : List ToyKey) (id : ℕ) → next < 18446744073709551616 → k.number < next
    → ((held_key seed k ≡ record { id = id; key = key_of seed (record { number = next; format = format }) }) ⊎ HoldsKey (keyring_of seed more) id (key_of seed (record { number = next; format = format })))
    → (HoldsKey (keyring_of seed more) id (key_of seed (record { number = next; format = format })) → ⊥) → ⊥
fresh_by seed next format k more id h b (inl e) f =
    let n : k.number ≡ next = key_numbers seed k (record { number = next; format = format }) (omega (arith, h, b)) h (ap (λ (x : HeldKey ℕ). x.key) e) in
    omega (arith, n, b)
fresh_by seed next format k more id h b (inr c) f = f c

fresh : (seed next : ℕ) (format : PublicKeyFormat) (held : List ToyKey) (id : ℕ) → next < 18446744073709551616 → AreBelow next held → HoldsKey (keyring_of seed held) id (key_of seed (record { number = next; format = format })) → ⊥
fresh seed next format [] id h b c = none_in (record { id = id; key = key_of seed (record { number = next; format = format }) }) c
fresh seed next format (k ∷ more) id h b c =
    fresh_by seed next format k more id h b.0 (first_or_behind (held_key seed k) (record { id = id; key = key_of seed (record { number = next; format = format }) }) (keyring_of seed more) c) (fresh seed next format more id h b.1)

-- what is chosen, with the rest of the clause
pub record IsChosen (old : ToyState) (format : PublicKeyFormat) : Type 0 where
  pub stays : Stays (state_of old) (state_of (after_choosing format old))
  pub new : (id : ℕ) → HoldsKey (keyring_of old.seed old.keys) id (key_of old.seed (one_off_key format old.reuse old.next)) → Rose old.reused (after_choosing format old).reused
  pub format_is : (one_off_key format old.reuse old.next).format ≡ format
  pub seed : (after_choosing format old).seed ≡ old.seed
  pub no_fault : (after_choosing format old).faults ≡ old.faults

set_again : (s : ToyState) (number : ℕ) → AreCounts s → Stays (state_of s) (state_of (record s { calls = count_after s.calls; reused = count_after s.reused }))
set_again s number c = record { later = record { faults = omega arith; overlong = omega arith; reused = rises s.reused c.reused }; keyring = refl; drawn = refl; random = refl }

chosen_by : (format : PublicKeyFormat) (reuse : Option ℕ) (s : ToyState) → s.reuse ≡ reuse → IsSoundToy s.seed s.next s.keys → AreCounts s → IsChosen s format
chosen_by Rsa (Some number) s e sound c = rw e (record { stays = set_again s number c; new = λ id h. rose s.reused; format_is = refl; seed = refl; no_fault = refl })
chosen_by Rsa None s e sound c = rw e (record { stays = drawing_stays s; new = λ id h. absurd (fresh s.seed s.next Rsa s.keys id c.next sound.below h); format_is = refl; seed = refl; no_fault = refl })
chosen_by EcdsaP256 o s e sound c = record { stays = drawing_stays s; new = λ id h. absurd (fresh s.seed s.next EcdsaP256 s.keys id c.next sound.below h); format_is = refl; seed = refl; no_fault = refl }

pub chosen : (format : PublicKeyFormat) (s : ToyState) → IsSoundToy s.seed s.next s.keys → AreCounts s → IsChosen s format
chosen format s sound c = chosen_by format s.reuse s refl sound c

signed_once : (kind : SigningAlgorithm) (message : List ℕ) (old : ToyState) (octets : List ℕ) (key : KeyFields) → IsSoundToy old.seed old.next old.keys → AreCounts old
    → key ≡ key_of old.seed (one_off_key (format_of kind) old.reuse old.next) → octets ≡ toy_signature key message → IsOneOff ToyChecks kind message (state_of old) (state_of (after_signing_once (format_of kind) old)) octets key
signed_once kind message old octets key s c e f =
    let d = chosen (format_of kind) old s c in
    let k = one_off_key (format_of kind) old.reuse old.next in
    record {
      later = record { faults = d.stays.later.faults; overlong = d.stays.later.overlong; reused = d.stays.later.reused };
      no_fault = d.no_fault;
      keyring = d.stays.keyring;
      drawn = ap (λ seed. Some (key_of seed k)) d.seed ∙ ap (λ (x : KeyFields). Some x) (sym e);
      random = d.stays.random;
      signed = (ap (λ (x : KeyFields). x.format) e ∙ d.format_is, f);
      fresh = λ id h. d.new id (subst (λ (x : KeyFields). HoldsKey (keyring_of old.seed old.keys) id x) e h);
      told = λ long. absurd (short_signature octets key message f long);
      key_told = λ long. absurd (short_key old.seed k key (sym e) long);
    }

pub once_is : (kind : SigningAlgorithm) (message : List ℕ) (old new : ToyState) (result : Result (List ℕ × KeyFields) (CallError ToyFault)) → IsSoundToy old.seed old.next old.keys → AreCounts old → IsToySignedOnce kind message old new result
    → MatchResult result (λ r. IsOneOff ToyChecks kind message (state_of old) (state_of new) r.0 r.1) (λ e. Stays (state_of old) (state_of new) × CallFails (state_of old) (state_of new) e)
once_is kind message old new (Ok (octets, key)) s c e = subst (λ (x : ToyState). IsOneOff ToyChecks kind message (state_of old) (state_of x) octets key) (sym e.3) (signed_once kind message old octets key s c e.1 e.2)
once_is kind message old new (Err (call.Signer fault)) s c e = (stays_fault old new c e.1, rose_fault old new e.1)
once_is kind message old new (Err call.OutOfMemory) s c e = (stays_by old (after_choosing (format_of kind) old) new e.1 (chosen (format_of kind) old s c).stays, tt)

-- ---- random octets

pub random_is : (old new : ToyState) (was octets : List ℕ) (result : Result (Unit {0}) (CallError ToyFault)) → AreCounts old → IsToyRandom old new was octets result
    → MatchResult result (λ _. IsDrawn (state_of old) (state_of new) octets) (λ e. Stays (state_of old) (state_of new) × CallFails (state_of old) (state_of new) e)
random_is old new was octets (Ok u) c e = subst (λ (x : ToyState). IsDrawn (state_of old) (state_of x) octets) (sym e.2) (record { later = record { faults = omega arith; overlong = omega arith; reused = omega arith }; no_fault = refl; keyring = refl; drawn = refl; random = refl })
random_is old new was octets (Err (call.Signer fault)) c e = (stays_fault old new c e.1, rose_fault old new e.1)
random_is old new was octets (Err call.OutOfMemory) c e = absurd e

-- ---- the keyring

pub distinct_if_same : (old new : ToyState) → AreDistinct (keyring_of old.seed old.keys) → new.seed ≡ old.seed → new.keys ≡ old.keys → AreDistinct (keyring_of new.seed new.keys)
distinct_if_same old new d e f = rw (e, f) d

-- ---- what is answered

pub answer_signed : {A : Type 0} (kind : SigningAlgorithm) (number : ℕ) (message : List ℕ) (old new : ToyState) (result : Result (SignatureParts A) (SigningError ToyFault)) → IsSoundToy old.seed old.next old.keys → AreCounts old → IsToySigned kind number message old new (octets_of_parts result)
    → MatchResult result (λ s. IsSignature ToyChecks kind number message (state_of old) (state_of new) s.value) (λ e. Stays (state_of old) (state_of new) × SigningFails kind number (state_of old) (state_of new) e)
answer_signed kind number message old new (Ok s) sound c e = signed_is kind number message old new (Ok s.value) sound c e
answer_signed kind number message old new (Err error) sound c e = signed_is kind number message old new (Err error) sound c e

pub answer_once : {A : Type 0} (kind : SigningAlgorithm) (message : List ℕ) (old new : ToyState) (result : Result (SignatureParts A × KeyFields) (CallError ToyFault)) → IsSoundToy old.seed old.next old.keys → AreCounts old → IsToySignedOnce kind message old new (once_of result)
    → MatchResult result (λ r. IsOneOff ToyChecks kind message (state_of old) (state_of new) r.0.value r.1) (λ e. Stays (state_of old) (state_of new) × CallFails (state_of old) (state_of new) e)
answer_once kind message old new (Ok (s, k)) sound c e = once_is kind message old new (Ok (s.value, k)) sound c e
answer_once kind message old new (Err error) sound c e = once_is kind message old new (Err error) sound c e
