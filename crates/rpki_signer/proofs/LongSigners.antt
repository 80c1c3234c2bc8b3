-- What the signer of long signatures answers exactly is what each signer promises.
use Rattle.std.proofs.Common.{◌≡◌, ◌∙◌, ℕ, ◌<◌, ◌≤◌, Bool, true, false, Result, Ok, Err, List, length, refl, sym, ap, subst, arith}
use Rattle.std.specs.Prelude.{IfErr, MatchResult, OnOk, nat_lt, if◌then◌else◌}
use Rattle.std.proofs.lemmas.Bool.{lt-ltb}
use Rattle.std.proofs.lemmas.List.{length-replicate}
use Rattle.rpki_common.specs.Causes.{Rose}
use Rattle.rpki_base.specs.declared.algorithm.PublicKeyFormat.{PublicKeyFormat}
use Rattle.rpki_base.specs.declared.algorithm.SigningAlgorithm.{SigningAlgorithm}
use Rattle.rpki_base.specs.declared.errors.ToyFault.{ToyFault}
use Rattle.rpki_base.specs.Algorithm.{format_of}
use Rattle.rpki_base.specs.PublicKey.{KeyFields}
use Rattle.rpki_base.specs.Signature.{SignatureParts}
use Rattle.rpki_text.specs.Counts.{count_after}
use Rattle.rpki_signer.specs.declared.errors.CallError.{CallError}
use Rattle.rpki_signer.specs.declared.errors.CallError.TheVariants as call
use Rattle.rpki_signer.specs.declared.errors.KeyError.{KeyError}
use Rattle.rpki_signer.specs.declared.errors.KeyError.TheVariants as keys
use Rattle.rpki_signer.specs.declared.errors.SigningError.{SigningError}
use Rattle.rpki_signer.specs.declared.errors.SigningError.TheVariants as signing
use Rattle.rpki_signer.specs.declared.toy_signer.ToyKey.{ToyKey}
use Rattle.rpki_signer.specs.Any.{AnyChecks}
use Rattle.rpki_signer.specs.Toy.{ToyChecks, toy_signature}
use Rattle.rpki_signer.specs.Signer.{SignerState, IsLater, Stays, TellsLength, CallFails, KeyFails, SigningFails, CallSpares, KeySpares, SigningSpares, IsKeyCreated, IsDestroyed, IsKeyOf, IsSignature, IsOneOff, IsDrawn}
use Rattle.rpki_signer.specs.ToySigner.{ToyState, key_of, state_of, IsSoundToy, AreCounts, one_off_key, after_signing_once, after_choosing, after_fault, cannot_sign_once, IsToyCreated, IsToyKey, IsToyDestroyed, IsToyFound, IsToyRandom, octets_of_parts, once_of}
use Rattle.rpki_signer.specs.LongSigner.{LongState, long_state, long_signature, overlong_after, after_giving, with_toy, IsLongSigned, IsLongSignedOnce}
use Rattle.rpki_signer.proofs.Promises.{created_is, key_is, destroyed_is, signed_is, once_is, random_is, created_spares, key_spares, destroyed_spares, refused_spares, choosing_spares}

-- ---- a state with another count of what is too long

abbrev with_count : {I : Type 0} → SignerState I → ℕ → SignerState I
with_count s n = record s { overlong = n }

later_with : {I : Type 0} (a b : SignerState I) (m n : ℕ) → m ≤ n → IsLater a b → IsLater (with_count a m) (with_count b n)
later_with a b m n h p = record { faults = p.faults; overlong = h; reused = p.reused }

stays_with : {I : Type 0} (a b : SignerState I) (m n : ℕ) → m ≤ n → Stays a b → Stays (with_count a m) (with_count b n)
stays_with a b m n h p = record { later = later_with a b m n h p.later; keyring = p.keyring; drawn = p.drawn; random = p.random }

same_count : (n : ℕ) → n ≤ n
same_count n = omega arith

call_with : {I E : Type 0} (a b : SignerState I) (n : ℕ) (e : CallError E) → Stays a b × CallFails a b e → Stays (with_count a n) (with_count b n) × CallFails (with_count a n) (with_count b n) e
call_with a b n (call.Signer error) p = (stays_with a b n n (same_count n) p.0, p.1)
call_with a b n call.OutOfMemory p = (stays_with a b n n (same_count n) p.0, tt)

key_with : {I E : Type 0} (id : I) (a b : SignerState I) (n : ℕ) (e : KeyError E) → Stays a b × KeyFails id a b e → Stays (with_count a n) (with_count b n) × KeyFails id (with_count a n) (with_count b n) e
key_with id a b n keys.KeyNotFound p = (stays_with a b n n (same_count n) p.0, p.1)
key_with id a b n (keys.Signer error) p = (stays_with a b n n (same_count n) p.0, p.1)
key_with id a b n keys.OutOfMemory p = (stays_with a b n n (same_count n) p.0, tt)

signing_with : {I E : Type 0} (kind : SigningAlgorithm) (id : I) (a b : SignerState I) (n : ℕ) (e : SigningError E) → Stays a b × SigningFails kind id a b e
    → Stays (with_count a n) (with_count b n) × SigningFails kind id (with_count a n) (with_count b n) e
signing_with kind id a b n signing.KeyNotFound p = (stays_with a b n n (same_count n) p.0, p.1)
signing_with kind id a b n signing.IncompatibleKey p = (stays_with a b n n (same_count n) p.0, p.1)
signing_with kind id a b n (signing.Signer error) p = (stays_with a b n n (same_count n) p.0, p.1)
signing_with kind id a b n signing.OutOfMemory p = (stays_with a b n n (same_count n) p.0, tt)

-- ---- the calls that sign nothing

created_with : {E : Type 0} (format : PublicKeyFormat) (a b : SignerState ℕ) (n : ℕ) (result : Result ℕ (CallError E)) → MatchResult result (IsKeyCreated format a b) (λ e. Stays a b × CallFails a b e)
    → MatchResult result (IsKeyCreated format (with_count a n) (with_count b n)) (λ e. Stays (with_count a n) (with_count b n) × CallFails (with_count a n) (with_count b n) e)
created_with format a b n (Ok id) p = record { key = p.key; format_is = p.format_is; new = p.new; keyring = p.keyring; later = later_with a b n n (same_count n) p.later; no_fault = p.no_fault; drawn = p.drawn; random = p.random }
created_with format a b n (Err e) p = call_with a b n e p

pub long_created : (format : PublicKeyFormat) (old : LongState) (new : ToyState) (result : Result ℕ (CallError ToyFault)) → IsSoundToy old.toy.seed old.toy.next old.toy.keys → AreCounts old.toy → IsToyCreated format old.toy new result
    → MatchResult result (IsKeyCreated format (long_state old) (long_state (with_toy new old))) (λ e. Stays (long_state old) (long_state (with_toy new old)) × CallFails (long_state old) (long_state (with_toy new old)) e)
long_created format old new result s c e = created_with format (state_of old.toy) (state_of new) old.overlong result (created_is format old.toy new result s c e)

-- a toy signer tells nothing of lengths
untold : {I : Type 0} (a b : SignerState I) (m n : ℕ) (octets : List ℕ) → (Rose a.overlong b.overlong → ⊥) → TellsLength a b octets → TellsLength (with_count a m) (with_count b n) octets
untold a b m n octets still t = λ long. absurd (still (t long))

none_rose : Rose 0 0 → ⊥
none_rose r = omega (arith, r)

found_with : {E : Type 0} (id : ℕ) (a b : SignerState ℕ) (n : ℕ) (result : Result KeyFields (KeyError E)) → (Rose a.overlong b.overlong → ⊥) → MatchResult result (IsKeyOf id a b) (λ e. Stays a b × KeyFails id a b e)
    → MatchResult result (IsKeyOf id (with_count a n) (with_count b n)) (λ e. Stays (with_count a n) (with_count b n) × KeyFails id (with_count a n) (with_count b n) e)
found_with id a b n (Ok key) still p = record { stays = stays_with a b n n (same_count n) p.stays; no_fault = p.no_fault; holds = p.holds; told = untold a b n n key.bits still p.told }
found_with id a b n (Err e) still p = key_with id a b n e p

pub long_key : (number : ℕ) (old : LongState) (new : ToyState) (result : Result KeyFields (KeyError ToyFault)) → AreCounts old.toy → IsToyKey number old.toy new result
    → MatchResult result (IsKeyOf number (long_state old) (long_state (with_toy new old))) (λ e. Stays (long_state old) (long_state (with_toy new old)) × KeyFails number (long_state old) (long_state (with_toy new old)) e)
long_key number old new result c e = found_with number (state_of old.toy) (state_of new) old.overlong result none_rose (key_is number old.toy new result c e)

destroyed_with : {E : Type 0} (id : ℕ) (a b : SignerState ℕ) (n : ℕ) (result : Result (Unit {0}) (KeyError E)) → MatchResult result (λ _. IsDestroyed id a b) (λ e. Stays a b × KeyFails id a b e)
    → MatchResult result (λ _. IsDestroyed id (with_count a n) (with_count b n)) (λ e. Stays (with_count a n) (with_count b n) × KeyFails id (with_count a n) (with_count b n) e)
destroyed_with id a b n (Ok u) p = record { key = p.key; front = p.front; back = p.back; held = p.held; keyring = p.keyring; later = later_with a b n n (same_count n) p.later; no_fault = p.no_fault; drawn = p.drawn; random = p.random }
destroyed_with id a b n (Err e) p = key_with id a b n e p

pub long_destroyed : (number : ℕ) (old : LongState) (new : ToyState) (result : Result (Unit {0}) (KeyError ToyFault)) → AreCounts old.toy → IsToyDestroyed number old.toy new result
    → MatchResult result (λ _. IsDestroyed number (long_state old) (long_state (with_toy new old))) (λ e. Stays (long_state old) (long_state (with_toy new old)) × KeyFails number (long_state old) (long_state (with_toy new old)) e)
long_destroyed number old new result c e = destroyed_with number (state_of old.toy) (state_of new) old.overlong result (destroyed_is number old.toy new result c e)

drawn_with : {E : Type 0} (a b : SignerState ℕ) (n : ℕ) (octets : List ℕ) (result : Result (Unit {0}) (CallError E)) → MatchResult result (λ _. IsDrawn a b octets) (λ e. Stays a b × CallFails a b e)
    → MatchResult result (λ _. IsDrawn (with_count a n) (with_count b n) octets) (λ e. Stays (with_count a n) (with_count b n) × CallFails (with_count a n) (with_count b n) e)
drawn_with a b n octets (Ok u) p = record { later = later_with a b n n (same_count n) p.later; no_fault = p.no_fault; keyring = p.keyring; drawn = p.drawn; random = p.random }
drawn_with a b n octets (Err e) p = call_with a b n e p

pub long_random : (old : LongState) (new : ToyState) (was octets : List ℕ) (result : Result (Unit {0}) (CallError ToyFault)) → AreCounts old.toy → IsToyRandom old.toy new was octets result
    → MatchResult result (λ _. IsDrawn (long_state old) (long_state (with_toy new old)) octets) (λ e. Stays (long_state old) (long_state (with_toy new old)) × CallFails (long_state old) (long_state (with_toy new old)) e)
long_random old new was octets result c e = drawn_with (state_of old.toy) (state_of new) old.overlong octets result (random_is old.toy new was octets result c e)

-- ---- signatures

-- the count doesn't fall, and a signature that is too long is told
count_by : (b : Bool) (n : ℕ) → n < 18446744073709551616 → n ≤ (if b then count_after n else n)
count_by true n h = omega (arith, h)
count_by false n h = omega arith

rises : (octets n : ℕ) → n < 18446744073709551616 → n ≤ overlong_after octets n
rises octets n h = count_by (nat_lt 65536 octets) n h

told_by : (octets n : ℕ) (signature : List ℕ) → signature ≡ long_signature octets → 65536 < length signature → Rose n (overlong_after octets n)
told_by octets n signature e long =
    let same : length signature ≡ length (long_signature octets) = ap (λ (o : List ℕ). length o) e in
    let zeros : length (long_signature octets) ≡ octets = length-replicate octets 0 in
    let over : 65536 < octets = omega (arith, same, zeros, long) in
    let risen : Rose n (count_after n) = omega arith in
    subst (λ b. Rose n (if b then count_after n else n)) (sym (lt-ltb 65536 octets over)) risen

long_found : (kind : SigningAlgorithm) (number : ℕ) (message octets : List ℕ) (old : LongState) (new : ToyState) (key : ToyKey) → IsSoundToy old.toy.seed old.toy.next old.toy.keys → AreCounts old.toy → old.overlong < 18446744073709551616 → IsToyFound number (format_of kind) old.toy new key → octets ≡ long_signature old.octets
    → IsSignature AnyChecks kind number message (long_state old) (long_state (after_giving new old)) octets
long_found kind number message octets old new key s c h f e =
    let p = signed_is kind number message old.toy new (Ok (toy_signature (key_of old.toy.seed key) message)) s c (key, f, refl) in
    record {
      stays = stays_with (state_of old.toy) (state_of new) old.overlong (overlong_after old.octets old.overlong) (rises old.octets old.overlong h) p.stays;
      no_fault = p.no_fault;
      key = p.key;
      holds = p.holds;
      signed = p.signed.0;
      told = told_by old.octets old.overlong octets e;
    }

long_signed : (kind : SigningAlgorithm) (number : ℕ) (message : List ℕ) (old new : LongState) (result : Result (List ℕ) (SigningError ToyFault)) → IsSoundToy old.toy.seed old.toy.next old.toy.keys → AreCounts old.toy → OnOk result (old.overlong < 18446744073709551616) → IsLongSigned kind number old new result
    → MatchResult result (λ octets. IsSignature AnyChecks kind number message (long_state old) (long_state new) octets) (λ e. Stays (long_state old) (long_state new) × SigningFails kind number (long_state old) (long_state new) e)
long_signed kind number message old new (Ok octets) s c h e =
    subst (λ (x : LongState). IsSignature AnyChecks kind number message (long_state old) (long_state x) octets) (sym e.3) (long_found kind number message octets old new.toy e.0 s c h e.1 e.2)
long_signed kind number message old new (Err error) s c h e =
    subst (λ (x : LongState). Stays (long_state old) (long_state x) × SigningFails kind number (long_state old) (long_state x) error) (sym e.1)
    (signing_with kind number (state_of old.toy) (state_of new.toy) old.overlong error (signed_is kind number message old.toy new.toy (Err error) s c e.0))

-- ---- signatures under a key for one use

once_with : (kind : SigningAlgorithm) (message toy octets : List ℕ) (key : KeyFields) (a b : SignerState ℕ) (m n : ℕ) → (Rose a.overlong b.overlong → ⊥) → m ≤ n → (65536 < length octets → Rose m n) → IsOneOff ToyChecks kind message a b toy key
    → IsOneOff AnyChecks kind message (with_count a m) (with_count b n) octets key
once_with kind message toy octets key a b m n still h t p = record {
  later = later_with a b m n h p.later;
  no_fault = p.no_fault;
  keyring = p.keyring;
  drawn = p.drawn;
  random = p.random;
  signed = p.signed.0;
  fresh = p.fresh;
  told = t;
  key_told = untold a b m n key.bits still p.key_told;
}

once_given : (kind : SigningAlgorithm) (message octets : List ℕ) (key : KeyFields) (old : LongState) → IsSoundToy old.toy.seed old.toy.next old.toy.keys → AreCounts old.toy → old.overlong < 18446744073709551616 → cannot_sign_once (format_of kind) old.toy ≡ false
    → key ≡ key_of old.toy.seed (one_off_key (format_of kind) old.toy.reuse old.toy.next) → octets ≡ long_signature old.octets
    → IsOneOff AnyChecks kind message (long_state old) (long_state (after_giving (after_signing_once (format_of kind) old.toy) old)) octets key
once_given kind message octets key old s c h able k e =
    let toy = after_signing_once (format_of kind) old.toy in
    let p = once_is kind message old.toy toy (Ok (toy_signature key message, key)) s c (able, k, refl, refl) in
    once_with kind message (toy_signature key message) octets key (state_of old.toy) (state_of toy) old.overlong (overlong_after old.octets old.overlong) none_rose (rises old.octets old.overlong h)
    (told_by old.octets old.overlong octets e) p

long_once : (kind : SigningAlgorithm) (message : List ℕ) (old new : LongState) (result : Result (List ℕ × KeyFields) (CallError ToyFault)) → IsSoundToy old.toy.seed old.toy.next old.toy.keys → AreCounts old.toy → OnOk result (old.overlong < 18446744073709551616) → IsLongSignedOnce kind old new result
    → MatchResult result (λ r. IsOneOff AnyChecks kind message (long_state old) (long_state new) r.0 r.1) (λ e. Stays (long_state old) (long_state new) × CallFails (long_state old) (long_state new) e)
long_once kind message old new (Ok (octets, key)) s c h e =
    subst (λ (x : LongState). IsOneOff AnyChecks kind message (long_state old) (long_state x) octets key) (sym e.3) (once_given kind message octets key old s c h e.0 e.1 e.2)
long_once kind message old new (Err (call.Signer fault)) s c h e =
    let toy = after_fault old.toy in
    subst (λ (x : LongState). Stays (long_state old) (long_state x) × CallFails {E = ToyFault} (long_state old) (long_state x) (call.Signer fault)) (sym e.1)
    (call_with (state_of old.toy) (state_of toy) old.overlong (call.Signer fault) (once_is kind message old.toy toy (Err (call.Signer fault)) s c (e.0, refl)))
long_once kind message old new (Err call.OutOfMemory) s c h e =
    let toy = after_choosing (format_of kind) old.toy in
    subst (λ (x : LongState). Stays (long_state old) (long_state x) × CallFails {E = ToyFault} (long_state old) (long_state x) call.OutOfMemory) (sym e.1)
    (call_with {E = ToyFault} (state_of old.toy) (state_of toy) old.overlong call.OutOfMemory (once_is kind message old.toy toy (Err call.OutOfMemory) s c (e.0, refl)))

-- ---- what is answered

pub long_answer : {A : Type 0} (kind : SigningAlgorithm) (number : ℕ) (message : List ℕ) (old new : LongState) (result : Result (SignatureParts A) (SigningError ToyFault)) → IsSoundToy old.toy.seed old.toy.next old.toy.keys → AreCounts old.toy → OnOk result (old.overlong < 18446744073709551616) → IsLongSigned kind number old new (octets_of_parts result)
    → MatchResult result (λ s. IsSignature AnyChecks kind number message (long_state old) (long_state new) s.value) (λ e. Stays (long_state old) (long_state new) × SigningFails kind number (long_state old) (long_state new) e)
long_answer kind number message old new (Ok s) sound c h e = long_signed kind number message old new (Ok s.value) sound c h e
long_answer kind number message old new (Err error) sound c h e = long_signed kind number message old new (Err error) sound c h e

pub long_answer_once : {A : Type 0} (kind : SigningAlgorithm) (message : List ℕ) (old new : LongState) (result : Result (SignatureParts A × KeyFields) (CallError ToyFault)) → IsSoundToy old.toy.seed old.toy.next old.toy.keys → AreCounts old.toy → OnOk result (old.overlong < 18446744073709551616)
    → IsLongSignedOnce kind old new (once_of result)
    → MatchResult result (λ r. IsOneOff AnyChecks kind message (long_state old) (long_state new) r.0.value r.1) (λ e. Stays (long_state old) (long_state new) × CallFails (long_state old) (long_state new) e)
long_answer_once kind message old new (Ok (s, k)) sound c h e = long_once kind message old new (Ok (s.value, k)) sound c h e
long_answer_once kind message old new (Err error) sound c h e = long_once kind message old new (Err error) sound c h e

-- ---- a refusal without a fault

call_spares_with : {T E : Type 0} (a b : SignerState ℕ) (m n : ℕ) (result : Result T (CallError E)) → IfErr result (CallSpares a b) → IfErr result (CallSpares (with_count a m) (with_count b n))
call_spares_with a b m n (Ok x) p = tt
call_spares_with a b m n (Err (call.Signer error)) p = tt
call_spares_with a b m n (Err call.OutOfMemory) p = p

key_spares_with : {T E : Type 0} (a b : SignerState ℕ) (m n : ℕ) (result : Result T (KeyError E)) → IfErr result (KeySpares a b) → IfErr result (KeySpares (with_count a m) (with_count b n))
key_spares_with a b m n (Ok x) p = tt
key_spares_with a b m n (Err keys.KeyNotFound) p = p
key_spares_with a b m n (Err (keys.Signer error)) p = tt
key_spares_with a b m n (Err keys.OutOfMemory) p = p

signing_spares_with : {E : Type 0} (a b : SignerState ℕ) (m n : ℕ) (e : SigningError E) → SigningSpares a b e → SigningSpares (with_count a m) (with_count b n) e
signing_spares_with a b m n signing.KeyNotFound p = p
signing_spares_with a b m n signing.IncompatibleKey p = p
signing_spares_with a b m n (signing.Signer error) p = tt
signing_spares_with a b m n signing.OutOfMemory p = p

pub long_created_spares : (format : PublicKeyFormat) (old : LongState) (new : ToyState) (result : Result ℕ (CallError ToyFault)) → IsToyCreated format old.toy new result → IfErr result (CallSpares (long_state old) (long_state (with_toy new old)))
long_created_spares format old new result e = call_spares_with (state_of old.toy) (state_of new) old.overlong old.overlong result (created_spares format old.toy new result e)

pub long_key_spares : (number : ℕ) (old : LongState) (new : ToyState) (result : Result KeyFields (KeyError ToyFault)) → IsToyKey number old.toy new result → IfErr result (KeySpares (long_state old) (long_state (with_toy new old)))
long_key_spares number old new result e = key_spares_with (state_of old.toy) (state_of new) old.overlong old.overlong result (key_spares number old.toy new result e)

pub long_destroyed_spares : (number : ℕ) (old : LongState) (new : ToyState) (result : Result (Unit {0}) (KeyError ToyFault)) → IsToyDestroyed number old.toy new result → IfErr result (KeySpares (long_state old) (long_state (with_toy new old)))
long_destroyed_spares number old new result e = key_spares_with (state_of old.toy) (state_of new) old.overlong old.overlong result (destroyed_spares number old.toy new result e)

pub long_signed_spares : {A : Type 0} (kind : SigningAlgorithm) (number : ℕ) (old new : LongState) (result : Result (SignatureParts A) (SigningError ToyFault)) → IsLongSigned kind number old new (octets_of_parts result) → IfErr result (SigningSpares (long_state old) (long_state new))
long_signed_spares kind number old new (Ok s) e = tt
long_signed_spares kind number old new (Err error) e = signing_spares_with (state_of old.toy) (state_of new.toy) old.overlong new.overlong error (refused_spares number (format_of kind) old.toy new.toy error e.0)

pub long_once_spares : {A : Type 0} (kind : SigningAlgorithm) (old new : LongState) (result : Result (SignatureParts A × KeyFields) (CallError ToyFault)) → IsLongSignedOnce kind old new (once_of result) → IfErr result (CallSpares (long_state old) (long_state new))
long_once_spares kind old new (Ok (s, k)) e = tt
long_once_spares kind old new (Err (call.Signer fault)) e = tt
long_once_spares kind old new (Err call.OutOfMemory) e = ap (λ (s : LongState). s.toy.faults) e.1 ∙ choosing_spares (format_of kind) old.toy
