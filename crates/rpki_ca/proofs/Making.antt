-- The message that `make` makes, and what comes of it.
use Rattle.std.proofs.Common.{◌⊎◌, ◌≡◌, ◌≢◌, ◌≤◌, ◌<◌, ◌+◌, ◌^◌, ◌%◌, ◌==◌, ℕ, zero, suc, ℤ, inl, inr, Bool, true, false, if◌then◌else◌, Some, None, Err, List, [], ◌∷◌, ◌++◌, length, map, take, slice_index_or, refl, sym, ap, subst, ◌∙◌, arith, length-append}
use Rattle.std.specs.Prelude.{codes}
use Rattle.std.specs.Fmt.{decimal}
use Rattle.std.specs.List.{AllByRecursion, range_with_len, count_by}
use Rattle.std.specs.Int.Signed.{le_z_yes}
use Rattle.std.proofs.lemmas.Bool.Decides.{leb_tells}
use Rattle.std.proofs.lemmas.Fmt.{length-decimal-le}
use Rattle.std.proofs.lemmas.List.FromFn.{length-map-range_with_len}
use Rattle.std.proofs.lemmas.List.Sums.{count_by_more_yes, count_by_more_no}
use Rattle.std.proofs.Math.Seq.{take-length}
use Rattle.base64.specs.Engines.{standard}
use Rattle.base64.specs.GeneralPurpose.{encode_of}
use Rattle.hex.specs.Hex.{lower_digits}
use Rattle.hex.proofs.HexLemmas.{length-encode_with}
use Rattle.sha2.specs.Sha256.{sha256}
use Rattle.sha2.proofs.Facts256.{length-sha256}
use Rattle.rpki_text.specs.Uri.{rsync, fault_of}
use Rattle.rpki_text.proofs.Base64Laws.{length-encode}
use Rattle.rpki_publication.specs.declared.message.Message.{Message}
use Rattle.rpki_publication.specs.declared.message.Message.TheVariants as messages
use Rattle.rpki_publication.specs.declared.query.Query.TheVariants as queries
use Rattle.rpki_publication.specs.declared.publish_delta_element.PublishDeltaElement.{PublishDeltaElement}
use Rattle.rpki_publication.specs.declared.publish_delta_element.PublishDeltaElement.TheVariants as change
use Rattle.rpki_publication.specs.Change.{IsWritableChange, IsSmallChange, normal_change}
use Rattle.rpki_publication.specs.Message as publication
use Rattle.rpki_publication.proofs.Deltas.{small_delta}
use Rattle.rpki_publication.proofs.Digits.{digest_octets, sha256_digest, numbers}
use Rattle.rpki_base.specs.declared.algorithm.SigningAlgorithm.{SigningAlgorithm}
use Rattle.rpki_base.specs.declared.algorithm.SigningAlgorithm.TheVariants.{RsaSha256}
use Rattle.rpki_base.specs.Algorithm.{format_of}
use Rattle.rpki_base.specs.PublicKey.{KeyFields}
use Rattle.rpki_base.specs.Scheme.{Relation}
use Rattle.rpki_signer.specs.declared.errors.KeyError.{KeyError}
use Rattle.rpki_signer.specs.declared.errors.KeyError.TheVariants as keys
use Rattle.rpki_signer.specs.Limits.{Keeps}
use Rattle.rpki_signer.specs.Signer.{SignerState, HeldKey, HoldsKey, Stays, KeyFails, IsKeyOf}
use Rattle.rpki_signer.proofs.States.{then_rose}
use Rattle.rpki_sigmsg.specs.declared.create_error.CreateError.{CreateError}
use Rattle.rpki_sigmsg.specs.declared.create_error.CreateError.TheVariants as create
use Rattle.rpki_sigmsg.specs.FirstRefusals.{IsFirstRefusal}
use Rattle.rpki_sigmsg.specs.Making.{HasWindow, CreateFails}
use Rattle.rpki_ca.specs.declared.receiving.Received.TheVariants as received
use Rattle.rpki_ca.specs.declared.make_line.Action.{Action}
use Rattle.rpki_ca.specs.declared.receiving.Kind.TheVariants as kinds
use Rattle.rpki_ca.specs.declared.receiving.ReceiveError.{ReceiveError}
use Rattle.rpki_ca.specs.declared.receiving.Received.{Received}
use Rattle.rpki_ca.specs.declared.refusals.Refusal.TheVariants as refusals
use Rattle.rpki_ca.specs.Acceptance.{IsWritable, Accepted, RefusesReceipt, protocol_of, accepted_text, normal_form, refusal_of}
use Rattle.rpki_ca.specs.Answer.{IsLineOf}
use Rattle.rpki_ca.specs.Creation.{AreCreated, IsSigningAnswer, IsFirstToRefuse, refusal_of_create, refusal_of_key}
use Rattle.rpki_ca.specs.Seen.{SignerSeen, seen_signer}
use Rattle.rpki_ca.proofs.Creating.{signer_refused, first_told, drawn_other}
use Rattle.rpki_ca.proofs.Laws.{one_accepted, accepted_alone}
use Rattle.rpki_ca.specs.Summary.{made_at, object_at, uri_at, change_tag_at, publish_at, update_at, withdraw_at, change_at, changes, made_message, changes_in, does, summary, FailsToGiveKey, IsMakeAnswer}

-- ---- the changes

-- a change is one of the three
one_of_three : (P : PublishDeltaElement → Type 0) (a b : Bool) (x y z : PublishDeltaElement) → P x → P y → P z → P (if a then x else if b then y else z)
one_of_three P true b x y z p q r = p
one_of_three P false true x y z p q r = q
one_of_three P false false x y z p q r = r

of_three : (P : PublishDeltaElement → Type 0) (seed place : ℕ) → P (change.Publish (publish_at seed place)) → P (change.Update (update_at seed place)) → P (change.Withdraw (withdraw_at seed place)) → P (change_at seed place)
of_three P seed place = one_of_three P (place % 3 == 0) (place % 3 == 1) (change.Publish (publish_at seed place)) (change.Update (update_at seed place)) (change.Withdraw (withdraw_at seed place))

-- it can be written
pub writable_change : (seed place : ℕ) → fault_of rsync (uri_at place) ≡ None → IsWritableChange (change_at seed place)
writable_change seed place lawful =
    let tag = digest_octets (sha256 (object_at seed place)) (sha256_digest (object_at seed place)) in
    of_three IsWritableChange seed place
    (record { tag = tag; uri = lawful; content = numbers seed place })
    (record { tag = tag; uri = lawful; content = numbers seed place; hash = sha256_digest _ })
    (record { tag = tag; uri = lawful; hash = sha256_digest _ })

-- it is in its normal form
normal : (seed place : ℕ) → normal_change (change_at seed place) ≡ change_at seed place
unfolding normal_change
normal seed place = of_three (λ c. normal_change c ≡ c) seed place refl refl refl

-- a made change is small
tag_length : (seed place : ℕ) → length (change_tag_at seed place) ≤ 64
tag_length seed place =
    let twice = length-encode_with lower_digits (sha256 (object_at seed place)) in
    let size = length-sha256 (object_at seed place) in
    omega (arith, twice, size)

uri_length : (place : ℕ) → place < 10000 → length (uri_at place) ≤ 64
uri_length place few =
    let digits = length-decimal-le 4 place (omega arith) (omega (arith, few)) (omega (arith, few)) in
    let behind = length-append (decimal place) (codes ".txt") in
    let whole = length-append (codes "rsync://localhost/ca/f") (decimal place ++ codes ".txt") in
    omega (arith, digits, behind, whole)

content_length : (seed place : ℕ) → length (encode_of standard (object_at seed place)) ≤ 64
content_length seed place = let e = length-encode (object_at seed place) in omega (arith, e)

small : (seed place : ℕ) → place < 10000 → IsSmallChange (change_at seed place)
small seed place few =
    let tag = tag_length seed place in
    let uri = uri_length place few in
    let content = content_length seed place in
    of_three IsSmallChange seed place (tag, (uri, content)) (sha256_digest _, (tag, (uri, content))) (sha256_digest _, (tag, uri))

-- ---- all of them

all_of : {X : Type 0} (P : X → Type 0) (f : ℕ → X) (a n : ℕ) → ((i : ℕ) → i < a + n → P (f i)) → AllByRecursion P (map f (range_with_len a n))
all_of P f a zero h = tt
all_of P f a (suc n) h = (h a (omega arith), all_of P f (a + 1) n (λ i l. h i (omega (arith, l))))

each_same : {X : Type 0} (g : X → X) (f : ℕ → X) (a n : ℕ) → ((i : ℕ) → g (f i) ≡ f i) → map g (map f (range_with_len a n)) ≡ map f (range_with_len a n)
each_same g f a zero h = refl
each_same g f a (suc n) h = rw (h a, each_same g f (a + 1) n h) refl

one_more : {X : Type 0} (f : ℕ → X) (a n : ℕ) → map f (range_with_len a (suc n)) ≡ map f (range_with_len a n) ++ f (a + n) ∷ []
one_more f a zero = let e : a ≡ a + 0 = omega arith in ap (λ k. f k ∷ []) e
one_more f a (suc n) =
    let e : a + 1 + n ≡ a + suc n = omega arith in
    ap (λ l. f a ∷ l) (one_more f (a + 1) n ∙ ap (λ k. map f (range_with_len (a + 1) n) ++ f k ∷ []) e)

-- one after the other
pub nothing_before : (i : ℕ) → i < 0 → fault_of rsync (uri_at i) ≡ None
nothing_before i l = absurd (never i l)
  where
    never : (i : ℕ) → i < 0 → ⊥
    never i l = omega (arith, l)

pub one_lawful_more : (place : ℕ) → ((i : ℕ) → i < place → fault_of rsync (uri_at i) ≡ None) → fault_of rsync (uri_at place) ≡ None → (i : ℕ) → i < place + 1 → fault_of rsync (uri_at i) ≡ None
one_lawful_more place before here i l =
    elim (leb_tells place i) [
      | inl there ↦ subst (λ k. fault_of rsync (uri_at k) ≡ None) (same place i there.1 l) here
      | inr sooner ↦ before i sooner.1
    ]
  where
    same : (p i : ℕ) → p ≤ i → i < p + 1 → p ≡ i
    same p i a b = omega (arith, a, b)

pub next_change : (seed place : ℕ) (old new : List PublishDeltaElement) → old ≡ changes seed place → new ≡ old ++ change_at seed place ∷ [] → new ≡ changes seed (place + 1)
next_change seed place old new is added = added ∙ ap (λ l. l ++ change_at seed place ∷ []) is ∙ ap (λ k. changes seed place ++ change_at seed k ∷ []) here ∙ sym (one_more (change_at seed) 0 place) ∙ ap (λ n. map (change_at seed) (range_with_len 0 n)) more
  where
    here : place ≡ 0 + place
    here = omega arith

    more : suc place ≡ place + 1
    more = omega arith

-- the whole message
pub all_made : (seed place count : ℕ) (delta : List PublishDeltaElement) (m : Message) → place ≤ count → count ≤ place → delta ≡ changes seed place → m ≡ messages.Query (queries.Delta delta) → received.Publication m ≡ made_message seed count
all_made seed place count delta m a b are is =
    let same : place ≡ count = omega (arith, a, b) in
    ap received.Publication (is ∙ ap (λ l. messages.Query (queries.Delta l)) (are ∙ ap (changes seed) same))

pub all_writable : (seed place count : ℕ) (m : Message) → received.Publication m ≡ made_message seed count → count ≤ place → ((i : ℕ) → i < place → fault_of rsync (uri_at i) ≡ None) → IsWritable (received.Publication m)
all_writable seed place count m is b lawful =
    subst IsWritable (sym is) (all_of IsWritableChange (change_at seed) 0 count (λ i l. writable_change seed i (lawful i (omega (arith, l, b)))))

pub normal_message : (seed count : ℕ) → normal_form (made_message seed count) ≡ made_message seed count
unfolding publication.normal_form
normal_message seed count = rw (each_same normal_change (change_at seed) 0 count (normal seed)) refl

-- its text is not too long, and its moment has a window
pub fits : (seed count : ℕ) → count ≤ 10000 → length (accepted_text (made_message seed count)) ≤ 2 ^ 31
fits seed count few =
    let long = small_delta (changes seed count) (all_of IsSmallChange (change_at seed) 0 count (λ i l. small seed i (omega (arith, few, l)))) in
    let number = length-map-range_with_len (change_at seed) 0 count in
    omega (arith, few, long, number)

pub made_window : HasWindow made_at
made_window = record { first = le_z_yes tt; last = le_z_yes tt }

-- ---- what comes of it

-- nothing was created
pub made_refused : {I E : Type 0} (scheme : Relation) (message : Received) (when : ℤ) (signer : SignerSeen I) (e : CreateError E) → HasWindow when → length (accepted_text message) ≤ 2 ^ 31
    → CreateFails (accepted_text message) when signer.id signer.before signer.after e → refusal_of_create e ≢ refusals.OutOfMemory → IsSigningAnswer scheme kinds.Publication message when signer (Err (refusal_of_create e))
made_refused scheme message when signer create.Moment w l f other = absurd (f w)
made_refused scheme message when signer create.TooLong w l (v, inl long) other = absurd (never (length (accepted_text message)) long l)
  where
    never : (n : ℕ) → 2 ^ 31 < n → n ≤ 2 ^ 31 → ⊥
    never n l m = omega (arith, l, m)
made_refused scheme message when signer create.TooLong w l (v, inr short) other = short.1
made_refused scheme message when signer create.KeyReused w l f other = f.1
made_refused scheme message when signer (create.Signing error) w l f other = signer_refused scheme kinds.Publication message when signer error f.2 other
made_refused scheme message when signer create.OutOfMemory w l f other = absurd (other refl)

-- the signer holds the same keys before and after it signed
held_before : {I : Type 0} (id : I) (before middle : SignerState I) (key : KeyFields) → Keeps before middle → HoldsKey middle.keyring id key → HoldsKey before.keyring id key
held_before {I = I} id before middle key keeps holds = subst (λ (k : List (HeldKey I)). HoldsKey k id key) keeps.keyring holds

held_after : {I : Type 0} (id : I) (before middle : SignerState I) (key : KeyFields) → Keeps before middle → HoldsKey before.keyring id key → HoldsKey middle.keyring id key
held_after {I = I} id before middle key keeps holds = subst (λ (k : List (HeldKey I)). HoldsKey k id key) (sym keeps.keyring) holds

-- the issuing key wasn't given then
pub key_refused : {I E : Type 0} (scheme : Relation) (message : Received) (when : ℤ) (id : I) (before middle after : SignerState I) (octets : List ℕ) (e : KeyError E)
    → AreCreated scheme kinds.Publication message when (seen_signer id before middle) octets → Keeps before middle → Stays middle after × KeyFails id middle after e → refusal_of_key e ≢ refusals.OutOfMemory
    → IsSigningAnswer scheme kinds.Publication message when (seen_signer id before after) (Err (refusal_of_key e))
    × (IsFirstToRefuse scheme (accepted_text message) when (seen_signer id before after) (refusal_of_key e) ⊎ FailsToGiveKey scheme (accepted_text message) when (seen_signer id before after) (refusal_of_key e))
key_refused scheme message when id before middle after octets keys.KeyNotFound created keeps f other =
    absurd (f.1 created.created.issuing (held_after id before middle created.created.issuing keeps created.created.holds))
key_refused scheme message when id before middle after octets (keys.Signer x) created keeps f other =
    (then_rose before.faults middle.faults after.faults keeps.later.faults f.1, inr (record { between = middle; signed = created.signed; created = created.created; stays = f.0; is = refl; told = f.1 }))
key_refused scheme message when id before middle after octets keys.OutOfMemory created keeps f other = absurd (other refl)

-- under the issuing key the octets are accepted as the message
pub accepted_made : {I : Type 0} (scheme : Relation) (seed count : ℕ) (id : I) (before middle : SignerState I) (octets : List ℕ) (issuing : KeyFields)
    → AreCreated scheme kinds.Publication (made_message seed count) made_at (seen_signer id before middle) octets → Keeps before middle → HoldsKey middle.keyring id issuing
    → Accepted scheme kinds.Publication octets (issuing ∷ []) made_at (made_message seed count)
accepted_made scheme seed count id before middle octets issuing created keeps holds =
    subst (λ (m : Received). Accepted scheme kinds.Publication octets (issuing ∷ []) made_at m) (normal_message seed count)
    (created.receivable issuing (held_before id before middle issuing keeps holds) (issuing ∷ []) (record { before = []; behind = []; parts = refl }) made_at (le_z_yes tt) (le_z_yes tt))

-- the summary
pub summed : {I : Type 0} (scheme : Relation) → ((kind : SigningAlgorithm) (key : KeyFields) (message signature : List ℕ) → scheme kind key message signature → key.format ≡ format_of kind)
    → (seed count : ℕ) (id : I) (before middle after : SignerState I) (octets : List ℕ) (issuing : KeyFields) (m : Received) (line : List ℕ)
    → AreCreated scheme kinds.Publication (made_message seed count) made_at (seen_signer id before middle) octets → Keeps before middle → IsKeyOf id middle after issuing
    → Accepted scheme kinds.Publication octets (issuing ∷ []) made_at m → line ≡ summary (changes_in m) octets ++ 10 ∷ []
    → IsLineOf (IsMakeAnswer scheme count seed (seen_signer id before after)) line
summed scheme fit seed count id before middle after octets issuing m line created keeps key accepted is =
    let same = one_accepted scheme kinds.Publication octets (issuing ∷ []) made_at m (made_message seed count) accepted
    (accepted_made scheme seed count id before middle octets issuing created keeps key.holds) in
    let made = created.created in (
      summary (changes seed count) octets,
      record {
        issuing = made.issuing;
        holds = made.holds;
        format = fit RsaSha256 made.issuing _ _ made.made.issued.signed;
        other = subst (λ d. d ≢ Some made.issuing) (sym key.stays.drawn) (drawn_other middle.drawn made.key made.issuing made.drawn made.other);
        octets = octets;
        receivable = created.receivable;
        written = refl;
      },
      is ∙ ap (λ (x : Received). summary (changes_in x) octets ++ 10 ∷ []) same,
    )

-- ---- the summary, of what the calls are given

-- what was created of the message at that moment
pub created_here : {I : Type 0} (scheme : Relation) (seed count : ℕ) (m : Received) (when : ℤ) (signer : SignerSeen I) (octets : List ℕ) → m ≡ made_message seed count → when ≡ made_at
    → AreCreated scheme (protocol_of m) m when signer octets → AreCreated scheme kinds.Publication (made_message seed count) made_at signer octets
created_here scheme seed count m when signer octets is at created =
    subst (λ (t : ℤ). AreCreated scheme kinds.Publication (made_message seed count) t signer octets) at (subst (λ (x : Received). AreCreated scheme (protocol_of x) x when signer octets) is created)

pub octets_refused : {I E : Type 0} (scheme : Relation) (seed count : ℕ) (m : Received) (when : ℤ) (signer : SignerSeen I) (e : CreateError E) → m ≡ made_message seed count → when ≡ made_at → count ≤ 10000
    → CreateFails (accepted_text m) when signer.id signer.before signer.after e → IsFirstRefusal scheme (accepted_text m) when signer.id signer.before signer.after e → refusal_of_create e ≢ refusals.OutOfMemory → IsMakeAnswer scheme count seed signer (Err (refusal_of_create e))
octets_refused scheme seed count m when signer e is at few f first other =
    let here = subst (λ (x : Received). CreateFails (accepted_text x) when signer.id signer.before signer.after e) is f in
    let turn = subst (λ (x : Received). IsFirstRefusal scheme (accepted_text x) when signer.id signer.before signer.after e) is first in (
      made_refused scheme (made_message seed count) made_at signer e made_window (fits seed count few) (subst (λ (t : ℤ). CreateFails (accepted_text (made_message seed count)) t signer.id signer.before signer.after e) at here) other,
      inl (first_told scheme (accepted_text (made_message seed count)) made_at signer e (fits seed count few) (subst (λ (t : ℤ). IsFirstRefusal scheme (accepted_text (made_message seed count)) t signer.id signer.before signer.after e) at turn)),
    )

pub receipt_refused : {I : Type 0} (scheme : Relation) (seed count : ℕ) (id : I) (before middle after : SignerState I) (octets held : List ℕ) (issuing : KeyFields) (when : ℤ) (e : ReceiveError)
    → AreCreated scheme kinds.Publication (made_message seed count) made_at (seen_signer id before middle) octets → Keeps before middle → HoldsKey middle.keyring id issuing → held ≡ octets → when ≡ made_at
    → RefusesReceipt scheme kinds.Publication held (issuing ∷ []) when e → refusal_of e ≢ refusals.OutOfMemory → IsMakeAnswer scheme count seed (seen_signer id before after) (Err (refusal_of e))
receipt_refused scheme seed count id before middle after octets held issuing when e created keeps holds same at refused other =
    absurd (accepted_alone scheme kinds.Publication octets (issuing ∷ []) made_at (made_message seed count) e (accepted_made scheme seed count id before middle octets issuing created keeps holds)
    (subst (λ (t : ℤ). RefusesReceipt scheme kinds.Publication octets (issuing ∷ []) t e) at (subst (λ (o : List ℕ). RefusesReceipt scheme kinds.Publication o (issuing ∷ []) when e) same refused)) other)

pub accepted_here : (scheme : Relation) (octets held : List ℕ) (keys : List KeyFields) (when : ℤ) (m : Received) → held ≡ octets → when ≡ made_at → Accepted scheme kinds.Publication held keys when m → Accepted scheme kinds.Publication octets keys made_at m
accepted_here scheme octets held keys when m same at accepted =
    subst (λ (t : ℤ). Accepted scheme kinds.Publication octets keys t m) at (subst (λ (o : List ℕ). Accepted scheme kinds.Publication o keys when m) same accepted)

-- ---- how many changes do something

pub counted_yes : (action : Action) (cs : List PublishDeltaElement) (i k n : ℕ) (c : PublishDeltaElement) → i < length cs → c ≡ slice_index_or cs i c → does action c ≡ true → n ≡ k + 1 → (k ≡ count_by (does action) (take i cs)) × (k ≤ i)
    → (n ≡ count_by (does action) (take (i + 1) cs)) × (n ≤ i + 1)
counted_yes action cs i k n c l at so more h =
    let there = subst (λ x. does action x ≡ true) at so in
    (more ∙ ap (λ m. m + 1) h.0 ∙ sym (count_by_more_yes (does action) cs i c l there), omega (arith, more, h.1))

pub counted_no : (action : Action) (cs : List PublishDeltaElement) (i k n : ℕ) (c : PublishDeltaElement) → i < length cs → c ≡ slice_index_or cs i c → does action c ≡ false → n ≡ k → (k ≡ count_by (does action) (take i cs)) × (k ≤ i)
    → (n ≡ count_by (does action) (take (i + 1) cs)) × (n ≤ i + 1)
counted_no action cs i k n c l at so same h =
    let there = subst (λ x. does action x ≡ false) at so in
    (same ∙ h.0 ∙ sym (count_by_more_no (does action) cs i c l there), omega (arith, same, h.1))

pub counted_all : (action : Action) (cs : List PublishDeltaElement) (i k : ℕ) → i ≤ length cs → length cs ≤ i → (k ≡ count_by (does action) (take i cs)) × (k ≤ i) → k ≡ count_by (does action) cs
counted_all action cs i k m l h =
    let whole : i ≡ length cs = omega (arith, m, l) in
    h.0 ∙ ap (λ j. count_by (does action) (take j cs)) whole ∙ ap (count_by (does action)) (take-length cs)
