-- What single words of a command line say, they say of one thing.
use Rattle.std.proofs.Common.{Bor, ◌≡◌, ◌≤◌, ◌<◌, ◌+◌, ◌⊎◌, inl, inr, ℕ, ℤ, zero, suc, pos, negsuc, Bool, true, false, Option, Some, None, List, [], ◌∷◌, ◌++◌, codes, drop, length, map, get_or, refl, sym, ap, subst, ◌∙◌, append_assoc, arith}
use Rattle.std.specs.Prelude.{bytes_eq, nat_eq, take}
use Rattle.std.specs.Cmp.Lexicographic.{pointwise}
use Rattle.std.proofs.lemmas.Bool.Decides.{Decides-eqb}
use Rattle.std.proofs.lemmas.Slice.Eq.{strip_prefix_is}
use Rattle.std.specs.Result.{result_ok}
use Rattle.std.specs.Fmt.{decimal}
use Rattle.std.proofs.lemmas.Fmt.{decimal_digit, first_decimal}
use Rattle.std.proofs.lemmas.List.{append_cancel_left}
use Rattle.hex.specs.Hex.{decode_of}
use Rattle.rpki_common.proofs.Truths.{equal_octets, none_some, same_some}
use Rattle.rpki_base.specs.PublicKey.{KeyFields}
use Rattle.rpki_base.specs.Validity.{ValidityFields}
use Rattle.rpki_text.specs.Hash.{digest_of_text}
use Rattle.rpki_text.specs.Uri.{fault_of, https}
use Rattle.rpki_text.specs.declared.uri.Error.TheVariants.{BadScheme}
use Rattle.rpki_ca.specs.Lines.{digit_of}
use Rattle.rpki_ca.specs.Words.{IsMomentAt, SpellsMoment}
use Rattle.rpki_ca.proofs.Commands.{one_moment_at}
use Rattle.rpki_external.specs.Answers.{AnswersFields}
use Rattle.rpki_external.specs.Words.{AreAnswersAt, AreFewKeys, AreSignatureWords, HasWord, IsLastAt, IsNotifyAt, IsPlan, IsRequestPlan, IsValidityAt, SpellsAt, SpellsNamed}
use Rattle.rpki_external.specs.declared.preparing.Plan.{Plan}
use Rattle.rpki_external.specs.declared.preparing.Signatures.{Signatures}
use Rattle.rpki_external.specs.declared.preparing_requests.RequestPlan.{RequestPlan}

-- ---- a word at an index

pub one_word : (words : List (List ℕ)) (index : ℕ) (a b : List ℕ) → HasWord words index a → HasWord words index b → a ≡ b
one_word words index a b p q = same_some a b (sym p ∙ q)

-- one word isn't two that differ
pub apart : (words : List (List ℕ)) (index : ℕ) (a b : List ℕ) → HasWord words index a → HasWord words index b → bytes_eq a b ≡ false → ⊥
apart words index a b p q other = unlike (sym (equal_octets a) ∙ ap (bytes_eq a) (one_word words index a b p q) ∙ other)
  where
    unlike : true ≡ false → ⊥
    unlike e = cc

-- ---- keys

same_list : (ks ls : List KeyFields) → map Some ks ≡ map Some ls → ks ≡ ls
same_list [] [] e = refl
same_list [] (l ∷ ls) e = cc
same_list (k ∷ ks) [] e = cc
same_list (k ∷ ks) (l ∷ ls) e = both (same_some k l (first e)) (same_list ks ls (more e))
  where
    both : k ≡ l → ks ≡ ls → k ∷ ks ≡ l ∷ ls
    both p q = rw (p, q) refl

    first : map Some (k ∷ ks) ≡ map Some (l ∷ ls) → Some k ≡ Some l
    first f = cc

    more : map Some (k ∷ ks) ≡ map Some (l ∷ ls) → map Some ks ≡ map Some ls
    more f = cc

pub one_list : (words : List (List ℕ)) (index : ℕ) (ks ls : List KeyFields) → AreFewKeys words index ks → AreFewKeys words index ls → ks ≡ ls
one_list words index ks ls p q = same_list ks ls (sym p.spell ∙ q.spell)

-- ---- answers

digit_at : (answers : List Bool) (i : ℕ) → i < length (map digit_of answers) → (get_or (map digit_of answers) i 0 ≡ 49) ⊎ (get_or (map digit_of answers) i 0 ≡ 48)
digit_at [] i lt = absurd (omega (arith, lt))
digit_at (true ∷ answers) zero lt = inl refl
digit_at (false ∷ answers) zero lt = inr refl
digit_at (a ∷ answers) (suc i) lt = digit_at answers i (omega (arith, lt))

pub is_digit : (octets word : List ℕ) (i : ℕ) (answers : List Bool) → octets ≡ word → i < length octets → word ≡ map digit_of answers → (get_or octets i 0 ≡ 49) ⊎ (get_or octets i 0 ≡ 48)
is_digit octets word i answers same lt are =
    let e : octets ≡ map digit_of answers = same ∙ are in
    subst (λ (l : List ℕ). (get_or l i 0 ≡ 49) ⊎ (get_or l i 0 ≡ 48)) (sym e) (digit_at answers i (subst (λ (l : List ℕ). i < length l) e lt))

abbrev first_digit : List ℕ → ℕ
first_digit [] = 0
first_digit (digit ∷ more) = digit

unlike : ◌≡◌ {A = ℕ} 49 48 → ⊥
unlike e = omega (arith, e)

same_values : (one other : List Bool) → map digit_of one ≡ map digit_of other → one ≡ other
same_values [] [] e = refl
same_values [] (b ∷ other) e = cc
same_values (a ∷ one) [] e = cc
same_values (true ∷ one) (true ∷ other) e = ap (λ (l : List Bool). true ∷ l) (same_values one other (more e))
  where
    more : map digit_of (true ∷ one) ≡ map digit_of (true ∷ other) → map digit_of one ≡ map digit_of other
    more f = cc
same_values (false ∷ one) (false ∷ other) e = ap (λ (l : List Bool). false ∷ l) (same_values one other (more e))
  where
    more : map digit_of (false ∷ one) ≡ map digit_of (false ∷ other) → map digit_of one ≡ map digit_of other
    more f = cc
same_values (true ∷ one) (false ∷ other) e = absurd (unlike (ap first_digit e))
same_values (false ∷ one) (true ∷ other) e = absurd (unlike (sym (ap first_digit e)))

pub one_answers : (words : List (List ℕ)) (index : ℕ) (a b : AnswersFields) → AreAnswersAt words index a → AreAnswersAt words index b → a ≡ b
one_answers words index a b p q =
    let word : p.word ≡ q.word = one_word words index p.word q.word p.stands q.stands in
    let digest : a.digest ≡ b.digest = same_some a.digest b.digest (sym p.digest ∙ ap digest_of_text word ∙ q.digest) in
    let values : a.values ≡ b.values = same_values a.values b.values (one_word words (index + 1) (map digit_of a.values) (map digit_of b.values) p.values q.values) in
    λ i. record { digest = digest i; values = values i }

-- ---- moments

not_hyphen : (n : ℕ) → n ≤ 253402300799 → decimal n ≡ codes "-" → ⊥
not_hyphen zero few e =
    let f : ◌≡◌ {A = ℕ} 48 45 = ap first_digit (sym (decimal_digit 0 (omega arith)) ∙ e) in
    omega (arith, f)
not_hyphen (suc n) few e =
    let low : 48 < get_or (decimal (suc n)) 0 0 = first_decimal (suc n) (omega arith) (omega (arith, few)) in
    let f : get_or (decimal (suc n)) 0 0 ≡ 45 = ap (λ (l : List ℕ). get_or l 0 0) e in
    omega (arith, low, f)

hyphen_spells : (word : List ℕ) (when : ℤ) → word ≡ codes "-" → SpellsMoment word when → ⊥
hyphen_spells word (pos n) e s = not_hyphen n s.1 (sym s.0 ∙ e)
hyphen_spells word (negsuc n) e s = s

-- a hyphen is no moment
hyphen_at : (words : List (List ℕ)) (index : ℕ) (when : ℤ) → HasWord words index (codes "-") → IsMomentAt words index when → ⊥
hyphen_at words index when p m = hyphen_spells m.word when (one_word words index m.word (codes "-") m.stands p) m.moment

pub one_last : (words : List (List ℕ)) (index : ℕ) (a b : Option ℤ) → IsLastAt words index a → IsLastAt words index b → a ≡ b
one_last words index None None p q = refl
one_last words index None (Some t) p q = absurd (hyphen_at words index t p q)
one_last words index (Some s) None p q = absurd (hyphen_at words index s q p)
one_last words index (Some s) (Some t) p q = ap (λ (when : ℤ). Some when) (one_moment_at words index s t p q)

pub one_validity : (words : List (List ℕ)) (index : ℕ) (a b : ValidityFields) → IsValidityAt words index a → IsValidityAt words index b → a ≡ b
one_validity words index a b p q =
    let first : a.not_before ≡ b.not_before = one_moment_at words index a.not_before b.not_before p.not_before q.not_before in
    let last : a.not_after ≡ b.not_after = one_moment_at words (index + 1) a.not_after b.not_after p.not_after q.not_after in
    λ i. record { not_before = first i; not_after = last i }

-- ---- octets

one_spelling : (words : List (List ℕ)) (index : ℕ) (a b : List ℕ) → SpellsAt words index a → SpellsAt words index b → a ≡ b
one_spelling words index a b p q =
    let word : p.word ≡ q.word = one_word words index p.word q.word p.stands q.stands in
    same_some a b (sym p.spells ∙ ap (λ (w : List ℕ). result_ok (decode_of w)) word ∙ q.spells)

pub one_named : (words : List (List ℕ)) (index : ℕ) (name a b : List ℕ) → SpellsNamed words index name a → SpellsNamed words index name b → a ≡ b
one_named words index name a b p q =
    let word : name ++ codes "=" ++ p.digits ≡ name ++ codes "=" ++ q.digits = one_word words index (name ++ codes "=" ++ p.digits) (name ++ codes "=" ++ q.digits) p.stands q.stands in
    let digits : p.digits ≡ q.digits = append_cancel_left (name ++ codes "=") p.digits q.digits word in
    same_some a b (sym p.spells ∙ ap (λ (w : List ℕ). result_ok (decode_of w)) digits ∙ q.spells)

-- ---- a name, an equals sign, and digits

abbrev IsFrontOf : List ℕ → List ℕ → Bool → Type 0
IsFrontOf text front is = pointwise nat_eq (take (length front) text) front ≡ is

stripped : (text front : List ℕ) (rest : Bor (List ℕ)) → IsFrontOf text front true × (rest.now ≡ drop (length front) text) × (length rest.now + length front ≡ length text) → text ≡ front ++ rest.now
stripped text front rest s = strip_prefix_is Decides-eqb text front (Some rest) s

not_front : (text front : List ℕ) → IsFrontOf text front false → (rest : List ℕ) → text ≡ front ++ rest → ⊥
not_front text front s = strip_prefix_is {E = nat_eq} Decides-eqb text front None s

pub behind_equals : (word name : List ℕ) (rest digits : Bor (List ℕ)) → IsFrontOf word name true × (rest.now ≡ drop (length name) word) × (length rest.now + length name ≡ length word)
    → IsFrontOf rest.now (codes "=") true × (digits.now ≡ drop (length (codes "=")) rest.now) × (length digits.now + length (codes "=") ≡ length rest.now) → word ≡ name ++ codes "=" ++ digits.now
behind_equals word name rest digits s t = stripped word name rest s ∙ ap (λ (l : List ℕ). name ++ l) (stripped rest.now (codes "=") digits t) ∙ sym (append_assoc name (codes "=") digits.now)

pub no_equals : (word name : List ℕ) (rest : Bor (List ℕ)) → IsFrontOf word name true × (rest.now ≡ drop (length name) word) × (length rest.now + length name ≡ length word)
    → IsFrontOf rest.now (codes "=") false → (digits : List ℕ) → word ≡ name ++ codes "=" ++ digits → ⊥
no_equals word name rest s t digits e = not_front rest.now (codes "=") t digits (append_cancel_left name rest.now (codes "=" ++ digits) (sym (stripped word name rest s) ∙ e ∙ append_assoc name (codes "=") digits))

pub no_name : (word name : List ℕ) → IsFrontOf word name false → (digits : List ℕ) → word ≡ name ++ codes "=" ++ digits → ⊥
no_name word name s digits e = not_front word name s (codes "=" ++ digits) (e ∙ append_assoc name (codes "=") digits)

-- what stands behind a name
pub ruleset behind_names = (behind_equals, no_equals, no_name)

pub named_in_vain : (words : List (List ℕ)) (index : ℕ) (name word digits : List ℕ) → HasWord words index word → word ≡ name ++ codes "=" ++ digits → result_ok (decode_of digits) ≡ None → (octets : List ℕ) → SpellsNamed words index name octets → ⊥
named_in_vain words index name word digits stands is none octets s =
    let same : name ++ codes "=" ++ digits ≡ name ++ codes "=" ++ s.digits = sym is ∙ one_word words index word (name ++ codes "=" ++ s.digits) stands s.stands in
    let spelled : digits ≡ s.digits = append_cancel_left (name ++ codes "=") digits s.digits same in
    none_some octets (sym none ∙ ap (λ (w : List ℕ). result_ok (decode_of w)) spelled ∙ s.spells)

-- ---- what is made of a few words

pub one_plan : (words : List (List ℕ)) (index : ℕ) (a b : Plan) → IsPlan words index a → IsPlan words index b → a ≡ b
one_plan words index a b p q =
    let moment : a.when ≡ b.when = one_moment_at words index a.when b.when p.moment q.moment in
    let serial : a.serial ≡ b.serial = one_spelling words (index + 1) a.serial b.serial p.serial q.serial in
    let issuing : a.issuing_key ≡ b.issuing_key = same_some a.issuing_key b.issuing_key (sym p.issuing_key ∙ q.issuing_key) in
    let key : a.key ≡ b.key = same_some a.key b.key (sym p.key ∙ q.key) in
    λ i. record { when = moment i; serial = serial i; issuing_key = issuing i; key = key i }

pub one_signing : (words : List (List ℕ)) (index : ℕ) (a b : Signatures) → AreSignatureWords words index a → AreSignatureWords words index b → a ≡ b
one_signing words index a b p q =
    let attributes : a.attributes ≡ b.attributes = one_named words index _ a.attributes b.attributes p.attributes q.attributes in
    let crl : a.crl ≡ b.crl = one_named words (index + 1) _ a.crl b.crl p.crl q.crl in
    let certificate : a.certificate ≡ b.certificate = one_named words (index + 2) _ a.certificate b.certificate p.certificate q.certificate in
    λ i. record { attributes = attributes i; crl = crl i; certificate = certificate i }

-- ---- places

-- a hyphen is no URI
hyphen_fault : fault_of https (codes "-") ≡ Some BadScheme
hyphen_fault = refl

hyphen_lawful : (words : List (List ℕ)) (index : ℕ) (uri : List ℕ) → HasWord words index (codes "-") → HasWord words index uri → fault_of https uri ≡ None → ⊥
hyphen_lawful words index uri p q lawful = none_some BadScheme (sym lawful ∙ ap (fault_of https) (one_word words index uri (codes "-") q p) ∙ hyphen_fault)

one_notify : (words : List (List ℕ)) (index : ℕ) (a b : Option (List ℕ)) → IsNotifyAt words index a → IsNotifyAt words index b → a ≡ b
one_notify words index None None p q = refl
one_notify words index None (Some t) p q = absurd (hyphen_lawful words index t p q.0 q.1)
one_notify words index (Some s) None p q = absurd (hyphen_lawful words index s q p.0 p.1)
one_notify words index (Some s) (Some t) p q = ap (λ (uri : List ℕ). Some uri) (one_word words index s t p.0 q.0)

pub one_request_plan : (words : List (List ℕ)) (index : ℕ) (a b : RequestPlan) → IsRequestPlan words index a → IsRequestPlan words index b → a ≡ b
one_request_plan words index a b p q =
    let key : a.key ≡ b.key = same_some a.key b.key (sym p.key ∙ q.key) in
    let repository : a.ca_repository ≡ b.ca_repository = one_word words (index + 1) a.ca_repository b.ca_repository p.ca_repository q.ca_repository in
    let manifest : a.rpki_manifest ≡ b.rpki_manifest = one_word words (index + 2) a.rpki_manifest b.rpki_manifest p.rpki_manifest q.rpki_manifest in
    let notify : a.rpki_notify ≡ b.rpki_notify = one_notify words (index + 3) a.rpki_notify b.rpki_notify p.rpki_notify q.rpki_notify in
    λ i. record { key = key i; ca_repository = repository i; rpki_manifest = manifest i; rpki_notify = notify i }
