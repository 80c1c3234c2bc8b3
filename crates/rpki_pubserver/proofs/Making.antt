-- Changes that are made, one behind the other.
use Rattle.std.proofs.Common.{◌≡◌, ◌+◌, ◌<◌, ℕ, zero, suc, Option, None, Some, Result, Ok, Err, List, [], ◌∷◌, ◌++◌, length, get_or, take, drop, refl, sym, ap, ◌∙◌, arith}
use Rattle.rpki_pubserver.specs.Store.{Store}
use Rattle.rpki_publication.specs.declared.publish_delta_element.PublishDeltaElement.{PublishDeltaElement}
use Rattle.rpki_publication.specs.declared.report_error_code.ReportErrorCode.{ReportErrorCode}
use Rattle.rpki_pubserver.specs.Changes.{Refused, after_all, all_made, changed, code_of, refused_or}
use Rattle.rpki_ca.proofs.Stepping.{take_more}

after_append : (base : List ℕ) (so_far : Result Store Refused) (one other : List PublishDeltaElement) → after_all base so_far (one ++ other) ≡ after_all base (after_all base so_far one) other
after_append base (Err refused) one other = refl
after_append base (Ok store) [] other = refl
after_append base (Ok store) (e ∷ one) other = after_append base (refused_or e (changed store e) (code_of base store e)) one other

-- changes up to a place, the one there and those behind it
cut_at : (changes : List PublishDeltaElement) (i : ℕ) (e : PublishDeltaElement) → i < length changes → e ≡ get_or changes i e → changes ≡ take i changes ++ e ∷ drop (suc i) changes
cut_at [] i e lt at = absurd (omega (arith, lt))
cut_at (c ∷ changes) zero e lt at = ap (λ (x : PublishDeltaElement). x ∷ changes) (sym at)
cut_at (c ∷ changes) (suc i) e lt at = ap (λ (l : List PublishDeltaElement). c ∷ l) (cut_at changes i e (omega (arith, lt)) at)

-- one more is made
pub one_made : (base : List ℕ) (first : Result Store Refused) (changes : List PublishDeltaElement) (i : ℕ) (e : PublishDeltaElement) (store next : Store) → i < length changes → e ≡ get_or changes i e
    → after_all base first (take i changes) ≡ Ok store → None ≡ code_of base store e → next ≡ changed store e → after_all base first (take (i + 1) changes) ≡ Ok next
one_made base first changes i e store next lt at so_far none is =
    ap (λ (l : List PublishDeltaElement). after_all base first l) (take_more changes i e lt at)
    ∙ after_append base first (take i changes) (e ∷ [])
    ∙ ap (λ (r : Result Store Refused). after_all base r (e ∷ [])) so_far
    ∙ ap (λ (o : Option ReportErrorCode). after_all base (refused_or e (changed store e) o) []) (sym none)
    ∙ ap (λ (s : Store). Ok s) (sym is)

-- one isn't
pub one_refused : (base : List ℕ) (first : Result Store Refused) (changes : List PublishDeltaElement) (i : ℕ) (e : PublishDeltaElement) (store : Store) (code : ReportErrorCode) → i < length changes → e ≡ get_or changes i e
    → after_all base first (take i changes) ≡ Ok store → Some code ≡ code_of base store e → after_all base first changes ≡ Err (record { element = e; code = code })
one_refused base first changes i e store code lt at so_far some =
    ap (λ (l : List PublishDeltaElement). after_all base first l) (cut_at changes i e lt at)
    ∙ after_append base first (take i changes) (e ∷ drop (suc i) changes)
    ∙ ap (λ (r : Result Store Refused). after_all base r (e ∷ drop (suc i) changes)) so_far
    ∙ ap (λ (o : Option ReportErrorCode). after_all base (refused_or e (changed store e) o) (drop (suc i) changes)) (sym some)

-- ---- where all are made

all_made_more : (store : Store) (elements : List PublishDeltaElement) (e : PublishDeltaElement) → all_made store (elements ++ e ∷ []) ≡ changed (all_made store elements) e
all_made_more store [] e = refl
all_made_more store (x ∷ elements) e = all_made_more (changed store x) elements e

pub one_more_made : (first : Store) (changes : List PublishDeltaElement) (i : ℕ) (e : PublishDeltaElement) (store : Store) → i < length changes → e ≡ get_or changes i e → store ≡ all_made first (take i changes)
    → changed store e ≡ all_made first (take (i + 1) changes)
one_more_made first changes i e store lt at is =
    ap (λ (s : Store). changed s e) is
    ∙ sym (all_made_more first (take i changes) e)
    ∙ sym (ap (λ (l : List PublishDeltaElement). all_made first l) (take_more changes i e lt at))
