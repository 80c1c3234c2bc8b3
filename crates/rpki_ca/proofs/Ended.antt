-- How a program ends that reads its input whole, and answers line by line.
use Rattle.std.proofs.Common.{◌≡◌, ◌⊎◌, ◌<◌, ◌≤◌, ◌^◌, ℕ, Option, None, Some, IfSome, Err, List, length, inl, inr, refl, ap, subst, ◌∙◌, arith}
use Rattle.rpki_ca.specs.Answer.{Ends, IsUnread}
use Rattle.rpki_ca.specs.Lines.{EndsBehind, EndsLines, EndsRun, EndsUnread, EndsWith, WroteAll}
use Rattle.rpki_ca.specs.Refusal.{status_of}
use Rattle.rpki_text.specs.Source.{OfInput}
use Rattle.rpki_ca.specs.Seen.{HasFailed, Seen}
use Rattle.rpki_ca.specs.declared.refusals.Refusal.{Refusal}
use Rattle.rpki_ca.specs.declared.refusals.Refusal.TheVariants as refusals

-- ---- where neither stream fails

pub with_whole : (wanted status : ℕ) (output : List ℕ) (sink : Seen) → ¬ (HasFailed sink) → EndsWith wanted output status sink → status ≡ wanted
with_whole wanted status output sink none (inl e) = e.0
with_whole wanted status output sink none (inr e) = absurd (none e.2)

with_behind : (wanted status : ℕ) (texts : List (List ℕ)) (rest : List ℕ) (sink : Seen) → ¬ (HasFailed sink) → EndsBehind wanted texts rest status sink → status ≡ wanted
with_behind wanted status texts rest sink none (inl e) = e.0
with_behind wanted status texts rest sink none (inr e) = absurd (none e.2)

pub with_refusal : (refusal : Refusal) (status : ℕ) (sink : Seen) → ¬ (HasFailed sink) → Ends (Err refusal) status sink → status ≡ status_of refusal
with_refusal refusal status sink none (inl e) = e.0
with_refusal refusal status sink none (inr e) = absurd (none e.2)

-- where neither stream fails, want of memory alone stops answering
pub lines_end : (all : List (List ℕ) → List ℕ → Type 0) (first : List (List ℕ) → Type 0) (stops : List (List ℕ) → Refusal → Type 0) (status : ℕ) (sink : Seen) → ((texts : List (List ℕ)) (refusal : Refusal) → stops texts refusal → refusal ≡ refusals.OutOfMemory) → ¬ (HasFailed sink)
    → EndsLines all first stops status sink → (status ≡ 0) ⊎ (status ≡ 12)
lines_end all first stops status sink alone none (inl done) = inl (with_behind 0 status done.texts done.closing sink none done.ends)
lines_end all first stops status sink alone none (inr (inl stopped)) = inr (with_behind (status_of stopped.refusal) status stopped.texts _ sink none stopped.ends ∙ ap status_of (alone stopped.texts stopped.refusal stopped.stopped))
lines_end all first stops status sink alone none (inr (inr failed)) = absurd (none failed.failed)

some_input : (o : Option (List ℕ)) (input : List ℕ) (P : List ℕ → Type 0) → o ≡ Some input → OfInput o P → P input
some_input o input P e h = subst (λ (x : Option (List ℕ)). OfInput x P) e h

memory_alone : (source : Seen) (input : List ℕ) (refusal : Refusal) → source.before ≡ Some input → length input ≤ 2 ^ 26 → ¬ (HasFailed source) → IsUnread source refusal → refusal ≡ refusals.OutOfMemory
memory_alone source input refusals.OutOfMemory e le none u = refl
memory_alone source input refusals.ReadFault e le none u = absurd (none u)
memory_alone source input refusals.TooLong e le none u = let longer = some_input source.before input (λ whole. 2 ^ 26 < length whole) e u.0 in absurd (omega (arith, le, longer))
memory_alone source input refusals.Usage e le none u = absurd u
memory_alone source input refusals.Hex e le none u = absurd u
memory_alone source input refusals.CmsDecode e le none u = absurd u
memory_alone source input refusals.XmlError e le none u = absurd u
memory_alone source input refusals.CertSyntax e le none u = absurd u
memory_alone source input refusals.InvalidCsrSyntax e le none u = absurd u
memory_alone source input refusals.InvalidTaCertEncoding e le none u = absurd u
memory_alone source input refusals.InvalidTaCert e le none u = absurd u
memory_alone source input (refusals.Validation n) e le none u = absurd u
memory_alone source input refusals.KeyNotFound e le none u = absurd u
memory_alone source input refusals.IncompatibleKey e le none u = absurd u
memory_alone source input refusals.KeyReused e le none u = absurd u
memory_alone source input refusals.Signer e le none u = absurd u
memory_alone source input refusals.Moment e le none u = absurd u

-- ---- with 0

pub no_zero : (refusal : Refusal) → ◌≡◌ {A = ℕ} 0 (status_of refusal) → ⊥
no_zero refusals.OutOfMemory e = omega (arith, e)
no_zero refusals.ReadFault e = omega (arith, e)
no_zero refusals.TooLong e = omega (arith, e)
no_zero refusals.Usage e = omega (arith, e)
no_zero refusals.Hex e = omega (arith, e)
no_zero refusals.CmsDecode e = omega (arith, e)
no_zero refusals.XmlError e = omega (arith, e)
no_zero refusals.CertSyntax e = omega (arith, e)
no_zero refusals.InvalidCsrSyntax e = omega (arith, e)
no_zero refusals.InvalidTaCertEncoding e = omega (arith, e)
no_zero refusals.InvalidTaCert e = omega (arith, e)
no_zero (refusals.Validation n) e = omega (arith, e)
no_zero refusals.KeyNotFound e = omega (arith, e)
no_zero refusals.IncompatibleKey e = omega (arith, e)
no_zero refusals.KeyReused e = omega (arith, e)
no_zero refusals.Signer e = omega (arith, e)
no_zero refusals.Moment e = omega (arith, e)

pub no_eleven : ◌≡◌ {A = ℕ} 0 11 → ⊥
no_eleven e = omega (arith, e)

pub no_refusal : (refusal : Refusal) (sink : Seen) → Ends (Err refusal) 0 sink → ⊥
no_refusal refusal sink (inl e) = no_zero refusal e.0
no_refusal refusal sink (inr e) = no_eleven e.0

pub wrote_all : (all : List (List ℕ) → List ℕ → Type 0) (first : List (List ℕ) → Type 0) (stops : List (List ℕ) → Refusal → Type 0) (sink : Seen) → EndsLines all first stops 0 sink → WroteAll all sink
wrote_all all first stops sink (inl done) =
    elim done.ends [
      | inl e ↦ record { texts = done.texts; closing = done.closing; are = done.are; whole = e.1; steady = e.2 }
      | inr e ↦ absurd (no_eleven e.0)
    ]
wrote_all all first stops sink (inr (inl stopped)) = elim stopped.ends [ inl e ↦ absurd (no_zero stopped.refusal e.0) | inr e ↦ absurd (no_eleven e.0) ]
wrote_all all first stops sink (inr (inr failed)) = absurd (no_eleven failed.is)

not_unread : (source sink : Seen) → EndsUnread 0 source sink → ⊥
not_unread source sink unread = no_refusal unread.refusal sink unread.ends

-- with 0 it ended on the input
pub on_input : (ends_on : List ℕ → Type 0) (source sink : Seen) (input : List ℕ) → EndsRun ends_on 0 source sink → source.before ≡ Some input → ends_on input
on_input ends_on source sink input (inl unread) e = absurd (not_unread source sink unread)
on_input ends_on source sink input (inr read) e = (some_input source.before input (λ octets. (length octets ≤ 2 ^ 26) × ends_on octets) e read.ends).1

-- where neither stream fails and the input is within the limit it ended on the input, or memory ran out
pub on_input_or_12 : (ends_on : List ℕ → Type 0) (status : ℕ) (source sink : Seen) (input : List ℕ) → EndsRun ends_on status source sink → source.before ≡ Some input → length input ≤ 2 ^ 26 → ¬ (HasFailed source) → ¬ (HasFailed sink)
    → (status ≡ 12) ⊎ ends_on input
on_input_or_12 ends_on status source sink input (inl unread) e le sound whole =
    inl (with_refusal unread.refusal status sink whole unread.ends ∙ ap status_of (memory_alone source input unread.refusal e le sound unread.unread))
on_input_or_12 ends_on status source sink input (inr read) e le sound whole = inr (some_input source.before input (λ octets. (length octets ≤ 2 ^ 26) × ends_on octets) e read.ends).1

-- ---- what is read is the input

pub ends_read : (ends_on : List ℕ → Type 0) (rest : Option (List ℕ)) (octets input : List ℕ) → input ≡ octets → length octets ≤ 2 ^ 26 → IfSome rest (λ whole. (octets ≡ whole) × (length whole ≤ 2 ^ 26)) → ends_on input → OfInput rest (λ whole. (length whole ≤ 2 ^ 26) × ends_on whole)
ends_read ends_on None octets input is short read ends = (octets, (short, subst ends_on is ends))
ends_read ends_on (Some whole) octets input is short read ends = (read.1, subst ends_on (is ∙ read.0) ends)
