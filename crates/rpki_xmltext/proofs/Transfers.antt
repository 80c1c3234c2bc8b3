-- What is read from a source, and written to a sink.
use Rattle.std.proofs.Common.{◌≡◌, ℕ, ◌+◌, ◌^◌, ◌<◌, ◌≤◌, List, length, Option, Some, None, Result, Ok, Err, IfOk, IfErr, IfSome, sym, ap, subst, ◌∙◌, arith, length-append}
use Rattle.std.specs.Prelude.{IsErrOf, MatchResult, ⊤}
use Rattle.std.specs.Io.KnownBytes.{IsAtEnd}
use Rattle.rpki_common.specs.Causes.{Rose}
use Rattle.rpki_text.specs.Source.{OfInput, TakesExactly, TakesAtMost}
use Rattle.rpki_text.specs.declared.reading.ReadAllError.{ReadAllError}
use Rattle.rpki_text.specs.declared.reading.ReadAllError.TheVariants as read
use Rattle.rpki_xml.specs.Element.{Element}
use Rattle.rpki_xmltext.specs.declared.cause.Cause.{Cause}
use Rattle.rpki_xmltext.specs.declared.cause.Cause.TheVariants as causes
use Rattle.rpki_xmltext.specs.Answers.{itself, of_reading, IsNoMessageBy, RefusesMessage, RefusesSourceBy, RefusesSource, RefusesSinkBy, Parses, WritesText}
use Rattle.rpki_xmltext.specs.Reading.{ReadsAs}

-- ---- from a source

-- the cause is that octets are refused, or want of memory
abbrev pub Blames : Option Cause → Type 0
Blames (Some causes.Malformed) = ⊤
Blames (Some causes.OutOfMemory) = ⊤
Blames _ = ⊥

-- so it is by a table
pub blames : {M : Type 0} (table : Element → Option M) (v : List ℕ) (cause : Option Cause) → IsNoMessageBy table v cause → Blames cause
blames table v (Some causes.Malformed) h = tt
blames table v (Some causes.Read) h = h
blames table v (Some causes.Write) h = h
blames table v (Some causes.TooLong) h = h
blames table v (Some causes.OutOfMemory) h = tt
blames table v None h = h

-- what holds of the octets that were read holds of the input
pub of_input : (fact : List ℕ → Type 0) (rest : Option (List ℕ)) (v : List ℕ) → IfSome rest (λ octets. v ≡ octets) → fact v → OfInput rest fact
of_input fact None v same h = (v, h)
of_input fact (Some octets) v same h = subst fact same h

known : {M E : Type 0} (reads : List ℕ → M → Type 0) (refuses : List ℕ → E → Type 0) (rest : Option (List ℕ)) (v : List ℕ) (r : Result M E) → IfSome rest (λ octets. v ≡ octets) → MatchResult r (reads v) (refuses v) → IfOk r (λ m. OfInput rest (λ octets. reads octets m))
known reads refuses rest v (Ok m) same h = of_input (λ octets. reads octets m) rest v same h
known reads refuses rest v (Err e) same h = tt

refused : (unread : List ℕ → Type 0) (rest : Option (List ℕ)) (faults now : ℕ) (v : List ℕ) (cause : Option Cause) → IfSome rest (λ octets. v ≡ octets) → Blames cause → unread v → RefusesSourceBy unread rest faults now cause
refused unread rest faults now v (Some causes.Malformed) same blame h = of_input unread rest v same h
refused unread rest faults now v (Some causes.Read) same blame h = absurd blame
refused unread rest faults now v (Some causes.Write) same blame h = absurd blame
refused unread rest faults now v (Some causes.TooLong) same blame h = absurd blame
refused unread rest faults now v (Some causes.OutOfMemory) same blame h = tt
refused unread rest faults now v None same blame h = absurd blame

all_refused : {M E : Type 0} (cause_of : E → Option Cause) (reads : List ℕ → M → Type 0) (refuses : List ℕ → E → Type 0) (rest : Option (List ℕ)) (faults now : ℕ) (v : List ℕ) (r : Result M E) → ((e : E) → refuses v e → Blames (cause_of e)) → IfSome rest (λ octets. v ≡ octets) → MatchResult r (reads v) (refuses v) → IfErr r (RefusesSource cause_of refuses rest faults now)
all_refused cause_of reads refuses rest faults now v (Ok m) blame same h = tt
all_refused cause_of reads refuses rest faults now v (Err e) blame same h = refused (λ octets. refuses octets e) rest faults now v (cause_of e) same (blame e h) h

short : (rest : Option (List ℕ)) (v : List ℕ) → IfSome rest (λ octets. v ≡ octets) → length v ≤ 2 ^ 31 → IfSome rest (λ octets. length octets ≤ 2 ^ 31)
short None v same h = tt
short (Some octets) v same h = subst (λ (b : List ℕ). length b ≤ 2 ^ 31) same h

-- all that was there was taken for a message, or for none
pub all_taken : {M E : Type 0} (cause_of : E → Option Cause) (reads : List ℕ → M → Type 0) (refuses : List ℕ → E → Type 0) (rest left : Option (List ℕ)) (faults now : ℕ) (v : List ℕ) (r : Result M E) → ((e : E) → refuses v e → Blames (cause_of e))
    → IfSome rest (λ octets. v ≡ octets) → IsAtEnd left → length v ≤ 2 ^ 31 → now ≡ faults → faults ≤ now → TakesAtMost rest left (2 ^ 31 + 1) → MatchResult r (reads v) (refuses v)
    → Parses cause_of reads refuses rest left faults now r
all_taken cause_of reads refuses rest left faults now v r blame same end within kept later most h = record {
  message = known reads refuses rest v r same h;
  refused = all_refused cause_of reads refuses rest faults now v r blame same h;
  end = λ _. end;
  within = λ _. short rest v same within;
  kept = λ _. kept;
  later = later;
  most = most;
}

-- so it is of the messages of a table
pub taken : {M E : Type 0} (cause_of : E → Option Cause) (table : Element → Option M) (rest left : Option (List ℕ)) (faults now : ℕ) (v : List ℕ) (r : Result M E)
    → IfSome rest (λ octets. v ≡ octets) → IsAtEnd left → length v ≤ 2 ^ 31 → now ≡ faults → faults ≤ now → TakesAtMost rest left (2 ^ 31 + 1) → MatchResult r (ReadsAs table v) (RefusesMessage cause_of table v)
    → Parses cause_of (ReadsAs table) (RefusesMessage cause_of table) rest left faults now r
taken cause_of table rest left faults now v r =
    all_taken cause_of (ReadsAs table) (RefusesMessage cause_of table) rest left faults now v r (λ e. blames table v (cause_of e))

-- the source had too much
longer : (rest left : Option (List ℕ)) → TakesExactly rest left (2 ^ 31 + 1) → OfInput rest (λ octets. 2 ^ 31 < length octets)
longer None left (front, none, count) = (front, omega (arith, count))
longer (Some octets) None (front, none, count) = absurd none
longer (Some octets) (Some more) (front, is, count) = omega (arith, ap length is, length-append front more, count)

unlike : {a b : Cause} → (a ≡ b → ⊥) → (o : Option Cause) → o ≡ Some a → o ≡ Some b → ⊥
unlike differ o e f = differ (same (sym e ∙ f))
  where
    same : {a b : Cause} → ◌≡◌ {A = Option Cause} (Some a) (Some b) → a ≡ b
    same e = cc

-- nothing was taken for a message
pub unread : {M X E : Type 0} (cause_of : E → Option Cause) (reads : List ℕ → M → Type 0) (refuses : List ℕ → E → Type 0) (rest left : Option (List ℕ)) (faults now : ℕ) (e : ReadAllError) (x : E) (r : Result X ReadAllError) → r ≡ Err e → cause_of x ≡ Some (of_reading e)
    → (IsErrOf r read.Read → Rose faults now) → (¬ (IsErrOf r read.Read) → now ≡ faults) → faults ≤ now → TakesAtMost rest left (2 ^ 31 + 1) → (IsErrOf r read.TooLong → TakesExactly rest left (2 ^ 31 + 1))
    → Parses cause_of reads refuses rest left faults now (Err x)
unread {M} cause_of reads refuses rest left faults now read.Read x r is caused cause kept later most long = record {
  message = tt;
  refused = subst (λ (c : Option Cause). RefusesSourceBy (λ octets. refuses octets x) rest faults now c) (sym caused) (cause is);
  end = λ h. absurd (unlike (λ e. cc) (cause_of x) caused h);
  within = λ h. absurd (unlike (λ e. cc) (cause_of x) caused h);
  kept = λ h. absurd (h caused);
  later = later;
  most = most;
}
unread {M} cause_of reads refuses rest left faults now read.TooLong x r is caused cause kept later most long = record {
  message = tt;
  refused = subst (λ (c : Option Cause). RefusesSourceBy (λ octets. refuses octets x) rest faults now c) (sym caused) (longer rest left (long is));
  end = λ h. absurd (unlike (λ e. cc) (cause_of x) caused h);
  within = λ h. absurd (unlike (λ e. cc) (cause_of x) caused h);
  kept = λ _. kept (λ other. absurd cc);
  later = later;
  most = most;
}
unread {M} cause_of reads refuses rest left faults now read.OutOfMemory x r is caused cause kept later most long = record {
  message = tt;
  refused = subst (λ (c : Option Cause). RefusesSourceBy (λ octets. refuses octets x) rest faults now c) (sym caused) tt;
  end = λ h. absurd (unlike (λ e. cc) (cause_of x) caused h);
  within = λ h. absurd (unlike (λ e. cc) (cause_of x) caused h);
  kept = λ _. kept (λ other. absurd cc);
  later = later;
  most = most;
}

-- ---- to a sink

-- the text was written, and the answer is passed on
pub written : {E : Type 0} (cause_of : E → Option Cause) (text : List ℕ) (before after : Option (List ℕ)) (faults now : ℕ) (x : Unit {0}) → WritesText itself text before after faults now (Ok x) → WritesText cause_of text before after faults now (Ok x)
written cause_of text before after faults now x w = record { whole = w.whole; short = w.short; refused = tt; kept = λ h. w.kept (λ no. no); later = w.later }

-- it was not, and the cause is passed on
pub unwritten : {E : Type 0} (cause_of : E → Option Cause) (text : List ℕ) (before after : Option (List ℕ)) (faults now : ℕ) (cause : Cause) (e : E) → cause_of e ≡ Some cause
    → WritesText itself text before after faults now (Err cause) → WritesText cause_of text before after faults now (Err e)
unwritten cause_of text before after faults now cause e caused w = record {
  whole = tt;
  short = tt;
  refused = subst (λ (c : Option Cause). RefusesSinkBy text before after faults now c) (sym caused) w.refused;
  kept = λ h. w.kept (λ is. h (caused ∙ is));
  later = w.later;
}
