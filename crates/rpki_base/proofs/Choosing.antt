-- A value that is of one kind or of another.
use Rattle.std.proofs.Common.{◌≡◌, ℕ, ◌+◌, Bool, true, false, ℤ, Option, None, Some, List, refl, sym, ap, subst, ◌∙◌, arith}
use Rattle.std.specs.Prelude.{bytes_eq, if◌then◌else◌}
use Rattle.std.proofs.lemmas.Slice.Eq.{bytes_eq-Decides}
use Rattle.std.specs.Option.{option_or}
use Rattle.rpki_common.specs.Chaining.{◌>>=◌}
use Rattle.rpki_der.specs.declared.error.DecodeError.{DecodeError}
use Rattle.rpki_der.specs.declared.error.DecodeError.TheVariants.{Malformed, OutOfMemory}
use Rattle.rpki_der.specs.Value.{Value, Primitive, Constructed}
use Rattle.rpki_der.specs.Identifier.{tag_of, has_tag}
use Rattle.rpki_der.specs.Tags.{utc_time_tag, generalized_time_tag}
use Rattle.rpki_der.specs.Grammar.{primitive, so}
use Rattle.rpki_der.specs.Position.{Position}
use Rattle.rpki_der.specs.declared.mode.Mode.{Mode}
use Rattle.rpki_der.specs.Whole.{alone, whole_of}
use Rattle.rpki_der.specs.Takes.{Refuses}
use Rattle.rpki_der.specs.Ticks.{CountedOne, CountedRefuses}
use Rattle.rpki_der.proofs.Counting.{value_left, takes_so}
use Rattle.rpki_der.proofs.Parts.{at_most_one}
use Rattle.rpki_base.specs.Time.{utc_time, generalized_time, time}

-- ---- one tag isn't the other

pub other_tag : (i : List ℕ) → has_tag utc_time_tag i ≡ true → has_tag generalized_time_tag i ≡ false
other_tag i h = subst (λ (t : List ℕ). bytes_eq t generalized_time_tag ≡ false) (sym ((bytes_eq-Decides (tag_of i) utc_time_tag).0 h)) refl

chosen : (utc generalized : Bool) (contents text : List ℕ) → (utc ≡ true → generalized ≡ false) → (if utc then Some contents else None) ≡ Some text → ((if generalized then Some contents else None) >>= generalized_time) ≡ None
unfolding ◌>>=◌
chosen true generalized contents text h e = rw (h refl) refl
chosen false generalized contents text h e = cc

not_generalized : (v : Value) (text : List ℕ) → primitive utc_time_tag v ≡ Some text → so (primitive generalized_time_tag) generalized_time v ≡ None
unfolding so ◌>>=◌
not_generalized (Primitive i l c) text e = chosen (has_tag utc_time_tag i) (has_tag generalized_time_tag i) c text (other_tag i) e
not_generalized (Constructed i f vs) text e = refl

-- ---- a UTCTime

pub utc_reads : (v : Value) (text : List ℕ) (t : ℤ) → primitive utc_time_tag v ≡ Some text → utc_time text ≡ Some t → time v ≡ Some t
unfolding time so ◌>>=◌
utc_reads v text t e h = rw (e, h) refl

utc_none : (v : Value) (text : List ℕ) → primitive utc_time_tag v ≡ Some text → utc_time text ≡ None → time v ≡ None
unfolding time so ◌>>=◌
utc_none v text e h = let n = not_generalized v text e in rw (e, h) n

pub utc_takes : (p q : Position) (b a : ℕ) (text : List ℕ) (t : ℤ) → CountedOne 1 (primitive utc_time_tag) p q b a text → utc_time text ≡ Some t → CountedOne 1 time p q b a t
utc_takes p q b a text t c e = record { takes = record { value = c.takes.value; begins = c.takes.begins; reads = utc_reads c.takes.value text t c.takes.reads e; levels = c.takes.levels; mode = c.takes.mode }; least = c.least; most = c.most }

pub utc_refuses : (p q : Position) (b a : ℕ) (text : List ℕ) → CountedOne 1 (primitive utc_time_tag) p q b a text → utc_time text ≡ None → CountedRefuses 1 time p b a Malformed
unfolding Refuses
utc_refuses p q b a text c e = record {
  refuses = λ v rest h. let s = at_most_one p.mode p.here c.takes.value v q.here rest c.takes.begins h in subst (λ (w : Value). time w ≡ None) s.value (utc_none c.takes.value text c.takes.reads e);
  least = omega (arith, c.least);
  most = omega (arith, c.most);
}

-- ---- a GeneralizedTime, where no UTCTime stands

pub generalized_reads : (v : Value) → primitive utc_time_tag v ≡ None → time v ≡ so (primitive generalized_time_tag) generalized_time v
unfolding time so ◌>>=◌
generalized_reads v e = rw e refl

pub generalized_takes : (p q : Position) (b m a : ℕ) (text : List ℕ) (t : ℤ) → Refuses (primitive utc_time_tag) p Malformed → m ≡ b + 1 → a ≡ m + 1 → CountedOne 1 (primitive generalized_time_tag) p q m a text → generalized_time text ≡ Some t → CountedOne 1 time p q b a t
unfolding Refuses
generalized_takes p q b m a text t none i j c e =
    let k = takes_so 1 (primitive generalized_time_tag) generalized_time p q m a text t c e in
    record {
      takes = record {
        value = k.takes.value;
        begins = k.takes.begins;
        reads = generalized_reads k.takes.value (none k.takes.value q.here k.takes.begins) ∙ k.takes.reads;
        levels = k.takes.levels;
        mode = k.takes.mode;
      };
      least = omega (arith, k.least, i);
      most = omega (arith, i, j, value_left p q k.takes.value k.takes.begins k.takes.levels);
    }

neither : (p : Position) (error : DecodeError) → Refuses (primitive utc_time_tag) p Malformed → Refuses (so (primitive generalized_time_tag) generalized_time) p error → Refuses time p error
unfolding Refuses
neither p Malformed none n = λ v rest h. generalized_reads v (none v rest h) ∙ n v rest h
neither p OutOfMemory none n = tt

pub generalized_refuses : (p : Position) (b m a : ℕ) (error : DecodeError) → Refuses (primitive utc_time_tag) p Malformed → m ≡ b + 1 → a ≡ m + 1 → CountedRefuses 1 (so (primitive generalized_time_tag) generalized_time) p m a error → CountedRefuses 1 time p b a error
generalized_refuses p b m a error none i j n = record { refuses = neither p error none n.refuses; least = omega (arith, i, j); most = omega (arith, i, j) }

pub refuses_memory : (p : Position) (b a : ℕ) → a ≡ b + 1 → CountedRefuses 1 time p b a OutOfMemory
unfolding Refuses
refuses_memory p b a i = record { refuses = tt; least = omega (arith, i); most = omega (arith, i) }

-- ---- the one value that octets are

pub or_none : {X : Type 0} (o p : Option X) → p ≡ None → option_or o p ≡ o
or_none None p e = e
or_none (Some x) p e = refl

utc_is : (v : Value) (text : List ℕ) → primitive utc_time_tag v ≡ Some text → time v ≡ utc_time text
unfolding time so ◌>>=◌
utc_is v text e = let n = not_generalized v text e in rw e (or_none (utc_time text) (so (primitive generalized_time_tag) generalized_time v) n)

utc_alone : (o : Option Value) (text : List ℕ) → Some text ≡ (o >>= primitive utc_time_tag) → utc_time text ≡ (o >>= time)
unfolding ◌>>=◌
utc_alone None text e = absurd (let k : Some text ≡ None = e in cc)
utc_alone (Some v) text e = sym (utc_is v text (sym e))

generalized_alone : (o : Option Value) (text : List ℕ) → None ≡ (o >>= primitive utc_time_tag) → Some text ≡ (o >>= primitive generalized_time_tag) → generalized_time text ≡ (o >>= time)
unfolding so ◌>>=◌
generalized_alone None text n e = absurd (let k : Some text ≡ None = e in cc)
generalized_alone (Some v) text n e = sym (generalized_reads v (sym n) ∙ ap (λ (o : Option (List ℕ)). o >>= generalized_time) (sym e))

neither_alone : (o : Option Value) → None ≡ (o >>= primitive utc_time_tag) → None ≡ (o >>= primitive generalized_time_tag) → None ≡ (o >>= time)
unfolding so ◌>>=◌
neither_alone None n e = refl
neither_alone (Some v) n e = sym (generalized_reads v (sym n) ∙ ap (λ (o : Option (List ℕ)). o >>= generalized_time) (sym e))

pub utc_whole : (mode : Mode) (octets text : List ℕ) → Some text ≡ whole_of (primitive utc_time_tag) mode octets → utc_time text ≡ whole_of time mode octets
unfolding whole_of
utc_whole mode octets text e = utc_alone (alone mode octets) text e

pub generalized_whole : (mode : Mode) (octets text : List ℕ) → None ≡ whole_of (primitive utc_time_tag) mode octets → Some text ≡ whole_of (primitive generalized_time_tag) mode octets → generalized_time text ≡ whole_of time mode octets
unfolding whole_of
generalized_whole mode octets text n e = generalized_alone (alone mode octets) text n e

pub neither_whole : (mode : Mode) (octets : List ℕ) → None ≡ whole_of (primitive utc_time_tag) mode octets → None ≡ whole_of (primitive generalized_time_tag) mode octets → None ≡ whole_of time mode octets
unfolding whole_of
neither_whole mode octets n e = neither_alone (alone mode octets) n e
