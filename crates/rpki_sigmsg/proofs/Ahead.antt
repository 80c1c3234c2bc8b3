-- What the first octet says of the value that stands next.
use Rattle.std.proofs.Common.{◌≡◌, ℕ, ◌%◌, Bool, true, false, Option, None, Some, List, [], ◌∷◌, sym, ap, ◌∙◌, arith}
use Rattle.std.specs.Prelude.{◌==◌, ◌||◌, bytes_eq}
use Rattle.rpki_der.specs.declared.error.DecodeError.{DecodeError}
use Rattle.rpki_der.specs.Identifier.{has_tag, without_bit_6}
use Rattle.rpki_der.specs.Header.{IdentifierFirst}
use Rattle.rpki_der.specs.Level.{Level, Sized, Marked, EndsLevel}
use Rattle.rpki_der.specs.Grammar.{identifier_of, optional}
use Rattle.rpki_der.specs.Position.{Position, top}
use Rattle.rpki_der.specs.Tags.{sequence}
use Rattle.rpki_der.specs.Ticks.{CountedOne, CountedRefuses, CountedFields, CountedRefusesFields}
use Rattle.rpki_der.specs.Value.{Value, Begins}
use Rattle.rpki_der.proofs.Counting.{takes_optional, takes_optional_none, refuses_optional}
use Rattle.rpki_der.proofs.Items.{begins_identifier}
use Rattle.rpki_sigmsg.specs.Ahead.{begins_sequence}

one : (a : ℕ) → bytes_eq (without_bit_6 a ∷ []) (16 ∷ []) ≡ (a == 16 || a == 48)
one a = grind arith

several : (a b : ℕ) (more : List ℕ) → a % 32 ≡ 31 → bytes_eq (without_bit_6 a ∷ b ∷ more) (16 ∷ []) ≡ (a == 16 || a == 48)
several a b more h = grind arith

first_octet : (here i r : List ℕ) → IdentifierFirst here i r → has_tag sequence i ≡ begins_sequence here
first_octet here [] r f = absurd f.is_identifier
first_octet here (a ∷ []) r f = rw f.parts (one a)
first_octet here (a ∷ b ∷ more) r f = rw f.parts (several a b more f.is_identifier.0)

pub seen : (found : Bool) (octets here : List ℕ) → found ≡ begins_sequence octets → octets ≡ here → begins_sequence here ≡ found
seen found octets here e h = ap begins_sequence (sym h) ∙ sym e

-- what stands next has the tag, exactly where its first octet says so
tagged : (p : Position) (found : Bool) → begins_sequence p.here ≡ found → (v : Value) (rest : List ℕ) → Begins p.mode p.here v rest → has_tag sequence (identifier_of v) ≡ found
tagged p found s v rest h = let f = begins_identifier p.mode p.here v rest h in first_octet p.here (identifier_of v) f.0 f.1 ∙ s

ended : (level : Level) (here rest : List ℕ) → EndsLevel level here rest → begins_sequence here ≡ true → ⊥
ended (Sized after) here rest e s = let f : false ≡ true = rw e.0 at s in cc
ended Marked here rest e s = let f : false ≡ true = rw e at s in cc

pub none_stands : {X : Type 0} (field : Value → Option X) (p : Position) (b : ℕ) → begins_sequence p.here ≡ false → CountedFields 1 1 (optional sequence field) p p b b None
none_stands field p b s = takes_optional_none 1 sequence field p b b (omega arith) (omega arith) (tagged p false s)

pub one_stands : {X : Type 0} (field : Value → Option X) (p q : Position) (b a : ℕ) (x : X) → begins_sequence p.here ≡ true → CountedOne 1 field p q b a x → CountedFields 1 1 (optional sequence field) p q b a (Some x)
one_stands field p q b a x s t = takes_optional 1 sequence field p q b a x (tagged p true s) t

pub refused_there : {X : Type 0} (field : Value → Option X) (p : Position) (b a : ℕ) (e : DecodeError) → begins_sequence p.here ≡ true → CountedRefuses 1 field p b a e → CountedRefusesFields 1 1 (optional sequence field) p b a e
refused_there field p b a e s n = refuses_optional 1 sequence field p b a e (tagged p true s) (λ end'. ended (top p.levels) p.here end'.0 end'.1 s) n
