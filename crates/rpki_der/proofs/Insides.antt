-- Calculations on contents, and values in DER inside them.
use Rattle.std.proofs.Common.{◌≡◌, ℕ, ◌+◌, ◌*◌, ◌≤◌, Option, None, Some, Result, Ok, Err, List, [], ◌++◌, length, refl, sym, ap, subst, ◌∙◌, arith, length-append}
use Rattle.std.specs.Prelude.{IsErrAnd}
use Rattle.std.proofs.Math.Nat.{mul-le-mul_left}
use Rattle.rpki_common.specs.Chaining.{◌>>=◌}
use Rattle.rpki_common.proofs.Bounds.{bound, chosen}
use Rattle.rpki_common.proofs.Truths.{none_some, same_some}
use Rattle.rpki_der.specs.declared.error.DecodeError.{DecodeError}
use Rattle.rpki_der.specs.declared.error.DecodeError.TheVariants.{Malformed, OutOfMemory}
use Rattle.rpki_der.specs.declared.mode.Mode.{Mode}
use Rattle.rpki_der.specs.declared.mode.Mode.TheVariants.{Ber, Der}
use Rattle.rpki_der.specs.Identifier.{has_tag}
use Rattle.rpki_der.specs.Value.{Value, Primitive, Constructed, Values, End, ◌▸◌, lengths_of, end_mark, spelling, spellings}
use Rattle.rpki_der.specs.Position.{Position}
use Rattle.rpki_der.specs.Grammar.{so, primitive}
use Rattle.rpki_der.specs.OctetString.{joined_pieces, joined_all, octets_under}
use Rattle.rpki_der.specs.Tags.{octet_string_tag}
use Rattle.rpki_der.specs.Takes.{Refuses, RefusesOctets, Gives, Lacks}
use Rattle.rpki_der.specs.Ticks.{left, CountedOne, TakesCounted, DecodesCounted}
use Rattle.rpki_der.specs.InDer.{in_der, CountedLacks, GivesCounted}
use Rattle.rpki_der.proofs.Counting.{takes_so, refuses_convert, uncounted}
use Rattle.rpki_der.proofs.Decoding.{decoded_ok, decoded_none}
use Rattle.rpki_der.proofs.Counting as counting

-- ---- what is calculated

pub gives_err : {X Y : Type 0} (o : Option X) (view : Y → X) (error : DecodeError) (r : Result Y DecodeError) → IsErrAnd r (λ e. e ≡ error) → Lacks o error → Gives o view r
gives_err o view error (Ok y) h n = absurd h
gives_err o view error (Err e) h n = subst (Lacks o) (sym h) n

pub gives_counted_err : {X Y : Type 0} (c : ℕ) (o : Option X) (view : Y → X) (octets : List ℕ) (b a : ℕ) (error : DecodeError) (r : Result Y DecodeError) → IsErrAnd r (λ e. e ≡ error) → CountedLacks c o octets b a error → GivesCounted c o view octets b a r
gives_counted_err c o view octets b a error (Ok y) h n = absurd h
gives_counted_err c o view octets b a error (Err e) h n = subst (CountedLacks c o octets b a) (sym h) n

pub lacks : {X : Type 0} (o : Option X) → o ≡ None → Lacks o Malformed
unfolding Lacks
lacks o e = e

pub lacks_memory : {X : Type 0} (o : Option X) → Lacks o OutOfMemory
unfolding Lacks
lacks_memory o = tt

pub lacks_bind : {X Y : Type 0} (o : Option X) (g : X → Option Y) (o' : Option Y) (e : DecodeError) → (o >>= g) ≡ o' → Lacks o e → Lacks o' e
unfolding Lacks ◌>>=◌
lacks_bind o g o' Malformed s n = sym s ∙ rw n refl
lacks_bind o g o' OutOfMemory s n = tt

pub gives_bind : {X Y : Type 0} (o : Option X) (g : X → Option Y) (o' : Option Y) (x : X) (y : Y) → (o >>= g) ≡ o' → o ≡ Some x → g x ≡ Some y → o' ≡ Some y
unfolding ◌>>=◌
gives_bind o g o' x y s e f = sym s ∙ rw e f

-- the clause of a call that counts nothing
pub gives_uncounted : {X Y : Type 0} (c : ℕ) (o : Option X) (view : Y → X) (octets : List ℕ) (b a : ℕ) (r : Result Y DecodeError) → GivesCounted c o view octets b a r → Gives o view r
gives_uncounted c o view octets b a (Ok y) g = g.is
gives_uncounted c o view octets b a (Err e) g = g.lacks

-- ---- in DER

decoded_lacks : {X : Type 0} (grammar : Value → Option X) (octets : List ℕ) (e : DecodeError) → RefusesOctets grammar Der octets e → Lacks (in_der grammar octets) e
unfolding Lacks
decoded_lacks grammar octets Malformed n = decoded_none grammar Der octets n
decoded_lacks grammar octets OutOfMemory n = tt

gives_decoded : {X Y : Type 0} (c : ℕ) (grammar : Value → Option X) (view : Y → X) (octets : List ℕ) (b a : ℕ) (r : Result Y DecodeError) → DecodesCounted c grammar view Der octets b a r → GivesCounted c (in_der grammar octets) view octets b a r
gives_decoded c grammar view octets b a (Ok y) d = record {
  is = decoded_ok grammar Der octets (view y) d.begins;
  least = omega (arith, d.least);
  most = let none : a + c * length d.begins.rest ≤ b + c * length octets = d.most in omega (arith, none);
}
gives_decoded c grammar view octets b a (Err e) d = record { lacks = decoded_lacks grammar octets e d.refuses; least = d.least; most = d.most }

-- a new cursor in DER over the octets reads what the grammar reads in them
pub gives_in_der : {X Y : Type 0} (c : ℕ) (grammar : Value → Option X) (view : Y → X) (octets : List ℕ) (old new : Position) (b a : ℕ) (r : Result Y DecodeError) → old ≡ record { mode = Der; here = octets; levels = [] } → TakesCounted c grammar view old new b a r → GivesCounted c (in_der grammar octets) view octets b a r
gives_in_der c grammar view octets old new b a r e t = gives_decoded c grammar view octets b a r (counting.decodes c grammar view Der octets old new b a r e t)

-- ---- what a grammar reads, and then a calculation

-- one that ticks nothing
pub takes_so_gives : {X Y Z : Type 0} (c : ℕ) (grammar : Value → Option X) (convert : X → Option Y) (view : Z → Y) (p q : Position) (b a : ℕ) (x : X) (r : Result Z DecodeError) → CountedOne c grammar p q b a x → Gives (convert x) view r → TakesCounted c (so grammar convert) view p q b a r
unfolding Lacks Refuses
takes_so_gives c grammar convert view p q b a x (Ok z) t g = takes_so c grammar convert p q b a x (view z) t g
takes_so_gives c grammar convert view p q b a x (Err Malformed) t n = refuses_convert c grammar convert p q b a x t n
takes_so_gives c grammar convert view p q b a x (Err OutOfMemory) t n = record { refuses = tt; least = omega (arith, t.least); most = let none : a + c * left q ≤ b + c * left p = t.most in omega (arith, none) }

-- one over octets among those that were passed, which ticks d times an octet at most
pub takes_so_given : {X Y Z : Type 0} (c d : ℕ) (grammar : Value → Option X) (convert : X → Option Y) (view : Z → Y) (p q : Position) (b m a : ℕ) (x : X) (octets : List ℕ) (r : Result Z DecodeError) → CountedOne c grammar p q b m x → length octets + left q ≤ left p → GivesCounted d (convert x) view octets m a r → TakesCounted (c + d) (so grammar convert) view p q b a r
unfolding Lacks Refuses
takes_so_given c d grammar convert view p q b m a x octets (Ok z) t l g =
    let mono : d * (length octets + left q) ≤ d * left p = mul-le-mul_left d l in
    let k = takes_so c grammar convert p q b m x (view z) t g.is in
    record { takes = k.takes; least = omega (arith, k.least, g.least); most = omega (arith, mono, t.most, g.most) }
takes_so_given c d grammar convert view p q b m a x octets (Err Malformed) t l n =
    let mono : d * (length octets + left q) ≤ d * left p = mul-le-mul_left d l in
    let k = refuses_convert c grammar convert p q b m x t n.lacks in
    record { refuses = k.refuses; least = omega (arith, t.least, n.least); most = omega (arith, mono, t.most, n.most) }
takes_so_given c d grammar convert view p q b m a x octets (Err OutOfMemory) t l n =
    let mono : d * (length octets + left q) ≤ d * left p = mul-le-mul_left d l in
    record { refuses = tt; least = omega (arith, t.least, n.least); most = omega (arith, mono, t.most, n.most) }

-- ---- contents are among the octets that were passed

contents_within : (i l c : List ℕ) → length c ≤ length (i ++ (l ++ c))
contents_within i l c = omega (arith, length-append i (l ++ c), length-append l c)

inner_within : (i l c m : List ℕ) (n : ℕ) → n ≤ length c → n ≤ length (i ++ (l ++ (c ++ m)))
inner_within i l c m n h = omega (arith, length-append i (l ++ (c ++ m)), length-append l (c ++ m), length-append c m)

mutual
  unfolding joined_pieces

  joined_within : (tag : List ℕ) (v : Value) (octets : List ℕ) → joined_pieces tag v ≡ Some octets → length octets ≤ length (spelling v)
  joined_within tag (Primitive i l c) octets e =
      let is = same_some c octets (chosen (has_tag tag i) (Some c) octets e) in subst (λ o. length o ≤ length (i ++ (l ++ c))) is (contents_within i l c)
  joined_within tag (Constructed i f vs) octets e =
      inner_within i (lengths_of f) (spellings vs) (end_mark f) (length octets) (all_within vs octets (chosen (has_tag tag i) (joined_all vs) octets e))

  all_within : (vs : Values) (octets : List ℕ) → joined_all vs ≡ Some octets → length octets ≤ length (spellings vs)
  all_within End octets e = let is = same_some [] octets e in subst (λ (o : List ℕ). length o ≤ 0) is (omega arith)
  all_within (v ▸ vs) octets e =
      let a = bound (joined_pieces octet_string_tag v) _ octets e in
      let w = bound (joined_all vs) _ octets a.then' in
      let is = same_some (a.x ++ w.x) octets w.then' in
      subst (λ o. length o ≤ length (spelling v ++ spellings vs)) is (omega (arith, length-append a.x w.x, length-append (spelling v) (spellings vs), joined_within octet_string_tag v a.x a.found, all_within vs w.x w.found))

primitive_within : (tag : List ℕ) (v : Value) (octets : List ℕ) → primitive tag v ≡ Some octets → length octets ≤ length (spelling v)
primitive_within tag (Primitive i l c) octets e =
    let is = same_some c octets (chosen (has_tag tag i) (Some c) octets e) in subst (λ o. length o ≤ length (i ++ (l ++ c))) is (contents_within i l c)
primitive_within tag (Constructed i f vs) octets e = absurd (none_some octets e)

value_within : (c : ℕ) (grammar : Value → Option (List ℕ)) (p q : Position) (b m : ℕ) (octets : List ℕ) (t : CountedOne c grammar p q b m octets) → length octets ≤ length (spelling t.takes.value) → length octets + left q ≤ left p
value_within c grammar p q b m octets t l = let long = simp length-append at (ap length t.takes.begins.parts) in rw t.takes.levels (omega (arith, long, l))

pub primitive_octets : (c : ℕ) (tag : List ℕ) (p q : Position) (b m : ℕ) (octets : List ℕ) → CountedOne c (primitive tag) p q b m octets → length octets + left q ≤ left p
primitive_octets c tag p q b m octets t = value_within c (primitive tag) p q b m octets t (primitive_within tag t.takes.value octets t.takes.reads)

pub string_octets : (c : ℕ) (tag : List ℕ) (mode : Mode) (p q : Position) (b m : ℕ) (octets : List ℕ) → CountedOne c (octets_under tag mode) p q b m octets → length octets + left q ≤ left p
unfolding octets_under
string_octets c tag Ber p q b m octets t = value_within c (joined_pieces tag) p q b m octets t (joined_within tag t.takes.value octets t.takes.reads)
string_octets c tag Der p q b m octets t = value_within c (primitive tag) p q b m octets t (primitive_within tag t.takes.value octets t.takes.reads)
