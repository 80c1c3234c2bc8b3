-- What is calculated of octets with counted calls, and then more.
use Rattle.std.proofs.Common.{◌≡◌, ℕ, true, false, Option, None, Some, Ok, Err, List, [], refl, ap, subst, arith}
use Rattle.std.specs.Prelude.{is_some}
use Rattle.rpki_common.specs.Chaining.{◌>>=◌}
use Rattle.rpki_common.specs.Collecting.{once}
use Rattle.rpki_der.specs.declared.error.DecodeError.{DecodeError}
use Rattle.rpki_der.specs.declared.error.DecodeError.TheVariants.{Malformed, OutOfMemory}
use Rattle.rpki_der.specs.Takes.{Lacks}
use Rattle.rpki_der.specs.declared.mode.Mode.{Mode}
use Rattle.rpki_der.specs.declared.mode.Mode.TheVariants.{Der}
use Rattle.rpki_der.specs.Value.{Value}
use Rattle.rpki_der.specs.Position.{Position}
use Rattle.rpki_der.specs.Ticks.{CountedOne, CountedRefuses}
use Rattle.rpki_der.proofs.Insides.{gives_in_der}
use Rattle.rpki_der.proofs.Modes.{takes_in, refuses_in}
use Rattle.rpki_der.specs.InDer.{in_der, CountedGiven, CountedLacks}

pub given_as : {X : Type 0} (c : ℕ) (o o' : Option X) (octets : List ℕ) (b a : ℕ) (x : X) → o ≡ o' → CountedGiven c o octets b a x → CountedGiven c o' octets b a x
given_as c o o' octets b a x e g = subst (λ w. CountedGiven c w octets b a x) e g

pub lacks_as : {X : Type 0} (c : ℕ) (o o' : Option X) (octets : List ℕ) (b a : ℕ) (error : DecodeError) → o ≡ o' → CountedLacks c o octets b a error → CountedLacks c o' octets b a error
lacks_as c o o' octets b a error e n = subst (λ w. CountedLacks c w octets b a error) e n

pub given_bind : {X Y : Type 0} (c : ℕ) (o : Option X) (g : X → Option Y) (octets : List ℕ) (b a : ℕ) (x : X) (y : Y) → CountedGiven c o octets b a x → g x ≡ Some y → CountedGiven c (o >>= g) octets b a y
unfolding ◌>>=◌
given_bind c o g octets b a x y w e = record { is = rw w.is e; least = w.least; most = w.most }

lacks_then : {X Y : Type 0} (o : Option X) (g : X → Option Y) (error : DecodeError) → Lacks o error → Lacks (o >>= g) error
unfolding Lacks ◌>>=◌
lacks_then o g Malformed n = rw n refl
lacks_then o g OutOfMemory n = tt

pub lacks_bind : {X Y : Type 0} (c : ℕ) (o : Option X) (g : X → Option Y) (octets : List ℕ) (b a : ℕ) (error : DecodeError) → CountedLacks c o octets b a error → CountedLacks c (o >>= g) octets b a error
lacks_bind c o g octets b a error n = record { lacks = lacks_then o g error n.lacks; least = n.least; most = n.most }

-- nothing was read
pub given_at_once : {X : Type 0} (c : ℕ) (o : Option X) (octets : List ℕ) (b : ℕ) (x : X) → o ≡ Some x → CountedGiven c o octets b b x
given_at_once c o octets b x e = record { is = e; least = omega arith; most = omega arith }

-- ---- unless one was found before

second_lacks : {X : Type 0} (found now' : Option X) → is_some found ≡ true → Lacks (once found now') Malformed
unfolding once Lacks
second_lacks None now' e = cc
second_lacks (Some y) now' e = refl

pub refuses_second : {X : Type 0} (c : ℕ) (found now' : Option X) (octets : List ℕ) (b : ℕ) → is_some found ≡ true → CountedLacks c (once found now') octets b b Malformed
refuses_second c found now' octets b e = record { lacks = second_lacks found now' e; least = omega arith; most = omega arith }

pub given_once : {X : Type 0} (c : ℕ) (found now' : Option X) (octets : List ℕ) (b a : ℕ) (x : X) → is_some found ≡ false → CountedGiven c now' octets b a x → CountedGiven c (once found now') octets b a (Some x)
unfolding once
given_once c None now' octets b a x e g = given_bind c now' (λ x. Some (Some x)) octets b a x (Some x) g refl
given_once c (Some y) now' octets b a x e g = cc

pub lacks_once : {X : Type 0} (c : ℕ) (found now' : Option X) (octets : List ℕ) (b a : ℕ) (error : DecodeError) → is_some found ≡ false → CountedLacks c now' octets b a error → CountedLacks c (once found now') octets b a error
unfolding once
lacks_once c None now' octets b a error e n = lacks_bind c now' (λ x. Some (Some x)) octets b a error n
lacks_once c (Some y) now' octets b a error e n = cc

-- ---- what a new cursor in DER reads in the octets

pub in_der_ok : {X : Type 0} (grammar : Mode → Value → Option X) (octets : List ℕ) (p q : Position) (b a : ℕ) (x : X) → p ≡ record { mode = Der; here = octets; levels = [] } → CountedOne 1 (grammar p.mode) p q b a x → CountedGiven 1 (in_der (grammar Der) octets) octets b a x
in_der_ok grammar octets p q b a x e t = gives_in_der 1 (grammar Der) (λ x. x) octets p q b a (Ok x) e (takes_in 1 grammar Der p q b a x (ap (λ (r : Position). r.mode) e) t)

pub in_der_err : {X : Type 0} (grammar : Mode → Value → Option X) (octets : List ℕ) (p : Position) (b a : ℕ) (error : DecodeError) → p ≡ record { mode = Der; here = octets; levels = [] } → CountedRefuses 1 (grammar p.mode) p b a error → CountedLacks 1 (in_der (grammar Der) octets) octets b a error
in_der_err {X} grammar octets p b a error e n = gives_in_der {Y = X} 1 (grammar Der) (λ x. x) octets p p b a (Err error) e (refuses_in 1 grammar Der p b a error (ap (λ (r : Position). r.mode) e) n)
