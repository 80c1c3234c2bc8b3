-- Reading values of one kind up to the end of a level, unread.
use Rattle.std.proofs.Common.{◌≡◌, ℕ, ◌+◌, Option, Result, Ok, Err, List, refl, ap, ◌∙◌}
use Rattle.std.specs.Prelude.{OnOk}
use Rattle.rpki_common.specs.Chaining.{◌>>=◌}
use Rattle.rpki_der.specs.declared.error.DecodeError.{DecodeError}
use Rattle.rpki_der.specs.declared.error.DecodeError.TheVariants.{Malformed, OutOfMemory}
use Rattle.rpki_der.specs.Value.{Value}
use Rattle.rpki_der.specs.Position.{Position, top, AtEnd}
use Rattle.rpki_der.specs.Grammar.{every}
use Rattle.rpki_der.specs.Held.{up_to}
use Rattle.rpki_der.specs.Takes.{GoesOut}
use Rattle.rpki_der.specs.Ticks.{marks, TakesRestCounted}
use Rattle.rpki_der.proofs.Counting.{CountedContinues, reads_end}
use Rattle.rpki_der.proofs.Leftovers.{continues_as}
use Rattle.rpki_base.specs.Name.{unread, each}

pub each_first : {X : Type 0} (field : Value → Option X) (p : Position) (b : ℕ) → CountedContinues 1 (each field) p b (λ vs. every field vs >>= unread) p b
unfolding each
each_first field p b = continues_as _ _ _ _ _ (λ vs. refl)

pub each_left : {X : Type 0} (field : Value → Option X) (p p' q : Position) (b m a : ℕ) (r : Result (Unit {0}) DecodeError) → CountedContinues 1 (each field) p b (λ vs. every field vs >>= unread) p' m → AtEnd p' → GoesOut p' q r → OnOk r (a ≡ m + marks (top p'.levels)) → TakesRestCounted 1 0 (each field) (λ x. x) p q b a r
each_left field p p' q b m a (Ok u) c e l t = c.reads 0 q a u (reads_end 1 field unread p' q m a u refl l t refl)
each_left field p p' q b m a (Err Malformed) c e l t = absurd (l e)
each_left field p p' q b m a (Err OutOfMemory) c e l t = absurd l

-- ---- octets that were cut out between two places

pub cut_between : (octets cut start here now' : List ℕ) → octets ≡ cut → cut ≡ up_to start now' → start ≡ here → octets ≡ up_to here now'
cut_between octets cut start here now' e f g = e ∙ f ∙ ap (λ s. up_to s now') g
