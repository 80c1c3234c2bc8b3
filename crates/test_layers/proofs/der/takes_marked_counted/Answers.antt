use Rattle.std.proofs.Common.{◌≡◌, ℕ, ◌+◌, List, [], subst, arith}
use Rattle.rpki_der.specs.declared.mode.Mode.TheVariants.{Ber}
use Rattle.rpki_der.specs.Value.{Value, Begins}
use Rattle.rpki_der.specs.Position.{Position}
use Rattle.rpki_der.specs.Ticks.{counts}
use Rattle.test_layers.proofs.Row.{octets, counts_three}
use Rattle.test_layers.proofs.der.takes_marked_counted.Goals as goal

three : (old : Position) (rest : List ℕ) (b a : ℕ) → old ≡ record { mode = Ber; here = octets; levels = [] } → (v : Value) × Begins old.mode old.here v rest × (a ≡ b + counts v) → a ≡ b + 3
three old rest b a e w =
    let g : Begins Ber octets w.0 rest = subst (λ (p : Position). Begins p.mode p.here w.0 rest) e w.1 in
    let n : counts w.0 ≡ 3 = counts_three w.0 rest g in
    omega (arith, w.2, n)

pub returns-in-Ok-Some : goal.returns-in-Ok-Some
returns-in-Ok-Some g c = three _ _ _ _ c.new-cursor.ensures (rw c.in-Ok-Some.field-0-is at c.in-Ok-Some.ensures.ticks)
