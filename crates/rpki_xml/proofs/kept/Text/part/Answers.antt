use Rattle.std.proofs.Common.{◌≡◌, ◌++◌, ◌-◌, List, ℕ, arith, length, subst, sym, take}
use Rattle.std.proofs.lemmas.List.{length-take}
use Rattle.rpki_xml.specs.Kept.{HasBack}
use Rattle.rpki_xml.proofs.Backs.{part_placed}
use Rattle.rpki_xml.proofs.kept.Text.part.Goals as goal

pub placed-requires : goal.placed-requires
placed-requires c =
    let count = length-take c.in-At.end c.args.source.now in
    let until : c.saturating_sub-until.result ≡ length (take c.in-At.end c.args.source.now) - length c.args.rest.now = omega (arith, count, c.min.ensures, c.saturating_sub-until.ensures) in
    subst (λ (l : List ℕ). HasBack c.args.source.now (c.args.part.now ++ l)) (sym c.split_at.ensures.back)
    (part_placed c.args.source.now c.args.part.now c.args.rest.now c.in-At.start c.in-At.end c.saturating_sub-until.result (rw c.in-At.is at c.requires) until)
