use Rattle.std.proofs.Common.{sym, ap, length, ◌∙◌}
use Rattle.std.specs.Prelude.{◌==◌}
use Rattle.rpki_provisioning.proofs.Firsts.{no_last, more_than_one, just_one}
use Rattle.rpki_provisioning.proofs.parts.the_one.Goals as goal

pub returns-in_default : goal.returns-in_default
returns-in_default c =
    let is = sym c.into_vec-issued.ensures in
    no_last c.args.issued c.pop.new.self.items _ (is ∙ c.in_default.ensures.items) (rw c.into_vec-issued.ensures at c.in_default.ensures.rest) c.in_default.ensures.cases.0

pub returns-then-not-is_empty : goal.returns-then-not-is_empty
returns-then-not-is_empty c =
    more_than_one c.args.issued c.pop.new.self.items c.in-Some.one (sym c.into_vec-issued.ensures ∙ c.in-Some.ensures.items) (ap (λ l. length l == 0) (sym c.as_slice.ensures.value) ∙ sym c.if-not-is_empty.ensures)

pub returns : goal.returns
returns c =
    just_one c.args.issued c.pop.new.self.items c.in-Some.one (sym c.into_vec-issued.ensures ∙ c.in-Some.ensures.items) (ap (λ l. length l == 0) (sym c.as_slice.ensures.value) ∙ sym c.if-not-is_empty.ensures)
