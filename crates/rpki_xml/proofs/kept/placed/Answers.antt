use Rattle.std.proofs.Common.{◌≡◌, ◌-◌, ◌∙◌, ℕ, Some, ap, length, sym}
use Rattle.rpki_common.proofs.Truths.{same_some}
use Rattle.rpki_xml.proofs.Backs.{part_stands}
use Rattle.rpki_xml.proofs.kept.placed.Goals as goal

pub returns-clause-value : goal.returns-clause-value
returns-clause-value c =
    let last : c.in_ok-end.end ≡ length c.args.source.now - length c.args.rest.now = sym (same_some _ _ c.in_ok-end.ensures.value) ∙ c.saturating_sub-until.ensures in
    let first : c.in_ok-start.start ≡ length c.args.source.now - length c.args.rest.now - length c.args.part.now =
    sym (same_some _ _ c.in_ok-start.ensures.value) ∙ c.saturating_sub.ensures ∙ ap (λ (n : ℕ). n - length c.args.part.now) c.saturating_sub-until.ensures in
    ap Some (sym (part_stands c.args.source.now c.args.part.now c.args.rest.now c.in_ok-start.start c.in_ok-end.end c.requires first last))
