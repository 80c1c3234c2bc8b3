use Rattle.std.proofs.Common.{sym, ap, ◌∙◌}
use Rattle.rpki_xml.specs.Kept.{kept_text}
use Rattle.rpki_xml.specs.Lexing.{ends_at}
use Rattle.rpki_xml.proofs.Backs.{back_plain}
use Rattle.rpki_xml.proofs.Plains.{plain_read, plain_moves}
use Rattle.rpki_xml.proofs.lexing.characters_until.Goals as goal

pub placed-requires : goal.placed-requires
placed-requires c = back_plain c.args.source.now c.args.b.now c.split_plain.result.0.now c.split_plain.result.1.now c.args.stop c.requires c.split_plain.ensures.front c.split_plain.ensures.back

pub returns-then-ends_at-clause-value : goal.returns-then-ends_at-clause-value
returns-then-ends_at-clause-value c =
    plain_read c.args.at_end c.args.stop c.args.b.now c.split_plain.result.0.now c.split_plain.result.1.now (kept_text c.args.source.now c.in_ok-placed.field-0) c.in_ok-placed.ensures.value c.split_plain.ensures.front c.split_plain.ensures.back (sym c.if-ends_at.ensures)

pub returns-then-ends_at-clause-moved : goal.returns-then-ends_at-clause-moved
returns-then-ends_at-clause-moved c =
    let off = ap (ends_at c.args.at_end c.args.stop) (sym c.split_plain.ensures.back) ∙ sym c.if-ends_at.ensures in
    λ on. rw c.split_plain.ensures.back (plain_moves c.args.at_end c.args.stop c.args.b.now off on)
