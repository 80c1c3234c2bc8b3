use Rattle.std.proofs.Common.{sym, arith, refl, ◌<◌, length}
use Rattle.rpki_xml.specs.Lexing.{ends_at, character_at}
use Rattle.rpki_xml.specs.PlainCharacter.{is_plain}
use Rattle.rpki_xml.specs.declared.error.XmlError.TheVariants as errors
use Rattle.rpki_xml.proofs.Until.{until_starts, until_more, until_fails, until_done}
use Rattle.rpki_xml.proofs.Plains.{until_plain, back_smaller}
use Rattle.rpki_xml.proofs.lexing.resolved_until.Goals as goal

pub characters-init : goal.characters-init
characters-init c = record {
  read = rw c.new-value.ensures.items (until_starts (ends_at c.args.at_end c.args.stop) character_at c.args.b.now);
  shorter = omega arith;
  same = λ _. refl;
}

pub characters-preserved-then-is_empty : goal.characters-preserved-then-is_empty
characters-preserved-then-is_empty c = record {
  read = rw c.in_ok-push.ensures.items (until_more (ends_at c.args.at_end c.args.stop) character_at c.args.b.now c.characters.value.items c.characters.rest.now c.in-Some.c c.in-Some.after.now c.characters.invariant.read (sym c.characters-test.ensures) (sym c.in-Some.ensures.value) c.in-Some.ensures.shorter);
  shorter = omega (arith, c.in-Some.ensures.shorter, c.characters.invariant.shorter);
  same = λ e. absurd (omega (arith, e, c.in-Some.ensures.shorter, c.characters.invariant.shorter));
}

pub characters-smaller : goal.characters-smaller
characters-smaller c =
    let some : 0 < length c.split_plain.result.0.now = grind arith in
    back_smaller (is_plain c.args.stop) c.characters.rest.now c.split_plain.result.0.now c.split_plain.result.1.now c.split_plain.ensures.front c.split_plain.ensures.back some

pub characters-preserved : goal.characters-preserved
characters-preserved c =
    let some : 0 < length c.split_plain.result.0.now = grind arith in
    let less = back_smaller (is_plain c.args.stop) c.characters.rest.now c.split_plain.result.0.now c.split_plain.result.1.now c.split_plain.ensures.front c.split_plain.ensures.back some in
    record {
      read = rw (c.in_ok-extend_from_slice.ensures.items, c.split_plain.ensures.front, c.split_plain.ensures.back) (until_plain c.args.at_end c.args.stop c.args.b.now c.characters.value.items c.characters.rest.now c.characters.invariant.read);
      shorter = omega (arith, less, c.characters.invariant.shorter);
      same = λ e. absurd (omega (arith, e, less, c.characters.invariant.shorter));
    }

pub returns-in_default-clause-value : goal.returns-in_default-clause-value
returns-in_default-clause-value c = until_fails (ends_at c.args.at_end c.args.stop) character_at c.args.b.now c.characters.value.items c.characters.rest.now errors.Malformed c.characters.invariant.read (sym c.characters-test.ensures) (sym c.in_default.ensures.value)

pub returns-clause-value : goal.returns-clause-value
returns-clause-value c = until_done (ends_at c.args.at_end c.args.stop) character_at c.args.b.now c.characters.value.items c.characters.rest.now c.characters.invariant.read (sym c.characters-test.ensures)
