use Rattle.std.proofs.Common.{◌≡◌, ◌++◌, drop, take}
use Rattle.std.specs.List.{AllByRecursion}
use Rattle.rpki_external.specs.Records.{IsWritablePart, part_records, records_of}
use Rattle.rpki_external.proofs.records.push_parts.Given as goal

abbrev pub invariant-loop-part : goal.invariant-loop-part
invariant-loop-part l =
    (l.text.items ++ records_of (part_records (drop l.part-index l.parts)) ≡ l.initial.text.items ++ records_of (part_records l.parts))
    × AllByRecursion IsWritablePart (take l.part-index l.parts)
