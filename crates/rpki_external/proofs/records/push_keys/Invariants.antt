use Rattle.std.proofs.Common.{◌≡◌, ◌++◌, drop, take}
use Rattle.std.specs.List.{AllByRecursion}
use Rattle.rpki_external.specs.Records.{IsWritableKey, key_records, records_of}
use Rattle.rpki_external.proofs.records.push_keys.Given as goal

abbrev pub invariant-loop-key : goal.invariant-loop-key
invariant-loop-key l =
    (l.text.items ++ records_of (key_records (drop l.key-index l.keys)) ≡ l.initial.text.items ++ records_of (key_records l.keys))
    × AllByRecursion IsWritableKey (take l.key-index l.keys)
