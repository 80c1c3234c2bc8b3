use Rattle.std.proofs.Common.{◌<◌, ◌≤◌, ◌≡◌, ◌-◌, length, arith}
use Rattle.rpki_der.proofs.Growing.{closed_set, closed_past}
use Rattle.rpki_der.proofs.index.close.Goals as goal

pub returns-then-entry-len : goal.returns-then-entry-len
returns-then-entry-len c =
    let len = c.args.entries.now.ok.0 in
    let is = c.len.ensures in
    let lt : c.args.entry < length c.args.entries.now.items = omega (arith, c.if-entry-len.true) in
    let n : c.len-then-entry-len.result - c.args.entry - 1 ≡ length c.args.entries.now.items - c.args.entry - 1 = omega (arith, c.len-then-entry-len.ensures) in
    closed_set c.args.entries.now.items c.args.entry c.args.size _ c.index_mut-closed.result.now lt c.index_mut-closed.ensures.value n

pub returns-else-entry-len : goal.returns-else-entry-len
returns-else-entry-len c =
    let len = c.args.entries.now.ok.0 in
    let is = c.len.ensures in
    let le : length c.args.entries.now.items ≤ c.args.entry = omega (arith, c.if-entry-len.false) in
    closed_past c.args.entries.now.items c.args.entry c.args.size le
