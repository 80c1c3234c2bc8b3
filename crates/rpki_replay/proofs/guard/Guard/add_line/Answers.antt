use Rattle.std.proofs.Common.{◌∙◌, sym}
use Rattle.rpki_replay.proofs.Standing.{put_new}
use Rattle.rpki_replay.proofs.Lines.{none_held, still_held}
use Rattle.rpki_replay.proofs.guard.Guard.add_line.Goals as goal

pub returns-then-is_some-clause-bad : goal.returns-then-is_some-clause-bad
returns-then-is_some-clause-bad c = λ n other is same none.
    let read = rw c.in-Some.is at c.in_ok-peer.ensures.some in
    still_held c.args.self.now c.in-Some.peer other c.args.line.now c.last.result read.0 read.1 is same c.last.ensures c.if-is_some.ensures none

pub returns-clause-ok : goal.returns-clause-ok
returns-clause-ok c =
    let read = rw c.in-Some.is at c.in_ok-peer.ensures.some in
    let none = none_held c.last.result c.if-is_some.ensures in
    (c.in-Some.peer, read.0, read.1, sym c.last.ensures ∙ none, rw c.self.view_is at c.in_ok-put.ensures.ok ∙ put_new c.args.self.now c.in-Some.peer.key c.in-Some.peer.last (sym c.last.ensures ∙ none))
