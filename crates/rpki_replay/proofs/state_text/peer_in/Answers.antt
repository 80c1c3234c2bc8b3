use Rattle.std.proofs.Common.{◌∙◌, refl, string_bytes, sym}
use Rattle.rpki_replay.proofs.Texts.{no_words, no_time, no_key, not_written, differs}
use Rattle.rpki_replay.proofs.state_text.peer_in.Goals as goal

pub returns-in_default-clause-none : goal.returns-in_default-clause-none
returns-in_default-clause-none c = λ n peer is same. no_words c.args.line.now peer (c.in_default.ensures.none refl) is same

pub returns-in_default-time_in-clause-none : goal.returns-in_default-time_in-clause-none
returns-in_default-time_in-clause-none c = λ n peer is same. no_time c.args.line.now c.in-Some.key.now c.in-Some.seconds.now peer c.time_in.result c.in-Some.ensures.some c.in_default-time_in.is c.time_in.ensures is same

pub returns-in_default-2-clause-none : goal.returns-in_default-2-clause-none
returns-in_default-2-clause-none c = λ n peer is same. no_key c.args.line.now c.in-Some.key.now c.in-Some.seconds.now peer c.in_ok-key.field-0 c.in-Some.ensures.some c.in_default-2.is c.in_ok-key.ensures is same

pub returns-then-ne-clause-none : goal.returns-then-ne-clause-none
returns-then-ne-clause-none c = λ n peer is same.
    let written = not_written c.args.line.now c.in-Some.key.now c.in-Some.seconds.now (string_bytes c.in_ok-written.written) peer c.in-Some-time_in.last c.in-Some-2.key c.in-Some.ensures.some
    (sym c.in-Some-2.is ∙ c.in_ok-key.ensures) c.in-Some-time_in.ensures c.in_ok-written.ensures.line is same in
    differs c.as_bytes.result.now c.args.line.now c.if-ne.ensures (c.as_bytes.ensures.value ∙ written)
