use Rattle.std.proofs.Common.{◌≡◌, ◌≢◌, None, [], sym, ◌∙◌}
use Rattle.rpki_der.specs.Part.{level_of}
use Rattle.rpki_der.proofs.Flats.{nothing_left, something_left, pair_taken, pair_behind, pair_not_entered, pair_without_first, pair_without_second, pair_not_ended}
use Rattle.rpki_der.proofs.flat.take_whole_pair.Goals as goal

pub returns-in_err-level : goal.returns-in_err-level
returns-in_err-level c =
    let e : c.from_residual.result ≡ None = c.from_residual.ensures in
    e ∙ sym (pair_not_entered c.args.mode c.args.octets.now c.in_err-level.ensures.none)

pub returns-in_err-first : goal.returns-in_err-first
returns-in_err-first c =
    let e : c.from_residual-in_err-first.result ≡ None = c.from_residual-in_err-first.ensures in
    e ∙ sym (pair_without_first c.args.mode c.args.octets.now _ _ c.in_ok-level.ensures.found (c.in_err-first.ensures.none (level_of c.in_ok-level.level)))

pub returns-in_err-second : goal.returns-in_err-second
returns-in_err-second c =
    let e : c.from_residual-in_err-second.result ≡ None = c.from_residual-in_err-second.ensures in
    e ∙ sym (pair_without_second c.args.mode c.args.octets.now _ _ _ _ c.in_ok-level.ensures.found (c.in_ok-first.ensures.found (level_of c.in_ok-level.level)) c.in_err-second.ensures.none)

pub returns-in_err-behind : goal.returns-in_err-behind
returns-in_err-behind c =
    let e : c.from_residual-in_err-behind.result ≡ None = c.from_residual-in_err-behind.ensures in
    e ∙ sym (pair_not_ended c.args.mode c.args.octets.now _ _ _ _ _ _ c.in_ok-level.ensures.found (c.in_ok-first.ensures.found (level_of c.in_ok-level.level)) c.in_ok-second.ensures.found c.in_err-behind.ensures.none)

pub returns-then-is_empty : goal.returns-then-is_empty
returns-then-is_empty c =
    let e : c.in_ok-behind.behind.now ≡ [] = nothing_left _ c.if-is_empty.ensures in
    sym (pair_taken c.args.mode c.args.octets.now _ _ _ _ _ _ _ c.in_ok-level.ensures.found (c.in_ok-first.ensures.found (level_of c.in_ok-level.level)) c.in_ok-second.ensures.found c.in_ok-behind.ensures.found e)

pub returns-else-is_empty : goal.returns-else-is_empty
returns-else-is_empty c =
    let n : c.in_ok-behind.behind.now ≢ [] = something_left _ c.if-is_empty.ensures in
    sym (pair_behind c.args.mode c.args.octets.now _ _ _ _ _ _ _ c.in_ok-level.ensures.found (c.in_ok-first.ensures.found (level_of c.in_ok-level.level)) c.in_ok-second.ensures.found c.in_ok-behind.ensures.found n)
