use Rattle.std.proofs.Common.{◌≡◌, [], sym, add-one}
use Rattle.rpki_der.proofs.Dotted.{part_at, no_part}
use Rattle.rpki_der.specs.Arcs.{subidentifier_parts}
use Rattle.rpki_der.proofs.Heads.{if_none}
use Rattle.rpki_der.proofs.arcs.split_subidentifier.Goals as goal

pub returns-in_err-place-clause-none : goal.returns-in_err-place-clause-none
returns-in_err-place-clause-none c = if_none _ (subidentifier_parts c.args.octets.now ≡ []) (no_part c.args.octets.now (sym c.in_err-place.ensures))

pub returns-clause-found : goal.returns-clause-found
returns-clause-found c =
    let w = part_at c.args.octets.now _ (sym c.in_ok-place.ensures) in
    rw (c.split_at.ensures.front, c.split_at.ensures.back) (simp add-one w.parts)
