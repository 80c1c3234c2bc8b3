use Rattle.std.proofs.Common.{rules}
use Rattle.rpki_common.specs.Chaining.{◌>>=◌}
use Rattle.rpki_base.proofs.Pairs.{whole_validity}
use Rattle.rpki_base.proofs.validity.Validity.take.Goals as goal

pub returns-in_err-first : goal.returns-in_err-first
unfolding ◌>>=◌
returns-in_err-first c = let e = whole_validity c.args.mode c.args.octets.now in search rules

pub returns-in_err-second : goal.returns-in_err-second
unfolding ◌>>=◌
returns-in_err-second c = let e = whole_validity c.args.mode c.args.octets.now in search rules

pub returns-in_err-not_before : goal.returns-in_err-not_before
unfolding ◌>>=◌
returns-in_err-not_before c = let e = whole_validity c.args.mode c.args.octets.now in search rules

pub returns-in_err-not_after : goal.returns-in_err-not_after
unfolding ◌>>=◌
returns-in_err-not_after c = let e = whole_validity c.args.mode c.args.octets.now in search rules

pub returns : goal.returns
unfolding ◌>>=◌
returns c = let e = whole_validity c.args.mode c.args.octets.now in search rules
