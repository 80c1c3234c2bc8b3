use Rattle.std.proofs.Common.{◌≡◌, None}
use Rattle.rpki_der.specs.Flat.{in_level}
use Rattle.rpki_der.specs.Leaf.{leaf}
use Rattle.rpki_der.specs.Part.{level_of}
use Rattle.rpki_der.proofs.Flats.{takes_no_further, takes_further, refuses_further}
use Rattle.rpki_der.proofs.flat.take_further.Goals as goal

pub returns-in-Some-clause-found : goal.returns-in-Some-clause-found
returns-in-Some-clause-found c = takes_no_further leaf (in_level c.args.mode (level_of c.args.level) c.args.here.now) (_, c.in-Some.ensures.found)

pub returns-in_err-leaf-in-None-clause-none : goal.returns-in_err-leaf-in-None-clause-none
returns-in_err-leaf-in-None-clause-none c =
    let e : c.from_residual.result ≡ None = c.from_residual.ensures in
    rw e (refuses_further leaf (in_level c.args.mode (level_of c.args.level) c.args.here.now) (λ a. c.in-None.ensures.none a.0 a.1) (c.in_err-leaf-in-None.ensures.none (level_of c.args.level)))

pub returns-in_ok-leaf-in-None-clause-found : goal.returns-in_ok-leaf-in-None-clause-found
returns-in_ok-leaf-in-None-clause-found c = takes_further leaf _ _ _ (c.in_ok-leaf-in-None.ensures.found (level_of c.args.level))
