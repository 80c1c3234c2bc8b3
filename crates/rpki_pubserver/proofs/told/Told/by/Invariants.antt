use Rattle.std.proofs.Common.{◌≡◌, List, ℕ, take}
use Rattle.std.specs.Map.{lookup}
use Rattle.std.specs.Str.{bytes_eq}
use Rattle.rpki_pubserver.proofs.told.Told.by.Given as goal

-- the first that are known are told
abbrev pub invariant-loop-one : goal.invariant-loop-one
invariant-loop-one l = (uri : List ℕ) → lookup (bytes_eq uri) l.told ≡ lookup (bytes_eq uri) (take l.one-index l.known)
