use Rattle.std.proofs.Common.{◌≡◌, List, Option, Some, ℕ, take}
use Rattle.std.specs.Map.{lookup}
use Rattle.std.specs.Str.{bytes_eq}
use Rattle.rpki_pubserver.specs.Deciding.{AreKnown}
use Rattle.rpki_pubserver.specs.Places.{live}
use Rattle.rpki_pubserver.specs.Store.{digest_at}
use Rattle.rpki_pubserver.proofs.objects.Objects.told.Given as goal

-- something is told of the URI of each of the first changes, and what is told is so
abbrev pub invariant-loop-change : goal.invariant-loop-change
invariant-loop-change l = record {
  known : AreKnown l.told (take l.change-index l.changes);
  so : (uri : List ℕ) (there : Option (List ℕ)) → lookup (bytes_eq uri) l.told ≡ Some there → there ≡ digest_at (live l.self) uri;
}
