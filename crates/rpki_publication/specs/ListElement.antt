-- An object in a list (RFC 8181, 2.3).
use Rattle.std.specs.Prelude.{ℕ, List}

-- the URI of an object, and its digest
pub record ListElementFields : Type 0 where
  pub uri : List ℕ
  -- the digest of the object
  pub hash : List ℕ
