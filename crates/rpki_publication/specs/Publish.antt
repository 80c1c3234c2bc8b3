-- The fields of the elements that change objects (RFC 8181, 3.1 to 3.3).
use Rattle.std.specs.Prelude.{ℕ, List, [], Option, None, Some}

-- a new object: a tag if it has one, its URI, and its octets (3.1)
pub record PublishFields : Type 0 where
  pub tag : Option (List ℕ)
  pub uri : List ℕ
  -- the octets of the object
  pub content : List ℕ

-- an object in another's place: a tag if it has one, the URI, the new octets, and the digest of the
-- other (3.2)
pub record UpdateFields : Type 0 where
  pub tag : Option (List ℕ)
  pub uri : List ℕ
  pub content : List ℕ
  -- the digest of the object that is replaced
  pub hash : List ℕ

-- an object that is removed: a tag if it has one, its URI, and its digest (3.3)
pub record WithdrawFields : Type 0 where
  pub tag : Option (List ℕ)
  pub uri : List ℕ
  -- the digest of the object that is removed
  pub hash : List ℕ

-- the tag that is written: empty where there is none
abbrev pub tag_text : Option (List ℕ) → List ℕ
tag_text None = []
tag_text (Some tag) = tag
