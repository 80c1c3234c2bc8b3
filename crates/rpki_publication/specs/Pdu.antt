-- The attributes that the elements inside a message may have (RFC 8181, 2.2 to 2.4). Names are
-- compared by their local parts.
use Rattle.std.specs.Prelude.{ℕ, List, [], ◌∷◌, Option, Some, codes}
use Rattle.rpki_common.specs.Chaining.{◌>>=◌}
use Rattle.rpki_xmltext.specs.UriText.{uri_of_text}
use Rattle.rpki_text.specs.Hash.{digest_of_text}
use Rattle.rpki_text.specs.Uri.{rsync}
use Rattle.rpki_xml.specs.Element.{Head}
use Rattle.rpki_xml.specs.Tables.{only_listed, optional, optional_by}
use Rattle.rpki_publication.specs.ReportErrorCode.{code_of_text}
use Rattle.rpki_publication.specs.declared.report_error_code.ReportErrorCode.{ReportErrorCode}

-- The attributes of an element in a query. Each that is there has to be lawful, also where the
-- element has no use for it.
pub record QueryAttributes : Type 0 where
  pub tag : Option (List ℕ)
  pub uri : Option (List ℕ)
  pub hash : Option (List ℕ)

-- the attributes of an element in a query: tag, an rsync URI and a digest, each if it is there; no
-- others may be
unfoldable pub query_attributes_in : Head → Option QueryAttributes
query_attributes_in h = do
  _ ← only_listed (codes "tag" ∷ codes "uri" ∷ codes "hash" ∷ []) h
  tag ← optional (codes "tag") h
  uri ← optional_by (uri_of_text rsync) (codes "uri") h
  hash ← optional_by digest_of_text (codes "hash") h
  Some (record { tag = tag; uri = uri; hash = hash })

-- The attributes of an element in a reply. Each that is there has to be lawful, also where the
-- element has no use for it.
pub record ReplyAttributes : Type 0 where
  pub hash : Option (List ℕ)
  pub uri : Option (List ℕ)
  pub tag : Option (List ℕ)
  pub error_code : Option ReportErrorCode

-- the attributes of an element in a reply: a digest, an rsync URI, tag and an error's code, each if
-- it is there; no others may be
unfoldable pub reply_attributes_in : Head → Option ReplyAttributes
reply_attributes_in h = do
  _ ← only_listed (codes "hash" ∷ codes "uri" ∷ codes "tag" ∷ codes "error_code" ∷ []) h
  hash ← optional_by digest_of_text (codes "hash") h
  uri ← optional_by (uri_of_text rsync) (codes "uri") h
  tag ← optional (codes "tag") h
  code ← optional_by code_of_text (codes "error_code") h
  Some (record { hash = hash; uri = uri; tag = tag; error_code = code })
