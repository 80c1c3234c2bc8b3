-- Where a repository's objects are found (RFC 8183, 5.2.4).
use Rattle.std.specs.Prelude.{◌≡◌, ℕ, List, [], ◌∷◌, ◌++◌, Option, None, Some, IfSome, codes}
use Rattle.rpki_common.specs.Chaining.{◌>>=◌}
use Rattle.rpki_xmltext.specs.Parts.{attribute}
use Rattle.rpki_text.specs.Uri.{rsync, https, fault_of, joined}
use Rattle.rpki_xml.specs.Draft.{optional_attribute}
use Rattle.rpki_xml.specs.Element.{Attribute, Head}
use Rattle.rpki_xml.specs.Tables.{required, optional_by}
use Rattle.rpki_xmltext.specs.UriText.{uri_of_text}

-- the base of the URIs of a repository's objects, and the URI of its RRDP notifications, if it has
-- them
pub record RepoInfoFields : Type 0 where
  pub sia_base : List ℕ
  pub rrdp_notification_uri : Option (List ℕ)

-- the repository of a CA: the base, or below it the directory with the name of the CA's name space,
-- if that is not empty
abbrev pub ca_repository_text : RepoInfoFields → List ℕ → List ℕ
ca_repository_text info [] = info.sia_base
ca_repository_text info (c ∷ name_space) = joined info.sia_base ((c ∷ name_space) ++ codes "/")

-- a file in the repository of a CA
abbrev pub resolved_text : RepoInfoFields → List ℕ → List ℕ → List ℕ
resolved_text info name_space file_name = joined (ca_repository_text info name_space) file_name

-- the attributes that are written: `sia_base`, and `rrdp_notification_uri` if it is there
abbrev pub repo_info_attributes : RepoInfoFields → List Attribute
repo_info_attributes info =
    attribute (codes "sia_base") info.sia_base
    ∷ optional_attribute (codes "rrdp_notification_uri") info.rrdp_notification_uri

-- `sia_base`, an rsync URI, which has to be there, and `rrdp_notification_uri`, an https URI if it
-- is there
unfoldable pub repo_info_in : Head → Option RepoInfoFields
repo_info_in h = do
  base ← required (codes "sia_base") h
  sia_base ← uri_of_text rsync base
  notification ← optional_by (uri_of_text https) (codes "rrdp_notification_uri") h
  Some (record { sia_base = sia_base; rrdp_notification_uri = notification })

-- The URIs are lawful, which their types keep.
pub record IsWritableRepoInfo (info : RepoInfoFields) : Type 0 where
  pub sia_base : fault_of rsync info.sia_base ≡ None
  pub notification : IfSome info.rrdp_notification_uri (λ u. fault_of https u ≡ None)
