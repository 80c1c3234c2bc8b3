-- The response of a repository to a publisher (RFC 8183, 5.2.4).
use Rattle.std.specs.Prelude.{ℕ, List, ◌∷◌, ◌++◌, Option, Some, IfSome, codes}
use Rattle.base64.specs.GeneralPurpose.{IsBytes}
use Rattle.rpki_common.specs.Chaining.{◌>>=◌}
use Rattle.rpki_xmltext.specs.Parts.{attribute}
use Rattle.rpki_text.specs.Handle.{IsHandle}
use Rattle.rpki_xml.specs.Draft.{optional_attribute}
use Rattle.rpki_xml.specs.Element.{Element}
use Rattle.rpki_xml.specs.Lettered.{AreOctets}
use Rattle.rpki_xml.specs.Spelling.{spelled}
use Rattle.rpki_xml.specs.Tables.{optional}
use Rattle.rpki_setup.specs.declared.service_uri.ServiceUri.{ServiceUri}
use Rattle.rpki_setup.specs.Root.{certificate_element, root_element, setup_root_in, handle_in, one_certificate_in}
use Rattle.rpki_setup.specs.RepoInfo.{RepoInfoFields, repo_info_attributes, repo_info_in, IsWritableRepoInfo}
use Rattle.rpki_setup.specs.ServiceUri.{service_uri_in, service_text, IsWritableService}

-- what a repository's response says: its BPKI trust anchor, the publisher's handle, where the
-- service is, where objects are found, and a tag if it has one
pub record RepositoryResponseFields : Type 0 where
  -- the octets of the repository's BPKI trust anchor
  pub id_cert : List ℕ
  pub publisher_handle : List ℕ
  pub service_uri : ServiceUri
  pub repo_info : RepoInfoFields
  pub tag : Option (List ℕ)

-- the element that a response is written as
unfoldable pub repository_response_element : RepositoryResponseFields → Element
repository_response_element m =
    root_element (codes "repository_response")
    (attribute (codes "publisher_handle") m.publisher_handle
    ∷ attribute (codes "service_uri") (service_text m.service_uri)
    ∷ (repo_info_attributes m.repo_info ++ optional_attribute (codes "tag") m.tag))
    (certificate_element (codes "repository_bpki_ta") m.id_cert)

-- the octets of a response
unfoldable pub repository_response_text : RepositoryResponseFields → List ℕ
repository_response_text m = spelled (repository_response_element m)

-- the response that an element is read as; attributes of other names are passed over
unfoldable pub repository_response_in : Element → Option RepositoryResponseFields
repository_response_in e = do
  _ ← setup_root_in (codes "repository_response") e
  publisher ← handle_in (codes "publisher_handle") e.head
  service ← service_uri_in e.head
  info ← repo_info_in e.head
  tag ← optional (codes "tag") e.head
  octets ← one_certificate_in (codes "repository_bpki_ta") e.children
  Some (record {
    id_cert = octets;
    publisher_handle = publisher;
    service_uri = service;
    repo_info = info;
    tag = tag;
  })

-- What can be written so that it is read again: the handle has the pattern, the service URI is one,
-- and the tag consists of octets that a document may have. That octets are octets, and that URIs
-- are lawful, is kept by the types of these fields.
pub record IsWritableRepositoryResponse (m : RepositoryResponseFields) : Type 0 where
  pub id_cert : IsBytes m.id_cert
  pub publisher_handle : IsHandle m.publisher_handle
  pub service_uri : IsWritableService m.service_uri
  pub repo_info : IsWritableRepoInfo m.repo_info
  pub tag : IfSome m.tag AreOctets
