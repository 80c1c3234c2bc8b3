-- What is written of a writable message is read again.
use Rattle.std.proofs.Common.{◌≡◌, ℕ, List, [], ◌∷◌, Some, None, Option, refl, IfSome}
use Rattle.std.specs.Prelude.{codes}
use Rattle.base64.specs.GeneralPurpose.{IsBytes}
use Rattle.rpki_common.specs.Chaining.{◌>>=◌}
use Rattle.rpki_common.specs.Items as items
use Rattle.rpki_xmltext.specs.Parts.{attribute}
use Rattle.rpki_text.specs.Handle.{IsHandle}
use Rattle.rpki_text.specs.Uri.{rsync, https, fault_of}
use Rattle.rpki_text.proofs.Base64Laws.{base64_content-encode}
use Rattle.rpki_text.proofs.HandleLaws.{handle_of_text-some}
use Rattle.rpki_xml.specs.Content.{is_declaration}
use Rattle.rpki_xml.specs.Element.{alone}
use Rattle.rpki_xml.specs.Lettered.{AreOctets}
use Rattle.rpki_xml.specs.PlainElement.{ArePlain}
use Rattle.rpki_xml.specs.Tables.{only_listed, optional, optional_by, required, given_or_absent}
use Rattle.rpki_xml.proofs.Octets.{written_is_read}
use Rattle.rpki_setup.specs.ChildRequest.{ChildRequestFields, child_request_element, child_request_text, child_request_in, IsWritableChildRequest}
use Rattle.rpki_setup.specs.ParentResponse.{ParentResponseFields, parent_response_element, parent_response_text, parent_response_in, last_certificate_in, IsWritableParentResponse}
use Rattle.rpki_setup.specs.PublisherRequest.{PublisherRequestFields, publisher_request_element, publisher_request_text, publisher_request_in, IsWritablePublisherRequest}
use Rattle.rpki_xmltext.specs.Reading.{ReadsAs}
use Rattle.rpki_setup.specs.RepoInfo.{repo_info_in}
use Rattle.rpki_setup.specs.RepositoryResponse.{RepositoryResponseFields, repository_response_element, repository_response_text, repository_response_in, IsWritableRepositoryResponse}
use Rattle.rpki_setup.specs.Root.{setup_root_in, handle_in, certificate_in, one_certificate_in}
use Rattle.rpki_setup.specs.ServiceUri.{service_uri_in, service_text, IsWritableService}
use Rattle.rpki_setup.specs.declared.service_uri.ServiceUri.{ServiceUri}
use Rattle.rpki_setup.proofs.Plain.{element_plain}
use Rattle.rpki_xmltext.proofs.Plain.{attribute_plain}
use Rattle.rpki_xmltext.proofs.Uris.{uri_is, handle_octets, uri_octets}
use Rattle.rpki_setup.proofs.Lawful.{service_again, service_octets}

-- ---- child_request

child_in : (c h : List ℕ) (tag : Option (List ℕ)) → IsBytes c → IsHandle h → child_request_in (child_request_element (record { id_cert = c; child_handle = h; tag = tag })) ≡ Some (record { id_cert = c; child_handle = h; tag = tag })
unfolding child_request_in child_request_element one_certificate_in only_listed items.only setup_root_in handle_in certificate_in required optional given_or_absent items.at_most_one items.the_one ◌>>=◌
child_in c h None b i = rw (handle_of_text-some h i, base64_content-encode c b) refl
child_in c h (Some t) b i = rw (handle_of_text-some h i, base64_content-encode c b) refl

child_plain : (c h : List ℕ) (tag : Option (List ℕ)) → IsBytes c → IsHandle h → IfSome tag AreOctets → ArePlain (alone (child_request_element (record { id_cert = c; child_handle = h; tag = tag })))
unfolding child_request_element is_declaration
child_plain c h None b i t =
    element_plain (codes "child_request") (attribute (codes "child_handle") h ∷ []) (codes "child_bpki_ta") c (record { lawful = refl; octets = refl; plain = refl }) (
      attribute_plain (codes "child_handle") h (record { lawful = refl; octets = refl; plain = refl }) refl (handle_octets h i),
      tt,
    )
    refl (record { lawful = refl; octets = refl; plain = refl }) b
child_plain c h (Some tag) b i t =
    element_plain (codes "child_request") (attribute (codes "child_handle") h ∷ attribute (codes "tag") tag ∷ []) (codes "child_bpki_ta") c (record { lawful = refl; octets = refl; plain = refl }) (
      attribute_plain (codes "child_handle") h (record { lawful = refl; octets = refl; plain = refl }) refl (handle_octets h i),
      (
        attribute_plain (codes "tag") tag (record { lawful = refl; octets = refl; plain = refl }) refl t,
        tt,
      ),
    )
    refl (record { lawful = refl; octets = refl; plain = refl }) b

pub child_again : (m : ChildRequestFields) → IsWritableChildRequest m → ReadsAs child_request_in (child_request_text m) m
unfolding child_request_text
child_again m w = record {
  element = child_request_element m;
  document = written_is_read (child_request_element m) (child_plain m.id_cert m.child_handle m.tag w.id_cert w.child_handle w.tag);
  message = child_in m.id_cert m.child_handle m.tag w.id_cert w.child_handle;
}

-- ---- publisher_request

publisher_in : (c h : List ℕ) (tag : Option (List ℕ)) → IsBytes c → IsHandle h → publisher_request_in (publisher_request_element (record { id_cert = c; publisher_handle = h; tag = tag })) ≡ Some (record { id_cert = c; publisher_handle = h; tag = tag })
unfolding publisher_request_in publisher_request_element one_certificate_in only_listed items.only setup_root_in handle_in certificate_in required optional given_or_absent items.at_most_one items.the_one ◌>>=◌
publisher_in c h None b i = rw (handle_of_text-some h i, base64_content-encode c b) refl
publisher_in c h (Some t) b i = rw (handle_of_text-some h i, base64_content-encode c b) refl

publisher_plain : (c h : List ℕ) (tag : Option (List ℕ)) → IsBytes c → IsHandle h → IfSome tag AreOctets → ArePlain (alone (publisher_request_element (record { id_cert = c; publisher_handle = h; tag = tag })))
unfolding publisher_request_element is_declaration
publisher_plain c h None b i t =
    element_plain (codes "publisher_request") (attribute (codes "publisher_handle") h ∷ []) (codes "publisher_bpki_ta") c (record { lawful = refl; octets = refl; plain = refl }) (
      attribute_plain (codes "publisher_handle") h (record { lawful = refl; octets = refl; plain = refl }) refl (handle_octets h i),
      tt,
    )
    refl (record { lawful = refl; octets = refl; plain = refl }) b
publisher_plain c h (Some tag) b i t =
    element_plain (codes "publisher_request") (attribute (codes "publisher_handle") h ∷ attribute (codes "tag") tag ∷ []) (codes "publisher_bpki_ta") c (record { lawful = refl; octets = refl; plain = refl }) (
      attribute_plain (codes "publisher_handle") h (record { lawful = refl; octets = refl; plain = refl }) refl (handle_octets h i),
      (
        attribute_plain (codes "tag") tag (record { lawful = refl; octets = refl; plain = refl }) refl t,
        tt,
      ),
    )
    refl (record { lawful = refl; octets = refl; plain = refl }) b

pub publisher_again : (m : PublisherRequestFields) → IsWritablePublisherRequest m → ReadsAs publisher_request_in (publisher_request_text m) m
unfolding publisher_request_text
publisher_again m w = record {
  element = publisher_request_element m;
  document = written_is_read (publisher_request_element m) (publisher_plain m.id_cert m.publisher_handle m.tag w.id_cert w.publisher_handle w.tag);
  message = publisher_in m.id_cert m.publisher_handle m.tag w.id_cert w.publisher_handle;
}

-- ---- parent_response

parent_in : (c p h : List ℕ) (s : ServiceUri) (tag : Option (List ℕ)) → IsBytes c → IsHandle p → IsHandle h → IsWritableService s → parent_response_in (parent_response_element (record { id_cert = c; parent_handle = p; child_handle = h; service_uri = s; tag = tag })) ≡ Some (record { id_cert = c; parent_handle = p; child_handle = h; service_uri = s; tag = tag })
unfolding parent_response_in parent_response_element service_uri_in last_certificate_in items.only items.the_last setup_root_in handle_in certificate_in required optional given_or_absent items.at_most_one items.the_one ◌>>=◌
parent_in c p h s None b i j k = rw (handle_of_text-some p i, handle_of_text-some h j, service_again s k, base64_content-encode c b) refl
parent_in c p h s (Some t) b i j k = rw (handle_of_text-some p i, handle_of_text-some h j, service_again s k, base64_content-encode c b) refl

parent_plain : (c p h : List ℕ) (s : ServiceUri) (tag : Option (List ℕ)) → IsBytes c → IsHandle p → IsHandle h → IsWritableService s → IfSome tag AreOctets → ArePlain (alone (parent_response_element (record { id_cert = c; parent_handle = p; child_handle = h; service_uri = s; tag = tag })))
unfolding parent_response_element is_declaration
parent_plain c p h s None b i j k t =
    element_plain (codes "parent_response") (attribute (codes "parent_handle") p ∷ attribute (codes "child_handle") h ∷ attribute (codes "service_uri") (service_text s) ∷ []) (codes "parent_bpki_ta") c (record { lawful = refl; octets = refl; plain = refl }) (
      attribute_plain (codes "parent_handle") p (record { lawful = refl; octets = refl; plain = refl }) refl (handle_octets p i),
      (
        attribute_plain (codes "child_handle") h (record { lawful = refl; octets = refl; plain = refl }) refl (handle_octets h j),
        (
          attribute_plain (codes "service_uri") (service_text s) (record { lawful = refl; octets = refl; plain = refl }) refl (service_octets s k),
          tt,
        ),
      ),
    )
    refl (record { lawful = refl; octets = refl; plain = refl }) b
parent_plain c p h s (Some tag) b i j k t =
    element_plain (codes "parent_response") (attribute (codes "parent_handle") p ∷ attribute (codes "child_handle") h ∷ attribute (codes "service_uri") (service_text s) ∷ attribute (codes "tag") tag ∷ []) (codes "parent_bpki_ta") c (record { lawful = refl; octets = refl; plain = refl }) (
      attribute_plain (codes "parent_handle") p (record { lawful = refl; octets = refl; plain = refl }) refl (handle_octets p i),
      (
        attribute_plain (codes "child_handle") h (record { lawful = refl; octets = refl; plain = refl }) refl (handle_octets h j),
        (
          attribute_plain (codes "service_uri") (service_text s) (record { lawful = refl; octets = refl; plain = refl }) refl (service_octets s k),
          (
            attribute_plain (codes "tag") tag (record { lawful = refl; octets = refl; plain = refl }) refl t,
            tt,
          ),
        ),
      ),
    )
    refl (record { lawful = refl; octets = refl; plain = refl }) b

pub parent_again : (m : ParentResponseFields) → IsWritableParentResponse m → ReadsAs parent_response_in (parent_response_text m) m
unfolding parent_response_text
parent_again m w = record {
  element = parent_response_element m;
  document = written_is_read (parent_response_element m) (parent_plain m.id_cert m.parent_handle m.child_handle m.service_uri m.tag w.id_cert w.parent_handle w.child_handle w.service_uri w.tag);
  message = parent_in m.id_cert m.parent_handle m.child_handle m.service_uri m.tag w.id_cert w.parent_handle w.child_handle w.service_uri;
}

-- ---- repository_response

repository_in : (c h : List ℕ) (s : ServiceUri) (u : List ℕ) (n tag : Option (List ℕ)) → IsBytes c → IsHandle h → IsWritableService s → fault_of rsync u ≡ None → IfSome n (λ v. fault_of https v ≡ None)
    → repository_response_in (repository_response_element (record { id_cert = c; publisher_handle = h; service_uri = s; repo_info = record { sia_base = u; rrdp_notification_uri = n }; tag = tag })) ≡ Some (record { id_cert = c; publisher_handle = h; service_uri = s; repo_info = record { sia_base = u; rrdp_notification_uri = n }; tag = tag })
unfolding repository_response_in repository_response_element service_uri_in repo_info_in optional_by one_certificate_in setup_root_in handle_in certificate_in required optional given_or_absent items.at_most_one items.the_one ◌>>=◌
repository_in c h s u None None b i j k l = rw (handle_of_text-some h i, service_again s j, uri_is rsync u k, base64_content-encode c b) refl
repository_in c h s u None (Some t) b i j k l = rw (handle_of_text-some h i, service_again s j, uri_is rsync u k, base64_content-encode c b) refl
repository_in c h s u (Some v) None b i j k l = rw (handle_of_text-some h i, service_again s j, uri_is rsync u k, uri_is https v l, base64_content-encode c b) refl
repository_in c h s u (Some v) (Some t) b i j k l = rw (handle_of_text-some h i, service_again s j, uri_is rsync u k, uri_is https v l, base64_content-encode c b) refl

repository_plain : (c h : List ℕ) (s : ServiceUri) (u : List ℕ) (n tag : Option (List ℕ)) → IsBytes c → IsHandle h → IsWritableService s → fault_of rsync u ≡ None → IfSome n (λ v. fault_of https v ≡ None) → IfSome tag AreOctets
    → ArePlain (alone (repository_response_element (record { id_cert = c; publisher_handle = h; service_uri = s; repo_info = record { sia_base = u; rrdp_notification_uri = n }; tag = tag })))
unfolding repository_response_element is_declaration
repository_plain c h s u None None b i j k l t =
    element_plain (codes "repository_response") (attribute (codes "publisher_handle") h ∷ attribute (codes "service_uri") (service_text s) ∷ attribute (codes "sia_base") u ∷ []) (codes "repository_bpki_ta") c (record { lawful = refl; octets = refl; plain = refl }) (
      attribute_plain (codes "publisher_handle") h (record { lawful = refl; octets = refl; plain = refl }) refl (handle_octets h i),
      (
        attribute_plain (codes "service_uri") (service_text s) (record { lawful = refl; octets = refl; plain = refl }) refl (service_octets s j),
        (
          attribute_plain (codes "sia_base") u (record { lawful = refl; octets = refl; plain = refl }) refl (uri_octets rsync u k),
          tt,
        ),
      ),
    )
    refl (record { lawful = refl; octets = refl; plain = refl }) b
repository_plain c h s u None (Some tag) b i j k l t =
    element_plain (codes "repository_response") (attribute (codes "publisher_handle") h ∷ attribute (codes "service_uri") (service_text s) ∷ attribute (codes "sia_base") u ∷ attribute (codes "tag") tag ∷ []) (codes "repository_bpki_ta") c (record { lawful = refl; octets = refl; plain = refl }) (
      attribute_plain (codes "publisher_handle") h (record { lawful = refl; octets = refl; plain = refl }) refl (handle_octets h i),
      (
        attribute_plain (codes "service_uri") (service_text s) (record { lawful = refl; octets = refl; plain = refl }) refl (service_octets s j),
        (
          attribute_plain (codes "sia_base") u (record { lawful = refl; octets = refl; plain = refl }) refl (uri_octets rsync u k),
          (
            attribute_plain (codes "tag") tag (record { lawful = refl; octets = refl; plain = refl }) refl t,
            tt,
          ),
        ),
      ),
    )
    refl (record { lawful = refl; octets = refl; plain = refl }) b
repository_plain c h s u (Some v) None b i j k l t =
    element_plain (codes "repository_response") (attribute (codes "publisher_handle") h ∷ attribute (codes "service_uri") (service_text s) ∷ attribute (codes "sia_base") u ∷ attribute (codes "rrdp_notification_uri") v ∷ []) (codes "repository_bpki_ta") c (record { lawful = refl; octets = refl; plain = refl }) (
      attribute_plain (codes "publisher_handle") h (record { lawful = refl; octets = refl; plain = refl }) refl (handle_octets h i),
      (
        attribute_plain (codes "service_uri") (service_text s) (record { lawful = refl; octets = refl; plain = refl }) refl (service_octets s j),
        (
          attribute_plain (codes "sia_base") u (record { lawful = refl; octets = refl; plain = refl }) refl (uri_octets rsync u k),
          (
            attribute_plain (codes "rrdp_notification_uri") v (record { lawful = refl; octets = refl; plain = refl }) refl (uri_octets https v l),
            tt,
          ),
        ),
      ),
    )
    refl (record { lawful = refl; octets = refl; plain = refl }) b
repository_plain c h s u (Some v) (Some tag) b i j k l t =
    element_plain (codes "repository_response") (attribute (codes "publisher_handle") h ∷ attribute (codes "service_uri") (service_text s) ∷ attribute (codes "sia_base") u ∷ attribute (codes "rrdp_notification_uri") v ∷ attribute (codes "tag") tag ∷ []) (codes "repository_bpki_ta") c (record { lawful = refl; octets = refl; plain = refl }) (
      attribute_plain (codes "publisher_handle") h (record { lawful = refl; octets = refl; plain = refl }) refl (handle_octets h i),
      (
        attribute_plain (codes "service_uri") (service_text s) (record { lawful = refl; octets = refl; plain = refl }) refl (service_octets s j),
        (
          attribute_plain (codes "sia_base") u (record { lawful = refl; octets = refl; plain = refl }) refl (uri_octets rsync u k),
          (
            attribute_plain (codes "rrdp_notification_uri") v (record { lawful = refl; octets = refl; plain = refl }) refl (uri_octets https v l),
            (
              attribute_plain (codes "tag") tag (record { lawful = refl; octets = refl; plain = refl }) refl t,
              tt,
            ),
          ),
        ),
      ),
    )
    refl (record { lawful = refl; octets = refl; plain = refl }) b

pub repository_again : (m : RepositoryResponseFields) → IsWritableRepositoryResponse m → ReadsAs repository_response_in (repository_response_text m) m
unfolding repository_response_text
repository_again m w = record {
  element = repository_response_element m;
  document = written_is_read (repository_response_element m)
      (repository_plain m.id_cert m.publisher_handle m.service_uri m.repo_info.sia_base m.repo_info.rrdp_notification_uri m.tag w.id_cert w.publisher_handle w.service_uri w.repo_info.sia_base w.repo_info.notification w.tag);
  message = repository_in m.id_cert m.publisher_handle m.service_uri m.repo_info.sia_base m.repo_info.rrdp_notification_uri m.tag w.id_cert w.publisher_handle w.service_uri w.repo_info.sia_base w.repo_info.notification;
}
