-- Every message that is read is writable.
use Rattle.std.proofs.Common.{◌≡◌, ℕ, Bool, true, false, List, Option, Some, None, refl, subst, IfSome}
use Rattle.std.specs.Prelude.{codes, filter, if◌then◌else◌}
use Rattle.base64.specs.GeneralPurpose.{IsBytes}
use Rattle.rpki_common.specs.Chaining.{◌>>=◌}
use Rattle.rpki_common.specs.Items as items
use Rattle.rpki_common.proofs.Truths.{none_some, same_some}
use Rattle.rpki_text.specs.Handle.{is_handle, handle_of_text, IsHandle}
use Rattle.rpki_text.specs.Uri.{rsync, https}
use Rattle.rpki_text.proofs.HandleLaws.{IsHandle-from_test}
use Rattle.rpki_xml.specs.Element.{Head, Elements, Element, listed}
use Rattle.rpki_xml.specs.Lettered.{AreOctets, IsLetteredHead, AreLettered}
use Rattle.rpki_xml.specs.Tables.{optional, optional_by, required, the_child}
use Rattle.rpki_xml.proofs.Letters.{document_lettered}
use Rattle.rpki_setup.specs.ChildRequest.{ChildRequestFields, child_request_in, IsWritableChildRequest}
use Rattle.rpki_setup.specs.ParentResponse.{ParentResponseFields, parent_response_in, holds_certificate, some_certificate, last_certificate_in, IsWritableParentResponse}
use Rattle.rpki_setup.specs.PublisherRequest.{PublisherRequestFields, publisher_request_in, IsWritablePublisherRequest}
use Rattle.rpki_xmltext.specs.Reading.{ReadsAs}
use Rattle.rpki_setup.specs.RepoInfo.{RepoInfoFields, repo_info_in, IsWritableRepoInfo}
use Rattle.rpki_setup.specs.RepositoryResponse.{RepositoryResponseFields, repository_response_in, IsWritableRepositoryResponse}
use Rattle.rpki_setup.specs.Root.{handle_in, certificate_in, one_certificate_in}
use Rattle.rpki_xmltext.specs.UriText.{uri_of_text}
use Rattle.rpki_setup.specs.ServiceUri.{is_http, service_uri_of_text, service_uri_in, service_text, IsWritableService}
use Rattle.rpki_setup.specs.declared.service_uri.ServiceUri.{ServiceUri}
use Rattle.rpki_setup.specs.declared.service_uri.ServiceUri.TheVariants.{Https, Http}
use Rattle.rpki_xmltext.proofs.Attributes.{then_some, required_lettered, optional_lettered, child_lettered, some_holds, last_holds, heads_lettered}
use Rattle.rpki_xmltext.proofs.Lawful.{uri_read}
use Rattle.rpki_xmltext.proofs.Uris.{uri_lawful}
use Rattle.rpki_setup.proofs.Services.{kept}
use Rattle.rpki_xmltext.proofs.Spelt.{content_bytes}
use Rattle.rpki_setup.proofs.Lawful.{https_again}

-- ---- texts

handle_is : (b : Bool) (text handle : List ℕ) → is_handle text ≡ b → (if b then Some text else None) ≡ Some handle → IsHandle handle
handle_is true text handle t e = subst IsHandle (same_some text handle e) (IsHandle-from_test text t)
handle_is false text handle t e = absurd (none_some handle e)

handle_lawful : (local : List ℕ) (h : Head) (handle : List ℕ) → handle_in local h ≡ Some handle → IsHandle handle
unfolding handle_in
handle_lawful local h handle e = let p = then_some (required local h) handle_of_text handle e in handle_is (is_handle p.0) p.0 handle refl p.2

service_is : (b : Bool) (text : List ℕ) (s : ServiceUri) → is_http text ≡ b → AreOctets text → (if b then Some (Http text) else (uri_of_text https text >>= λ u. Some (Https u))) ≡ Some s → IsWritableService s
service_is true text s t o e = subst IsWritableService (same_some (Http text) s e) (t, o)
service_is false text s t o e =
    let p = then_some (uri_of_text https text) (λ u. Some (Https u)) s e in
    subst IsWritableService (same_some (Https p.0) s p.2) (uri_lawful https text p.0 p.1)

service_lawful : (text : List ℕ) (s : ServiceUri) → AreOctets text → service_uri_of_text text ≡ Some s → IsWritableService s
unfolding service_uri_of_text
service_lawful text s o e = service_is (is_http text) text s refl o e

service_read : (h : Head) (s : ServiceUri) → IsLetteredHead h → service_uri_in h ≡ Some s → IsWritableService s
unfolding service_uri_in
service_read h s l e = let p = then_some (required (codes "service_uri") h) service_uri_of_text s e in service_lawful p.0 s (required_lettered (codes "service_uri") h p.0 l p.1) p.2

info_read : (h : Head) (info : RepoInfoFields) → repo_info_in h ≡ Some info → IsWritableRepoInfo info
unfolding repo_info_in
info_read h info e =
    let p = then_some (required (codes "sia_base") h) _ info e in
    let q = then_some (uri_of_text rsync p.0) _ info p.2 in
    let r = then_some (optional_by (uri_of_text https) (codes "rrdp_notification_uri") h) _ info q.2 in
    subst IsWritableRepoInfo (same_some (record { sia_base = q.0; rrdp_notification_uri = r.0 }) info r.2) (record { sia_base = uri_lawful rsync p.0 q.0 q.1; notification = uri_read https (codes "rrdp_notification_uri") h r.0 r.1 })

-- ---- certificates

certificate_bytes : (local : List ℕ) (e : Element) (octets : List ℕ) → IsLetteredHead e.head → certificate_in local e ≡ Some octets → IsBytes octets
unfolding certificate_in
certificate_bytes local e octets l is =
    let p = then_some _ _ octets is in
    let q = then_some _ _ octets p.2 in
    content_bytes e.head.text octets l.text q.2

one_bytes : (local : List ℕ) (children : Elements) (octets : List ℕ) → AreLettered children → one_certificate_in local children ≡ Some octets → IsBytes octets
unfolding one_certificate_in
one_bytes local children octets l is =
    let p = then_some (the_child children) (certificate_in local) octets is in
    certificate_bytes local p.0 octets (child_lettered children p.0 l p.1) p.2

some_bytes : (e : Element) (found : Option (List ℕ)) → IsLetteredHead e.head → some_certificate e ≡ Some found → IfSome found IsBytes
some_bytes e found l is =
    let p = then_some (certificate_in (codes "parent_bpki_ta") e) (λ octets. Some (Some octets)) found is in
    subst (λ (o : Option (List ℕ)). IfSome o IsBytes) (same_some (Some p.0) found p.2) (certificate_bytes (codes "parent_bpki_ta") e p.0 l p.1)

last_bytes : (children : Elements) (octets : List ℕ) → AreLettered children → last_certificate_in children ≡ Some octets → IsBytes octets
unfolding last_certificate_in
last_bytes children octets l is =
    let p = then_some _ _ octets is in
    let q = then_some (items.the_last None some_certificate (filter holds_certificate (listed children))) (λ found. found) octets p.2 in
    let heads = some_holds (λ e. IsLetteredHead e.head) holds_certificate (listed children) (heads_lettered children l) in
    let bytes = last_holds (λ e. IsLetteredHead e.head) IsBytes some_certificate some_bytes (filter holds_certificate (listed children)) None q.0 heads tt q.1 in
    subst (λ (o : Option (List ℕ)). IfSome o IsBytes) q.2 bytes

-- ---- the messages

pub child_writable : (b : List ℕ) (m : ChildRequestFields) → ReadsAs child_request_in b m → IsWritableChildRequest m
unfolding child_request_in
child_writable b m r =
    let x = r.element in
    let l = document_lettered b x r.document in
    let p = then_some _ _ m r.message in
    let q = then_some _ _ m p.2 in
    let h = then_some (handle_in (codes "child_handle") x.head) _ m q.2 in
    let t = then_some (optional (codes "tag") x.head) _ m h.2 in
    let c = then_some (one_certificate_in (codes "child_bpki_ta") x.children) _ m t.2 in
    subst IsWritableChildRequest (same_some (record { id_cert = c.0; child_handle = h.0; tag = t.0 }) m c.2)
    (record {
      id_cert = one_bytes (codes "child_bpki_ta") x.children c.0 l.1.0 c.1;
      child_handle = handle_lawful (codes "child_handle") x.head h.0 h.1;
      tag = optional_lettered (codes "tag") x.head t.0 l.0 t.1;
    })

pub publisher_writable : (b : List ℕ) (m : PublisherRequestFields) → ReadsAs publisher_request_in b m → IsWritablePublisherRequest m
unfolding publisher_request_in
publisher_writable b m r =
    let x = r.element in
    let l = document_lettered b x r.document in
    let p = then_some _ _ m r.message in
    let q = then_some _ _ m p.2 in
    let h = then_some (handle_in (codes "publisher_handle") x.head) _ m q.2 in
    let t = then_some (optional (codes "tag") x.head) _ m h.2 in
    let c = then_some (one_certificate_in (codes "publisher_bpki_ta") x.children) _ m t.2 in
    subst IsWritablePublisherRequest (same_some (record { id_cert = c.0; publisher_handle = h.0; tag = t.0 }) m c.2)
    (record {
      id_cert = one_bytes (codes "publisher_bpki_ta") x.children c.0 l.1.0 c.1;
      publisher_handle = handle_lawful (codes "publisher_handle") x.head h.0 h.1;
      tag = optional_lettered (codes "tag") x.head t.0 l.0 t.1;
    })

pub parent_writable : (b : List ℕ) (m : ParentResponseFields) → ReadsAs parent_response_in b m → IsWritableParentResponse m
unfolding parent_response_in
parent_writable b m r =
    let x = r.element in
    let l = document_lettered b x r.document in
    let p = then_some _ _ m r.message in
    let g = then_some (handle_in (codes "parent_handle") x.head) _ m p.2 in
    let h = then_some (handle_in (codes "child_handle") x.head) _ m g.2 in
    let s = then_some (service_uri_in x.head) _ m h.2 in
    let t = then_some (optional (codes "tag") x.head) _ m s.2 in
    let c = then_some (last_certificate_in x.children) _ m t.2 in
    subst IsWritableParentResponse (same_some (record { id_cert = c.0; parent_handle = g.0; child_handle = h.0; service_uri = s.0; tag = t.0 }) m c.2)
    (record {
      id_cert = last_bytes x.children c.0 l.1.0 c.1;
      parent_handle = handle_lawful (codes "parent_handle") x.head g.0 g.1;
      child_handle = handle_lawful (codes "child_handle") x.head h.0 h.1;
      service_uri = service_read x.head s.0 l.0 s.1;
      tag = optional_lettered (codes "tag") x.head t.0 l.0 t.1;
    })

pub repository_writable : (b : List ℕ) (m : RepositoryResponseFields) → ReadsAs repository_response_in b m → IsWritableRepositoryResponse m
unfolding repository_response_in
repository_writable b m r =
    let x = r.element in
    let l = document_lettered b x r.document in
    let p = then_some _ _ m r.message in
    let h = then_some (handle_in (codes "publisher_handle") x.head) _ m p.2 in
    let s = then_some (service_uri_in x.head) _ m h.2 in
    let i = then_some (repo_info_in x.head) _ m s.2 in
    let t = then_some (optional (codes "tag") x.head) _ m i.2 in
    let c = then_some (one_certificate_in (codes "repository_bpki_ta") x.children) _ m t.2 in
    subst IsWritableRepositoryResponse (same_some (record { id_cert = c.0; publisher_handle = h.0; service_uri = s.0; repo_info = i.0; tag = t.0 }) m c.2)
    (record {
      id_cert = one_bytes (codes "repository_bpki_ta") x.children c.0 l.1.0 c.1;
      publisher_handle = handle_lawful (codes "publisher_handle") x.head h.0 h.1;
      service_uri = service_read x.head s.0 l.0 s.1;
      repo_info = info_read x.head i.0 i.1;
      tag = optional_lettered (codes "tag") x.head t.0 l.0 t.1;
    })

-- ---- printed service URIs

printed_is : (b : Bool) (text : List ℕ) (s : ServiceUri) → is_http text ≡ b → (if b then Some (Http text) else (uri_of_text https text >>= λ u. Some (Https u))) ≡ Some s → service_uri_of_text (service_text s) ≡ Some s
printed_is true text s t e = subst (λ (r : ServiceUri). service_uri_of_text (service_text r) ≡ Some r) (same_some (Http text) s e) (kept text t)
printed_is false text s t e =
    let p = then_some (uri_of_text https text) (λ u. Some (Https u)) s e in
    subst (λ (r : ServiceUri). service_uri_of_text (service_text r) ≡ Some r) (same_some (Https p.0) s p.2) (https_again p.0 (uri_lawful https text p.0 p.1))

pub service_printed : (text : List ℕ) (s : ServiceUri) → service_uri_of_text text ≡ Some s → service_uri_of_text (service_text s) ≡ Some s
unfolding service_uri_of_text
service_printed text s e = printed_is (is_http text) text s refl e
