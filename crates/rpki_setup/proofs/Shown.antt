-- What messages print is what they are spelled as.
use Rattle.std.proofs.Common.{◌≡◌, ℕ, List, ◌∷◌, ◌++◌, Option, sym, ap, ◌∙◌, append_assoc}
use Rattle.std.specs.Prelude.{codes}
use Rattle.rpki_xmltext.specs.Parts.{attribute}
use Rattle.rpki_xml.specs.Draft.{optional_attribute}
use Rattle.rpki_xml.specs.Spelling.{spelled_attribute, spelled_attributes}
use Rattle.rpki_setup.specs.ChildRequest.{ChildRequestFields, child_request_element, child_request_text}
use Rattle.rpki_setup.specs.PublisherRequest.{PublisherRequestFields, publisher_request_element, publisher_request_text}
use Rattle.rpki_setup.specs.ParentResponse.{ParentResponseFields, parent_response_element, parent_response_text}
use Rattle.rpki_setup.specs.RepositoryResponse.{RepositoryResponseFields, repository_response_element, repository_response_text}
use Rattle.rpki_setup.specs.RepoInfo.{repo_info_attributes}
use Rattle.rpki_setup.specs.ServiceUri.{service_text}
use Rattle.rpki_setup.specs.Writing.{start_text, inside_text}
use Rattle.rpki_xmltext.proofs.Inside.{attributes_joined}
use Rattle.rpki_setup.proofs.Roots.{root_spelled}

abbrev tagged : Option (List ℕ) → List ℕ
tagged tag = spelled_attributes (optional_attribute (codes "tag") tag)

pub child_text : (m : ChildRequestFields) (handle : List ℕ) (tag : Option (List ℕ)) → handle ≡ m.child_handle → tag ≡ m.tag
    → start_text (codes "child_request") ++ (spelled_attribute (codes "child_handle") handle ++ (tagged tag ++ inside_text (codes "child_request") (codes "child_bpki_ta") m.id_cert)) ≡ child_request_text m
unfolding child_request_text child_request_element
child_text m handle tag e f =
    let inside = inside_text (codes "child_request") (codes "child_bpki_ta") m.id_cert in
    rw (e, f)
    (ap (λ (l : List ℕ). start_text (codes "child_request") ++ l) (sym (append_assoc (spelled_attribute (codes "child_handle") m.child_handle) (tagged m.tag) inside))
    ∙ sym (root_spelled (codes "child_request") (attribute (codes "child_handle") m.child_handle ∷ optional_attribute (codes "tag") m.tag) (codes "child_bpki_ta") m.id_cert))

pub publisher_text : (m : PublisherRequestFields) (handle : List ℕ) (tag : Option (List ℕ)) → handle ≡ m.publisher_handle → tag ≡ m.tag
    → start_text (codes "publisher_request") ++ (spelled_attribute (codes "publisher_handle") handle ++ (tagged tag ++ inside_text (codes "publisher_request") (codes "publisher_bpki_ta") m.id_cert)) ≡ publisher_request_text m
unfolding publisher_request_text publisher_request_element
publisher_text m handle tag e f =
    let inside = inside_text (codes "publisher_request") (codes "publisher_bpki_ta") m.id_cert in
    rw (e, f)
    (ap (λ (l : List ℕ). start_text (codes "publisher_request") ++ l) (sym (append_assoc (spelled_attribute (codes "publisher_handle") m.publisher_handle) (tagged m.tag) inside))
    ∙ sym (root_spelled (codes "publisher_request") (attribute (codes "publisher_handle") m.publisher_handle ∷ optional_attribute (codes "tag") m.tag) (codes "publisher_bpki_ta") m.id_cert))

four : (a b c d e : List ℕ) → a ++ (b ++ (c ++ (d ++ e))) ≡ (a ++ (b ++ (c ++ d))) ++ e
four a b c d e = simp append_assoc

pub parent_text : (m : ParentResponseFields) (parent child service : List ℕ) (tag : Option (List ℕ)) → parent ≡ m.parent_handle → child ≡ m.child_handle → service ≡ service_text m.service_uri → tag ≡ m.tag
    → start_text (codes "parent_response")
    ++ (spelled_attribute (codes "parent_handle") parent
    ++ (spelled_attribute (codes "child_handle") child
    ++ (spelled_attribute (codes "service_uri") service ++ (tagged tag ++ inside_text (codes "parent_response") (codes "parent_bpki_ta") m.id_cert))))
    ≡ parent_response_text m
unfolding parent_response_text parent_response_element
parent_text m parent child service tag e f g h =
    let inside = inside_text (codes "parent_response") (codes "parent_bpki_ta") m.id_cert in
    rw (e, f, g, h)
    (ap (λ (l : List ℕ). start_text (codes "parent_response") ++ l)
    (four (spelled_attribute (codes "parent_handle") m.parent_handle) (spelled_attribute (codes "child_handle") m.child_handle) (spelled_attribute (codes "service_uri") (service_text m.service_uri)) (tagged m.tag) inside)
    ∙ sym (root_spelled (codes "parent_response")
    (attribute (codes "parent_handle") m.parent_handle ∷ attribute (codes "child_handle") m.child_handle ∷ attribute (codes "service_uri") (service_text m.service_uri) ∷ optional_attribute (codes "tag") m.tag) (codes "parent_bpki_ta") m.id_cert))

pub repository_text : (m : RepositoryResponseFields) (handle service : List ℕ) (tag : Option (List ℕ)) → handle ≡ m.publisher_handle → service ≡ service_text m.service_uri → tag ≡ m.tag
    → start_text (codes "repository_response")
    ++ (spelled_attribute (codes "publisher_handle") handle
    ++ (spelled_attribute (codes "service_uri") service
    ++ (spelled_attributes (repo_info_attributes m.repo_info) ++ (tagged tag ++ inside_text (codes "repository_response") (codes "repository_bpki_ta") m.id_cert))))
    ≡ repository_response_text m
unfolding repository_response_text repository_response_element
repository_text m handle service tag e f h =
    let inside = inside_text (codes "repository_response") (codes "repository_bpki_ta") m.id_cert in
    let info = repo_info_attributes m.repo_info in
    let last = optional_attribute (codes "tag") m.tag in
    rw (e, f, h)
    (ap (λ (l : List ℕ). start_text (codes "repository_response") ++ l)
    (four (spelled_attribute (codes "publisher_handle") m.publisher_handle) (spelled_attribute (codes "service_uri") (service_text m.service_uri)) (spelled_attributes info) (tagged m.tag) inside)
    ∙ ap (λ (l : List ℕ). start_text (codes "repository_response") ++ ((spelled_attribute (codes "publisher_handle") m.publisher_handle ++ (spelled_attribute (codes "service_uri") (service_text m.service_uri) ++ l)) ++ inside)) (sym (attributes_joined info last))
    ∙ sym (root_spelled (codes "repository_response") (attribute (codes "publisher_handle") m.publisher_handle ∷ attribute (codes "service_uri") (service_text m.service_uri) ∷ (info ++ last)) (codes "repository_bpki_ta") m.id_cert))
