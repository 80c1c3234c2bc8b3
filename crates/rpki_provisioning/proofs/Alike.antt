-- Payloads that say the same.
use Rattle.std.proofs.Common.{◌≡◌, ◌↔◌, ℕ, Bool, true, false, IsTrue, List, refl, sym, ap, ◌∙◌, IfOk, Result, Ok, Err}
use Rattle.std.proofs.lemmas.Bool.{false≢true}
use Rattle.rpki_updown.specs.Entitlements.{ClassOf, IssuanceOf, AskedOf, ClassFields, IssuanceFields, IssuanceRequestFields, asked_with}
use Rattle.rpki_updown.specs.KeyElement.{KeyElementFields}
use Rattle.rpki_updown.specs.NotPerformedResponse.{NotPerformedFields}
use Rattle.rpki_provisioning.specs.declared.payload.Payload.{Payload}
use Rattle.rpki_provisioning.specs.declared.payload.Payload.TheVariants as payload
use Rattle.rpki_provisioning.specs.declared.shape.PayloadShape.{PayloadShape}
use Rattle.rpki_provisioning.specs.declared.shape.PayloadShape.TheVariants as shape
use Rattle.rpki_provisioning.specs.Shape.{request_octets, payload_shape}

-- what is so of equal values is so of the payloads that hold them
pub alike : {X : Type 0} (b : Bool) (a c : X) (make : X → PayloadShape) (p : Payload) → payload_shape p ≡ make c → ((make a ≡ make c) → a ≡ c) → (IsTrue b ↔ (a ≡ c)) → IsTrue b ↔ (make a ≡ payload_shape p)
alike b a c make p e h k = ((λ t. ap make (k.0 t) ∙ sym e), (λ f. k.1 (h (f ∙ e))))

pub never : {P : Type 0} → (P → ⊥) → IsTrue false ↔ P
never h = ((λ t. absurd (false≢true t)), (λ p. absurd (h p)))

pub always : {P : Type 0} → P → IsTrue true ↔ P
always h = ((λ t. h), (λ p. refl))

pub decided : {P : Type 0} (b t : Bool) → b ≡ t → ((t ≡ true) ↔ P) → IsTrue b ↔ P
decided b t e h = ((λ f. h.0 (sym e ∙ f)), (λ q. e ∙ h.1 q))

-- what is so of equal values is so of an answer whether payloads that hold them are equal
pub alike_of : {X E : Type 0} (r : Result Bool E) (a c : X) (make : X → PayloadShape) (p : Payload) → payload_shape p ≡ make c → ((make a ≡ make c) → a ≡ c) → IfOk r (λ b. IsTrue b ↔ (a ≡ c))
    → IfOk r (λ b. IsTrue b ↔ (make a ≡ payload_shape p))
alike_of (Ok b) a c make p e h k = alike b a c make p e h k
alike_of (Err x) a c make p e h k = tt

-- requests are the same where their parts are
pub asked_alike : {E : Type 0} (r : Result Bool E) (a c : IssuanceRequestFields)
    → IfOk r (λ b. IsTrue b ↔ ((a.class_name ≡ c.class_name) × (a.limit ≡ c.limit) × (request_octets a.csr ≡ request_octets c.csr)))
    → IfOk r (λ b. IsTrue b ↔ (asked_with request_octets a ≡ asked_with request_octets c))
asked_alike (Err x) a c h = tt
asked_alike (Ok b) a c h = ((λ t. let p = h.0 t in λ i. record { class_name = p.0 i; limit = p.1 i; csr = p.2 i }), (λ e. h.1 (ap (λ (x : AskedOf (List ℕ)). x.class_name) e, ap (λ (x : AskedOf (List ℕ)). x.limit) e, ap (λ (x : AskedOf (List ℕ)). x.csr) e)))

pub same_list : (a b : List (ClassOf (List ℕ))) → shape.ListResponse a ≡ shape.ListResponse b → a ≡ b
same_list a b e = cc

pub same_issue : (a b : AskedOf (List ℕ)) → shape.Issue a ≡ shape.Issue b → a ≡ b
same_issue a b e = cc

pub same_issue_response : (a b : IssuanceOf (List ℕ)) → shape.IssueResponse a ≡ shape.IssueResponse b → a ≡ b
same_issue_response a b e = cc

pub same_revoke : (a b : KeyElementFields) → shape.Revoke a ≡ shape.Revoke b → a ≡ b
same_revoke a b e = cc

pub same_revoke_response : (a b : KeyElementFields) → shape.RevokeResponse a ≡ shape.RevokeResponse b → a ≡ b
same_revoke_response a b e = cc

pub same_error : (a b : NotPerformedFields) → shape.ErrorResponse a ≡ shape.ErrorResponse b → a ≡ b
same_error a b e = cc

pub no_list : (p : Payload) → (p ≡ payload.List → ⊥) → shape.List ≡ payload_shape p → ⊥
unfolding payload_shape
no_list payload.List h e = h refl
no_list (payload.ListResponse y) h e = cc
no_list (payload.Issue y) h e = cc
no_list (payload.IssueResponse y) h e = cc
no_list (payload.Revoke y) h e = cc
no_list (payload.RevokeResponse y) h e = cc
no_list (payload.ErrorResponse y) h e = cc

pub no_list_response : (x : List (ClassOf (List ℕ))) (p : Payload) → ((y : List ClassFields) → p ≡ payload.ListResponse y → ⊥) → shape.ListResponse x ≡ payload_shape p → ⊥
unfolding payload_shape
no_list_response x payload.List h e = cc
no_list_response x (payload.ListResponse y) h e = h y refl
no_list_response x (payload.Issue y) h e = cc
no_list_response x (payload.IssueResponse y) h e = cc
no_list_response x (payload.Revoke y) h e = cc
no_list_response x (payload.RevokeResponse y) h e = cc
no_list_response x (payload.ErrorResponse y) h e = cc

pub no_issue : (x : AskedOf (List ℕ)) (p : Payload) → ((y : IssuanceRequestFields) → p ≡ payload.Issue y → ⊥) → shape.Issue x ≡ payload_shape p → ⊥
unfolding payload_shape
no_issue x payload.List h e = cc
no_issue x (payload.ListResponse y) h e = cc
no_issue x (payload.Issue y) h e = h y refl
no_issue x (payload.IssueResponse y) h e = cc
no_issue x (payload.Revoke y) h e = cc
no_issue x (payload.RevokeResponse y) h e = cc
no_issue x (payload.ErrorResponse y) h e = cc

pub no_issue_response : (x : IssuanceOf (List ℕ)) (p : Payload) → ((y : IssuanceFields) → p ≡ payload.IssueResponse y → ⊥) → shape.IssueResponse x ≡ payload_shape p → ⊥
unfolding payload_shape
no_issue_response x payload.List h e = cc
no_issue_response x (payload.ListResponse y) h e = cc
no_issue_response x (payload.Issue y) h e = cc
no_issue_response x (payload.IssueResponse y) h e = h y refl
no_issue_response x (payload.Revoke y) h e = cc
no_issue_response x (payload.RevokeResponse y) h e = cc
no_issue_response x (payload.ErrorResponse y) h e = cc

pub no_revoke : (x : KeyElementFields) (p : Payload) → ((y : KeyElementFields) → p ≡ payload.Revoke y → ⊥) → shape.Revoke x ≡ payload_shape p → ⊥
unfolding payload_shape
no_revoke x payload.List h e = cc
no_revoke x (payload.ListResponse y) h e = cc
no_revoke x (payload.Issue y) h e = cc
no_revoke x (payload.IssueResponse y) h e = cc
no_revoke x (payload.Revoke y) h e = h y refl
no_revoke x (payload.RevokeResponse y) h e = cc
no_revoke x (payload.ErrorResponse y) h e = cc

pub no_revoke_response : (x : KeyElementFields) (p : Payload) → ((y : KeyElementFields) → p ≡ payload.RevokeResponse y → ⊥) → shape.RevokeResponse x ≡ payload_shape p → ⊥
unfolding payload_shape
no_revoke_response x payload.List h e = cc
no_revoke_response x (payload.ListResponse y) h e = cc
no_revoke_response x (payload.Issue y) h e = cc
no_revoke_response x (payload.IssueResponse y) h e = cc
no_revoke_response x (payload.Revoke y) h e = cc
no_revoke_response x (payload.RevokeResponse y) h e = h y refl
no_revoke_response x (payload.ErrorResponse y) h e = cc

pub no_error : (x : NotPerformedFields) (p : Payload) → ((y : NotPerformedFields) → p ≡ payload.ErrorResponse y → ⊥) → shape.ErrorResponse x ≡ payload_shape p → ⊥
unfolding payload_shape
no_error x payload.List h e = cc
no_error x (payload.ListResponse y) h e = cc
no_error x (payload.Issue y) h e = cc
no_error x (payload.IssueResponse y) h e = cc
no_error x (payload.Revoke y) h e = cc
no_error x (payload.RevokeResponse y) h e = cc
no_error x (payload.ErrorResponse y) h e = h y refl
