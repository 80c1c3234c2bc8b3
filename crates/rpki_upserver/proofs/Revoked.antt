-- Keys that were revoked.
use Rattle.std.proofs.Common.{◌≡◌, ◌≢◌, ◌||◌, ◌⊎◌, ℕ, Bool, true, false, if◌then◌else◌, Some, List, [], ◌∷◌, ◌++◌, inl, inr, refl, sym, ap, subst, ◌∙◌}
use Rattle.std.specs.List.{list_any}
use Rattle.std.specs.Str.{bytes_eq}
use Rattle.std.proofs.lemmas.Slice.Eq.{bytes_eq-Decides}
use Rattle.rpki_base.specs.Scheme.{Relation}
use Rattle.rpki_updown.specs.KeyElement.{KeyElementFields}
use Rattle.rpki_provisioning.specs.declared.payload.Payload.TheVariants as payloads
use Rattle.rpki_upserver.specs.History.{Adds, AreMade, Call}
use Rattle.rpki_upserver.specs.Issuer.{IssuerState, Made}
use Rattle.rpki_upserver.specs.Response.{Outcome, published, requested_key}
use Rattle.rpki_upserver.specs.Table.{ClassState, ParentState, Table, change, class_named, is_issued_elsewhere, is_named, is_revoked, is_revoked_in, with_issued, with_revoked, with_table}
use Rattle.rpki_upserver.proofs.Outcomes.{HasCome, IsOther, added_is, came, left_adds_nothing, revoked_adds_nothing}

-- ---- one of two

pub or_first : (a b : Bool) → a ≡ true → (a || b) ≡ true
or_first a b h = rw h refl

pub or_second : (a b : Bool) → b ≡ true → (a || b) ≡ true
or_second true b h = refl
or_second false b h = h

pub or_cases : (a b : Bool) → (a || b) ≡ true → (a ≡ true) ⊎ (b ≡ true)
or_cases true b h = inl refl
or_cases false b h = inr h

-- ---- a list of keys that grows

any_more : {X : Type 0} (test : X → Bool) (xs : List X) (x : X) → list_any test xs ≡ true → list_any test (xs ++ x ∷ []) ≡ true
any_more test [] x h = cc
any_more test (y ∷ ys) x h =
    elim (or_cases (test y) (list_any test ys) h) [
      | inl here ↦ or_first (test y) _ here
      | inr there ↦ or_second (test y) _ (any_more test ys x there)
    ]

any_last : {X : Type 0} (test : X → Bool) (xs : List X) (x : X) → test x ≡ true → list_any test (xs ++ x ∷ []) ≡ true
any_last test [] x h = or_first (test x) false h
any_last test (y ∷ ys) x h = or_second (test y) _ (any_last test ys x h)

still_revoked : (key other : List ℕ) (c : ClassState) → is_revoked_in key c ≡ true → is_revoked_in key (with_revoked other c) ≡ true
still_revoked key other c h = any_more (λ r. bytes_eq r key) c.revoked other h

now_revoked : (key : List ℕ) (c : ClassState) → is_revoked_in key (with_revoked key c) ≡ true
now_revoked key c = any_last (λ r. bytes_eq r key) c.revoked key ((bytes_eq-Decides key key).1 refl)

-- ---- a table of which classes change

changed_keeps : (name key : List ℕ) (f : ClassState → ClassState) (table : Table) → ((c : ClassState) → is_revoked_in key c ≡ true → is_revoked_in key (f c) ≡ true) → is_revoked key table ≡ true → is_revoked key (change name f table) ≡ true
changed_keeps name key f [] keeps h = h
changed_keeps name key f (c ∷ more) keeps h =
    elim (or_cases (is_revoked_in key c) (is_revoked key more) h) [
      | inl here ↦ or_first _ _ (one (is_named name c) here)
      | inr there ↦ or_second _ _ (changed_keeps name key f more keeps there)
    ]
  where
    one : (t : Bool) → is_revoked_in key c ≡ true → is_revoked_in key (if t then f c else c) ≡ true
    one true here = keeps c here
    one false here = here

changed_revokes : (name key : List ℕ) (table : Table) (c : ClassState) → class_named name table ≡ Some c → is_revoked key (change name (with_revoked key) table) ≡ true
changed_revokes name key [] c named = cc
changed_revokes name key (d ∷ more) c named = one (is_named name d) named (changed_revokes name key more c)
  where
    one : (t : Bool) → (if t then Some d else class_named name more) ≡ Some c → (class_named name more ≡ Some c → is_revoked key (change name (with_revoked key) more) ≡ true)
        → list_any (is_revoked_in key) ((if t then with_revoked key d else d) ∷ change name (with_revoked key) more) ≡ true
    one true h rest = or_first _ _ (now_revoked key d)
    one false h rest = or_second _ _ (rest h)

-- ---- by a message

pub kept_revoked : (table : Table) (o : Outcome) (key : List ℕ) → HasCome table o → is_revoked key table ≡ true → is_revoked key o.next ≡ true
kept_revoked table o key (inl left) h = subst (λ (t : Table). is_revoked key t ≡ true) (sym left.next) h
kept_revoked table o key (inr (inl i)) h =
    subst (λ (t : Table). is_revoked key t ≡ true) (sym i.issues.next)
    (changed_keeps i.request.class_name key (with_issued (published i.c i.request i.issues.cert)) table (λ c here. here) h)
kept_revoked table o key (inr (inr r)) h =
    subst (λ (t : Table). is_revoked key t ≡ true) (sym r.revokes.next)
    (changed_keeps r.request.class_name key (with_revoked r.request.key) table (λ c here. still_revoked key r.request.key c here) h)

said_revoked : (table : Table) (o : Outcome) (key : KeyElementFields) → HasCome table o → o.payload ≡ payloads.RevokeResponse key → is_revoked key.key o.next ≡ true
said_revoked table o key (inl left) said = absurd (subst IsOther said left.says)
said_revoked table o key (inr (inl i)) said = let e : payloads.IssueResponse _ ≡ payloads.RevokeResponse key = sym i.issues.payload ∙ said in cc
said_revoked table o key (inr (inr r)) said =
    let e : payloads.RevokeResponse r.request ≡ payloads.RevokeResponse key = sym r.revokes.payload ∙ said in
    let same : r.request ≡ key = cc in
    subst (λ (k : KeyElementFields). is_revoked k.key o.next ≡ true) same
    (subst (λ (t : Table). is_revoked r.request.key t ≡ true) (sym r.revokes.next) (changed_revokes r.request.class_name r.request.key table r.c r.named))

-- a certificate is issued for a key that isn't revoked
issued_unrevoked : (table : Table) (o : Outcome) (key : List ℕ) (made : Made) → HasCome table o → is_revoked key table ≡ true → Adds o made → made.key ≢ key
issued_unrevoked table o key made (inl left) revoked adds = absurd (left_adds_nothing table o made left adds)
issued_unrevoked table o key made (inr (inr r)) revoked adds = absurd (revoked_adds_nothing table o made r adds)
issued_unrevoked table o key made (inr (inl i)) revoked adds = λ is.
    let asked : requested_key i.request ≡ key = sym (ap (λ (m : Made). m.key) (added_is table o made i adds)) ∙ is in
    i.unused (or_first (is_revoked (requested_key i.request) table) (is_issued_elsewhere i.request.class_name (requested_key i.request) table) (subst (λ (k : List ℕ). is_revoked k table ≡ true) (sym asked) revoked))

-- ---- by many

behind_revoked : (scheme : Relation) (p : ParentState) (issuer : IssuerState) (between behind : List Call) (other : Call) (key : List ℕ) (made : Made) → AreMade scheme p issuer (between ++ other ∷ behind) → is_revoked key p.table ≡ true
    → Adds other.outcome made → made.key ≢ key
behind_revoked scheme p issuer [] behind other key made are revoked adds = issued_unrevoked p.table other.outcome key made (came scheme p other.message other.outcome are.1.0) revoked adds
behind_revoked scheme p issuer (call ∷ between) behind other key made are revoked adds =
    behind_revoked scheme (with_table call.outcome.next p) call.outcome.after between behind other key made are.1.1 (kept_revoked p.table call.outcome key (came scheme p call.message call.outcome are.1.0) revoked) adds

pub never_again : (scheme : Relation) (p : ParentState) (issuer : IssuerState) (before between behind : List Call) (one other : Call) (key : KeyElementFields) (made : Made) → AreMade scheme p issuer (before ++ one ∷ (between ++ other ∷ behind))
    → one.outcome.payload ≡ payloads.RevokeResponse key → Adds other.outcome made → made.key ≢ key.key
never_again scheme p issuer [] between behind one other key made are said adds =
    behind_revoked scheme (with_table one.outcome.next p) one.outcome.after between behind other key.key made are.1.1 (said_revoked p.table one.outcome key (came scheme p one.message one.outcome are.1.0) said) adds
never_again scheme p issuer (call ∷ before) between behind one other key made are said adds =
    never_again scheme (with_table call.outcome.next p) call.outcome.after before between behind one other key made are.1.1 said adds
