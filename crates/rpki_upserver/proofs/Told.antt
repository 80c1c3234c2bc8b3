-- What a parent tells of a class, by what was replied.
use Rattle.std.proofs.Common.{◌≡◌, ◌&&◌, ◌||◌, ℕ, Bool, true, false, if◌then◌else◌, Option, None, Some, List, [], ◌∷◌, inl, inr, refl, sym, ap, subst, ◌∙◌}
use Rattle.std.specs.Prelude.{find}
use Rattle.std.specs.List.{AllByRecursion, list_any}
use Rattle.std.specs.Str.{bytes_eq}
use Rattle.std.proofs.lemmas.Slice.Eq.{bytes_eq-Decides}
use Rattle.rpki_base.specs.Scheme.{Relation}
use Rattle.rpki_updown.specs.Entitlements.{IssuedFields}
use Rattle.rpki_provisioning.specs.declared.payload.Payload.{Payload}
use Rattle.rpki_provisioning.specs.declared.payload.Payload.TheVariants as payloads
use Rattle.rpki_upserver.specs.History.{AreAllOnce, AreMade, AreNew, AreOnce, Call, ListsAs, last_issued, last_issued_behind, table_behind}
use Rattle.rpki_upserver.specs.Issuer.{IssuerState}
use Rattle.rpki_upserver.specs.Response.{Outcome, published}
use Rattle.rpki_upserver.specs.Table.{ClassState, ParentState, Table, change, class_named, has_key, is_named, key_of_issued, put, with_issued, with_revoked, with_table, without}
use Rattle.rpki_upserver.proofs.Outcomes.{HasCome, HasIssued, HasLeft, HasRevoked, IsOther, came}
use Rattle.rpki_common.proofs.Truths.{same_octets}

-- ---- tests

pub clash : (b : Bool) → b ≡ true → b ≡ false → ⊥
clash b h k = let e : true ≡ false = sym h ∙ k in cc

or_none : (a b : Bool) → a ≡ false → b ≡ false → (a || b) ≡ false
or_none a b h k = rw (h, k) refl

neither : (a b : Bool) → (a || b) ≡ false → (a ≡ false) × (b ≡ false)
neither true b h = cc
neither false b h = (refl, h)

are_same : (a b : List ℕ) → a ≡ b → bytes_eq a b ≡ true
are_same a b e = (bytes_eq-Decides a b).1 e

-- either way round
turned : (a b : List ℕ) → bytes_eq a b ≡ bytes_eq b a
turned a b =
    elim (bytes_eq a b) as (λ t. bytes_eq a b ≡ t → t ≡ bytes_eq b a) [
      | true ↦ λ h. sym (are_same b a (sym (same_octets a b h)))
      | false ↦ λ h. elim (bytes_eq b a) as (λ u. bytes_eq b a ≡ u → false ≡ u) [
        | true ↦ λ k. absurd (clash (bytes_eq a b) (are_same a b (sym (same_octets b a k))) h)
        | false ↦ λ k. refl
      ] refl
    ] refl

-- ---- one of two, and one of three

same_both : {X : Type 0} (t : Bool) (x : X) → x ≡ (if t then x else x)
same_both true x = refl
same_both false x = refl

first_kept : {X : Type 0} (a b : Bool) (x y z : X) → (a ≡ false → b ≡ false) → (if a then x else z) ≡ (if a then x else (if b then y else z))
first_kept true b x y z h = refl
first_kept false b x y z h = rw (h refl) refl

in_turn : {X : Type 0} (a b : Bool) (x y z : X) → (a ≡ true → b ≡ true → ⊥) → (if b then y else (if a then x else z)) ≡ (if a then x else (if b then y else z))
in_turn true true x y z h = absurd (h refl refl)
in_turn true false x y z h = refl
in_turn false b x y z h = refl

taken : {X : Type 0} (e b : Bool) (y z none : X) → (e ≡ true → z ≡ none) → (e ≡ false → b ≡ false) → z ≡ (if e then none else (if b then y else z))
taken true b y z none h k = h refl
taken false b y z none h k = rw (k refl) refl

-- ---- certificates by their keys, of each at most one

none_found : (k : List ℕ) (certs : List IssuedFields) → list_any (has_key k) certs ≡ false → find (has_key k) certs ≡ None
none_found k [] h = refl
none_found k (held ∷ more) h = let n = neither (has_key k held) (list_any (has_key k) more) h in rw n.0 (none_found k more n.1)

find_put : (certs : List IssuedFields) (issued : IssuedFields) (key : List ℕ) → find (has_key key) (put certs issued) ≡ (if has_key key issued then Some issued else find (has_key key) certs)
find_put [] issued key = refl
find_put (held ∷ more) issued key =
    elim (has_key (key_of_issued issued) held) as (λ t. has_key (key_of_issued issued) held ≡ t → find (has_key key) (if t then issued ∷ more else held ∷ put more issued)
    ≡ (if has_key key issued then Some issued else (if has_key key held then Some held else find (has_key key) more))) [
      | true ↦ λ same. first_kept (has_key key issued) (has_key key held) (Some issued) (Some held) (find (has_key key) more)
          (λ other. ap (λ (k : List ℕ). bytes_eq k key) (same_octets (key_of_issued held) (key_of_issued issued) same) ∙ other)
      | false ↦ λ other. ap (λ (w : Option IssuedFields). if has_key key held then Some held else w) (find_put more issued key)
          ∙ in_turn (has_key key issued) (has_key key held) (Some issued) (Some held) (find (has_key key) more)
          (λ one here. clash (has_key (key_of_issued issued) held) (are_same (key_of_issued held) (key_of_issued issued) (same_octets (key_of_issued held) key here ∙ sym (same_octets (key_of_issued issued) key one))) other)
    ] refl

find_without : (certs : List IssuedFields) (key other : List ℕ) → AreOnce certs → find (has_key other) (without certs key) ≡ (if bytes_eq key other then None else find (has_key other) certs)
find_without [] key other once = same_both (bytes_eq key other) None
find_without (held ∷ more) key other once =
    elim (has_key key held) as (λ t. has_key key held ≡ t → find (has_key other) (if t then more else held ∷ without more key)
    ≡ (if bytes_eq key other then None else (if has_key other held then Some held else find (has_key other) more))) [
      | true ↦ λ same. taken (bytes_eq key other) (has_key other held) (Some held) (find (has_key other) more) None
          (λ is. none_found other more (subst (λ (k : List ℕ). list_any (has_key k) more ≡ false) (same_octets (key_of_issued held) key same ∙ same_octets key other is) once.0))
          (λ not. ap (λ (k : List ℕ). bytes_eq k other) (same_octets (key_of_issued held) key same) ∙ not)
      | false ↦ λ differs. ap (λ (w : Option IssuedFields). if has_key other held then Some held else w) (find_without more key other once.1)
          ∙ in_turn (bytes_eq key other) (has_key other held) None (Some held) (find (has_key other) more)
          (λ is here. clash (has_key key held) (are_same (key_of_issued held) key (same_octets (key_of_issued held) other here ∙ sym (same_octets key other is))) differs)
    ] refl

-- ---- they stay so

none_put : (certs : List IssuedFields) (issued : IssuedFields) (k : List ℕ) → has_key k issued ≡ false → list_any (has_key k) certs ≡ false → list_any (has_key k) (put certs issued) ≡ false
none_put [] issued k h none = or_none (has_key k issued) false h refl
none_put (held ∷ more) issued k h none = one (has_key (key_of_issued issued) held) (none_put more issued k h two.1)
  where
    two : (has_key k held ≡ false) × (list_any (has_key k) more ≡ false)
    two = neither (has_key k held) (list_any (has_key k) more) none

    one : (t : Bool) → list_any (has_key k) (put more issued) ≡ false → list_any (has_key k) (if t then issued ∷ more else held ∷ put more issued) ≡ false
    one true rest = or_none (has_key k issued) (list_any (has_key k) more) h two.1
    one false rest = or_none (has_key k held) (list_any (has_key k) (put more issued)) two.0 rest

once_put : (certs : List IssuedFields) (issued : IssuedFields) → AreOnce certs → AreOnce (put certs issued)
once_put [] issued once = (refl, tt)
once_put (held ∷ more) issued once =
    elim (has_key (key_of_issued issued) held) as (λ t. has_key (key_of_issued issued) held ≡ t → AreOnce (if t then issued ∷ more else held ∷ put more issued)) [
      | true ↦ λ same. (subst (λ (k : List ℕ). list_any (has_key k) more ≡ false) (same_octets (key_of_issued held) (key_of_issued issued) same) once.0, once.1)
      | false ↦ λ other. (none_put more issued (key_of_issued held) (turned (key_of_issued issued) (key_of_issued held) ∙ other) once.0, once_put more issued once.1)
    ] refl

none_without : (certs : List IssuedFields) (key k : List ℕ) → list_any (has_key k) certs ≡ false → list_any (has_key k) (without certs key) ≡ false
none_without [] key k none = refl
none_without (held ∷ more) key k none = one (has_key key held) (none_without more key k two.1)
  where
    two : (has_key k held ≡ false) × (list_any (has_key k) more ≡ false)
    two = neither (has_key k held) (list_any (has_key k) more) none

    one : (t : Bool) → list_any (has_key k) (without more key) ≡ false → list_any (has_key k) (if t then more else held ∷ without more key) ≡ false
    one true rest = two.1
    one false rest = or_none (has_key k held) (list_any (has_key k) (without more key)) two.0 rest

once_without : (certs : List IssuedFields) (key : List ℕ) → AreOnce certs → AreOnce (without certs key)
once_without [] key once = tt
once_without (held ∷ more) key once = one (has_key key held) (once_without more key once.1)
  where
    one : (t : Bool) → AreOnce (without more key) → AreOnce (if t then more else held ∷ without more key)
    one true rest = once.1
    one false rest = (none_without more key (key_of_issued held) once.0, rest)

-- ---- classes by their names

once_changed : (name : List ℕ) (f : ClassState → ClassState) (table : Table) → ((c : ClassState) → AreOnce c.issued_certs → AreOnce (f c).issued_certs) → AreAllOnce table → AreAllOnce (change name f table)
once_changed name f [] keeps once = tt
once_changed name f (c ∷ more) keeps once = (one (is_named name c), once_changed name f more keeps once.1)
  where
    one : (t : Bool) → AreOnce (if t then f c else c).issued_certs
    one true = keeps c once.0
    one false = once.0

named_holds : (P : ClassState → Type 0) (name : List ℕ) (table : Table) (c : ClassState) → AllByRecursion P table → class_named name table ≡ Some c → P c
named_holds P name [] c all named = cc
named_holds P name (d ∷ more) c all named = one (is_named name d) named (named_holds P name more c all.1)
  where
    one : (t : Bool) → (if t then Some d else class_named name more) ≡ Some c → (class_named name more ≡ Some c → P c) → P c
    one true h rest = let e : d ≡ c = cc in subst P e all.0
    one false h rest = rest h

pub named_name : (name : List ℕ) (table : Table) (c : ClassState) → class_named name table ≡ Some c → c.class_name ≡ name
named_name name [] c named = cc
named_name name (d ∷ more) c named =
    elim (is_named name d) as (λ t. is_named name d ≡ t → (if t then Some d else class_named name more) ≡ Some c → c.class_name ≡ name) [
      | true ↦ λ is h. let e : d ≡ c = cc in subst (λ (x : ClassState). x.class_name ≡ name) e (same_octets d.class_name name is)
      | false ↦ λ other h. named_name name more c h
    ] refl named

-- a class behind a change is one before it
record WasNamed (name n : List ℕ) (f : ClassState → ClassState) (table : Table) (after : ClassState) : Type 0 where
  c : ClassState
  named : class_named name table ≡ Some c
  is : after ≡ (if is_named n c then f c else c)

same_name : (name : List ℕ) (f : ClassState → ClassState) (d : ClassState) (t : Bool) → ((c : ClassState) → (f c).class_name ≡ c.class_name) → is_named name (if t then f d else d) ≡ is_named name d
same_name name f d true keeps = ap (λ (x : List ℕ). bytes_eq x name) (keeps d)
same_name name f d false keeps = refl

was_named : (name n : List ℕ) (f : ClassState → ClassState) (table : Table) (after : ClassState) → ((c : ClassState) → (f c).class_name ≡ c.class_name) → class_named name (change n f table) ≡ Some after → WasNamed name n f table after
was_named name n f [] after keeps named = cc
was_named name n f (d ∷ more) after keeps named =
    one (is_named name d) refl (subst (λ (t : Bool). (if t then Some changed else class_named name (change n f more)) ≡ Some after) (same_name name f d (is_named n d) keeps) named) (was_named name n f more after keeps)
  where
    changed : ClassState
    changed = if is_named n d then f d else d

    one : (t : Bool) → is_named name d ≡ t → (if t then Some changed else class_named name (change n f more)) ≡ Some after → (class_named name (change n f more) ≡ Some after → WasNamed name n f more after) → WasNamed name n f (d ∷ more) after
    one true e h rest = record { c = d; named = rw e refl; is = cc }
    one false e h rest = let w = rest h in record { c = w.c; named = rw e w.named; is = w.is }

-- the class has its name, so it is the one that changes exactly where the names are equal
changes : (name n : List ℕ) (table : Table) (c : ClassState) → class_named name table ≡ Some c → is_named n c ≡ bytes_eq n name
changes name n table c named = ap (λ (x : List ℕ). bytes_eq x n) (named_name name table c named) ∙ turned name n

-- ---- by a message

other_stands : (name key : List ℕ) (payload : Payload) (before : Option IssuedFields) → IsOther payload → last_issued_behind name key payload before ≡ before
other_stands name key payloads.List before h = refl
other_stands name key (payloads.ListResponse classes) before h = refl
other_stands name key (payloads.Issue request) before h = refl
other_stands name key (payloads.IssueResponse response) before h = absurd h
other_stands name key (payloads.Revoke request) before h = refl
other_stands name key (payloads.RevokeResponse k) before h = absurd h
other_stands name key (payloads.ErrorResponse response) before h = refl

by_issue : (issued : IssuedFields) (key : List ℕ) (c : ClassState) (t : Bool) → find (has_key key) (if t then with_issued issued c else c).issued_certs ≡ (if t && has_key key issued then Some issued else find (has_key key) c.issued_certs)
by_issue issued key c true = find_put c.issued_certs issued key
by_issue issued key c false = refl

by_revoke : (revoked key : List ℕ) (c : ClassState) (t : Bool) → AreOnce c.issued_certs → find (has_key key) (if t then with_revoked revoked c else c).issued_certs ≡ (if t && bytes_eq revoked key then None else find (has_key key) c.issued_certs)
by_revoke revoked key c true once = find_without c.issued_certs revoked key once
by_revoke revoked key c false once = refl

abbrev pub Stands : Type 0
Stands = List ℕ → List ℕ → Option IssuedFields

abbrev behind : Payload → Stands → Stands
behind payload stands name key = last_issued_behind name key payload (stands name key)

told_left : (table : Table) (o : Outcome) (stands : Stands) → HasLeft table o → ListsAs table stands → ListsAs o.next (behind o.payload stands)
told_left table o stands left told = λ name key c named.
    told name key c (subst (λ (t : Table). class_named name t ≡ Some c) left.next named) ∙ sym (other_stands name key o.payload (stands name key) left.says)

told_issued : (table : Table) (o : Outcome) (stands : Stands) → HasIssued table o → ListsAs table stands → ListsAs o.next (behind o.payload stands)
told_issued table o stands i told = λ name key after named.
    let w = was_named name n f table after (λ c. refl) (subst (λ (t : Table). class_named name t ≡ Some after) i.issues.next named) in
    ap (λ (c : ClassState). find (has_key key) c.issued_certs) w.is
    ∙ by_issue issued key w.c (is_named n w.c)
    ∙ ap (λ (t : Bool). if t && has_key key issued then Some issued else find (has_key key) w.c.issued_certs) (changes name n table w.c w.named ∙ ap (λ (x : List ℕ). bytes_eq x name) (sym (named_name n table i.c i.named)))
    ∙ ap (λ (x : Option IssuedFields). if bytes_eq i.c.class_name name && has_key key issued then Some issued else x) (told name key w.c w.named)
    ∙ ap (λ (p : Payload). last_issued_behind name key p (stands name key)) (sym i.issues.payload)
  where
    n : List ℕ
    n = i.request.class_name

    issued : IssuedFields
    issued = published i.c i.request i.issues.cert

    f : ClassState → ClassState
    f = with_issued issued

told_revoked : (table : Table) (o : Outcome) (stands : Stands) → HasRevoked table o → AreAllOnce table → ListsAs table stands → ListsAs o.next (behind o.payload stands)
told_revoked table o stands r once told = λ name key after named.
    let w = was_named name n f table after (λ c. refl) (subst (λ (t : Table). class_named name t ≡ Some after) r.revokes.next named) in
    ap (λ (c : ClassState). find (has_key key) c.issued_certs) w.is
    ∙ by_revoke r.request.key key w.c (is_named n w.c) (named_holds (λ c. AreOnce c.issued_certs) name table w.c once w.named)
    ∙ ap (λ (t : Bool). if t && bytes_eq r.request.key key then None else find (has_key key) w.c.issued_certs) (changes name n table w.c w.named)
    ∙ ap (λ (x : Option IssuedFields). if bytes_eq n name && bytes_eq r.request.key key then None else x) (told name key w.c w.named)
    ∙ ap (λ (p : Payload). last_issued_behind name key p (stands name key)) (sym r.revokes.payload)
  where
    n : List ℕ
    n = r.request.class_name

    f : ClassState → ClassState
    f = with_revoked r.request.key

told_more : (table : Table) (o : Outcome) (stands : Stands) → HasCome table o → AreAllOnce table → ListsAs table stands → ListsAs o.next (behind o.payload stands)
told_more table o stands (inl left) once told = told_left table o stands left told
told_more table o stands (inr (inl i)) once told = told_issued table o stands i told
told_more table o stands (inr (inr r)) once told = told_revoked table o stands r once told

once_more : (table : Table) (o : Outcome) → HasCome table o → AreAllOnce table → AreAllOnce o.next
once_more table o (inl left) once = subst AreAllOnce (sym left.next) once
once_more table o (inr (inl i)) once =
    subst AreAllOnce (sym i.issues.next) (once_changed i.request.class_name (with_issued (published i.c i.request i.issues.cert)) table (λ c. once_put c.issued_certs (published i.c i.request i.issues.cert)) once)
once_more table o (inr (inr r)) once =
    subst AreAllOnce (sym r.revokes.next) (once_changed r.request.class_name (with_revoked r.request.key) table (λ c. once_without c.issued_certs r.request.key) once)

-- ---- by many

told_all : (scheme : Relation) (p : ParentState) (issuer : IssuerState) (calls : List Call) (stands : Stands) → AreMade scheme p issuer calls → AreAllOnce p.table → ListsAs p.table stands
    → ListsAs (table_behind p.table calls) (λ name key. last_issued name key calls (stands name key))
told_all scheme p issuer [] stands are once told = told
told_all scheme p issuer (call ∷ calls) stands are once told =
    let h = came scheme p call.message call.outcome are.1.0 in
    told_all scheme (with_table call.outcome.next p) call.outcome.after calls (behind call.outcome.payload stands) are.1.1 (once_more p.table call.outcome h once) (told_more p.table call.outcome stands h once told)

-- ---- from classes in which nothing was issued

new_once : (table : Table) → AreNew table → AreAllOnce table
new_once [] new = tt
new_once (c ∷ more) new = (subst AreOnce (sym new.0) tt, new_once more new.1)

new_tells : (table : Table) → AreNew table → ListsAs table (λ name key. None)
new_tells table new = λ name key c named. ap (λ (certs : List IssuedFields). find (has_key key) certs) (named_holds (λ x. x.issued_certs ≡ []) name table c new named)

pub told_so : (scheme : Relation) (p : ParentState) (issuer : IssuerState) (calls : List Call) → AreNew p.table → AreMade scheme p issuer calls → ListsAs (table_behind p.table calls) (λ name key. last_issued name key calls None)
told_so scheme p issuer calls new are = told_all scheme p issuer calls (λ name key. None) are (new_once p.table new) (new_tells p.table new)

once_all : (scheme : Relation) (p : ParentState) (issuer : IssuerState) (calls : List Call) → AreMade scheme p issuer calls → AreAllOnce p.table → AreAllOnce (table_behind p.table calls)
once_all scheme p issuer [] are once = once
once_all scheme p issuer (call ∷ calls) are once =
    once_all scheme (with_table call.outcome.next p) call.outcome.after calls are.1.1 (once_more p.table call.outcome (came scheme p call.message call.outcome are.1.0) once)

pub once_so : (scheme : Relation) (p : ParentState) (issuer : IssuerState) (calls : List Call) → AreNew p.table → AreMade scheme p issuer calls → AreAllOnce (table_behind p.table calls)
once_so scheme p issuer calls new are = once_all scheme p issuer calls are (new_once p.table new)
