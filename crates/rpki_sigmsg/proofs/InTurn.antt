-- The parts of a view stand in the octets of the message, in their order.
use Rattle.std.proofs.Common.{◌≡◌, ℕ, Option, None, Some, List, [], ◌∷◌, ◌++◌, sym, ap, subst, ◌∙◌, append_assoc}
use Rattle.std.proofs.lemmas.List.{append-nil}
use Rattle.rpki_common.proofs.Bounds.{bound, chosen}
use Rattle.rpki_common.proofs.Truths.{none_some, same_some}
use Rattle.rpki_der.specs.declared.mode.Mode.{Mode}
use Rattle.rpki_der.specs.Identifier.{has_tag}
use Rattle.rpki_der.specs.Tags.{sequence, set, context}
use Rattle.rpki_der.specs.Value.{Form, Value, Primitive, Constructed, Values, lengths_of, end_mark, spelling, spellings}
use Rattle.rpki_der.specs.Grammar.{within, wrapped}
use Rattle.rpki_der.specs.Held.{held, with_octets}
use Rattle.rpki_der.specs.OctetString.{octet_string}
use Rattle.rpki_der.proofs.Firsts.{FirstIs, done_is}
use Rattle.rpki_idcert.specs.IdCert.{identity_certificate}
use Rattle.rpki_sigmsg.specs.Attributes.{signed_attributes}
use Rattle.rpki_sigmsg.specs.Crl.{CrlFields}
use Rattle.rpki_sigmsg.specs.Message.{ViewFields, CrlSet, crl_set_of, encapsulated_content, crl_in_der, if_any, crl_set, signed_parts, viewed_message}
use Rattle.rpki_sigmsg.specs.Places.{StandInTurn, crls_of, parts_of}
use Rattle.rpki_sigmsg.specs.Signer.{SignerFields, signer_info}
use Rattle.rpki_sigmsg.proofs.Fields.{field, there_is}

-- ---- parts in turn

in_front : (parts : List (List ℕ)) (front octets : List ℕ) → StandInTurn parts octets → StandInTurn parts (front ++ octets)
in_front [] front octets s = tt
in_front (p ∷ parts) front octets s = (front ++ s.0, s.1, ap (λ (o : List ℕ). front ++ o) s.2 ∙ sym (append_assoc front s.0 (p ++ s.1)), s.3)

longer : (p before behind octets more : List ℕ) → octets ≡ before ++ (p ++ behind) → octets ++ more ≡ before ++ (p ++ (behind ++ more))
longer p before behind octets more e = ap (λ (o : List ℕ). o ++ more) e ∙ append_assoc before (p ++ behind) more ∙ ap (λ (o : List ℕ). before ++ o) (append_assoc p behind more)

followed : (parts later : List (List ℕ)) (a b : List ℕ) → StandInTurn parts a → StandInTurn later b → StandInTurn (parts ++ later) (a ++ b)
followed [] later a b s t = in_front later a b t
followed (p ∷ parts) later a b s t = (s.0, s.1 ++ b, longer p s.0 s.1 a b s.2, followed parts later s.1 b s.3 t)

before_more : (parts : List (List ℕ)) (a b : List ℕ) → StandInTurn parts a → StandInTurn parts (a ++ b)
before_more [] a b s = tt
before_more (p ∷ parts) a b s = (s.0, s.1 ++ b, longer p s.0 s.1 a b s.2, before_more parts s.1 b s.3)

whole : (octets : List ℕ) → StandInTurn (octets ∷ []) octets
whole octets = ([], [], sym (append-nil octets), tt)

inside : (parts : List (List ℕ)) (i : List ℕ) (f : Form) (inner : Values) → StandInTurn parts (spellings inner) → StandInTurn parts (spelling (Constructed i f inner))
inside parts i f inner s = in_front parts i _ (in_front parts (lengths_of f) _ (before_more parts (spellings inner) (end_mark f) s))

-- ---- what a grammar reads, and where it stands

abbrev Shows : {X : Type 0} → (Value → Option X) → (X → List (List ℕ)) → Type 0
Shows {X = X} grammar pick = (v : Value) (x : X) → grammar v ≡ Some x → StandInTurn (pick x) (spelling v)

abbrev ShowsFields : {X : Type 0} → (Values → Option X) → (X → List (List ℕ)) → Type 0
ShowsFields {X = X} fields pick = (vs : Values) (x : X) → fields vs ≡ Some x → StandInTurn (pick x) (spellings vs)

-- the first value has nothing to show
pass : {X : Type 0} (grammar : Value → Option X) (later : List (List ℕ)) (vs : Values) (p : X × Values) → FirstIs grammar vs p → StandInTurn later (spellings p.1) → StandInTurn later (spellings vs)
pass grammar later vs p f s = subst (StandInTurn later) (sym (ap spellings f.parts)) (in_front later (spelling f.value) (spellings p.1) s)

-- the first value shows something, and what stands behind it too
step : {X : Type 0} (grammar : Value → Option X) (pick : X → List (List ℕ)) (later : List (List ℕ)) (vs : Values) (p : X × Values) → Shows grammar pick → FirstIs grammar vs p → StandInTurn later (spellings p.1) → StandInTurn (pick p.0 ++ later) (spellings vs)
step grammar pick later vs p shows f s =
    subst (StandInTurn (pick p.0 ++ later)) (sym (ap spellings f.parts)) (followed (pick p.0) later (spelling f.value) (spellings p.1) (shows f.value p.0 f.reads) s)

last : {X : Type 0} (grammar : Value → Option X) (pick : X → List (List ℕ)) (vs : Values) (p : X × Values) → Shows grammar pick → FirstIs grammar vs p → StandInTurn (pick p.0) (spellings vs)
last grammar pick vs p shows f =
    subst (StandInTurn (pick p.0)) (sym (ap spellings f.parts)) (before_more (pick p.0) (spelling f.value) (spellings p.1) (shows f.value p.0 f.reads))

shows_within : {X : Type 0} (tag : List ℕ) (fields : Values → Option X) (pick : X → List (List ℕ)) → ShowsFields fields pick → Shows (within tag fields) pick
unfolding within
shows_within tag fields pick s (Primitive i l c) x e = absurd (none_some x e)
shows_within tag fields pick s (Constructed i f vs) x e = inside (pick x) i f vs (s vs x (chosen (has_tag tag i) (fields vs) x e))

shows_wrapped : {X : Type 0} (tag : List ℕ) (grammar : Value → Option X) (pick : X → List (List ℕ)) → Shows grammar pick → Shows (wrapped tag grammar) pick
unfolding wrapped
shows_wrapped tag grammar pick shows = shows_within tag _ pick (λ vs y e.
    let b = field grammar vs _ y e in
    let is = done_is _ y _ b.then' in
    subst (λ z. StandInTurn (pick z) (spellings vs)) is (last grammar pick vs b.x shows b.is))

abbrev front_of : {X : Type 0} → List ℕ × X → List (List ℕ)
front_of p = p.0 ∷ []

shows_octets : {X : Type 0} (grammar : Value → Option X) → Shows (with_octets grammar) front_of
unfolding with_octets
shows_octets {X = X} grammar v p e =
    let b = bound (grammar v) _ p e in
    let is : (spelling v, b.x) ≡ p = same_some _ _ b.then' in
    subst (λ (o : List ℕ). StandInTurn (o ∷ []) (spelling v)) (ap (λ (q : List ℕ × X). q.0) is) (whole (spelling v))

shows_held : {X : Type 0} (fields : Values → Option X) → ShowsFields (held fields) front_of
unfolding held
shows_held {X = X} fields vs p e =
    let b = bound (fields vs) _ p e in
    let is : (spellings vs, b.x) ≡ p = same_some _ _ b.then' in
    subst (λ (o : List ℕ). StandInTurn (o ∷ []) (spellings vs)) (ap (λ (q : List ℕ × X). q.0) is) (whole (spellings vs))

-- ---- the parts of a message

shows_content : (mode : Mode) → Shows (encapsulated_content mode) front_of
unfolding encapsulated_content
shows_content mode = shows_within sequence _ front_of (λ vs y e.
    let b = field _ vs _ y e in
    let c = field _ b.x.1 _ y b.then' in
    let is = done_is c.x.0 y c.x.1 c.then' in
    pass _ (front_of y) vs b.x b.is (subst (λ (z : List ℕ × List ℕ). StandInTurn (front_of z) (spellings b.x.1)) is (last _ front_of b.x.1 c.x (shows_wrapped (context 0) (with_octets (octet_string mode)) front_of (shows_octets (octet_string mode))) c.is)))

abbrev crls_in : CrlSet → List (List ℕ)
crls_in s = crls_of s.first s.second

-- the second CRL
shows_other : (vs : Values) (other : List ℕ × CrlFields) (rest : Values) → if_any (with_octets crl_in_der) vs ≡ Some (Some other, rest) → StandInTurn (front_of other) (spellings vs)
shows_other vs other rest e = last (with_octets crl_in_der) front_of vs (other, rest) (shows_octets crl_in_der) (there_is (with_octets crl_in_der) vs other rest e)

shows_set : (vs : Values) (one : (List ℕ × CrlFields) × Values) (other : Option (List ℕ × CrlFields)) (rest : Values) → FirstIs (with_octets crl_in_der) vs one → if_any (with_octets crl_in_der) one.1 ≡ Some (other, rest)
    → StandInTurn (crls_in (crl_set_of one.0 other)) (spellings vs)
shows_set vs one None rest f e = last _ front_of vs one (shows_octets crl_in_der) f
shows_set vs one (Some other) rest f e = step _ front_of (front_of other) vs one (shows_octets crl_in_der) f (shows_other one.1 other rest e)

shows_crls : Shows crl_set crls_in
unfolding crl_set
shows_crls = shows_within (context 1) _ crls_in (λ vs y e.
    let a = field _ vs _ y e in
    let b = bound _ _ y a.then' in
    let is = done_is (crl_set_of a.x.0 b.x.0) y b.x.1 b.then' in
    subst (λ (z : CrlSet). StandInTurn (crls_in z) (spellings vs)) is (shows_set vs a.x b.x.0 b.x.1 a.is b.found))

shows_attributes : (mode : Mode) → Shows (signed_attributes mode) front_of
unfolding signed_attributes
shows_attributes mode = shows_within (context 0) _ front_of (shows_held _)

abbrev signed_parts_of : SignerFields → List (List ℕ)
signed_parts_of s = s.attributes ∷ s.signature_value ∷ []

shows_signer : (mode : Mode) → Shows (signer_info mode) signed_parts_of
unfolding signer_info
shows_signer mode = shows_within sequence _ signed_parts_of (λ vs y e.
    let a = field _ vs _ y e in
    let b = field _ a.x.1 _ y a.then' in
    let c = field _ b.x.1 _ y b.then' in
    let d = field _ c.x.1 _ y c.then' in
    let k = field _ d.x.1 _ y d.then' in
    let m = field _ k.x.1 _ y k.then' in
    let is = done_is _ y m.x.1 m.then' in
    let signature = last _ front_of k.x.1 m.x (shows_octets (octet_string mode)) m.is in
    let one = front_of m.x.0 in
    let two = front_of d.x.0 ++ one in
    let parts = pass _ two vs a.x a.is (pass _ two a.x.1 b.x b.is (pass _ two b.x.1 c.x c.is (step _ front_of one c.x.1 d.x (shows_attributes mode) d.is (pass _ one d.x.1 k.x k.is signature)))) in
    subst (λ (z : SignerFields). StandInTurn (signed_parts_of z) (spellings vs)) is parts)

shows_parts : (mode : Mode) → Shows (signed_parts mode) parts_of
unfolding signed_parts
shows_parts mode = shows_within sequence _ parts_of (λ vs y e.
    let a = field _ vs _ y e in
    let b = field _ a.x.1 _ y a.then' in
    let c = field _ b.x.1 _ y b.then' in
    let d = field _ c.x.1 _ y c.then' in
    let k = field _ d.x.1 _ y d.then' in
    let m = field _ k.x.1 _ y k.then' in
    let is = done_is _ y m.x.1 m.then' in
    let signer = last _ signed_parts_of k.x.1 m.x (shows_wrapped set (signer_info mode) signed_parts_of (shows_signer mode)) m.is in
    let two = signed_parts_of m.x.0 in
    let three = crls_in k.x.0 ++ two in
    let four = front_of d.x.0 ++ three in
    let five = front_of c.x.0 ++ four in
    let crls = step _ crls_in two d.x.1 k.x shows_crls k.is signer in
    let certificate = step _ front_of three c.x.1 d.x (shows_wrapped (context 0) (with_octets (identity_certificate mode)) front_of (shows_octets (identity_certificate mode))) d.is crls in
    let parts = pass _ five vs a.x a.is (pass _ five a.x.1 b.x b.is (step _ front_of four b.x.1 c.x (shows_content mode) c.is certificate)) in
    subst (λ (z : ViewFields). StandInTurn (parts_of z) (spellings vs)) is parts)

shows_view : (mode : Mode) → Shows (viewed_message mode) parts_of
unfolding viewed_message
shows_view mode = shows_within sequence _ parts_of (λ vs y e.
    let b = field _ vs _ y e in
    let c = field _ b.x.1 _ y b.then' in
    let is = done_is c.x.0 y c.x.1 c.then' in
    pass _ (parts_of y) vs b.x b.is (subst (λ (z : ViewFields). StandInTurn (parts_of z) (spellings b.x.1)) is (last _ parts_of b.x.1 c.x (shows_wrapped (context 0) (signed_parts mode) parts_of (shows_parts mode)) c.is)))

pub in_turn : (mode : Mode) (v : Value) (w : ViewFields) → viewed_message mode v ≡ Some w → StandInTurn (parts_of w) (spelling v)
in_turn mode v w e = shows_view mode v w e
