-- A value that is read whole is the value that stands there, and so are the values inside it.
use Rattle.std.proofs.Common.{◌≡◌, ℕ, true, Some, List, refl, sym, ap, subst, ◌∙◌}
use Rattle.rpki_der.specs.declared.mode.Mode.TheVariants.{Ber, Der}
use Rattle.rpki_der.specs.Value.{Value, Constructed, Values, spelling, Begins}
use Rattle.rpki_der.specs.Identifier.{has_tag}
use Rattle.rpki_der.specs.Grammar.{any, identifier_of}
use Rattle.rpki_der.specs.Item.{ItemFields, item, any_item}
use Rattle.rpki_der.specs.Level.{LevelHolds}
use Rattle.rpki_der.specs.Position.{Position, top}
use Rattle.rpki_der.specs.Reader.{value_at}
use Rattle.rpki_der.specs.Takes.{TakesOne, Goes}
use Rattle.rpki_der.specs.Tree.{inside}
use Rattle.rpki_der.proofs.Decoding.{value_at-begins, value_at-sound}
use Rattle.rpki_der.proofs.Parts.{at_most_one}
use Rattle.rpki_der.proofs.Strict.{loose_begins}
use Rattle.rpki_der.proofs.Walks.{opens_back, opens_forth}

pub loose_at : (octets : List ℕ) (v : Value) (rest : List ℕ) → value_at Der octets ≡ Some (v, rest) → value_at Ber octets ≡ Some (v, rest)
loose_at octets v rest e = value_at-begins Ber octets v rest (loose_begins octets v rest (value_at-sound Der octets v rest e))

some_item : (x y : ItemFields) → Some x ≡ Some y → y ≡ x
some_item x y e = cc

some_octets : (x y : List ℕ) → Some x ≡ Some y → y ≡ x
some_octets x y e = cc

pub item_is : (p q : Position) (i : ItemFields) (v : Value) (rest : List ℕ) → TakesOne any_item p q i → Begins p.mode p.here v rest → (i ≡ item v) × (q.here ≡ rest)
item_is p q i v rest t b = let s = at_most_one p.mode p.here t.value v q.here rest t.begins b in (some_item (item t.value) i t.reads ∙ ap item s.value, s.rest)

pub octets_are : (p q : Position) (octets : List ℕ) (v : Value) (rest : List ℕ) → TakesOne any p q octets → Begins p.mode p.here v rest → (octets ≡ spelling v) × (q.here ≡ rest)
octets_are p q octets v rest t b = let s = at_most_one p.mode p.here t.value v q.here rest t.begins b in (some_octets (spelling t.value) octets t.reads ∙ ap spelling s.value, s.rest)

pub parts_of : (tag : List ℕ) (p q : Position) (v : Value) (rest : List ℕ) → Goes tag p q → Begins p.mode p.here v rest → LevelHolds q.mode (top q.levels) q.here (inside v) rest
parts_of tag p q v rest g b =
    let w = opens_forth p.mode p.here g.identifier g.level q.here v rest g.opens b in
    rw (g.mode, g.levels) (subst (λ (vs : Values). LevelHolds p.mode g.level q.here vs rest) (sym (ap inside w.is)) w.holds)

pub whole_around : (tag : List ℕ) (p q : Position) (vs : Values) (rest : List ℕ) → Goes tag p q → LevelHolds q.mode (top q.levels) q.here vs rest → (v : Value) × Begins p.mode p.here v rest × (inside v ≡ vs) × (has_tag tag (identifier_of v) ≡ true)
whole_around tag p q vs rest g h =
    let w = opens_back p.mode p.here g.identifier g.level q.here vs rest g.opens (rw (g.mode, g.levels) at h) in
    (Constructed g.identifier w.form vs, w.begins, refl, g.tagged)
