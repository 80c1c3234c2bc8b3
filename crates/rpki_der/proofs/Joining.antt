-- Joining the segments of an octet string.
use Rattle.std.proofs.Common.{◌≡◌, ℕ, suc, ◌+◌, ◌-◌, ◌<◌, ◌≤◌, true, false, Option, None, Some, List, [], ◌∷◌, ◌++◌, length, drop, refl, sym, ap, subst, ◌∙◌, append_assoc, arith, Result}
use Rattle.std.proofs.lemmas.List.{append-nil, length-drop}
use Rattle.rpki_der.specs.declared.error.DecodeError.{DecodeError}
use Rattle.rpki_der.specs.declared.error.DecodeError.TheVariants.{Malformed, OutOfMemory}
use Rattle.rpki_der.specs.Value.{Form, Value, Primitive, Constructed, Values, End, ◌▸◌, Begins}
use Rattle.rpki_der.specs.Level.{Level, LevelHolds, EndsLevel}
use Rattle.rpki_der.specs.Position.{Position, top, AtEnd, Leaves}
use Rattle.rpki_common.specs.Chaining.{◌>>=◌}
use Rattle.rpki_der.specs.Grammar.{primitive}
use Rattle.rpki_der.specs.Takes.{TakesOne, NoneStands, Refuses, Goes, NoneOpens}
use Rattle.rpki_der.specs.Identifier.{has_tag}
use Rattle.rpki_der.specs.Walk.{left_in}
use Rattle.rpki_der.specs.Tags.{octet_string_tag}
use Rattle.rpki_der.specs.OctetString.{joined_pieces, joined_all, octets_under}
use Rattle.rpki_der.specs.Ticks.{TakesCounted}
use Rattle.rpki_der.specs.Segments.{JoinsUp, OneJoin, Segments, Segment, Joins}
use Rattle.rpki_der.proofs.Reading.{value_opens}
use Rattle.rpki_der.proofs.Parts.{at_most_one}
use Rattle.rpki_der.proofs.Walks.{opens_forth, opens_back, holds_cons, holds_more, holds_end, end_holds, at_end, ends_no_value, smaller_into, smaller_over, smaller_end}
use Rattle.rpki_der.specs.declared.mode.Mode.{Mode}
use Rattle.rpki_der.specs.declared.mode.Mode.TheVariants.{Ber, Der}

some_of : {X : Type 0} (x y : X) → Some x ≡ Some y → x ≡ y
some_of x y e = cc

-- joining up from the same place with the same octets so far
moved : (n : ℕ) (p p' : Position) (front front' : List ℕ) (q : Position) (all : List ℕ) → p ≡ p' → front ≡ front' → JoinsUp n p front q all → JoinsUp n p' front' q all
moved n p p' front front' q all e f k = subst (λ (x : Position). JoinsUp n x front' q all) e (subst (λ (x : List ℕ). JoinsUp n p x q all) f k)

place_is : (m m' : _) (h h' : List ℕ) (l l' : List Level) → m ≡ m' → h ≡ h' → l ≡ l' → ◌≡◌ {A = Position} (record { mode = m; here = h; levels = l }) (record { mode = m'; here = h'; levels = l' })
place_is m m' h h' l l' e f g = cc

same_place : (p p' : Position) (next : List ℕ) → next ≡ p'.here → p'.mode ≡ p.mode → p'.levels ≡ p.levels → record { mode = p.mode; here = next; levels = p.levels } ≡ p'
same_place p p' next h m l = place_is p.mode p'.mode next p'.here p.levels p'.levels (sym m) h (sym l)

left_place : (p p' : Position) → Leaves p p' → record { mode = p.mode; here = p'.here; levels = drop 1 p.levels } ≡ p'
left_place p p' l = place_is p.mode p'.mode p'.here p'.here (drop 1 p.levels) p'.levels (sym l.mode) refl (sym l.levels)

joined_end : joined_all End ≡ Some []
unfolding joined_all
joined_end = refl

left_at_end : (n : ℕ) (p p' : Position) (front : List ℕ) (q : Position) (all : List ℕ) → Leaves p p' → (vs : Values) (next w : List ℕ) → LevelHolds p.mode (top p.levels) p.here vs next → joined_all vs ≡ Some w → JoinsUp n (record { mode = p.mode; here = next; levels = drop 1 p.levels }) (front ++ w) q all → JoinsUp n p' front q all
left_at_end n p p' front q all l End next w h e k =
    let same : p'.here ≡ next = at_end p.mode (top p.levels) p.here p'.here End next l.ends h in
    let nothing : w ≡ [] = some_of w [] (sym e ∙ joined_end) in
    moved n (record { mode = p.mode; here = next; levels = drop 1 p.levels }) p' (front ++ w) front q all (ap (λ (x : List ℕ). record { mode = p.mode; here = x; levels = drop 1 p.levels }) (sym same) ∙ left_place p p' l) (ap (λ x. front ++ x) nothing ∙ append-nil front) k
left_at_end n p p' front q all l (v ▸ vs) next w h e k =
    let m = holds_more p.mode (top p.levels) p.here v vs next h in absurd (ends_no_value p.mode (top p.levels) p.here p'.here l.ends v m.here' m.begins)

left_forth : (n : ℕ) (p p' : Position) (front : List ℕ) (q : Position) (all : List ℕ) → Leaves p p' → JoinsUp (suc n) p front q all → JoinsUp n p' front q all
left_forth n p p' front q all l (vs, next, w, h, e, k) = left_at_end n p p' front q all l vs next w h e k

parts_of : (o r : Option (List ℕ)) (w : List ℕ) → (o >>= λ a. r >>= λ b. Some (a ++ b)) ≡ Some w → (a : List ℕ) × (b : List ℕ) × (o ≡ Some a) × (r ≡ Some b) × (a ++ b ≡ w)
unfolding ◌>>=◌
parts_of None r w e = absurd cc
parts_of (Some a) None w e = absurd cc
parts_of (Some a) (Some b) w e = (a, b, refl, refl, cc)

joined_more : (v : Value) (vs : Values) (w : List ℕ) → joined_all (v ▸ vs) ≡ Some w → (a : List ℕ) × (b : List ℕ) × (joined_pieces octet_string_tag v ≡ Some a) × (joined_all vs ≡ Some b) × (a ++ b ≡ w)
unfolding joined_all ◌>>=◌
joined_more v vs w e = parts_of (joined_pieces octet_string_tag v) (joined_all vs) w e

joined_cons : (v : Value) (vs : Values) (a b : List ℕ) → joined_pieces octet_string_tag v ≡ Some a → joined_all vs ≡ Some b → joined_all (v ▸ vs) ≡ Some (a ++ b)
unfolding joined_all ◌>>=◌
joined_cons v vs a b e f = rw (e, f) refl

first_segment : (n : ℕ) (p : Position) (front : List ℕ) (q : Position) (all : List ℕ) → (AtEnd p → ⊥) → JoinsUp (suc n) p front q all → OneJoin octet_string_tag (suc n) p front q all
first_segment n p front q all more (End, next, w, h, e, k) = absurd (more (next, end_holds p.mode (top p.levels) p.here next h))
first_segment n p front q all more (v ▸ vs, next, w, h, e, k) =
    let m = holds_more p.mode (top p.levels) p.here v vs next h in
    let j = joined_more v vs w e in
    let regrouped : front ++ w ≡ (front ++ j.0) ++ j.1 = ap (λ x. front ++ x) (sym j.4) ∙ sym (append_assoc front j.0 j.1) in
    (v, m.here', j.0, m.begins, j.2, (vs, next, j.1, m.holds, j.3, subst (λ (x : List ℕ). JoinsUp n (record { mode = p.mode; here = next; levels = drop 1 p.levels }) x q all) regrouped k))

rest_segments : (n : ℕ) (p : Position) (front : List ℕ) (q : Position) (all : List ℕ) → OneJoin octet_string_tag (suc n) p front q all → JoinsUp (suc n) p front q all
rest_segments n p front q all (v, here', a, b, e, (vs, next, w, h, f, k)) =
    (v ▸ vs, next, a ++ w, holds_cons p.mode (top p.levels) p.here here' v vs next b h, joined_cons v vs a w e f, subst (λ (x : List ℕ). JoinsUp n (record { mode = p.mode; here = next; levels = drop 1 p.levels }) x q all) (append_assoc front a w) k)

-- ---- a primitive segment

joined_primitive : (tag : List ℕ) (v : Value) (c : List ℕ) → primitive tag v ≡ Some c → joined_pieces tag v ≡ Some c
unfolding joined_pieces
joined_primitive tag (Primitive i l d) c e = e
joined_primitive tag (Constructed i f vs) c e = absurd cc

pub segment_primitive : (tag : List ℕ) (p p' : Position) (front c : List ℕ) → TakesOne (primitive tag) p p' c → Segment tag p front p' (front ++ c)
segment_primitive tag p p' front c t = (
  0,
  record {
    deeper = let e = ap length t.levels in omega arith;
    forth = λ n q all o.
        let s = at_most_one p.mode p.here o.0 t.value o.1 p'.here o.3 t.begins in
        let w : o.2 ≡ c = some_of o.2 c (sym o.4 ∙ ap (joined_pieces tag) s.value ∙ joined_primitive tag t.value c t.reads) in
        let same : n + 0 ≡ n = omega arith in
        rw same (moved n (record { mode = p.mode; here = o.1; levels = p.levels }) p' (front ++ o.2) (front ++ c) q all (same_place p p' o.1 s.rest t.mode t.levels) (ap (λ x. front ++ x) w) o.5);
    back = λ n q all k.
        let same : n + 0 ≡ n = omega arith in
        (t.value, p'.here, c, t.begins, joined_primitive tag t.value c t.reads, moved n p' (record { mode = p.mode; here = p'.here; levels = p.levels }) (front ++ c) (front ++ c) q all (sym (same_place p p' p'.here refl t.mode t.levels)) refl (rw same at k));
  },
)

-- ---- into a constructed one

joined_constructed : (tag i : List ℕ) (f : Form) (vs : Values) → has_tag tag i ≡ true → joined_pieces tag (Constructed i f vs) ≡ joined_all vs
unfolding joined_pieces
joined_constructed tag i f vs t = rw t refl

entered : (tag : List ℕ) (n : ℕ) (p p' : Position) (front : List ℕ) (q : Position) (all : List ℕ) → Goes tag p p' → JoinsUp (suc n) p' front q all → OneJoin tag n p front q all
entered tag n p p' front q all g (vs, next, w, h, e, k) =
    let o = opens_back p.mode p.here g.identifier g.level p'.here vs next g.opens (rw (g.mode, g.levels) at h) in
    (Constructed g.identifier o.form vs, next, w, o.begins, joined_constructed tag g.identifier o.form vs g.tagged ∙ e, rw (g.mode, g.levels) at k)

pub segment_enter : (tag : List ℕ) (p p' : Position) (front : List ℕ) → Goes tag p p' → Segment tag p front p' front
segment_enter tag p p' front g = (
  1,
  record {
    deeper = let e = ap length g.levels in omega arith;
    forth = λ n q all o.
        let w = opens_forth p.mode p.here g.identifier g.level p'.here o.0 o.1 g.opens o.3 in
        let read : joined_all w.values ≡ Some o.2 = sym (joined_constructed tag g.identifier w.form w.values g.tagged) ∙ ap (joined_pieces tag) (sym w.is) ∙ o.4 in
        let same : n + 1 ≡ suc n = omega arith in
        rw same (w.values, o.1, o.2, rw (g.mode, g.levels) w.holds, read, rw (g.mode, g.levels) o.5);
    back = λ n q all k.
        let same : n + 1 ≡ suc n = omega arith in
        entered tag n p p' front q all g (rw same at k);
  },
)

-- ---- out of one

pub joins_leave : (tag : List ℕ) (start : Position) (n : ℕ) (p p' : Position) (front : List ℕ) → Joins tag start (suc n) p front → Leaves p p' → Joins tag start n p' front
joins_leave tag start n p p' front j l = record {
  forth = λ q all o. left_forth n p p' front q all l (j.forth q all o);
  back = λ q all k.
      let place : record { mode = p.mode; here = p'.here; levels = drop 1 p.levels } ≡ p' = left_place p p' l in
      j.back q all (End, p'.here, [], holds_end p.mode (top p.levels) p.here p'.here l.ends, joined_end, moved n p' (record { mode = p.mode; here = p'.here; levels = drop 1 p.levels }) front (front ++ []) q all (sym place) (sym (append-nil front)) k);
}

pub joins_segment : (tag : List ℕ) (start : Position) (n : ℕ) (p p' : Position) (front front' : List ℕ) (k : ℕ) → Joins tag start (suc n) p front → (AtEnd p → ⊥) → Segments octet_string_tag k p front p' front' → Joins tag start (suc n + k) p' front'
joins_segment tag start n p p' front front' k j more s = record {
  forth = λ q all o. s.forth (suc n) q all (first_segment n p front q all more (j.forth q all o));
  back = λ q all u. j.back q all (rest_segments n p front q all (s.back (suc n) q all u));
}

-- ---- the answers

pub joins_done : (tag : List ℕ) (start p : Position) (front : List ℕ) → Joins tag start 0 p front → TakesOne (joined_pieces tag) start p front
joins_done tag start p front j =
    let o = j.back p front (refl, refl) in
    record {
      value = o.0;
      begins = subst (Begins start.mode start.here o.0) (ap (λ (r : Position). r.here) o.5.0) o.3;
      reads = o.4 ∙ ap Some o.5.1;
      levels = sym (ap (λ (r : Position). r.levels) o.5.0);
      mode = sym (ap (λ (r : Position). r.mode) o.5.0);
    }

no_joined : (o : Option (List ℕ)) → ((w : List ℕ) → o ≡ Some w → ⊥) → o ≡ None
no_joined None h = refl
no_joined (Some w) h = absurd (h w refl)

pub joins_refused : (tag : List ℕ) (start : Position) (n : ℕ) (p : Position) (front : List ℕ) → Joins tag start (suc n) p front → (AtEnd p → ⊥) → NoneStands (joined_pieces octet_string_tag) p → NoneStands (joined_pieces tag) start
joins_refused tag start n p front j more none v rest b = no_joined (joined_pieces tag v) (λ w e.
    let q : Position = record { mode = start.mode; here = rest; levels = start.levels } in
    let o = first_segment n p front q w more (j.forth q w (v, rest, w, b, e, (refl, refl))) in
    let no' : None ≡ Some o.2 = sym (none o.0 o.1 o.3) ∙ o.4 in cc)

-- ---- how much is left

pub smaller_goes : (tag : List ℕ) (p p' : Position) → Goes tag p p' → length p'.here + left_in p'.levels < length p.here + left_in p.levels
smaller_goes tag p p' g = rw g.levels (smaller_into p.mode p.here g.identifier g.level p'.here p.levels g.opens)

pub smaller_takes : (tag : List ℕ) (p p' : Position) (c : List ℕ) → TakesOne (primitive tag) p p' c → length p'.here + left_in p'.levels < length p.here + left_in p.levels
smaller_takes tag p p' c t = let less = smaller_over p.mode p.here t.value p'.here t.begins in rw t.levels (omega arith)

smaller_out : (levels : List Level) (here next : List ℕ) → (levels ≡ [] → ⊥) → EndsLevel (top levels) here next → length next + left_in (drop 1 levels) < length here + left_in levels
smaller_out [] here next n e = absurd (n refl)
smaller_out (level ∷ levels) here next n e = smaller_end level levels here next e

pub smaller_leaves : (p p' : Position) → (p.levels ≡ [] → ⊥) → Leaves p p' → length p'.here + left_in p'.levels < length p.here + left_in p.levels
smaller_leaves p p' n l = rw l.levels (smaller_out p.levels p.here p'.here n l.ends)

-- ---- both refusals of a segment

joined_both : (tag : List ℕ) (v : Value) → primitive tag v ≡ None → ((i : List ℕ) (f : Form) (vs : Values) → v ≡ Constructed i f vs → has_tag tag i ≡ false) → joined_pieces tag v ≡ None
unfolding joined_pieces
joined_both tag (Primitive i l c) e n = e
joined_both tag (Constructed i f vs) e n = rw (n i f vs refl) refl

pub segment_refused : (tag : List ℕ) (p : Position) → NoneOpens tag p → NoneStands (primitive tag) p → NoneStands (joined_pieces tag) p
segment_refused tag p n m v rest b = joined_both tag v (m v rest b) (λ i f vs e.
    let o = value_opens p.mode p.here i f vs rest (subst (λ (w : Value). Begins p.mode p.here w rest) e b) in n i o.level o.inner o.opens)

-- ---- the loop

joins_at : (tag : List ℕ) (start p : Position) (front : List ℕ) (m n : ℕ) → m ≡ n → Joins tag start m p front → Joins tag start n p front
joins_at tag start p front m n e j = subst (λ k. Joins tag start k p front) e j

joins_first : (tag : List ℕ) (start p : Position) (front : List ℕ) (k : ℕ) → Segments tag k start [] p front → Joins tag start (0 + k) p front
joins_first tag start p front k s = record { forth = λ q all o. s.forth 0 q all o; back = λ q all u. s.back 0 q all u }

pub above_first : (tag : List ℕ) (start p : Position) (front front' : List ℕ) (base : ℕ) → base ≡ length start.levels → Segment tag start front p front' → base ≤ length p.levels
above_first tag start p front front' base e s = let d = s.1.deeper in omega arith

pub loop_first : (tag : List ℕ) (start p : Position) (front front' : List ℕ) (base : ℕ) → base ≡ length start.levels → front ≡ [] → Segment tag start front p front' → Joins tag start (length p.levels - base) p front'
loop_first tag start p front front' base e f s =
    let t : Segment tag start [] p front' = subst (λ (x : List ℕ). Segment tag start x p front') f s in
    let d = t.1.deeper in
    let n : 0 + t.0 ≡ length p.levels - base = omega arith in
    joins_at tag start p front' (0 + t.0) (length p.levels - base) n (joins_first tag start p front' t.0 t.1)

pub above_leave : (p p' : Position) (base : ℕ) → base < length p.levels → Leaves p p' → base ≤ length p'.levels
above_leave p p' base lt l = let e = ap length l.levels in omega (arith, length-drop 1 p.levels)

pub loop_leave : (tag : List ℕ) (start p p' : Position) (front : List ℕ) (base : ℕ) → base < length p.levels → Joins tag start (length p.levels - base) p front → Leaves p p' → Joins tag start (length p'.levels - base) p' front
loop_leave tag start p p' front base lt j l =
    let e = ap length l.levels in
    let n : length p.levels - base ≡ suc (length p'.levels - base) = omega (arith, length-drop 1 p.levels) in
    joins_leave tag start (length p'.levels - base) p p' front (joins_at tag start p front (length p.levels - base) (suc (length p'.levels - base)) n j) l

pub above_on : (tag : List ℕ) (p p' : Position) (front front' : List ℕ) (base : ℕ) → base ≤ length p.levels → Segment tag p front p' front' → base ≤ length p'.levels
above_on tag p p' front front' base le s = let d = s.1.deeper in omega arith

pub loop_on : (tag : List ℕ) (start p p' : Position) (front front' : List ℕ) (base : ℕ) → base < length p.levels → Joins tag start (length p.levels - base) p front → (AtEnd p → ⊥) → Segment octet_string_tag p front p' front' → Joins tag start (length p'.levels - base) p' front'
loop_on tag start p p' front front' base lt j more s =
    let d = s.1.deeper in
    let n : length p.levels - base ≡ suc (length p.levels - base - 1) = omega arith in
    let m : suc (length p.levels - base - 1) + s.0 ≡ length p'.levels - base = omega arith in
    joins_at tag start p' front' (suc (length p.levels - base - 1) + s.0) (length p'.levels - base) m (joins_segment tag start (length p.levels - base - 1) p p' front front' s.0 (joins_at tag start p front (length p.levels - base) (suc (length p.levels - base - 1)) n j) more s.1)

pub loop_done : (tag : List ℕ) (start p : Position) (front : List ℕ) (base : ℕ) → length p.levels ≤ base → Joins tag start (length p.levels - base) p front → TakesOne (joined_pieces tag) start p front
loop_done tag start p front base le j =
    let n : length p.levels - base ≡ 0 = omega arith in joins_done tag start p front (joins_at tag start p front (length p.levels - base) 0 n j)

pub loop_refused : (tag : List ℕ) (start p : Position) (front : List ℕ) (base : ℕ) (e : DecodeError) → base < length p.levels → Joins tag start (length p.levels - base) p front → (AtEnd p → ⊥) → Refuses (joined_pieces octet_string_tag) p e → Refuses (joined_pieces tag) start e
unfolding Refuses
loop_refused tag start p front base Malformed lt j more r =
    let n : length p.levels - base ≡ suc (length p.levels - base - 1) = omega arith in
    joins_refused tag start (length p.levels - base - 1) p front (joins_at tag start p front (length p.levels - base) (suc (length p.levels - base - 1)) n j) more r
loop_refused tag start p front base OutOfMemory lt j more r = tt

pub refused_both : (tag : List ℕ) (p : Position) (e : DecodeError) → NoneOpens tag p → Refuses (primitive tag) p e → Refuses (joined_pieces tag) p e
unfolding Refuses
refused_both tag p Malformed n m = segment_refused tag p n m
refused_both tag p OutOfMemory n m = tt

-- ---- by the mode

pub octets_in_ber : {Y : Type 0} (tag : List ℕ) (mode : Mode) (view : Y → List ℕ) (p q : Position) (b a : ℕ) (r : Result Y DecodeError) → mode ≡ Ber → TakesCounted 1 (joined_pieces tag) view p q b a r → TakesCounted 1 (octets_under tag mode) view p q b a r
unfolding octets_under
octets_in_ber tag mode view p q b a r e t = subst (λ (m : Mode). TakesCounted 1 (octets_under tag m) view p q b a r) (sym e) t

pub octets_in_der : {Y : Type 0} (tag : List ℕ) (mode : Mode) (view : Y → List ℕ) (p q : Position) (b a : ℕ) (r : Result Y DecodeError) → mode ≡ Der → TakesCounted 1 (primitive tag) view p q b a r → TakesCounted 1 (octets_under tag mode) view p q b a r
unfolding octets_under
octets_in_der tag mode view p q b a r e t = subst (λ (m : Mode). TakesCounted 1 (octets_under tag m) view p q b a r) (sym e) t
