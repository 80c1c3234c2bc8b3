-- Tags, ends, comments and instructions, and text runs: what is spelled is read, and what is read was spelled.
use Rattle.std.proofs.Common.{◌≡◌, ℕ, suc, ◌+◌, ◌≤◌, Bool, ◌||◌, not, true, false, List, [], ◌∷◌, ◌++◌, length, Option, Some, None, refl, sym, ap, subst, ◌∙◌, append_assoc, arith}
use Rattle.std.proofs.lemmas.List.{length-append}
use Rattle.std.specs.List.{list_all}
use Rattle.std.specs.Prelude.{codes}
use Rattle.rpki_common.specs.Chaining.{◌>>=◌}
use Rattle.rpki_common.proofs.Truths.{both, none_some, same_some}
use Rattle.rpki_xml.specs.AttributeSpelling.{IsValueSpelling, concatenated}
use Rattle.rpki_xml.specs.Content.{Tag, Piece, run, passed_over, leaf, start, end, behind, is_white}
use Rattle.rpki_xml.specs.Element.{Attribute, is_nil}
use Rattle.rpki_xml.specs.Lexing.{or_else, character_at, ends_at, until, front_of, past_white, name_at, attribute_at, begins_white, begins_close, no_attribute, closed_at, tag_at, end_at, past_next, passed_at, run_at, markup_at, piece_at}
use Rattle.rpki_xml.specs.Name.{is_name, is_name_octet}
use Rattle.rpki_xml.specs.PieceSpelling.{AreAttributeSpellings, IsTagSpelling, IsEndSpelling, IsBetween, IsComment, IsInstruction, IsRunSpelling, BeginsWithPiece, is_markup_or_end}
use Rattle.rpki_xml.specs.Runs.{RunsTo}
use Rattle.rpki_xml.proofs.AttributeSpellings.{characters_run, spelled_character_read, white_passed, white_no_name, name_read, attribute_stands}
use Rattle.rpki_xml.proofs.Fronts.{came, or_either, front_is, front_there, front_passes, white_front, name_is}
use Rattle.rpki_xml.proofs.ReadAttributes.{stands_white, characters_are, attributes_are, attributes_run}
use Rattle.rpki_xml.proofs.Repetitions.{characters_both, attributes_both}
use Rattle.rpki_xml.proofs.Spelled.{Stops, true_false, markup}

-- ---- what no name goes on into

white_stops : (b : List ℕ) → begins_white b ≡ true → Stops is_name_octet b
white_stops [] h = absurd (true_false (sym h))
white_stops (c ∷ b) h = let no = white_no_name c h in (rw no refl, rw no refl)

-- behind white space, or none, a name goes on no further than where there is none
white_then_stops : (w tail : List ℕ) → list_all is_white w ≡ true → Stops is_name_octet tail → Stops is_name_octet (w ++ tail)
white_then_stops [] tail h s = s
white_then_stops (c ∷ w) tail h s = white_stops (c ∷ (w ++ tail)) (both (is_white c) (list_all is_white w) h).0

attributes_stop : (spellings : List (List ℕ)) (list : List Attribute) (tail : List ℕ) → AreAttributeSpellings spellings list → Stops is_name_octet tail → Stops is_name_octet (concatenated spellings ++ tail)
attributes_stop [] list tail h s = s
attributes_stop (s ∷ spellings) [] tail h t = absurd h
attributes_stop (s ∷ spellings) (a ∷ list) tail h t =
    let more = concatenated spellings ++ tail in
    subst (Stops is_name_octet) (sym (append_assoc s (concatenated spellings) tail)) (white_stops (s ++ more) (stands_white (s ++ more) (attribute_stands s a more h.0)))

-- ---- tags

or_true : (x y : Bool) → y ≡ true → (x || y) ≡ true
or_true true y e = refl
or_true false y e = e

no_attribute_there : (w tail : List ℕ) → list_all is_white w ≡ true → past_white tail ≡ tail → begins_close tail ≡ true → no_attribute (w ++ tail) ≡ true
no_attribute_there w tail white past close = or_true (not (begins_white (w ++ tail))) (begins_close (past_white (w ++ tail))) (ap begins_close (white_passed w tail white ∙ past) ∙ close)

tag_regroup : (n x w close rest : List ℕ) → (n ++ (x ++ (w ++ close))) ++ rest ≡ n ++ (x ++ (w ++ (close ++ rest)))
tag_regroup n x w close rest = simp append_assoc

-- what is spelled as a tag is read up to its close
tag_closes : (n : List ℕ) (spellings : List (List ℕ)) (list : List Attribute) (w tail : List ℕ) → is_name n ≡ true → list_all is_name_octet n ≡ true → AreAttributeSpellings spellings list → list_all is_white w ≡ true → past_white tail ≡ tail → begins_close tail ≡ true → Stops is_name_octet tail
    → piece_at (60 ∷ (n ++ (concatenated spellings ++ (w ++ tail)))) ≡ closed_at (record { name = n; attributes = list }) tail
unfolding tag_at ◌>>=◌
tag_closes n spellings list w tail lawful octets h white past close stops =
    let behind_name = concatenated spellings ++ (w ++ tail) in
    let off = no_attribute_there w tail white past close in
    let read = (attributes_both behind_name list (w ++ tail)).1 (attributes_run spellings list (w ++ tail) off h) in
    let name = name_read n behind_name lawful octets (attributes_stop spellings list (w ++ tail) h (white_then_stops w tail white stops)) in
    markup n behind_name lawful ∙ rw (name, read, white_passed w tail white, past) refl

pub leaf_read : (octets : List ℕ) (tag : Tag) (rest : List ℕ) → IsTagSpelling (codes "/>") octets tag → piece_at (octets ++ rest) ≡ Some (leaf tag, rest)
unfolding ◌>>=◌
leaf_read octets tag rest h =
    ap piece_at (ap (λ (l : List ℕ). l ++ rest) h.is ∙ ap (λ (l : List ℕ). 60 ∷ l) (tag_regroup tag.name (concatenated h.attributes) h.white (codes "/>") rest))
    ∙ tag_closes tag.name h.attributes tag.attributes h.white (47 ∷ 62 ∷ rest) h.lawful h.name_octets h.spelled h.all_white refl refl (refl, refl)

pub start_read : (octets : List ℕ) (tag : Tag) (rest : List ℕ) → IsTagSpelling (codes ">") octets tag → piece_at (octets ++ rest) ≡ Some (start tag, rest)
unfolding ◌>>=◌
start_read octets tag rest h =
    ap piece_at (ap (λ (l : List ℕ). l ++ rest) h.is ∙ ap (λ (l : List ℕ). 60 ∷ l) (tag_regroup tag.name (concatenated h.attributes) h.white (codes ">") rest))
    ∙ tag_closes tag.name h.attributes tag.attributes h.white (62 ∷ rest) h.lawful h.name_octets h.spelled h.all_white refl refl (refl, refl)

tag_chain : (b b1 b2 b3 n x w close rest : List ℕ) → b ≡ n ++ b1 → b1 ≡ x ++ b2 → b2 ≡ w ++ b3 → b3 ≡ close ++ rest → b ≡ n ++ (x ++ (w ++ (close ++ rest)))
tag_chain b b1 b2 b3 n x w close rest e f g h = cc

-- octets that are read as a tag up to its close begin with its spelling
abbrev BeginsWithTag : List ℕ → List ℕ → Tag → List ℕ → Type 0
BeginsWithTag close b tag rest = (octets : List ℕ) × (b ≡ octets ++ rest) × IsTagSpelling close octets tag

tag_built : (close b n behind_name : List ℕ) (list : List Attribute) (after rest : List ℕ) → name_at b ≡ Some (n, behind_name) → until no_attribute attribute_at behind_name ≡ Some (list, after) → past_white after ≡ close ++ rest → BeginsWithTag close (60 ∷ b) (record { name = n; attributes = list }) rest
tag_built close b n behind_name list after rest e f g =
    let w = front_of is_white after in
    let p = name_is b n behind_name e in
    let q = attributes_are behind_name list after ((attributes_both behind_name list after).0 f) in
    let x = concatenated q.0 in
    let is : b ≡ (n ++ (x ++ (w ++ close))) ++ rest = tag_chain b behind_name after (past_white after) n x w close rest p.0 q.1 (white_front after) g ∙ sym (tag_regroup n x w close rest) in
    (60 ∷ (n ++ (x ++ (w ++ close))), ap (λ (l : List ℕ). 60 ∷ l) is, record { attributes = q.0; white = w; is = refl; lawful = p.1; name_octets = p.2; spelled = q.2; all_white = front_passes is_white after })

leaf_piece : (b : List ℕ) (tag : Tag) (rest : List ℕ) → BeginsWithTag (codes "/>") b tag rest → BeginsWithPiece b (leaf tag) rest
leaf_piece b tag rest h = record { octets = h.0; is = h.1; spelled = h.2; follows = tt }

start_piece : (b : List ℕ) (tag : Tag) (rest : List ℕ) → BeginsWithTag (codes ">") b tag rest → BeginsWithPiece b (start tag) rest
start_piece b tag rest h = record { octets = h.0; is = h.1; spelled = h.2; follows = tt }

-- what is read at a close was closed so
closed_one : (b close c : List ℕ) (make : Piece) (p : Piece) (rest : List ℕ) → ((left : List ℕ) → c ≡ close ++ left → BeginsWithPiece b make left) → ◌>>=◌ {B = Piece × List ℕ} (behind close c) (λ r. Some (make, r)) ≡ Some (p, rest) → BeginsWithPiece b p rest
closed_one b close c make p rest f e =
    let q = came (behind close c) (λ r. Some (make, r)) (p, rest) e in
    subst (λ (x : Piece × List ℕ). BeginsWithPiece b x.0 x.1) (same_some (make, q.0) (p, rest) q.2) (f q.0 (front_is close c q.0 q.1))

closed_is : (b : List ℕ) (tag : Tag) (c : List ℕ) (p : Piece) (rest : List ℕ) → ((left : List ℕ) → c ≡ codes "/>" ++ left → BeginsWithPiece b (leaf tag) left) → ((left : List ℕ) → c ≡ codes ">" ++ left → BeginsWithPiece b (start tag) left) → closed_at tag c ≡ Some (p, rest) → BeginsWithPiece b p rest
closed_is b tag c p rest f g e =
    or_either (behind (codes "/>") c >>= λ r. Some (leaf tag, r)) (behind (codes ">") c >>= λ r. Some (start tag, r)) (p, rest) (closed_one b (codes "/>") c (leaf tag) p rest f) (closed_one b (codes ">") c (start tag) p rest g) e

pub tag_is : (b : List ℕ) (p : Piece) (rest : List ℕ) → tag_at b ≡ Some (p, rest) → BeginsWithPiece (60 ∷ b) p rest
unfolding tag_at
tag_is b p rest e =
    let q = came (name_at b) (λ n. until no_attribute attribute_at n.1 >>= λ a. closed_at (record { name = n.0; attributes = a.0 }) (past_white a.1)) (p, rest) e in
    let r = came (until no_attribute attribute_at q.0.1) (λ a. closed_at (record { name = q.0.0; attributes = a.0 }) (past_white a.1)) (p, rest) q.2 in
    let tag : Tag = record { name = q.0.0; attributes = r.0.0 } in
    closed_is (60 ∷ b) tag (past_white r.0.1) p rest (λ left h. leaf_piece (60 ∷ b) tag left (tag_built (codes "/>") b q.0.0 q.0.1 r.0.0 r.0.1 left q.1 r.1 h)) (λ left h. start_piece (60 ∷ b) tag left (tag_built (codes ">") b q.0.0 q.0.1 r.0.0 r.0.1 left q.1 r.1 h)) r.2

-- ---- ends

end_regroup : (n w rest : List ℕ) → (n ++ (w ++ 62 ∷ [])) ++ rest ≡ n ++ (w ++ 62 ∷ rest)
end_regroup n w rest = simp append_assoc

pub end_read : (octets name rest : List ℕ) → IsEndSpelling octets name → piece_at (octets ++ rest) ≡ Some (end name, rest)
unfolding piece_at markup_at end_at ◌>>=◌
end_read octets name rest h =
    ap piece_at (ap (λ (l : List ℕ). l ++ rest) h.is ∙ ap (λ (l : List ℕ). 60 ∷ 47 ∷ l) (end_regroup name h.white rest))
    ∙ rw (name_read name (h.white ++ 62 ∷ rest) h.lawful h.name_octets (white_then_stops h.white (62 ∷ rest) h.all_white (refl, refl)), white_passed h.white (62 ∷ rest) h.all_white) refl

end_chain : (b b1 b2 n w rest : List ℕ) → b ≡ n ++ b1 → b1 ≡ w ++ b2 → b2 ≡ 62 ∷ rest → b ≡ n ++ (w ++ 62 ∷ rest)
end_chain b b1 b2 n w rest e f g = cc

end_built : (b n behind_name rest : List ℕ) → name_at b ≡ Some (n, behind_name) → behind (codes ">") (past_white behind_name) ≡ Some rest → BeginsWithPiece (60 ∷ 47 ∷ b) (end n) rest
end_built b n behind_name rest e f =
    let w = front_of is_white behind_name in
    let p = name_is b n behind_name e in
    let is : b ≡ (n ++ (w ++ 62 ∷ [])) ++ rest = end_chain b behind_name (past_white behind_name) n w rest p.0 (white_front behind_name) (front_is (codes ">") (past_white behind_name) rest f) ∙ sym (end_regroup n w rest) in
    record {
      octets = 60 ∷ 47 ∷ (n ++ (w ++ 62 ∷ []));
      is = ap (λ (l : List ℕ). 60 ∷ 47 ∷ l) is;
      spelled = record { white = w; is = refl; lawful = p.1; name_octets = p.2; all_white = front_passes is_white behind_name };
      follows = tt;
    }

pub end_is : (b : List ℕ) (p : Piece) (rest : List ℕ) → end_at b ≡ Some (p, rest) → BeginsWithPiece (60 ∷ 47 ∷ b) p rest
unfolding end_at
end_is b p rest e =
    let q = came (name_at b) (λ n. behind (codes ">") (past_white n.1) >>= λ r. Some (end n.0, r)) (p, rest) e in
    let r = came (behind (codes ">") (past_white q.0.1)) (λ r. Some (end q.0.0, r)) (p, rest) q.2 in
    subst (λ (x : Piece × List ℕ). BeginsWithPiece (60 ∷ 47 ∷ b) x.0 x.1) (same_some (end q.0.0, r.0) (p, rest) r.2) (end_built b q.0.0 q.0.1 r.0 q.1 r.1)

-- ---- comments and instructions

-- a front that is no longer than x stands in x
within : (k : List ℕ) (x rest back : List ℕ) → length k ≤ length x → x ++ rest ≡ k ++ back → (more : List ℕ) × (x ≡ k ++ more)
within [] x rest back le e = (x, refl)
within (c ∷ k) [] rest back le e = absurd (omega arith)
within (c ∷ k) (d ∷ x) rest back le e =
    let head : d ≡ c = cc in
    let tail : x ++ rest ≡ k ++ back = cc in
    let more = within k x rest back (omega arith) tail in
    (more.0, ap (λ (z : ℕ). z ∷ x) head ∙ ap (λ (l : List ℕ). c ∷ l) more.1)

no_length : (back : List ℕ) → length back ≡ 0 → back ≡ []
no_length [] e = refl
no_length (c ∷ back) e = absurd (omega arith)

-- behind `inside`, the close stands at the end, and nowhere earlier
abbrev IsFirst : List ℕ → List ℕ → Type 0
IsFirst close inside = (front back : List ℕ) → inside ++ close ≡ front ++ (close ++ back) → back ≡ []

-- the close does not stand where more than it is left
not_here : (close inside rest r : List ℕ) (d : ℕ) → IsFirst close (d ∷ inside) → behind close (d ∷ (inside ++ (close ++ rest))) ≡ Some r → ⊥
not_here close inside rest r d h e =
    let whole : (d ∷ (inside ++ close)) ++ rest ≡ close ++ r = ap (λ (l : List ℕ). d ∷ l) (append_assoc inside close rest) ∙ front_is close (d ∷ (inside ++ (close ++ rest))) r e in
    let long : length (d ∷ (inside ++ close)) ≡ suc (length inside + length close) = ap (λ (n : ℕ). suc n) (length-append inside close) in
    let more = within close (d ∷ (inside ++ close)) rest r (omega arith) whole in
    let none : more.0 ≡ [] = h [] more.0 more.1 in
    let sizes : length (d ∷ (inside ++ close)) ≡ length close + length more.0 = ap length more.1 ∙ length-append close more.0 in
    let zero_more : length more.0 ≡ 0 = ap length none in
    omega arith

next_found : (c : ℕ) (close b rest : List ℕ) → behind (c ∷ close) b ≡ Some rest → past_next (c ∷ close) b ≡ Some rest
next_found c close [] rest e = absurd (none_some rest e)
next_found c close (d ∷ b) rest e = rw e refl

or_second : {X : Type 0} (a b : Option X) (y : X) → ((x : X) → a ≡ Some x → ⊥) → b ≡ Some y → or_else a b ≡ Some y
or_second None b y never e = e
or_second (Some x) b y never e = absurd (never x refl)

next_is : (c : ℕ) (close inside rest : List ℕ) → IsFirst (c ∷ close) inside → past_next (c ∷ close) (inside ++ ((c ∷ close) ++ rest)) ≡ Some rest
next_is c close [] rest h = next_found c close ((c ∷ close) ++ rest) rest (front_there (c ∷ close) rest)
next_is c close (d ∷ inside) rest h =
    or_second (behind (c ∷ close) (d ∷ (inside ++ ((c ∷ close) ++ rest)))) (past_next (c ∷ close) (inside ++ ((c ∷ close) ++ rest))) rest (λ r e. not_here (c ∷ close) inside rest r d h e)
    (next_is c close inside rest (λ front back e. h (d ∷ front) back (ap (λ (l : List ℕ). d ∷ l) e)))

-- where the close is found it stands, and nowhere earlier
abbrev Found : List ℕ → List ℕ → List ℕ → Type 0
Found close b rest = (inside : List ℕ) × (b ≡ inside ++ (close ++ rest)) × IsFirst close inside

nothing_more : (close front back : List ℕ) → close ≡ front ++ (close ++ back) → back ≡ []
nothing_more close front back e =
    let long : length close ≡ length front + length (close ++ back) = ap length e ∙ length-append front (close ++ back) in
    let longer : length (close ++ back) ≡ length close + length back = length-append close back in
    no_length back (omega arith)

-- a place one octet earlier: the close stands not there
earlier : (close inside rest b : List ℕ) (d : ℕ) → behind close (d ∷ b) ≡ None → b ≡ inside ++ (close ++ rest) → IsFirst close inside → IsFirst close (d ∷ inside)
earlier close inside rest b d none is h [] back e =
    let whole : d ∷ b ≡ close ++ (back ++ rest) = ap (λ (l : List ℕ). d ∷ l) (is ∙ sym (append_assoc inside close rest)) ∙ ap (λ (l : List ℕ). l ++ rest) e ∙ append_assoc close back rest in
    absurd (none_some (back ++ rest) (sym none ∙ ap (behind close) whole ∙ front_there close (back ++ rest)))
earlier close inside rest b d none is h (f ∷ front) back e = let tail : inside ++ close ≡ front ++ (close ++ back) = cc in h front back tail

next_was : (close b rest : List ℕ) → past_next close b ≡ Some rest → Found close b rest
next_was close [] rest e = absurd (none_some rest e)
next_was close (d ∷ b) rest e = go (behind close (d ∷ b)) refl (past_next close b) (λ r f. next_was close b r f) e
  where
    go : (o : Option (List ℕ)) → behind close (d ∷ b) ≡ o → (p : Option (List ℕ)) → ((r : List ℕ) → p ≡ Some r → Found close b r) → or_else o p ≡ Some rest → Found close (d ∷ b) rest
    go (Some r) is p later f = ([], front_is close (d ∷ b) rest (is ∙ f), λ front back k. nothing_more close front back k)
    go None is p later f =
        let found = later rest f in
        (d ∷ found.0, ap (λ (l : List ℕ). d ∷ l) found.1, earlier close found.0 rest b d is found.1 found.2)

pub comment_read : (octets rest : List ℕ) → IsComment octets → piece_at (octets ++ rest) ≡ Some (passed_over, rest)
unfolding piece_at markup_at passed_at ◌>>=◌
comment_read octets rest h =
    ap piece_at (ap (λ (l : List ℕ). l ++ rest) h.is ∙ ap (λ (l : List ℕ). codes "<!--" ++ l) (append_assoc h.inside (codes "-->") rest))
    ∙ rw (next_is 45 (45 ∷ 62 ∷ []) h.inside rest h.last) refl

pub instruction_read : (octets rest : List ℕ) → IsInstruction octets → piece_at (octets ++ rest) ≡ Some (passed_over, rest)
unfolding piece_at markup_at passed_at ◌>>=◌
instruction_read octets rest h =
    ap piece_at (ap (λ (l : List ℕ). l ++ rest) h.is ∙ ap (λ (l : List ℕ). codes "<?" ++ l) (append_assoc h.inside (codes "?>") rest))
    ∙ rw (next_is 63 (62 ∷ []) h.inside rest h.last) refl

-- octets behind an opening that are passed over were between it and the first close
pub passed_is : (opening close b : List ℕ) (p : Piece) (rest : List ℕ) → passed_at close b ≡ Some (p, rest) → (passed_over ≡ p) × ((octets : List ℕ) × (opening ++ b ≡ octets ++ rest) × IsBetween opening close octets)
unfolding passed_at
passed_is opening close b p rest e =
    let q = came (past_next close b) (λ r. Some (passed_over, r)) (p, rest) e in
    let same : (passed_over, q.0) ≡ (p, rest) = same_some (passed_over, q.0) (p, rest) q.2 in
    let left : q.0 ≡ rest = ap (λ (x : Piece × List ℕ). x.1) same in
    let found = next_was close b rest (q.1 ∙ ap (λ (l : List ℕ). Some l) left) in
    let is : opening ++ b ≡ (opening ++ (found.0 ++ close)) ++ rest = ap (λ (l : List ℕ). opening ++ l) (found.1 ∙ sym (append_assoc found.0 close rest)) ∙ sym (append_assoc opening (found.0 ++ close) rest) in
    (ap (λ (x : Piece × List ℕ). x.0) same, (opening ++ (found.0 ++ close), is, record { inside = found.0; is = refl; last = found.2 }))

-- ---- text runs

-- where an octet stands that is no `<`, a run begins
pub run_begins : (b : List ℕ) → ends_at true 60 b ≡ false → piece_at b ≡ run_at b
unfolding piece_at
run_begins [] h = absurd (true_false h)
run_begins (c ∷ b) h = rw h refl

ends_same : (b : List ℕ) → ends_at true 60 b ≡ is_markup_or_end b
ends_same [] = refl
ends_same (c ∷ b) = refl

first_character : (characters : List (List ℕ)) (text rest : List ℕ) → is_nil text ≡ false → IsValueSpelling 60 characters text → ends_at true 60 (concatenated characters ++ rest) ≡ false
first_character characters [] rest some h = absurd (true_false some)
first_character [] (c ∷ text) rest some h = absurd h
first_character (s ∷ more) (c ∷ text) rest some h = ap (ends_at true 60) (append_assoc s (concatenated more) rest) ∙ (spelled_character_read true 60 c s (concatenated more ++ rest) refl h.0).0

pub run_read : (octets text rest : List ℕ) → IsRunSpelling octets text → is_markup_or_end rest ≡ true → piece_at (octets ++ rest) ≡ Some (run text, rest)
unfolding run_at ◌>>=◌
run_read octets text rest h follows =
    let b = concatenated h.characters ++ rest in
    let read = (characters_both true 60 b text rest).1 (characters_run true 60 h.characters text rest refl (ends_same rest ∙ follows) h.spelled) in
    ap piece_at (ap (λ (l : List ℕ). l ++ rest) h.is) ∙ run_begins b (first_character h.characters text rest h.some h.spelled) ∙ rw read refl

stopped : {X : Type 0} (stops : List ℕ → Bool) (at : List ℕ → Option (X × List ℕ)) (b : List ℕ) (list : List X) (rest : List ℕ) → RunsTo stops at b list rest → stops rest ≡ true
stopped stops at b [] rest h = subst (λ (l : List ℕ). stops l ≡ true) h.0 h.1
stopped stops at b (x ∷ list) rest h = stopped stops at h.1.0 list rest h.1.2

some_text : (b text rest : List ℕ) → ends_at true 60 b ≡ false → RunsTo (ends_at true 60) character_at b text rest → is_nil text ≡ false
some_text b [] rest off h = absurd (true_false (sym h.1 ∙ off))
some_text b (c ∷ text) rest off h = refl

run_built : (b text rest : List ℕ) → ends_at true 60 b ≡ false → RunsTo (ends_at true 60) character_at b text rest → BeginsWithPiece b (run text) rest
run_built b text rest off runs =
    let p = characters_are true 60 b text rest runs in
    record {
      octets = concatenated p.0;
      is = p.1;
      spelled = record { characters = p.0; is = refl; spelled = p.2; some = some_text b text rest off runs };
      follows = sym (ends_same rest) ∙ stopped (ends_at true 60) character_at b text rest runs;
    }

pub run_is : (b : List ℕ) (p : Piece) (rest : List ℕ) → ends_at true 60 b ≡ false → run_at b ≡ Some (p, rest) → BeginsWithPiece b p rest
unfolding run_at
run_is b p rest off e =
    let q = came (until (ends_at true 60) character_at b) (λ t. Some (run t.0, t.1)) (p, rest) e in
    subst (λ (x : Piece × List ℕ). BeginsWithPiece b x.0 x.1) (same_some (run q.0.0, q.0.1) (p, rest) q.2) (run_built b q.0.0 q.0.1 off ((characters_both true 60 b q.0.0 q.0.1).0 q.1))
