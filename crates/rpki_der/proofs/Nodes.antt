-- The values that octets spell, and the entries of the values in a value.
use Rattle.std.proofs.Common.{◌≡◌, ℕ, suc, ◌+◌, ◌-◌, ◌<◌, ◌≤◌, false, true, List, [], ◌∷◌, ◌++◌, length, take, drop, refl, sym, ap, subst, ◌∙◌, append_assoc, arith, length-append}
use Rattle.std.proofs.lemmas.List.{append-nil, take_at, drop_at}
use Rattle.rpki_der.specs.declared.mode.Mode.TheVariants.{Ber}
use Rattle.rpki_der.specs.declared.tree.Entry.{Entry}
use Rattle.rpki_der.specs.Value.{Indefinite, Value, Primitive, Constructed, Values, End, ◌▸◌, lengths_of, end_mark, spelling, spellings, AreValues, Begins}
use Rattle.rpki_der.specs.Item.{item}
use Rattle.rpki_der.specs.Ticks.{nodes, all_nodes}
use Rattle.rpki_der.specs.Tree.{value_of, inside, each, value_in, values_in}
use Rattle.rpki_der.specs.Entries.{entry_of, entries_of, all_entries_of, IsNode, AreNodes, IsTree}
use Rattle.rpki_der.proofs.Decoding.{value_at-begins}

-- ---- the octets

pub value_in-is : (octets : List ℕ) (v : Value) (rest : List ℕ) → Begins Ber octets v rest → value_in octets ≡ v
unfolding value_in
value_in-is octets v rest b = ap value_of (value_at-begins Ber octets v rest b)

marked : (octets : List ℕ) (vs : Values) → AreValues Ber vs → octets ≡ spellings vs → Begins Ber (48 ∷ 128 ∷ (octets ++ 0 ∷ 0 ∷ [])) (Constructed (48 ∷ []) Indefinite vs) []
marked octets vs p e = record {
  lawful = ((λ (h : 16 ≡ 31). absurd (omega (arith, h)), λ (h : 48 ≡ 0). absurd (omega (arith, h)), λ (h : 48 ≡ 32). absurd (omega (arith, h))), refl, tt, p);
  parts = ap (λ o. 48 ∷ 128 ∷ (o ++ 0 ∷ 0 ∷ [])) e ∙ sym (append-nil (48 ∷ 128 ∷ (spellings vs ++ 0 ∷ 0 ∷ [])));
}

pub values_in-are : (octets : List ℕ) (vs : Values) → AreValues Ber vs → octets ≡ spellings vs → values_in octets ≡ vs
unfolding values_in
values_in-are octets vs p e = ap inside (value_in-is (48 ∷ 128 ∷ (octets ++ 0 ∷ 0 ∷ [])) (Constructed (48 ∷ []) Indefinite vs) [] (marked octets vs p e))

whole : (octets : List ℕ) (v : Value) → Begins Ber octets v [] → octets ≡ spelling v
whole octets v b = b.parts ∙ append-nil (spelling v)

-- ---- the entries

pub entries_front : (v : Value) → entries_of v ≡ entry_of v ∷ all_entries_of (inside v)
entries_front (Primitive i l c) = refl
entries_front (Constructed i f vs) = refl

mutual
  pub count : (v : Value) → length (entries_of v) ≡ nodes v
  count (Primitive i l c) = refl
  count (Constructed i f vs) = omega (arith, all_count vs)

  pub all_count : (vs : Values) → length (all_entries_of vs) ≡ all_nodes vs
  all_count End = refl
  all_count (v ▸ vs) = length-append (entries_of v) (all_entries_of vs) ∙ omega (arith, count v, all_count vs)

-- ---- a node of the tree

pub record FirstNode (vs : Values) (octets : List ℕ) (entry : Entry) (more : List Entry) : Type 0 where
  pub value : Value
  pub values : Values
  pub is : vs ≡ value ▸ values
  pub fits : entry.size ≤ length octets
  pub all : entry.count ≤ length more
  pub node : IsNode value (take entry.size octets) entry (take entry.count more)
  pub others : AreNodes values (drop entry.size octets) (drop entry.count more)

head_is : (e f : Entry) (es fs : List Entry) → e ∷ es ≡ f ∷ fs → e ≡ f
head_is e f es fs h = cc

tail_is : (e f : Entry) (es fs : List Entry) → e ∷ es ≡ f ∷ fs → es ≡ fs
tail_is e f es fs h = cc

pub first_node : (vs : Values) (octets : List ℕ) (entry : Entry) (more : List Entry) → AreNodes vs octets (entry ∷ more) → FirstNode vs octets entry more
first_node End octets entry more a = let no : entry ∷ more ≡ [] = a.entries' in absurd cc
first_node (v ▸ vs) octets entry more a =
    let both : entry ∷ more ≡ entry_of v ∷ (all_entries_of (inside v) ++ all_entries_of vs) = a.entries' ∙ ap (λ es. es ++ all_entries_of vs) (entries_front v) in
    let e : entry ≡ entry_of v = head_is entry (entry_of v) more _ both in
    let t : more ≡ all_entries_of (inside v) ++ all_entries_of vs = tail_is entry (entry_of v) more _ both in
    let size : entry.size ≡ length (spelling v) = ap (λ (x : Entry). x.size) e in
    let count : entry.count ≡ length (all_entries_of (inside v)) = ap (λ (x : Entry). x.count) e ∙ sym (all_count (inside v)) in
    let front : take entry.size octets ≡ spelling v = rw (size, a.octets') (take_at (spelling v) (spellings vs) (length (spelling v)) refl) in
    let back : drop entry.size octets ≡ spellings vs = rw (size, a.octets') (drop_at (spelling v) (spellings vs) (length (spelling v)) refl) in
    let own : take entry.count more ≡ all_entries_of (inside v) = rw (count, t) (take_at (all_entries_of (inside v)) (all_entries_of vs) (length (all_entries_of (inside v))) refl) in
    let rest : drop entry.count more ≡ all_entries_of vs = rw (count, t) (drop_at (all_entries_of (inside v)) (all_entries_of vs) (length (all_entries_of (inside v))) refl) in
    record {
      value = v;
      values = vs;
      is = refl;
      fits = omega (arith, size, simp length-append at (ap length a.octets'));
      all = omega (arith, count, simp length-append at (ap length t));
      node = record { begins = record { lawful = a.lawful.0; parts = front ∙ sym (append-nil (spelling v)) }; entry' = e; inner' = own };
      others = record { lawful = a.lawful.1; octets' = back; entries' = rest };
    }

-- ---- its contents

pub record Contents (v : Value) (octets : List ℕ) (header mark : ℕ) : Type 0 where
  pub fits : mark ≤ length octets
  pub ordered : header ≤ length octets - mark
  pub content : take (length octets - mark - header) (drop header octets) ≡ (item v).content

content_between : (a b c : List ℕ) (octets : List ℕ) (header mark : ℕ) → octets ≡ a ++ (b ++ c) → header ≡ length a → mark ≡ length c → (mark ≤ length octets) × (header ≤ length octets - mark) × (take (length octets - mark - header) (drop header octets) ≡ b)
content_between a b c octets header mark e h m =
    let long : length octets ≡ length a + (length b + length c) = simp length-append at (ap length e) in
    let size : length octets - mark - header ≡ length b = omega (arith, long, m, h) in
    let behind : drop header octets ≡ b ++ c = rw (h, e) (drop_at a (b ++ c) (length a) refl) in
    (omega (arith, long, m), omega (arith, long, m, h), rw (size, behind) (take_at b c (length b) refl))

pub contents : (v : Value) (octets : List ℕ) (entry : Entry) (inner : List Entry) → IsNode v octets entry inner → Contents v octets entry.header entry.mark
contents (Primitive i l c) octets entry inner n =
    let e : octets ≡ (i ++ l) ++ (c ++ []) = whole octets (Primitive i l c) n.begins ∙ sym (append_assoc i l c) ∙ ap (λ x. (i ++ l) ++ x) (sym (append-nil c)) in
    let w = content_between (i ++ l) c [] octets entry.header entry.mark e (ap (λ (x : Entry). x.header) n.entry' ∙ sym (length-append i l)) (ap (λ (x : Entry). x.mark) n.entry') in
    record { fits = w.0; ordered = w.1; content = w.2 }
contents (Constructed i f vs) octets entry inner n =
    let e : octets ≡ (i ++ lengths_of f) ++ (spellings vs ++ end_mark f) = whole octets (Constructed i f vs) n.begins ∙ sym (append_assoc i (lengths_of f) (spellings vs ++ end_mark f)) in
    let w = content_between (i ++ lengths_of f) (spellings vs) (end_mark f) octets entry.header entry.mark e (ap (λ (x : Entry). x.header) n.entry' ∙ sym (length-append i (lengths_of f))) (ap (λ (x : Entry). x.mark) n.entry') in
    record { fits = w.0; ordered = w.1; content = w.2 }

-- ---- the values inside it

pub inside_nodes : (v : Value) (octets content : List ℕ) (entry : Entry) (inner : List Entry) → IsNode v octets entry inner → (item v).constructed ≡ true → content ≡ (item v).content → AreNodes (inside v) content inner
inside_nodes (Primitive i l c) octets content entry inner n t e = let no : false ≡ true = t in absurd cc
inside_nodes (Constructed i f vs) octets content entry inner n t e = record { lawful = n.begins.lawful.3; octets' = e; entries' = n.inner' }

pub inside_none : (v : Value) (octets : List ℕ) (entry : Entry) (inner : List Entry) → IsNode v octets entry inner → (item v).constructed ≡ false → AreNodes (inside v) [] inner
inside_none (Primitive i l c) octets entry inner n t = record { lawful = tt; octets' = refl; entries' = n.inner' }
inside_none (Constructed i f vs) octets entry inner n t = let no : true ≡ false = t in absurd cc

-- ---- the nodes of octets

pub are_nodes : (vs : Values) (octets : List ℕ) (entries : List Entry) → AreNodes vs octets entries → values_in octets ≡ vs
are_nodes vs octets entries a = values_in-are octets vs a.lawful a.octets'

pub nodes_in : (vs : Values) (octets : List ℕ) (entries : List Entry) → AreNodes vs octets entries → AreNodes (values_in octets) octets entries
nodes_in vs octets entries a = subst (λ (ws : Values). AreNodes ws octets entries) (sym (are_nodes vs octets entries a)) a

pub node_in : (v : Value) (octets : List ℕ) (entry : Entry) (inner : List Entry) → IsNode v octets entry inner → IsNode (value_in octets) octets entry inner
node_in v octets entry inner n = subst (λ (w : Value). IsNode w octets entry inner) (sym (value_in-is octets v [] n.begins)) n

pub tree_in : (v : Value) (octets : List ℕ) (entries : List Entry) → Begins Ber octets v [] → entries ≡ entries_of v → IsTree (value_in octets) octets entries
tree_in v octets entries b e = subst (λ (w : Value). IsTree w octets entries) (sym (value_in-is octets v [] b)) (record { begins = b; entries' = e })

-- ---- the root

pub some_entry : (v : Value) (octets : List ℕ) (entries : List Entry) → IsTree v octets entries → 0 < length entries
some_entry v octets entries t = rw (t.entries', entries_front v) (omega arith)

-- ---- the next of the values

pub record NextNode (octets : List ℕ) (entry : Entry) (more : List Entry) : Type 0 where
  pub fits : entry.size ≤ length octets
  pub all : entry.count ≤ length more
  pub node : IsNode (value_in (take entry.size octets)) (take entry.size octets) entry (take entry.count more)
  pub others : AreNodes (values_in (drop entry.size octets)) (drop entry.size octets) (drop entry.count more)
  pub steps : each (values_in octets) ≡ value_in (take entry.size octets) ∷ each (values_in (drop entry.size octets))

pub next_node : (octets : List ℕ) (entries : List Entry) (entry : Entry) (more : List Entry) → AreNodes (values_in octets) octets entries → entries ≡ entry ∷ more → NextNode octets entry more
next_node octets entries entry more a e =
    let f = first_node (values_in octets) octets entry more (subst (λ (es : List Entry). AreNodes (values_in octets) octets es) e a) in
    let v : value_in (take entry.size octets) ≡ f.value = value_in-is (take entry.size octets) f.value [] f.node.begins in
    let vs : values_in (drop entry.size octets) ≡ f.values = are_nodes f.values (drop entry.size octets) (drop entry.count more) f.others in
    record {
      fits = f.fits;
      all = f.all;
      node = node_in f.value (take entry.size octets) entry (take entry.count more) f.node;
      others = nodes_in f.values (drop entry.size octets) (drop entry.count more) f.others;
      steps = ap each f.is ∙ sym (rw (v, vs) refl);
    }

none_left : (vs : Values) (octets : List ℕ) (entries : List Entry) → AreNodes vs octets entries → length entries ≡ 0 → each vs ≡ []
none_left End octets entries a e = refl
none_left (v ▸ vs) octets entries a e =
    let long : length entries ≡ length (entries_of v) + length (all_entries_of vs) = ap length a.entries' ∙ length-append (entries_of v) (all_entries_of vs) in
    let some : length (entries_of v) ≡ suc (length (all_entries_of (inside v))) = ap length (entries_front v) in absurd (omega (arith, long, some, e))

pub no_more : (octets : List ℕ) (entries : List Entry) → AreNodes (values_in octets) octets entries → length entries ≡ 0 → each (values_in octets) ≡ []
no_more octets entries a e = none_left (values_in octets) octets entries a e

-- ---- the values inside a node

pub record ChildNodes (v : Value) (content : List ℕ) (inner : List Entry) : Type 0 where
  pub nodes' : AreNodes (values_in content) content inner
  pub each' : each (values_in content) ≡ each (inside v)

children : (v : Value) (content : List ℕ) (inner : List Entry) → AreNodes (inside v) content inner → ChildNodes v content inner
children v content inner a = record { nodes' = nodes_in (inside v) content inner a; each' = ap each (are_nodes (inside v) content inner a) }

pub children_of : (v : Value) (octets content : List ℕ) (entry : Entry) (inner : List Entry) → IsNode v octets entry inner → entry.constructed ≡ true → content ≡ (item v).content → ChildNodes v content inner
children_of v octets content entry inner n t e = children v content inner (inside_nodes v octets content entry inner n (sym (ap (λ (x : Entry). x.constructed) n.entry') ∙ t) e)

pub no_children : (v : Value) (octets : List ℕ) (entry : Entry) (inner : List Entry) → IsNode v octets entry inner → entry.constructed ≡ false → ChildNodes v [] inner
no_children v octets entry inner n t = children v [] inner (inside_none v octets entry inner n (sym (ap (λ (x : Entry). x.constructed) n.entry') ∙ t))
