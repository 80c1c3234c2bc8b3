-- Going through the levels of one value, and noting what was met.
use Rattle.std.proofs.Common.{◌≡◌, ℕ, zero, suc, ◌+◌, ◌-◌, ◌<◌, ◌≤◌, false, true, Some, List, [], ◌∷◌, ◌++◌, length, take, drop, get_or, set, map, refl, sym, ap, subst, ◌∙◌, append_assoc, arith, length-append}
use Rattle.std.specs.Prelude.{slice_get}
use Rattle.std.proofs.lemmas.List.{reverse-append, append-nil, take_more, take_all, take_at, drop_at}
use Rattle.std.proofs.lemmas.Option.{slice_get_within, get_or_from_slice_get}
use Rattle.rpki_der.specs.declared.mode.Mode.{Mode}
use Rattle.rpki_der.specs.declared.tree.Entry.{Entry}
use Rattle.rpki_der.specs.declared.index.Inside.{Inside}
use Rattle.rpki_der.specs.Identifier.{tag_of}
use Rattle.rpki_der.specs.Value.{Form, Value, Primitive, Constructed, Values, End, ◌▸◌, lengths_of, end_mark, spelling, spellings, Begins}
use Rattle.rpki_der.specs.Level.{Level, Sized, Marked, mark_of, behind_level, LevelHolds, EndsLevel, Opens}
use Rattle.rpki_der.specs.Part.{level_of, NoValue}
use Rattle.rpki_der.specs.Ticks.{all_nodes}
use Rattle.rpki_der.specs.declared.mode.Mode.TheVariants.{Ber}
use Rattle.rpki_der.specs.Tree.{value_in}
use Rattle.rpki_der.specs.Entries.{entries_of, all_entries_of, IsTree}
use Rattle.rpki_der.specs.Growth.{entries_closed, inner_first, CompletesTree, OneFirstTree, Stepped, DescendsTree, left_at}
use Rattle.rpki_der.proofs.Uniqueness.{three_parts}
use Rattle.rpki_der.proofs.Parts.{at_most_one}
use Rattle.rpki_der.proofs.Walks.{holds_cons, holds_more, holds_end, end_holds, at_end, ends_no_value, opens_back, opens_forth, smaller_end}
use Rattle.rpki_der.proofs.Strict.{in_ber}
use Rattle.rpki_der.proofs.Nodes.{all_count, value_in-is, tree_in}

-- ---- over a primitive value

pub stepped_over : (mode : Mode) (here i l c rest : List ℕ) (levels : List Inside) (entries : List Entry) (header size : ℕ) → Begins mode here (Primitive i l c) rest → size ≡ length here - length rest → header ≡ size - length c → Stepped mode here levels entries rest levels (entries ++ record { tag = tag_of i; constructed = false; header = header; mark = 0; size = size; count = 0 } ∷ [])
stepped_over mode here i l c rest levels entries header size b s h =
    let whole : length here ≡ length i + (length l + length c) + length rest = simp length-append at (ap length b.parts) in
    let size-is : size ≡ length (i ++ (l ++ c)) = omega (arith, simp length-append at (ap length (three_parts i l c [])), length-append i (l ++ c), length-append l c) in
    let header-is : header ≡ length i + length l = omega (arith, length-append i (l ++ c), length-append l c) in
    let node : entries ++ record { tag = tag_of i; constructed = false; header = header; mark = 0; size = size; count = 0 } ∷ [] ≡ entries ++ entries_of (Primitive i l c) = rw (size-is, header-is) refl in
    record {
      forth = λ final total p.
          let s = at_most_one mode here p.0 (Primitive i l c) p.1 rest p.2 b in
          let k = subst (λ (v : Value). CompletesTree mode p.1 levels (entries ++ entries_of v) final total) s.value p.3 in
          rw node (subst (λ (r : List ℕ). CompletesTree mode r levels (entries ++ entries_of (Primitive i l c)) final total) s.rest k);
      back = λ final total k. (Primitive i l c, rest, b, rw node at k);
    }

-- ---- into a constructed value

closed_behind : (entries : List Entry) (e : Entry) (more : List Entry) (n : ℕ) → entries_closed ((entries ++ e ∷ []) ++ more) (length entries) n ≡ entries ++ record e { size = n; count = length more } ∷ more
closed_behind [] e more n = refl
closed_behind (d ∷ entries) e more n = ap (λ es. d ∷ es) (closed_behind entries e more n)

header_size : (mode : Mode) (here i : List ℕ) (level : Level) (inner : List ℕ) (form : Form) (vs : Values) (next : List ℕ) → Begins mode here (Constructed i form vs) next → end_mark form ≡ mark_of level → LevelHolds mode level inner vs next → length i + length (lengths_of form) ≡ (length here - behind_level level) - length inner
header_size mode here i (Sized after) inner form vs next b f h =
    let whole : length here ≡ length i + length (lengths_of form) + length (spellings vs) + length (end_mark form) + length next = omega (arith, simp length-append at (ap length b.parts)) in
    let mark : length (end_mark form) ≡ 0 = ap length f in
    let all : length inner ≡ length (spellings vs) = ap length h.1 in
    let rest : length after ≡ length next = ap length h.2 in omega arith
header_size mode here i Marked inner form vs next b f h =
    let whole : length here ≡ length i + length (lengths_of form) + length (spellings vs) + length (end_mark form) + length next = omega (arith, simp length-append at (ap length b.parts)) in
    let mark : length (end_mark form) ≡ 2 = ap length f in
    let all : length inner ≡ length (spellings vs) + (2 + length next) = omega (arith, simp length-append at (ap length h.1)) in omega arith

value_size : (mode : Mode) (here : List ℕ) (v : Value) (next : List ℕ) → Begins mode here v next → length (spelling v) ≡ length here - length next
value_size mode here v next b = omega (arith, simp length-append at (ap length b.parts))

-- the entry of a constructed value, before its end was read
abbrev opening : List ℕ → ℕ → Level → ℕ → Entry
opening i header level size = record { tag = tag_of i; constructed = true; header = header; mark = length (mark_of level); size = size; count = 0 }

-- the list that is left when the level ends
into_list : (mode : Mode) (here i : List ℕ) (level : Level) (inner : List ℕ) (form : Form) (vs : Values) (next : List ℕ) (entries : List Entry) (header size : ℕ) → Begins mode here (Constructed i form vs) next → end_mark form ≡ mark_of level → LevelHolds mode level inner vs next → header ≡ (length here - behind_level level) - length inner
    → entries_closed ((entries ++ opening i header level size ∷ []) ++ all_entries_of vs) (length entries) (length here - length next) ≡ entries ++ entries_of (Constructed i form vs)
into_list mode here i level inner form vs next entries header size b f h e =
    let header-is : header ≡ length i + length (lengths_of form) = e ∙ sym (header_size mode here i level inner form vs next b f h) in
    let size-is : length here - length next ≡ length (spelling (Constructed i form vs)) = sym (value_size mode here (Constructed i form vs) next b) in
    let mark-is : length (mark_of level) ≡ length (end_mark form) = ap length (sym f) in
    let count-is : length (all_entries_of vs) ≡ all_nodes vs = all_count vs in
    closed_behind entries (opening i header level size) (all_entries_of vs) (length here - length next) ∙ rw (header-is, size-is, mark-is, count-is) refl

pub stepped_into : (mode : Mode) (here i inner : List ℕ) (levels : List Inside) (level : Inside) (entries : List Entry) (header size : ℕ) → Opens mode here i (level_of level.extent) inner → level.entry ≡ length entries → level.before.now ≡ here → header ≡ (length here - behind_level (level_of level.extent)) - length inner → Stepped mode here levels entries inner (level ∷ levels) (entries ++ opening i header (level_of level.extent) size ∷ [])
stepped_into mode here i inner levels level entries header size o k before h = record {
  forth = λ final total p.
      let w = opens_forth mode here i (level_of level.extent) inner p.0 p.1 o p.2 in
      let b = subst (λ (v : Value). Begins mode here v p.1) w.is p.2 in
      let l = into_list mode here i (level_of level.extent) inner w.form w.values p.1 entries header size b w.fits w.holds h in
      let c = subst (λ (v : Value). CompletesTree mode p.1 levels (entries ++ entries_of v) final total) w.is p.3 in
      (w.values, p.1, w.holds, rw (k, before) (subst (λ (es : List Entry). CompletesTree mode p.1 levels es final total) (sym l) c));
  back = λ final total p.
      let w = opens_back mode here i (level_of level.extent) inner p.0 p.1 o p.2 in
      let l = into_list mode here i (level_of level.extent) inner w.form p.0 p.1 entries header size w.begins w.fits p.2 h in
      (Constructed i w.form p.0, p.1, w.begins, subst (λ (es : List Entry). CompletesTree mode p.1 levels es final total) l (rw (k, before) at p.3));
}

-- ---- levels as the code keeps them

inner_first-push : (levels : List Inside) (level : Inside) → inner_first (levels ++ level ∷ []) ≡ level ∷ inner_first levels
inner_first-push levels level = reverse-append levels (level ∷ [])

pub over_ok : (mode : Mode) (here i l c rest : List ℕ) (levels : List Inside) (entries entries' : List Entry) (tag : List ℕ) (header size : ℕ) → Begins mode here (Primitive i l c) rest → tag ≡ tag_of i → size ≡ length here - length rest → header ≡ size - length c → entries' ≡ entries ++ record { tag = tag; constructed = false; header = header; mark = 0; size = size; count = 0 } ∷ [] → DescendsTree mode here levels entries rest levels entries'
over_ok mode here i l c rest levels entries entries' tag header size b t s h e =
    rw (e, t) (stepped_over mode here i l c rest (inner_first levels) entries header size b s h)

pub into_ok : (mode : Mode) (here i inner : List ℕ) (levels levels' : List Inside) (level : Inside) (entries entries' : List Entry) (tag : List ℕ) (header mark size : ℕ) → Opens mode here i (level_of level.extent) inner → level.entry ≡ length entries → level.before.now ≡ here → tag ≡ tag_of i → size ≡ length here - behind_level (level_of level.extent) → header ≡ size - length inner → mark ≡ length (mark_of (level_of level.extent)) → entries' ≡ entries ++ record { tag = tag; constructed = true; header = header; mark = mark; size = size; count = 0 } ∷ [] → levels' ≡ levels ++ level ∷ [] → DescendsTree mode here levels entries inner levels' entries'
into_ok mode here i inner levels levels' level entries entries' tag header mark size o k before t s h m e f =
    let pushed : inner_first levels' ≡ level ∷ inner_first levels = ap inner_first f ∙ inner_first-push levels level in
    rw (e, t, m, pushed) (stepped_into mode here i inner (inner_first levels) level entries header size o k before (h ∙ ap (λ n. n - length inner) s))

-- ---- the end of a level

grouped : (entries : List Entry) (v : Value) (vs : Values) → entries ++ all_entries_of (v ▸ vs) ≡ (entries ++ entries_of v) ++ all_entries_of vs
grouped entries v vs = sym (append_assoc entries (entries_of v) (all_entries_of vs))

regroup : (mode : Mode) (next : List ℕ) (level : Inside) (levels : List Inside) (entries : List Entry) (v : Value) (vs : Values) (final : List ℕ) (total : List Entry) → CompletesTree mode next levels (entries_closed (entries ++ all_entries_of (v ▸ vs)) level.entry (length level.before.now - length next)) final total → CompletesTree mode next levels (entries_closed ((entries ++ entries_of v) ++ all_entries_of vs) level.entry (length level.before.now - length next)) final total
regroup mode next level levels entries v vs final total k = subst (λ (es : List Entry). CompletesTree mode next levels (entries_closed es level.entry (length level.before.now - length next)) final total) (grouped entries v vs) k

regroup_back : (mode : Mode) (next : List ℕ) (level : Inside) (levels : List Inside) (entries : List Entry) (v : Value) (vs : Values) (final : List ℕ) (total : List Entry) → CompletesTree mode next levels (entries_closed ((entries ++ entries_of v) ++ all_entries_of vs) level.entry (length level.before.now - length next)) final total → CompletesTree mode next levels (entries_closed (entries ++ all_entries_of (v ▸ vs)) level.entry (length level.before.now - length next)) final total
regroup_back mode next level levels entries v vs final total k = subst (λ (es : List Entry). CompletesTree mode next levels (entries_closed es level.entry (length level.before.now - length next)) final total) (sym (grouped entries v vs)) k

ended_forth : (mode : Mode) (here rest : List ℕ) (level : Inside) (levels : List Inside) (entries : List Entry) (final : List ℕ) (total : List Entry) → EndsLevel (level_of level.extent) here rest → CompletesTree mode here (level ∷ levels) entries final total → CompletesTree mode rest levels (entries_closed entries level.entry (length level.before.now - length rest)) final total
ended_forth mode here rest level levels entries final total e (End, next, h, k) =
    let same : rest ≡ next = at_end mode (level_of level.extent) here rest End next e h in rw same (rw append-nil at k)
ended_forth mode here rest level levels entries final total e (v ▸ vs, next, h, k) =
    let m = holds_more mode (level_of level.extent) here v vs next h in absurd (ends_no_value mode (level_of level.extent) here rest e v m.here' m.begins)

-- elsewhere a first value stands
first_tree : (mode : Mode) (here : List ℕ) (level : Inside) (levels : List Inside) (entries : List Entry) (final : List ℕ) (total : List Entry) → ((rest : List ℕ) → EndsLevel (level_of level.extent) here rest → ⊥) → CompletesTree mode here (level ∷ levels) entries final total → OneFirstTree mode here (level ∷ levels) entries final total
first_tree mode here level levels entries final total none (End, next, h, k) = absurd (none next (end_holds mode (level_of level.extent) here next h))
first_tree mode here level levels entries final total none (v ▸ vs, next, h, k) =
    let m = holds_more mode (level_of level.extent) here v vs next h in
    (v, m.here', m.begins, (vs, next, m.holds, regroup mode next level levels entries v vs final total k))

rest_tree : (mode : Mode) (here : List ℕ) (level : Inside) (levels : List Inside) (entries : List Entry) (final : List ℕ) (total : List Entry) → OneFirstTree mode here (level ∷ levels) entries final total → CompletesTree mode here (level ∷ levels) entries final total
rest_tree mode here level levels entries final total (v, here', b, (vs, next, h, k)) =
    (v ▸ vs, next, holds_cons mode (level_of level.extent) here here' v vs next b h, regroup_back mode next level levels entries v vs final total k)

pub stepped_end : (mode : Mode) (octets here rest : List ℕ) (level : Inside) (levels : List Inside) (entries : List Entry) → Stepped mode octets [] [] here (level ∷ levels) entries → EndsLevel (level_of level.extent) here rest → Stepped mode octets [] [] rest levels (entries_closed entries level.entry (length level.before.now - length rest))
stepped_end mode octets here rest level levels entries d e = record {
  forth = λ final total p. ended_forth mode here rest level levels entries final total e (d.forth final total p);
  back = λ final total p. d.back final total (End, rest, holds_end mode (level_of level.extent) here rest e, rw append-nil p);
}

pub stepped_on : (mode : Mode) (octets here here' : List ℕ) (level : Inside) (levels levels' : List Inside) (entries entries' : List Entry) → Stepped mode octets [] [] here (level ∷ levels) entries → ((rest : List ℕ) → EndsLevel (level_of level.extent) here rest → ⊥) → Stepped mode here (level ∷ levels) entries here' levels' entries' → Stepped mode octets [] [] here' levels' entries'
stepped_on mode octets here here' level levels levels' entries entries' d none g = record {
  forth = λ final total p. g.forth final total (first_tree mode here level levels entries final total none (d.forth final total p));
  back = λ final total p. let o = g.back final total p in d.back final total (rest_tree mode here level levels entries final total o);
}

pub stepped_refused : (mode : Mode) (octets here : List ℕ) (level : Inside) (levels : List Inside) (entries : List Entry) → Stepped mode octets [] [] here (level ∷ levels) entries → ((rest : List ℕ) → EndsLevel (level_of level.extent) here rest → ⊥) → NoValue mode here → NoValue mode octets
stepped_refused mode octets here level levels entries d none empty v rest b =
    let o = first_tree mode here level levels entries rest (entries_of v) none (d.forth rest (entries_of v) (v, rest, b, (refl, refl))) in empty o.0 o.1 o.2

pub stepped_done : (mode : Mode) (octets here : List ℕ) (entries : List Entry) → Stepped mode octets [] [] here [] entries → (v : Value) × Begins mode octets v here × (entries ≡ entries_of v)
stepped_done mode octets here entries d =
    let o = d.back here entries (refl, refl) in (o.0, subst (Begins mode octets o.0) o.3.0 o.2, sym o.3.1)

inner_first-last : (levels : List Inside) (level : Inside) → slice_get levels (length levels - 1) ≡ Some level → inner_first levels ≡ level ∷ inner_first (take (length levels - 1) levels)
inner_first-last levels level e =
    let n = length levels - 1 in
    let lt : n < length levels = slice_get_within levels n level e in
    let whole : take (n + 1) levels ≡ levels = take_all (n + 1) levels (omega arith) in
    let front : take (n + 1) levels ≡ take n levels ++ level ∷ [] = take_more levels n level lt ∙ ap (λ (o : Inside). take n levels ++ o ∷ []) (get_or_from_slice_get levels n level level e) in
    ap inner_first (sym whole ∙ front) ∙ inner_first-push (take n levels) level

pub end_last : (mode : Mode) (octets here rest : List ℕ) (levels : List Inside) (level : Inside) (entries entries' : List Entry) (size : ℕ) → slice_get levels (length levels - 1) ≡ Some level → DescendsTree mode octets [] [] here levels entries → EndsLevel (level_of level.extent) here rest → size ≡ length level.before.now - length rest → entries' ≡ entries_closed entries level.entry size → DescendsTree mode octets [] [] rest (take (length levels - 1) levels) entries'
end_last mode octets here rest levels level entries entries' size e d h s f =
    rw (f, s) (stepped_end mode octets here rest level (inner_first (take (length levels - 1) levels)) entries (subst (λ (ls : List Inside). Stepped mode octets [] [] here ls entries) (inner_first-last levels level e) d) h)

pub on_last : (mode : Mode) (octets here here' : List ℕ) (levels levels' : List Inside) (level : Inside) (entries entries' : List Entry) → slice_get levels (length levels - 1) ≡ Some level → DescendsTree mode octets [] [] here levels entries → ((rest : List ℕ) → EndsLevel (level_of level.extent) here rest → ⊥) → DescendsTree mode here levels entries here' levels' entries' → DescendsTree mode octets [] [] here' levels' entries'
on_last mode octets here here' levels levels' level entries entries' e d none g =
    let is = inner_first-last levels level e in
    stepped_on mode octets here here' level (inner_first (take (length levels - 1) levels)) (inner_first levels') entries entries' (subst (λ (ls : List Inside). Stepped mode octets [] [] here ls entries) is d) none (subst (λ (ls : List Inside). Stepped mode here ls entries here' (inner_first levels') entries') is g)

pub refused_last : (mode : Mode) (octets here : List ℕ) (levels : List Inside) (level : Inside) (entries : List Entry) → slice_get levels (length levels - 1) ≡ Some level → DescendsTree mode octets [] [] here levels entries → ((rest : List ℕ) → EndsLevel (level_of level.extent) here rest → ⊥) → NoValue mode here → NoValue mode octets
refused_last mode octets here levels level entries e d none empty =
    stepped_refused mode octets here level (inner_first (take (length levels - 1) levels)) entries (subst (λ (ls : List Inside). Stepped mode octets [] [] here ls entries) (inner_first-last levels level e) d) none empty

pub done_last : (mode : Mode) (octets here : List ℕ) (levels : List Inside) (entries : List Entry) → length levels ≤ 0 → DescendsTree mode octets [] [] here levels entries → (v : Value) × Begins mode octets v here × (entries ≡ entries_of v)
done_last mode octets here [] entries le d = stepped_done mode octets here entries d
done_last mode octets here (level ∷ levels) entries le d = absurd (omega arith)

pub smaller_last : (levels : List Inside) (level : Inside) (here rest : List ℕ) → slice_get levels (length levels - 1) ≡ Some level → EndsLevel (level_of level.extent) here rest → length rest + left_at (take (length levels - 1) levels) < length here + left_at levels
smaller_last levels level here rest e h = rw (inner_first-last levels level e) (smaller_end (level_of level.extent) (map (λ l. level_of l.extent) (inner_first (take (length levels - 1) levels))) here rest h)

-- ---- `close`

pub closed_set : (entries : List Entry) (k size n : ℕ) (e : Entry) → k < length entries → e ≡ get_or entries k e → n ≡ length entries - k - 1 → set entries k (record { tag = e.tag; constructed = e.constructed; header = e.header; mark = e.mark; size = size; count = n }) ≡ entries_closed entries k size
closed_set [] k size n e lt is t = absurd (omega arith)
closed_set (d ∷ entries) zero size n e lt is t =
    let m : n ≡ length entries = omega (arith, t) in
    ap (λ (f : Entry). record { tag = f.tag; constructed = f.constructed; header = f.header; mark = f.mark; size = size; count = n } ∷ entries) is ∙ ap (λ k. record { tag = d.tag; constructed = d.constructed; header = d.header; mark = d.mark; size = size; count = k } ∷ entries) m
closed_set (d ∷ entries) (suc k) size n e lt is t = ap (λ (es : List Entry). d ∷ es) (closed_set entries k size n e (omega arith) is (omega (arith, t)))

pub closed_past : (entries : List Entry) (k size : ℕ) → length entries ≤ k → entries ≡ entries_closed entries k size
closed_past [] k size le = refl
closed_past (d ∷ entries) zero size le = absurd (omega arith)
closed_past (d ∷ entries) (suc k) size le = ap (λ (es : List Entry). d ∷ es) (closed_past entries k size (omega arith))

-- ---- what is handed out

pub tree_begins : (mode : Mode) (octets rest slice : List ℕ) (size : ℕ) (entries : List Entry) → (v : Value) × Begins mode octets v rest × (entries ≡ entries_of v) → size ≡ length octets - length rest → slice ≡ take size octets → IsTree (value_in slice) slice entries × Begins mode octets (value_in slice) (drop size octets) × (size ≡ length (spelling (value_in slice)))
tree_begins mode octets rest slice size entries w s e =
    let v = w.0 in
    let b = w.1 in
    let n : size ≡ length (spelling v) = omega (arith, s, simp length-append at (ap length b.parts)) in
    let front : slice ≡ spelling v = e ∙ rw (n, b.parts) (take_at (spelling v) rest (length (spelling v)) refl) in
    let back : drop size octets ≡ rest = rw (n, b.parts) (drop_at (spelling v) rest (length (spelling v)) refl) in
    let whole : Begins Ber slice v [] = record { lawful = in_ber mode v b.lawful; parts = front ∙ sym (append-nil (spelling v)) } in
    let is : value_in slice ≡ v = value_in-is slice v [] whole in
    (tree_in v slice entries whole w.2, rw (is, back) b, rw is n)
