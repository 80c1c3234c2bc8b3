-- What the parts of a JSON object state.
use Rattle.std.proofs.Common.{◌≡◌, ◌↔◌, ℕ, Bool, true, false, List, [], ◌∷◌, Option, None, Some, IsTrue, codes, refl, sym, ap, ◌∙◌, arith}
use Rattle.std.specs.Prelude.{String, string_bytes}
use Rattle.std.specs.Str.{bytes_eq}
use Rattle.std.specs.declared.alloc.Global.{Global}
use Rattle.std.specs.List.{All}
use Rattle.std.specs.Map.{keys_of}
use Rattle.std.proofs.lemmas.Bool.{and_parts, and_from}
use Rattle.std.proofs.lemmas.List.Elements.{All-cons, All-head, All-tail}
use Rattle.serde_json.specs.Data.{Data, Members}
use Rattle.serde_json.specs.Find.{get, as_str, as_object}
use Rattle.serde_json.specs.Read.{read}
use Rattle.serde_json.specs.View.{members_view}
use Rattle.serde_json.specs.declared.value.Value.{Value}
use Rattle.rpki_common.specs.Chaining.{◌>>=◌}
use Rattle.rpki_sets.specs.declared.run.Run.{Run}
use Rattle.rpki_sets.specs.AsNumbers.{as_blocks}
use Rattle.rpki_sets.specs.Ipv4Addresses.{ipv4_blocks}
use Rattle.rpki_sets.specs.Ipv6Addresses.{ipv6_blocks}
use Rattle.rpki_updown.specs.LimitJson.{stated_in, stated, is_limit_name, have_limit_names, are_limit_names, limit_stated, limit_of_value, limit_of_json}
use Rattle.rpki_updown.specs.RequestResourceLimit.{LimitFields}

-- ---- one value

pub no_string : (blocks : List ℕ → Option (List Run)) (value : Data) → as_str value ≡ None → stated_in blocks value ≡ None
unfolding stated_in ◌>>=◌
no_string blocks value e = rw e refl

pub no_limit_stated : (blocks : List ℕ → Option (List Run)) (value : Data) (text : List ℕ) → as_str value ≡ Some text → bytes_eq text (codes "none") ≡ true → stated_in blocks value ≡ Some None
unfolding stated_in ◌>>=◌
no_limit_stated blocks value text e f = rw e (rw f refl)

pub set_stated : (blocks : List ℕ → Option (List Run)) (value : Data) (text : List ℕ) (set : List Run) → as_str value ≡ Some text → bytes_eq text (codes "none") ≡ false → blocks text ≡ Some set → stated_in blocks value ≡ Some (Some set)
unfolding stated_in ◌>>=◌
set_stated blocks value text set e f h = rw e (rw (f, h) refl)

pub no_set : (blocks : List ℕ → Option (List Run)) (value : Data) (text : List ℕ) → as_str value ≡ Some text → bytes_eq text (codes "none") ≡ false → blocks text ≡ None → stated_in blocks value ≡ None
unfolding stated_in ◌>>=◌
no_set blocks value text e f h = rw e (rw (f, h) refl)

-- ---- the three kinds

pub limit_is : (value : Data) (a b c d e : Option Data) (asn ipv4 ipv6 : Option (List Run)) → a ≡ get (codes "asn") value → b ≡ get (codes "ipv4") value → c ≡ get (codes "v4") value → d ≡ get (codes "ipv6") value → e ≡ get (codes "v6") value
    → stated as_blocks a None ≡ Some asn → stated ipv4_blocks b c ≡ Some ipv4 → stated ipv6_blocks d e ≡ Some ipv6 → limit_stated value ≡ Some (record { asn = asn; ipv4 = ipv4; ipv6 = ipv6 })
unfolding limit_stated ◌>>=◌
limit_is value a b c d e asn ipv4 ipv6 p q r s t f g h = rw (← p, ← q, ← r, ← s, ← t) (rw (f, g, h) refl)

pub no_asn : (value : Data) (a : Option Data) → a ≡ get (codes "asn") value → stated as_blocks a None ≡ None → limit_stated value ≡ None
unfolding limit_stated ◌>>=◌
no_asn value a p f = rw (← p) (rw f refl)

pub no_ipv4 : (value : Data) (a b c : Option Data) (asn : Option (List Run)) → a ≡ get (codes "asn") value → b ≡ get (codes "ipv4") value → c ≡ get (codes "v4") value
    → stated as_blocks a None ≡ Some asn → stated ipv4_blocks b c ≡ None → limit_stated value ≡ None
unfolding limit_stated ◌>>=◌
no_ipv4 value a b c asn p q r f g = rw (← p, ← q, ← r) (rw (f, g) refl)

pub no_ipv6 : (value : Data) (a b c d e : Option Data) (asn ipv4 : Option (List Run)) → a ≡ get (codes "asn") value → b ≡ get (codes "ipv4") value → c ≡ get (codes "v4") value → d ≡ get (codes "ipv6") value → e ≡ get (codes "v6") value
    → stated as_blocks a None ≡ Some asn → stated ipv4_blocks b c ≡ Some ipv4 → stated ipv6_blocks d e ≡ None → limit_stated value ≡ None
unfolding limit_stated ◌>>=◌
no_ipv6 value a b c d e asn ipv4 p q r s t f g h = rw (← p, ← q, ← r, ← s, ← t) (rw (f, g, h) refl)

-- ---- the names

abbrev Named : String Global → Type 0
Named name = IsTrue (is_limit_name (string_bytes name))

-- the names of a map are those of its members
pub names_told : (es : List (String Global × Value)) → All Named (keys_of es) ↔ IsTrue (have_limit_names (members_view es))
names_told [] = (λ h. refl, λ h k d lt. absurd (omega (arith, lt)))
names_told (e ∷ es) =
    let below = names_told es in (
      λ h. and_from _ _ (All-head Named e.0 (keys_of es) h) (below.0 (All-tail Named e.0 (keys_of es) h)),
      λ h. let p = and_parts _ _ h in All-cons Named e.0 (keys_of es) p.0 (below.1 p.1),
    )

same_truth : (a b : Bool) → (IsTrue a → IsTrue b) → (IsTrue b → IsTrue a) → a ≡ b
same_truth true true f g = refl
same_truth true false f g = sym (f refl)
same_truth false true f g = g refl
same_truth false false f g = refl

pub names_are : (answer : Bool) (es : List (String Global × Value)) (o : Option Members) → Some (members_view es) ≡ o → (IsTrue answer ↔ All Named (keys_of es)) → answer ≡ are_limit_names o
names_are answer es o e h =
    let n = names_told es in
    same_truth answer (have_limit_names (members_view es)) (λ t. n.0 (h.0 t)) (λ t. h.1 (n.1 t)) ∙ ap are_limit_names e

-- ---- the object

pub no_limit_object : (value : Data) → are_limit_names (as_object value) ≡ false → limit_of_value value ≡ None
unfolding limit_of_value
no_limit_object value e = rw e refl

pub limit_object : (value : Data) (o : Option LimitFields) → are_limit_names (as_object value) ≡ true → limit_stated value ≡ o → limit_of_value value ≡ o
unfolding limit_of_value
limit_object value o e f = rw e f

pub no_json : (text : List ℕ) → read text ≡ None → limit_of_json text ≡ None
unfolding limit_of_json ◌>>=◌
no_json text e = rw e refl

pub json_is : (text : List ℕ) (value : Data) (o : Option LimitFields) → read text ≡ Some value → limit_of_value value ≡ o → limit_of_json text ≡ o
unfolding limit_of_json ◌>>=◌
json_is text value o e f = rw e f
