-- The texts of repositories and of the files in them.
use Rattle.std.proofs.Common.{◌≡◌, ℕ, ◌-◌, Bool, true, false, cond, List, [], ◌∷◌, ◌++◌, length, drop, refl, sym, ap, ◌∙◌, append_assoc, arith}
use Rattle.std.specs.Prelude.{codes, if◌then◌else◌, ◌==◌}
use Rattle.std.proofs.lemmas.List.{length-append}
use Rattle.rpki_text.specs.Uri.{is_slash, ends_with_slash, without_slash, joined}
use Rattle.rpki_setup.specs.RepoInfo.{RepoInfoFields, ca_repository_text, resolved_text}

unlike : true ≡ false → ⊥
unlike e = cc

-- a name space that isn't empty is a directory below the base
pub directory_text : (info : RepoInfoFields) (name : List ℕ) → (length name == 0) ≡ false → ca_repository_text info name ≡ joined info.sia_base (name ++ codes "/")
directory_text info [] e = absurd (unlike e)
directory_text info (c ∷ name) e = refl

dropped : (a b : List ℕ) → drop (length a) (a ++ b) ≡ b
dropped [] b = refl
dropped (x ∷ a) b = dropped a b

one_less : (a b : List ℕ) → length b ≡ 1 → length (a ++ b) - 1 ≡ length a
one_less a b h = omega (arith, length-append a b)

-- what ends with a slash
ends : (a : List ℕ) → ends_with_slash (a ++ codes "/") ≡ true
ends a = rw (one_less a (codes "/") refl, dropped a (codes "/")) refl

slashed_once : (a inside : List ℕ) → joined (a ++ codes "/") inside ≡ (a ++ codes "/") ++ without_slash inside
slashed_once a inside = ap (λ (b : Bool). (if b then a ++ codes "/" else (a ++ codes "/") ++ codes "/") ++ without_slash inside) (ends a)

-- the first slash of a name that isn't empty
without_first : (c : ℕ) (name more : List ℕ) → without_slash ((c ∷ name) ++ more) ≡ without_slash (c ∷ name) ++ more
without_first c name more = go (is_slash c)
  where
    go : (b : Bool) → cond b (name ++ more) (c ∷ (name ++ more)) ≡ cond b name (c ∷ name) ++ more
    go true = refl
    go false = refl

abbrev slashed : List ℕ → List ℕ
slashed base = if ends_with_slash base then base else base ++ codes "/"

-- a file in such a directory, joined at once
pub file_text : (info : RepoInfoFields) (name file inside : List ℕ) → (length name == 0) ≡ false → inside ≡ without_slash file
    → joined info.sia_base ((name ++ codes "/") ++ inside) ≡ resolved_text info name file
file_text info [] file inside e f = absurd (unlike e)
file_text info (c ∷ name) file inside e f =
    let front = slashed info.sia_base ++ without_slash (c ∷ name) in
    let directory : joined info.sia_base ((c ∷ name) ++ codes "/") ≡ front ++ codes "/" =
    ap (λ (l : List ℕ). slashed info.sia_base ++ l) (without_first c name (codes "/")) ∙ sym (append_assoc (slashed info.sia_base) (without_slash (c ∷ name)) (codes "/")) in
    ap (λ (l : List ℕ). slashed info.sia_base ++ without_slash l) (append_assoc (c ∷ name) (codes "/") inside)
    ∙ ap (λ (l : List ℕ). slashed info.sia_base ++ l) (without_first c name (codes "/" ++ inside))
    ∙ sym (append_assoc (slashed info.sia_base) (without_slash (c ∷ name)) (codes "/" ++ inside))
    ∙ sym (append_assoc front (codes "/") inside)
    ∙ ap (λ (l : List ℕ). (front ++ codes "/") ++ l) f
    ∙ sym (slashed_once front file)
    ∙ ap (λ (l : List ℕ). joined l file) (sym directory)
