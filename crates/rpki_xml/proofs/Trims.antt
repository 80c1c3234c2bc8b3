-- Texts of a document have no outer white space.
use Rattle.std.proofs.Common.{◌≡◌, ℕ, Bool, true, false, cond, List, [], ◌∷◌, ◌++◌, reverse, refl, sym, ap, subst, ◌∙◌, ◌⊎◌, inl, inr}
use Rattle.std.proofs.lemmas.List.{reverse-append, reverse-reverse}
use Rattle.rpki_xml.specs.Content.{is_white, without_white, trimmed, Content, nothing, and_run, and_passed_over, and_leaf, and_element, characters, text_of_content, elements_in}
use Rattle.rpki_xml.specs.Element.{Elements, none, first, Element, alone}
use Rattle.rpki_xml.specs.Lexing.{IsDocument}
use Rattle.rpki_xml.specs.Trimmed.{AreTrimmed}

without_twice : (t : List ℕ) → without_white (without_white t) ≡ without_white t
without_twice [] = refl
without_twice (c ∷ t) = go (is_white c) refl (without_twice t)
  where
    go : (b : Bool) → is_white c ≡ b → without_white (without_white t) ≡ without_white t → without_white (cond b (without_white t) (c ∷ t)) ≡ cond b (without_white t) (c ∷ t)
    go true e h = h
    go false e h = rw e refl

-- an octet that is no white space stays at the end
without_end : (t : List ℕ) (c : ℕ) → is_white c ≡ false → without_white (t ++ c ∷ []) ≡ without_white t ++ c ∷ []
without_end [] c e = rw e refl
without_end (d ∷ t) c e = go (is_white d) (without_end t c e)
  where
    go : (b : Bool) → without_white (t ++ c ∷ []) ≡ without_white t ++ c ∷ [] → cond b (without_white (t ++ c ∷ [])) (d ∷ (t ++ c ∷ [])) ≡ cond b (without_white t) (d ∷ t) ++ c ∷ []
    go true h = h
    go false h = refl

-- what is left is nothing, or begins with an octet that is no white space
begins : (t : List ℕ) → (without_white t ≡ []) ⊎ ((c : ℕ) × (more : List ℕ) × (without_white t ≡ c ∷ more) × (is_white c ≡ false))
begins [] = inl refl
begins (c ∷ t) = go (is_white c) refl (begins t)
  where
    go : (b : Bool) → is_white c ≡ b → (without_white t ≡ []) ⊎ ((d : ℕ) × (more : List ℕ) × (without_white t ≡ d ∷ more) × (is_white d ≡ false))
        → (cond b (without_white t) (c ∷ t) ≡ []) ⊎ ((d : ℕ) × (more : List ℕ) × (cond b (without_white t) (c ∷ t) ≡ d ∷ more) × (is_white d ≡ false))
    go true e h = h
    go false e h = inr (c, t, refl, e)

-- a text without white space at its end
abbrev without_end_white : List ℕ → List ℕ
without_end_white t = reverse (without_white (reverse t))

end_twice : (t : List ℕ) → without_end_white (without_end_white t) ≡ without_end_white t
end_twice t = ap (λ (x : List ℕ). reverse (without_white x)) (reverse-reverse (without_white (reverse t))) ∙ ap reverse (without_twice (reverse t))

end_begins : (c : ℕ) (more : List ℕ) → is_white c ≡ false → without_white (without_end_white (c ∷ more)) ≡ without_end_white (c ∷ more)
end_begins c more e =
    let is : without_end_white (c ∷ more) ≡ c ∷ reverse (without_white (reverse more)) =
    ap (λ (x : List ℕ). reverse (without_white x)) (reverse-append (c ∷ []) more) ∙ ap reverse (without_end (reverse more) c e) ∙ reverse-append (without_white (reverse more)) (c ∷ []) in
    ap without_white is ∙ rw e (sym is)

pub trimmed_twice : (t : List ℕ) → trimmed (trimmed t) ≡ trimmed t
unfolding trimmed
trimmed_twice t =
    elim (begins t) [
      | inl e ↦ ap (λ (x : List ℕ). without_end_white (without_white (without_end_white x))) e ∙ sym (ap without_end_white e)
      | inr h ↦
          ap (λ (x : List ℕ). without_end_white (without_white (without_end_white x))) h.2
          ∙ ap without_end_white (end_begins h.0 h.1 h.3)
          ∙ end_twice (h.0 ∷ h.1)
          ∙ sym (ap without_end_white h.2)
    ]

text_trimmed : (children : Elements) (text : List ℕ) → trimmed (text_of_content children text) ≡ text_of_content children text
unfolding trimmed
text_trimmed none text = trimmed_twice text
text_trimmed (first head children rest) text = refl

content_trimmed : (c : Content) → AreTrimmed (elements_in c)
unfolding trimmed
content_trimmed nothing = tt
content_trimmed (and_run text c) = content_trimmed c
content_trimmed (and_passed_over c) = content_trimmed c
content_trimmed (and_leaf tag c) = (refl, (tt, content_trimmed c))
content_trimmed (and_element tag inside c) = (text_trimmed (elements_in inside) (characters inside), (content_trimmed inside, content_trimmed c))

pub document_trimmed : (b : List ℕ) (x : Element) → IsDocument b x → AreTrimmed (alone x)
document_trimmed b x doc = subst AreTrimmed doc.element.only (content_trimmed doc.element.content)
