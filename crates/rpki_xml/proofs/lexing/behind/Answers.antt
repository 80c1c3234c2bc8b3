use Rattle.std.proofs.Common.{◌≡◌, ℕ, ◌<◌, List, [], ◌∷◌, length, drop, Option, None, sym, ap, ◌∙◌, arith}
use Rattle.std.proofs.lemmas.List.{drop_more}
use Rattle.rpki_xml.specs.Content.{behind}
use Rattle.rpki_xml.proofs.lexing.behind.Goals as goal

-- what must still be there isn't there
at_the_end : (front : List ℕ) (i : ℕ) (rest : List ℕ) (total : Option (List ℕ)) → i < length front → length rest < 1 → behind (drop i front) rest ≡ total → None ≡ total
at_the_end front i [] total lt short e = sym (ap (λ (l : List ℕ). behind l []) (drop_more front i 0 lt)) ∙ e
at_the_end front i (c ∷ rest) total lt short e = absurd (omega arith)

pub returns-in-empty-clause-value : goal.returns-in-empty-clause-value
returns-in-empty-clause-value c = at_the_end c.args.front.now c.loop-c.c-index c.loop-c.rest.now (behind c.args.front.now c.args.b.now) c.loop-c-test.true c.in-empty.len_below c.loop-c.invariant.0
