-- The spelling of a text that is two texts with "." between them is their spellings with "." between them.
use Prim.Native.Nat.{ℕ}
use mathlib.Core.Path.{◌≡◌, refl, sym, ap, ◌∙◌}
use mathlib.Core.Bool.{Bool, true, false}
use mathlib.Core.List.{List, [], ◌∷◌, ◌++◌, map, append_assoc}
use lib.Dec.{eqb}
use Rattle.base_readers.specs.Texts.{within}
use Rattle.lexis_rules.specs.Bytes.{lower}
use Rattle.base_readers.specs.Lines.{on_first}
use Rattle.punycode_rules.specs.Labels.{labels, joined, spelled, spelling}
use Rattle.punycode_laws.proofs.Spelling.{labels-some}

labels-end : (c : ℕ) (t : List ℕ) → eqb c 46 ≡ true → labels (c ∷ t) ≡ [] ∷ labels t
unfolding labels
labels-end c t e = rw (labels, e)

labels-on : (c : ℕ) (t : List ℕ) → eqb c 46 ≡ false → labels (c ∷ t) ≡ on_first c (labels t)
unfolding labels
labels-on c t e = rw (labels, e)

labels-dot : (a x : List ℕ) → labels (a ++ (46 ∷ x)) ≡ labels a ++ labels x
unfolding labels
labels-dot [] x = refl
labels-dot (c ∷ a) x = go (eqb c 46) refl (labels-dot a x)
  where
    go : (t : Bool) → eqb c 46 ≡ t → labels (a ++ (46 ∷ x)) ≡ labels a ++ labels x → labels (c ∷ (a ++ (46 ∷ x))) ≡ labels (c ∷ a) ++ labels x
    go true e ih = labels-end c (a ++ (46 ∷ x)) e ∙ (ap (λ (l : List (List ℕ)). [] ∷ l) ih ∙ ap (λ (l : List (List ℕ)). l ++ labels x) (sym (labels-end c a e)))
    go false e ih =
        let s = labels-some a in
        let f : on_first c (labels a ++ labels x) ≡ on_first c (labels a) ++ labels x = rw s.2 in
        labels-on c (a ++ (46 ∷ x)) e ∙ (ap (on_first c) ih ∙ (f ∙ ap (λ (l : List (List ℕ)). l ++ labels x) (sym (labels-on c a e))))

map_both : (ls ms : List (List ℕ)) → map spelled (ls ++ ms) ≡ map spelled ls ++ map spelled ms
map_both [] ms = refl
map_both (l ∷ ls) ms = ap (λ (r : List (List ℕ)). spelled l ∷ r) (map_both ls ms)

joined-both : (l : List ℕ) (ls : List (List ℕ)) (m : List ℕ) (ms : List (List ℕ)) → joined ((l ∷ ls) ++ (m ∷ ms)) ≡ joined (l ∷ ls) ++ (46 ∷ joined (m ∷ ms))
unfolding joined
joined-both l [] m ms = refl
joined-both l (k ∷ ls) m ms = ap (λ (r : List ℕ). l ++ (46 ∷ r)) (joined-both k ls m ms) ∙ sym (append_assoc l (46 ∷ joined (k ∷ ls)) (46 ∷ joined (m ∷ ms)))

pub spelling-dot : (a x : List ℕ) → spelling (a ++ (46 ∷ x)) ≡ spelling a ++ (46 ∷ spelling x)
unfolding spelling
spelling-dot a x =
    let s = labels-some a in
    let t = labels-some x in
    ap (λ (l : List (List ℕ)). joined (map spelled l)) (labels-dot a x)
    ∙ (ap joined (map_both (labels a) (labels x)) ∙ rw (s.2, t.2) (joined-both (spelled s.0) (map spelled s.1) (spelled t.0) (map spelled t.1)))

-- and in lower case
pub lower-dot : (a x : List ℕ) → map lower (a ++ (46 ∷ x)) ≡ map lower a ++ (46 ∷ map lower x)
unfolding lower within
lower-dot [] x = refl
lower-dot (c ∷ a) x = ap (λ (t : List ℕ). lower c ∷ t) (lower-dot a x)
