-- A keyword at a place of a slice: the run, and its last byte.
use Prim.Native.Nat.{ℕ, ◌+◌, ◌-◌}
use native.Mathlib.Omega.{arith}
use mathlib.Core.Path.{◌≡◌, refl, sym, ap, ◌∙◌}
use mathlib.Core.Bool.{Bool, true, false, not}
use mathlib.Core.List.{List}
use lib.Dec.{eqb}
use lib.ListN.{length, drop, take, get_or}
use lib.Seq.{get_or-drop, get_or-take, length-take-le}
use Rattle.base_sequences.proofs.Booleans.{true-not, false-not}
use Rattle.base_readers.specs.Readers.{run}
use Rattle.base_readers.proofs.Readers.{run_fits, passing-yes, passing-no}
use Rattle.lexis_rules.specs.declared.Class.TheVariants.{Keyword}
use Rattle.lexis_rules.specs.Bytes.{in_class}
use Rattle.lexis_rules.specs.Pieces.{unhyphened, keyword}

abbrev word : List ℕ → ℕ
word = run (in_class Keyword)

module _ (s : List ℕ) (at e : ℕ) (q : e ≡ at + word (drop at s)) where
  pub keyword-empty : e ≡ at → at ≡ at + keyword (drop at s)
  keyword-empty z = go (unhyphened (take (word (drop at s)) (drop at s))) refl
    where
      go : (t : Bool) → unhyphened (take (word (drop at s)) (drop at s)) ≡ t → at ≡ at + keyword (drop at s)
      go true h = omega (arith, passing-yes unhyphened word (drop at s) h)
      go false h = omega (arith, passing-no unhyphened word (drop at s) h)

  module _ (ne : e ≡ at → ⊥) (r : Bool) (h : r ≡ eqb (get_or (drop (e - 1) s) 0 0) 45) where
    last : unhyphened (take (word (drop at s)) (drop at s)) ≡ not r
    unfolding unhyphened
    last =
        let n = word (drop at s) in
        let l : length (take n (drop at s)) ≡ n = length-take-le n (drop at s) (run_fits (in_class Keyword) (drop at s)) in
        let j : at + (n - 1) ≡ e - 1 + 0 = omega arith in
        let g : get_or (take n (drop at s)) (n - 1) 0 ≡ get_or (drop (e - 1) s) 0 0 = get_or-take n (drop at s) (n - 1) 0 (omega arith) ∙ (get_or-drop at s (n - 1) 0 ∙ (ap (λ (k : ℕ). get_or s k 0) j ∙ sym (get_or-drop (e - 1) s 0 0))) in
        rw (l, g, ← h)

    pub keyword-hyphen : r ≡ true → at ≡ at + keyword (drop at s)
    keyword-hyphen t = omega (arith, passing-no unhyphened word (drop at s) (last ∙ false-not r t))

    pub keyword-there : r ≡ false → e ≡ at + keyword (drop at s)
    keyword-there f = omega (arith, passing-yes unhyphened word (drop at s) (last ∙ true-not r f))
