-- The bytes from a place up to another: where there are none, and where fewer stand inside.
use Prim.Native.Nat.{ℕ, ◌-◌, ◌≤◌, ◌<◌}
use native.Mathlib.Omega.{arith}
use mathlib.Core.Path.{◌≡◌, refl, sym, ◌∙◌}
use mathlib.Core.List.{List, [], ◌∷◌}
use lib.ListN.{length, take, drop, length-drop, drop_of_length-le}
use lib.Seq.{take_all}
use Rattle.base_sequences.specs.Spans.{span}

module _ (s : List ℕ) (a e : ℕ) where
  pub span_none : e ≤ a → [] ≡ span s a e
  span_none h = let z : e - a ≡ 0 = omega arith in rw z

  pub span-past : length s ≤ a → [] ≡ span s a e
  span-past h = rw (drop_of_length-le s h) (sym (take_all (e - a) [] (omega arith)))

  pub span_rest : length s < e → take (length s - a) (drop a s) ≡ span s a e
  span_rest h =
      take_all (length s - a) (drop a s) (omega (arith, length-drop a s))
      ∙ sym (take_all (e - a) (drop a s) (omega (arith, length-drop a s)))

-- the byte at a is one of them, that at e is not; past the end there are none
span-inside : span (5 ∷ 6 ∷ 7 ∷ 8 ∷ []) 1 3 ≡ 6 ∷ 7 ∷ []
span-inside = refl

span-over : span (5 ∷ 6 ∷ 7 ∷ 8 ∷ []) 2 9 ≡ 7 ∷ 8 ∷ []
span-over = refl

span-back : span (5 ∷ 6 ∷ 7 ∷ 8 ∷ []) 3 1 ≡ []
span-back = refl
