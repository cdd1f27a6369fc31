-- The first byte of a text, and what is behind it. The premises are literally what a need is handed.
use Prim.Native.Nat.{ℕ, suc, ◌+◌, ◌-◌, ◌≤◌}
use native.Mathlib.Omega.{arith}
use mathlib.Core.Path.{◌≡◌, refl, ◌∙◌}
use mathlib.Core.Bool.{true, false}
use mathlib.Core.List.{List, [], ◌∷◌}
use lib.ListN.{length, take, drop, length-drop}
use lib.Seq.{take_all}
use Rattle.explain_rules.specs.Texts.{is_code, code_byte, code_more, decoded}
use Rattle.explain_rules.proofs.Texts.{more-code, more-itself, decoded-step}

pub none-left : (s : List ℕ) → length s ≡ 0 → s ≡ []
none-left [] h = refl
none-left (x ∷ xs) h = absurd (omega arith)

-- the first byte and what stands for it take n bytes
module _ (s : List ℕ) (n : ℕ) where
  pub takes-code : n ≡ 3 → is_code s ≡ true → n ≡ 1 + code_more s
  takes-code e c = rw (more-code s c, e)

  pub takes-itself : n ≡ 1 → is_code s ≡ false → n ≡ 1 + code_more s
  takes-itself e c = rw (more-itself s c, e)

  -- what is handed on from there
  pub behind : n ≡ 1 + code_more s → n ≤ length s → take (length s - n) (drop n s) ≡ drop (1 + code_more s) s
  behind e h = take_all (length s - n) (drop n s) (omega (arith, length-drop n s)) ∙ rw e

  pub text-behind : (b : ℕ) → b ≡ code_byte s → n ≡ 1 + code_more s → n ≤ length s → decoded s ≡ b ∷ decoded (take (length s - n) (drop n s))
  text-behind b p e h =
      let m : suc (code_more s) ≡ 1 + code_more s = omega arith in
      decoded-step s (omega arith) ∙ rw (behind e h, p, m)
