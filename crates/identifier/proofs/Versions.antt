-- The header version, by the tests that the code makes in turn; and what the code finds is what the parser yields.
use Prim.Native.Nat.{ℕ, zero, suc, ◌+◌, ◌-◌}
use native.Mathlib.Omega.{arith}
use mathlib.Core.Path.{◌≡◌, refl, sym, ap, ◌∙◌}
use mathlib.Core.List.{List}
use mathlib.Core.Option.{some}
use lib.ListN.{take, drop}
use lib.Seq.{drop-drop}
use Rattle.base_readers.specs.Parsers.{nothing, got, text, optional}
use Rattle.base_readers.specs.Places.{from}
use Rattle.base_readers.proofs.Places.{goes_on, stops, gives, text_at, text-none, pass-at, pass-none, one_more, none-there}
use Rattle.lexis_rules.specs.declared.Digits.{Digits}
use Rattle.lexis_rules.specs.Pieces.{space, digits, leading}
use Rattle.lexis_rules.specs.Numbers.{number_of}
use Rattle.lexis_rules.specs.Words.{counted, gap, read_digits}
use Rattle.lexis_rules.specs.Answers.{digits_at}
use Rattle.lexis_laws.proofs.Numbers.{counted-text}
use Rattle.identifier.specs.declared.version.Version.TheVariants.{Absent, Stated}
use Rattle.identifier_rules.specs.Version.{stated}
use Rattle.identifier.specs.VersionAnswers.{version_from, version_at, version_got}

-- ==== by the tests of the code

module _ (s : List ℕ) (at a : ℕ) (q : a ≡ at + space (drop at s)) where
  pub version-no-space : a ≡ at → Absent ≡ version_at s at
  unfolding version_at
  version-no-space z = let n : space (drop at s) ≡ 0 = omega arith in rw (version_at, n)

  version-is : (a ≡ at → ⊥) → version_at s at ≡ version_from s a
  unfolding version_at
  version-is ne = go (space (drop at s)) refl
    where
      go : (n : ℕ) → space (drop at s) ≡ n → version_at s at ≡ version_from s a
      go zero z = absurd (ne (omega arith))
      go (suc n) z = let j : a ≡ at + suc n = omega arith in rw (version_at, z, j)

  module _ (ne : a ≡ at → ⊥) (d : Digits) (h : d ≡ digits_at s a) where
    ends : d.end ≡ a + digits (drop a s)
    unfolding digits_at
    ends = rw h

    pub version-no-digits : d.end ≡ a → Absent ≡ version_at s at
    unfolding version_from
    version-no-digits z = let n : digits (drop a s) ≡ 0 = omega (arith, ends) in sym (version-is ne ∙ rw (version_from, n))

    pub version-stated : (d.end ≡ a → ⊥) → Stated d.start d.end d.number ≡ version_at s at
    unfolding version_from digits_at
    version-stated nd = go (digits (drop a s)) refl
      where
        go : (n : ℕ) → digits (drop a s) ≡ n → Stated d.start d.end d.number ≡ version_at s at
        go zero z = absurd (nd (omega (arith, ends)))
        go (suc n) z = rw (h, z) (sym (version-is ne ∙ rw (version_from, z)))

-- ==== what the parser yields

module _ (s : List ℕ) (at : ℕ) where
  none-stated : nothing ≡ from stated s at → version_got s at Absent ≡ from (optional stated) s at
  none-stated h = none-there stated s at h

  -- what the code finds is what the parser yields
  pub version-got : version_got s at (version_at s at) ≡ from (optional stated) s at
  unfolding stated read_digits
  version-got = spaces (space (drop at s)) refl
    where
      run : (m n : ℕ) → space (drop at s) ≡ suc m → digits (drop (at + suc m) s) ≡ n → version_got s at (version_at s at) ≡ from (optional stated) s at
      run m zero z d =
          let a = at + suc m in
          let r : nothing ≡ from read_digits s a = stops (text digits) _ s a (text-none digits s a a (omega arith) refl) in
          ap (version_got s at) (sym (version-no-digits s at a (omega arith) (λ i. omega arith) (digits_at s a) refl (unfold digits_at in omega arith)))
          ∙ none-stated (goes_on gap _ s at tt a nothing (pass-at space s at a (omega arith) (λ i. omega arith)) r)
      run m (suc n) z d =
          let a = at + suc m in
          let e = a + suc n in
          let b = a + leading (drop a s) in
          let j : e - a ≡ suc n = omega arith in
          let k : e - b ≡ digits (drop a s) - leading (drop a s) = omega arith in
          let v : version_at s at ≡ Stated b e (number_of (drop a s)) = version-is s at a (omega arith) (λ i. omega arith) ∙ (unfold version_from in rw (version_from, d)) in
          let t : counted (take (e - a) (drop a s)) ≡ take (e - b) (drop b s) = rw (j, k) (counted-text (drop a s) n d ∙ rw drop-drop) in
          let r : got (counted (take (e - a) (drop a s))) e ≡ from read_digits s a =
          goes_on (text digits) _ s a (take (e - a) (drop a s)) e _ (text_at digits s a e (omega arith) (λ i. omega arith)) (gives (counted (take (e - a) (drop a s))) s e) in
          let w : got (counted (take (e - a) (drop a s))) e ≡ from stated s at =
          goes_on gap _ s at tt a _ (pass-at space s at a (omega arith) (λ i. omega arith)) r in
          ap (version_got s at) v ∙ (ap (λ (x : List ℕ). got (some x) e) (sym t) ∙ one_more stated s at (counted (take (e - a) (drop a s))) e w)

      spaces : (m : ℕ) → space (drop at s) ≡ m → version_got s at (version_at s at) ≡ from (optional stated) s at
      spaces zero z =
          ap (version_got s at) (sym (version-no-space s at at (omega arith) refl))
          ∙ none-stated (stops gap _ s at (pass-none space s at at (omega arith) refl))
      spaces (suc m) z = run m (digits (drop (at + suc m) s)) z refl
