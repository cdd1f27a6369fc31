-- What the theorems on judging speak of, at worked examples: of each notion something that it holds of, and for each clause something that it does not hold of.
use Prim.Native.Nat.{ℕ}
use native.Mathlib.Omega.{arith}
use mathlib.Core.Path.{◌≡◌, refl, sym, ap, ◌∙◌}
use mathlib.Core.List.{List, [], ◌∷◌, ◌++◌}
use lib.Dec.{lit≤}
use lib.ListN.{length}
use Rattle.base_sequences.proofs.Booleans.{no_true}
use Rattle.base_readers.specs.Texts.{bytes}
use Rattle.block_rules.specs.Fields.{fields}
use Rattle.arc_rules.specs.Chain.{Outcome, none, failed, built, valid_for}
use Rattle.arc_rules.specs.Terms.{Known, BadVerdicts}
use Rattle.arc_rules.proofs.Unfolding.{opened}

-- ==== the fields of a block are all there

known : Known (bytes "A:\r\n")
unfolding opened
known = (lit≤ tt, refl)

-- its walk comes to the end
not-bad-block : Known (bytes "A:\r\nB") → ⊥
unfolding opened
not-bad-block k = let h : ◌≡◌ {A = ℕ} 2 0 = k.1 in omega arith

-- it is within the limit, which is in it
not-long : (block : List ℕ) → length block ≡ 65537 → Known block → ⊥
not-long block e k = omega (arith, e, k.0)

known-limit : (block : List ℕ) → length block ≡ 65536 → (fields block).number ≡ 0 → Known block
known-limit block e f = (omega (arith, e), f)

-- ==== bad verdicts for a chain that is built

-- one set
abbrev one : List ℕ
one = bytes "ARC-Authentication-Results:i=1;\r\n" ++ (bytes "ARC-Message-Signature:i=1;a=;b=;bh=;d=;h=;s=\r\n" ++ bytes "ARC-Seal:i=1;a=;b=;d=;s=;cv=none\r\n")

-- how many sets are built, and 0 where none is
abbrev sets : Outcome → ℕ
sets none = 0
sets (failed r f) = 0
sets (built n) = n

-- a byte that is none of 0 to 3
bad-byte : BadVerdicts one (4 ∷ [])
unfolding opened
bad-byte = record { small = lit≤ tt; sound = refl; instances = 1; chain = refl; bad = refl }

-- good verdicts
not_good : BadVerdicts one (3 ∷ []) → ⊥
unfolding opened
not_good b = no_true (sym b.bad ∙ ap (λ (n : ℕ). valid_for n (3 ∷ [])) (sym (ap sets b.chain)))

-- a chain that failed
not-failed : BadVerdicts (bytes "ARC-Seal:\r\n") (4 ∷ []) → ⊥
unfolding opened
not-failed b = tagged b.chain
  where
    is_built : Outcome → ℕ
    is_built none = 0
    is_built (failed r f) = 0
    is_built (built n) = 1

    tagged : failed 1 1 ≡ built b.instances → ⊥
    tagged e = let h : ◌≡◌ {A = ℕ} 0 1 = ap is_built e in omega arith

-- a block over the limit, and one that is refused
not-long-block : (block verdicts : List ℕ) → length block ≡ 65537 → BadVerdicts block verdicts → ⊥
not-long-block block verdicts e b = omega (arith, e, b.small)

not-refused : BadVerdicts (one ++ bytes "A") (4 ∷ []) → ⊥
unfolding opened
not-refused b = let h : ◌≡◌ {A = ℕ} 2 0 = b.sound in omega arith
