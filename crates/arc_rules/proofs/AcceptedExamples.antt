-- What demand 2's sentence on chains speaks of, at worked examples: the parts computed, and for each clause fields that are not accepted
-- because of it.
use Prim.Native.Nat.{ℕ, ◌+◌, ◌≤◌}
use native.Mathlib.Omega.{arith}
use mathlib.Core.Path.{◌≡◌, refl}
use mathlib.Core.Bool.{true, false}
use mathlib.Core.List.Memᴰ
use mathlib.Core.List.{List, [], ◌∷◌, ◌++◌, map}
use lib.Dec.{lit≤, lit<}
use lib.ListN.{length}
use Rattle.base_sequences.proofs.Booleans.{no_true}
use Rattle.base_readers.specs.Texts.{bytes}
use Rattle.block_rules.specs.Fields.{Field}
use Rattle.arc_rules.specs.declared.Kind.{Kind}
use Rattle.arc_rules.specs.declared.Kind.TheVariants.{Results, Signature, Seal, Other}
use Rattle.arc_rules.specs.Accepted.{is_arc, reads, same_kind, stands_at, fields_at, cv_prescribed, Accepted}
use Rattle.arc_rules.proofs.Unfolding.{opened}

unfoldable shown : Unit {0}
unfolding opened reads stands_at
shown = tt

-- ==== fields

-- a field by its name and its body
abbrev pub field : List ℕ → List ℕ → Field
field n b = record { bytes = n ++ (bytes ":" ++ (b ++ bytes "\r\n")); name = length n; body = length n + 1 }

abbrev pub results : List ℕ → Field
results b = field (bytes "ARC-Authentication-Results") b

abbrev pub signature : List ℕ → Field
signature b = field (bytes "ARC-Message-Signature") b

abbrev pub seal : List ℕ → Field
seal b = field (bytes "ARC-Seal") b

-- one set
abbrev pub one : List Field
one = results (bytes "i=1;") ∷ signature (bytes "i=1;a=;b=;bh=;d=;h=;s=") ∷ seal (bytes "i=1;a=;b=;d=;s=;cv=none") ∷ []

-- .. and behind it a field of another name, one that can't be read, and one at another instance
abbrev others : List Field
others = one ++ (field (bytes "From") (bytes "i=1;") ∷ seal (bytes "i=2;") ∷ results (bytes "i=3;") ∷ [])

-- ==== the parts

abbrev kinds : List Kind
kinds = Results ∷ Signature ∷ Seal ∷ Other ∷ []

arc-kinds : map is_arc kinds ≡ true ∷ true ∷ true ∷ false ∷ []
arc-kinds = refl

same-kinds :
    map (λ (k : Kind). map (same_kind k) kinds) kinds
    ≡ (true ∷ false ∷ false ∷ false ∷ [])
    ∷ (false ∷ true ∷ false ∷ false ∷ [])
    ∷ (false ∷ false ∷ true ∷ false ∷ [])
    ∷ (false ∷ false ∷ false ∷ true ∷ [])
    ∷ []
same-kinds = refl

readable : map reads others ≡ true ∷ true ∷ true ∷ false ∷ false ∷ true ∷ []
unfolding shown
readable = refl

-- where each field stands: a field of its own kind, at its own instance
stands :
    map (λ (k : Kind). map (stands_at k 1) others) (Results ∷ Signature ∷ Seal ∷ [])
    ≡ (true ∷ false ∷ false ∷ false ∷ false ∷ false ∷ [])
    ∷ (false ∷ true ∷ false ∷ false ∷ false ∷ false ∷ [])
    ∷ (false ∷ false ∷ true ∷ false ∷ false ∷ false ∷ [])
    ∷ []
unfolding shown
stands = refl

-- how many stand at the instances 0 to 3
counts :
    map (λ (k : Kind). map (λ (i : ℕ). fields_at k i (others ++ others)) (0 ∷ 1 ∷ 2 ∷ 3 ∷ [])) (Results ∷ Signature ∷ Seal ∷ [])
    ≡ (0 ∷ 2 ∷ 0 ∷ 2 ∷ []) ∷ (0 ∷ 2 ∷ 0 ∷ 0 ∷ []) ∷ (0 ∷ 2 ∷ 0 ∷ 0 ∷ []) ∷ []
unfolding shown
counts = refl

-- RFC 8617, 5.2: none (1) at instance 1 and pass (2) after it
prescribed : map cv_prescribed (1 ∷ 2 ∷ 3 ∷ 49 ∷ 50 ∷ []) ≡ 1 ∷ 2 ∷ 2 ∷ 2 ∷ 2 ∷ []
prescribed = refl

-- ==== clause by clause: what is not accepted

-- N from 1
not_none : Accepted (field (bytes "From") [] ∷ []) 0 → ⊥
not_none a = let h : 1 ≤ 0 = a.from in omega arith

-- .. to 50
not-51 : (fs : List Field) → Accepted fs 51 → ⊥
not-51 fs a = let h : 51 ≤ 50 = a.to in omega arith

-- every ARC field reads: not a seal beside a whole set that doesn't, nor a signature or one of the first kind
not-unreadable-seal : Accepted (seal (bytes "i=2;") ∷ one) 1 → ⊥
unfolding shown
not-unreadable-seal a = no_true (a.reads (seal (bytes "i=2;")) (Memᴰ.head refl) refl)

not-unreadable-signature : Accepted (signature (bytes "i=2;") ∷ one) 1 → ⊥
unfolding shown
not-unreadable-signature a = no_true (a.reads (signature (bytes "i=2;")) (Memᴰ.head refl) refl)

not-unreadable-results : Accepted (results (bytes "i=2") ∷ one) 1 → ⊥
unfolding shown
not-unreadable-results a = no_true (a.reads (results (bytes "i=2")) (Memᴰ.head refl) refl)

-- instances 1 to N each have one field of each kind: no place is empty, also not at N, and none is taken twice
not-empty : Accepted (results (bytes "i=1;") ∷ signature (bytes "i=1;a=;b=;bh=;d=;h=;s=") ∷ []) 1 → ⊥
unfolding shown
not-empty a = let h : ◌≡◌ {A = ℕ} 0 1 = a.one Seal refl 1 (lit≤ tt) (lit≤ tt) in omega arith

not-empty-last : Accepted one 2 → ⊥
unfolding shown
not-empty-last a = let h : ◌≡◌ {A = ℕ} 0 1 = a.one Results refl 2 (lit≤ tt) (lit≤ tt) in omega arith

not-twice : Accepted (signature (bytes "i=1;a=;b=;bh=;d=;h=;s=") ∷ one) 1 → ⊥
unfolding shown
not-twice a = let h : ◌≡◌ {A = ℕ} 2 1 = a.one Signature refl 1 (lit≤ tt) (lit≤ tt) in omega arith

-- and there are no others, from N + 1 on
not-above : Accepted (results (bytes "i=2;") ∷ one) 1 → ⊥
unfolding shown
not-above a = let h : ◌≡◌ {A = ℕ} 1 0 = a.none Results refl 2 (lit< tt) in omega arith

-- the chain values: not pass at instance 1
not-pass-first : Accepted (seal (bytes "i=1;a=;b=;d=;s=;cv=pass") ∷ results (bytes "i=1;") ∷ signature (bytes "i=1;a=;b=;bh=;d=;h=;s=") ∷ []) 1 → ⊥
unfolding shown
not-pass-first a =
    let h : ◌≡◌ {A = ℕ} 2 1 = a.cv (seal (bytes "i=1;a=;b=;d=;s=;cv=pass")) (Memᴰ.head refl) (record { instance = 1; cv = 2 }) 23 refl refl in
    omega arith
