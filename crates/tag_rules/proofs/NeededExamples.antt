-- Which tag lists are those of a signature and of a seal, and chain values, at worked examples, computed.
use Prim.Native.Nat.{ℕ}
use mathlib.Core.Path.{refl}
use mathlib.Core.Bool.{Bool, true, false}
use mathlib.Core.List.{List, [], ◌∷◌}
use Rattle.base_readers.specs.Texts.{bytes}
use Rattle.base_readers.specs.Parsers.{nothing, got}
use Rattle.base_readers.proofs.Cases.{case, Says}
use Rattle.tag_rules.specs.Tags.{Tag, tags}
use Rattle.tag_rules.specs.Needed.{chain_value, is_signature, is_seal}
use Rattle.tag_rules.proofs.Unfolding.{opened}

-- whether a test holds of the tags that a text has
abbrev told : (List Tag → Bool) → List ℕ → Bool
told p xs = elim (tags xs) [ nothing ↦ false | got ts n ↦ p ts ]

-- 01, The chain: a signature needs a, b, bh, d, h and s; names are case-sensitive, none twice, no second i; other tags are allowed
signatures :
    Says (told is_signature)
    (case (bytes "a=1;b=2;bh=3;d=4;h=5;s=6") true
    ∷ case (bytes "s=;h=;d=;bh=;b=;a=;cv=x;I=1;A=") true
    ∷ case (bytes "b=2;bh=3;d=4;h=5;s=6") false
    ∷ case (bytes "a=1;bh=3;d=4;h=5;s=6") false
    ∷ case (bytes "a=1;b=2;d=4;h=5;s=6") false
    ∷ case (bytes "a=1;b=2;bh=3;h=5;s=6") false
    ∷ case (bytes "a=1;b=2;bh=3;d=4;s=6") false
    ∷ case (bytes "a=1;b=2;bh=3;d=4;h=5") false
    ∷ case (bytes "A=1;b=2;bh=3;d=4;h=5;s=6") false
    ∷ case (bytes "a=1;b=2;bh=3;d=4;h=5;s=6;i=1") false
    ∷ case (bytes "a=1;b=2;bh=3;d=4;h=5;s=6;x=;x=") false
    ∷ [])
unfolding opened
signatures = refl

-- a seal needs a, b, d, s and cv, has no h, and its cv is none, pass or fail in any case
seals :
    Says (told is_seal)
    (case (bytes "a=1;b=2;d=4;s=6;cv=none") true
    ∷ case (bytes "cv= Pass ;s=;d=;b=;a=;bh=;H=") true
    ∷ case (bytes "b=2;d=4;s=6;cv=none") false
    ∷ case (bytes "a=1;d=4;s=6;cv=none") false
    ∷ case (bytes "a=1;b=2;s=6;cv=none") false
    ∷ case (bytes "a=1;b=2;d=4;cv=none") false
    ∷ case (bytes "a=1;b=2;d=4;s=6") false
    ∷ case (bytes "a=1;b=2;d=4;s=6;cv=") false
    ∷ case (bytes "a=1;b=2;d=4;s=6;cv=passed") false
    ∷ case (bytes "a=1;b=2;d=4;s=6;cv=fail;h=") false
    ∷ case (bytes "a=1;b=2;d=4;s=6;cv=fail;i=1") false
    ∷ case (bytes "a=1;b=2;d=4;s=6;cv=fail;s=6") false
    ∷ [])
unfolding opened
seals = refl

-- cv none, pass and fail in any case: 1, 2 and 3; 0 for anything else
chain-values :
    Says chain_value
    (case (bytes "none") 1 ∷ case (bytes "NONE") 1 ∷ case (bytes "pass") 2 ∷ case (bytes "Pass") 2 ∷ case (bytes "fail") 3 ∷ case (bytes "fAIL") 3 ∷ case [] 0
    ∷ case (bytes "pas") 0 ∷ [])
unfolding opened
chain-values = refl
