-- One field of a chain at worked examples, computed: kinds, instances, and what each kind of field says, with neighbours on the other side.
use Prim.Native.Nat.{ℕ}
use mathlib.Core.Path.{refl}
use mathlib.Core.List.{[], ◌∷◌}
use Rattle.base_readers.specs.Texts.{bytes}
use Rattle.base_readers.specs.Parsers.{Got, nothing, got}
use Rattle.base_readers.proofs.Cases.{case, Says}
use Rattle.arc_rules.specs.declared.Kind.TheVariants.{Results, Signature, Seal, Other}
use Rattle.tag_rules.specs.Needed.{chain_value}
use Rattle.arc_rules.specs.Sets.{kind_named, instance, Said, says}
use Rattle.arc_rules.proofs.Unfolding.{opened}

-- ==== kinds

-- 01, The chain: Kinds: ARC-Authentication-Results, ARC-Message-Signature, ARC-Seal, without regard to case
kinds :
    Says kind_named
    (case (bytes "ARC-Authentication-Results") Results
    ∷ case (bytes "arc-authentication-results") Results
    ∷ case (bytes "ARC-Message-Signature") Signature
    ∷ case (bytes "Arc-Message-SIGNATURE") Signature
    ∷ case (bytes "ARC-Seal") Seal
    ∷ case (bytes "aRC-sEAL") Seal
    ∷ case (bytes "Authentication-Results") Other
    ∷ case (bytes "ARC-Authentication-Result") Other
    ∷ case (bytes "DKIM-Signature") Other
    ∷ case (bytes "ARC-Message-Signatures") Other
    ∷ case (bytes "ARC-Sea") Other
    ∷ case (bytes "ARC-Seals") Other
    ∷ case (bytes "ARC_Seal") Other
    ∷ case [] Other
    ∷ [])
unfolding opened
kinds = refl

-- ==== instances

-- 01, Samples: i=50 reads; i=0 and i=51 do not. One or two digits
instances :
    Says instance
    (case (bytes "i=1;") (got 1 4)
    ∷ case (bytes "i=9;") (got 9 4)
    ∷ case (bytes "i=10;") (got 10 5)
    ∷ case (bytes "i=49;") (got 49 5)
    ∷ case (bytes "i=50;") (got 50 5)
    ∷ case (bytes "i=01;") (got 1 5)
    ∷ case (bytes "i=0;") nothing
    ∷ case (bytes "i=00;") nothing
    ∷ case (bytes "i=51;") nothing
    ∷ case (bytes "i=99;") nothing
    ∷ case (bytes "i=001;") nothing
    ∷ case (bytes "i=100;") nothing
    ∷ case (bytes "i=;") nothing
    ∷ case (bytes "i=1x;") nothing
    ∷ case (bytes "i=-1;") nothing
    ∷ [])
unfolding opened
instances = refl

-- 01, The chain: space, lower-case i, "=", digits and ";", with space, also comments, allowed between and nowhere else
parts :
    Says instance
    (case (bytes " i=1; x") (got 1 5)
    ∷ case (bytes "(c)i(c)=(c)50(c);(c)") (got 50 17)
    ∷ case (bytes "\r\n\ti\t= \r\n 7 ;") (got 7 13)
    ∷ case (bytes "I=1;") nothing
    ∷ case (bytes "i:1;") nothing
    ∷ case (bytes "i=1") nothing
    ∷ case (bytes "i=1,") nothing
    ∷ case (bytes "i=1 0;") nothing
    ∷ case (bytes ";i=1;") nothing
    ∷ case (bytes "1;") nothing
    ∷ case [] nothing
    ∷ [])
unfolding opened
parts = refl

-- ==== what each kind of field says

abbrev said : ℕ → ℕ → ℕ → Got Said
said i c n = got (record { instance = i; cv = c }) n

-- 01, The chain: for the first kind nothing after the instance is read
results : Says (says Results) (case (bytes "i=2;(;;") (said 2 0 4) ∷ case (bytes "i=50;i=1;cv=x") (said 50 0 5) ∷ case (bytes "i=2(;;") nothing ∷ [])
unfolding opened
results = refl

-- a field of another name says nothing
others : Says (says Other) (case (bytes "i=1;") nothing ∷ [])
unfolding opened
others = refl

-- 01, The chain: a signature needs a, b, bh, d, h and s, in any order
signature-needs :
    Says (says Signature)
    (case (bytes "i=1;a=;b=;bh=;d=;h=;s=") (said 1 0 22)
    ∷ case (bytes "i=1;s=;h=;d=;bh=;b=;a=;") (said 1 0 23)
    ∷ case (bytes "i=1;b=;bh=;d=;h=;s=") nothing
    ∷ case (bytes "i=1;a=;bh=;d=;h=;s=") nothing
    ∷ case (bytes "i=1;a=;b=;d=;h=;s=") nothing
    ∷ case (bytes "i=1;a=;b=;bh=;h=;s=") nothing
    ∷ case (bytes "i=1;a=;b=;bh=;d=;s=") nothing
    ∷ case (bytes "i=1;a=;b=;bh=;d=;h=") nothing
    ∷ case (bytes "i=1;") nothing
    ∷ [])
unfolding opened
signature-needs = refl

-- 01, The chain: a DKIM tag list follows the instance, with space in it; other tags are allowed
signatures :
    Says (says Signature)
    (case (bytes " i=1; a=x y\r\n z;b =\t; bh=/=;d=;H=;h=;s=;") (said 1 0 40)
    ∷ case (bytes "i=50;a=;b=;bh=;d=;h=;s=;t=1;cv=x") (said 50 0 32)
    ∷ case (bytes "i=51;a=;b=;bh=;d=;h=;s=") nothing
    ∷ case (bytes "a=;b=;bh=;d=;h=;s=;i=1") nothing
    ∷ [])
unfolding opened
signatures = refl

-- 01, The chain: names are case-sensitive, none twice, no second i
signature-names :
    Says (says Signature)
    (case (bytes "i=1;a=;b=;bh=;d=;h=;s=;i=1") nothing
    ∷ case (bytes "i=1;i=2;a=;b=;bh=;d=;h=;s=") nothing
    ∷ case (bytes "i=1;a=;b=;bh=;d=;h=;s=;I=1") (said 1 0 26)
    ∷ case (bytes "i=1;a=;b=;bh=;d=;h=;s=;b=") nothing
    ∷ case (bytes "i=1;a=;t=;b=;bh=;d=;h=;t=;s=") nothing
    ∷ case (bytes "i=1;a=;b=;bh=;d=;h=;s=;B=") (said 1 0 25)
    ∷ case (bytes "i=1;A=;b=;bh=;d=;h=;s=") nothing
    ∷ [])
unfolding opened
signature-names = refl

-- 01, The chain: the tag list is read to its end, with space without comments. A last ";" may end it
signature-lists :
    Says (says Signature)
    (case (bytes "i=1;a=;b=;bh=;d=;h=;s=;") (said 1 0 23)
    ∷ case (bytes "i=1;a=;b=;bh=;d=;h=;s=; ") nothing
    ∷ case (bytes "i=1;a=;b=;bh=;d=;h=;s=;;") nothing
    ∷ case (bytes "i=1;;a=;b=;bh=;d=;h=;s=") nothing
    ∷ case (bytes "i=1;a=(c);b=;bh=;d=;h=;s=") (said 1 0 25)
    ∷ case (bytes "i=1;(c)a=;b=;bh=;d=;h=;s=") nothing
    ∷ case (bytes "i=1;a=;b=;bh=;d=;h=;s=;1a=") nothing
    ∷ case (bytes "i=1;a=;b=;bh=;d=;h=;s=;a_1=") (said 1 0 27)
    ∷ case (bytes "i=1;a=\r;b=;bh=;d=;h=;s=") nothing
    ∷ [])
unfolding opened
signature-lists = refl

-- 01, The chain: a seal needs a, b, d, s and cv, in any order
seal-needs :
    Says (says Seal)
    (case (bytes "i=1;a=;b=;d=;s=;cv=none") (said 1 1 23)
    ∷ case (bytes "i=1;cv=none;s=;d=;b=;a=;") (said 1 1 24)
    ∷ case (bytes "i=1;b=;d=;s=;cv=none") nothing
    ∷ case (bytes "i=1;a=;d=;s=;cv=none") nothing
    ∷ case (bytes "i=1;a=;b=;s=;cv=none") nothing
    ∷ case (bytes "i=1;a=;b=;d=;cv=none") nothing
    ∷ case (bytes "i=1;a=;b=;d=;s=") nothing
    ∷ [])
unfolding opened
seal-needs = refl

-- 01, The chain: a seal has no h; other tags are allowed
seal-others :
    Says (says Seal)
    (case (bytes "i=1;a=;b=;d=;s=;cv=pass;h=") nothing
    ∷ case (bytes "i=1;h=x;a=;b=;d=;s=;cv=pass") nothing
    ∷ case (bytes "i=1;a=;b=;d=;s=;cv=pass;H=") (said 1 2 26)
    ∷ case (bytes "i=1;a=;b=;d=;s=;cv=pass;bh=;t=") (said 1 2 30)
    ∷ [])
unfolding opened
seal-others = refl

-- 01, The chain: none twice and no second i in a seal too
seals :
    Says (says Seal)
    (case (bytes "i=1;a=;b=;d=;s=;cv=none;cv=none") nothing
    ∷ case (bytes "i=1;a=;b=;d=;s=;cv=none;i=1") nothing
    ∷ case (bytes "i=1;a=;b=;d=;s=;cv=none;") (said 1 1 24)
    ∷ case (bytes "i=1;a=;b=;d=;s=;cv=none; ") nothing
    ∷ case (bytes "i=0;a=;b=;d=;s=;cv=none") nothing
    ∷ case (bytes "i=12;a=;b=;d=;s=;cv=none") (said 12 1 24)
    ∷ [])
unfolding opened
seals = refl

-- 01, The chain: cv is none, pass or fail in any case (1, 2 and 3), without the space around it
chain-values :
    Says (says Seal)
    (case (bytes "i=1;a=;b=;d=;s=;cv= \r\n PASS\t") (said 1 2 28)
    ∷ case (bytes "i=1;a=;b=;d=;s=;cv=Fail;bh=") (said 1 3 27)
    ∷ case (bytes "i=1;a=;b=;d=;s=;cv=\tnOnE \r\n ;") (said 1 1 29)
    ∷ [])
unfolding opened
chain-values = refl

other-values :
    Says (says Seal)
    (case (bytes "i=1;a=;b=;d=;s=;cv=") nothing
    ∷ case (bytes "i=1;a=;b=;d=;s=;cv=pa ss") nothing
    ∷ case (bytes "i=1;a=;b=;d=;s=;cv=passed") nothing
    ∷ case (bytes "i=1;a=;b=;d=;s=;cv=pass(c)") nothing
    ∷ case (bytes "i=1;a=;b=;d=;s=;CV=pass") nothing
    ∷ case (bytes "i=1;a=;b=;d=;s=;cv=x;c=pass") nothing
    ∷ [])
unfolding opened
other-values = refl

words :
    Says chain_value
    (case (bytes "none") 1
    ∷ case (bytes "NONE") 1
    ∷ case (bytes "pass") 2
    ∷ case (bytes "Pass") 2
    ∷ case (bytes "fail") 3
    ∷ case (bytes "faiL") 3
    ∷ case [] 0
    ∷ case (bytes "neutral") 0
    ∷ case (bytes "failed") 0
    ∷ [])
unfolding opened
words = refl
