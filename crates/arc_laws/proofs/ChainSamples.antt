-- The chain at worked examples of whole blocks, computed from their bytes: each outcome, with two and three sets too, and the verdicts.
use Prim.Native.Nat.{ℕ}
use mathlib.Core.Path.{refl}
use mathlib.Core.List.{List, [], ◌∷◌, ◌++◌}
use Rattle.base_readers.specs.Texts.{bytes}
use Rattle.base_readers.proofs.Cases.{case, Says}
use Rattle.arc_rules.specs.Chain.{Answer, blank, judge}
use Rattle.arc_rules.proofs.Unfolding.{opened}

-- a field of each kind at an instance
abbrev r : List ℕ → List ℕ
r i = bytes "ARC-Authentication-Results: i=" ++ (i ++ bytes "; a; none\r\n")

abbrev m : List ℕ → List ℕ
m i = bytes "arc-message-signature : i=" ++ (i ++ bytes "; a=;b=;bh=;d=;h=;s=\r\n")

abbrev z : List ℕ → List ℕ → List ℕ
z i c = bytes "ARC-Seal:\r\n i=" ++ (i ++ (bytes "; a=;b=;d=;s=;cv=" ++ (c ++ bytes "\r\n")))

abbrev judges : List ℕ → List ℕ → Answer
judges v b = judge b v

abbrev failed : ℕ → ℕ → Answer
failed a f = record { number = 0; place = 0; outcome = 1; reason = a; field = f; instances = 0; status = 2; oldest = 0 }

abbrev passed : ℕ → ℕ → Answer
passed n o = record { number = 0; place = 0; outcome = 2; reason = 0; field = 0; instances = n; status = 1; oldest = o }

abbrev rejected : ℕ → Answer
rejected n = record { number = 0; place = 0; outcome = 2; reason = 0; field = 0; instances = n; status = 2; oldest = 0 }

abbrev one : List ℕ
one = r (bytes "1") ++ (m (bytes "1") ++ z (bytes "1") (bytes "none"))

-- two sets in another order, with a field of another name between
abbrev two : List ℕ
two = z (bytes "2") (bytes "Pass") ++ (one ++ (bytes "From: a\r\n" ++ (m (bytes "2") ++ r (bytes "02"))))

outcomes :
    Says (judges (3 ∷ []))
    (case [] (blank 0 0)
    ∷ case (bytes "From: a\r\n") (blank 0 0)
    ∷ case one (passed 1 0)
    ∷ case (bytes "ARC-Seal: i=1\r\n" ++ one) (failed 1 1)
    ∷ case (one ++ (bytes "From: a\r\n" ++ (one ++ bytes "ARC-Seal: i=1\r\n"))) (failed 1 8)
    ∷ case (one ++ (bytes "From: a\r\n" ++ one)) (failed 2 5)
    ∷ case (m (bytes "1") ++ z (bytes "1") (bytes "none")) (failed 3 0)
    ∷ case (one ++ (r (bytes "3") ++ (m (bytes "3") ++ z (bytes "3") (bytes "pass")))) (failed 3 0)
    ∷ case (r (bytes "1") ++ (m (bytes "1") ++ z (bytes "1") (bytes "fail"))) (failed 4 0)
    ∷ case (r (bytes "1") ++ (m (bytes "1") ++ z (bytes "1") (bytes "pass"))) (failed 5 0)
    ∷ case (one ++ (r (bytes "2") ++ (m (bytes "2") ++ z (bytes "2") (bytes "none")))) (failed 5 0)
    ∷ case two (blank 10 0)
    ∷ case (two ++ bytes "A") (blank 2 269)
    ∷ [])
unfolding opened
outcomes = refl

-- verdicts of two instances: seal good counts 2, signature good counts 1
verdicts :
    Says (λ v. judge two v)
    (case (3 ∷ 3 ∷ []) (passed 2 0)
    ∷ case (2 ∷ 3 ∷ []) (passed 2 2)
    ∷ case (3 ∷ 2 ∷ []) (rejected 2)
    ∷ case (1 ∷ 3 ∷ []) (rejected 2)
    ∷ case (3 ∷ 4 ∷ []) (blank 10 0)
    ∷ case (3 ∷ []) (blank 10 0)
    ∷ case (3 ∷ 3 ∷ 3 ∷ []) (blank 10 0)
    ∷ [])
unfolding opened
verdicts = refl
