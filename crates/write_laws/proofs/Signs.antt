-- The last "@" of a text is the last "@" of the text as the report writes it, and a domain is written as it stands: so code may cut a column
-- before it decodes it. By induction over the text.
use Prim.Native.Nat.{ℕ, ◌+◌, ◌-◌, ◌/◌, ◌%◌}
use native.Mathlib.Omega.{arith}
use mathlib.Core.Path.{◌≡◌, refl, sym, ap, ◌∙◌}
use mathlib.Core.Bool.{Bool, true, false, not, cond, ◌&&◌, ◌||◌}
use mathlib.Core.List.{List, [], ◌∷◌}
use lib.Dec.{eqb, leb}
use borrow.Author.Tests.{eqb-true, ne_eqb, leb-true}
use Rattle.base_sequences.proofs.Booleans.{both, and_left, and_right}
use Rattle.base_sequences.proofs.Tables.{tested_at}
use Rattle.base_readers.specs.Texts.{within, one_of}
use Rattle.lexis_rules.specs.Bytes.{in_class}
use Rattle.result_rules.specs.Results.{in_domain, single_dots, domain}
use Rattle.result_rules.proofs.Unfolding as resinfo
use Rattle.result_laws.proofs.Values.{implied}
use Rattle.report_rules.specs.Report.{hex_digit, plain, escape}
use Rattle.write_rules.specs.Entries.{each, whole, local_of, domain_of}
use Rattle.write_laws.proofs.Bounds.{domain-bound}
use Rattle.write_laws.proofs.Values.{domain-each}

-- ==== what stands for a byte that doesn't stand for itself

hex-sign : (n : ℕ) → eqb (hex_digit n) 64 ≡ false
hex-sign n = go (leb n 9) refl
  where
    go : (t : Bool) → leb n 9 ≡ t → eqb (cond t (48 + n) (65 + (n - 10))) 64 ≡ false
    go true q = ne_eqb (48 + n) 64 (λ e. omega (arith, leb-true n 9 q))
    go false q = ne_eqb (65 + (n - 10)) 64 (λ e. omega arith)

hex-listed : (n : ℕ) → eqb 64 (hex_digit n) ≡ false
hex-listed n = ne_eqb 64 (hex_digit n) (λ e. both (eqb (hex_digit n) 64) (hex-sign n) (unfold-eq (sym e)))
  where
    unfold-eq : hex_digit n ≡ 64 → eqb (hex_digit n) 64 ≡ true
    unfold-eq e = rw e

pub plain-sign : plain 64 ≡ true
unfolding plain in_class within
plain-sign = refl

pub other_sign : (x : ℕ) → plain x ≡ false → eqb x 64 ≡ false
other_sign x e = go (eqb x 64) refl
  where
    go : (t : Bool) → eqb x 64 ≡ t → eqb x 64 ≡ false
    go true q = absurd (both (plain x) e (rw (eqb-true x 64 q) plain-sign))
    go false q = q

other-listed : (x : ℕ) → plain x ≡ false → eqb 64 x ≡ false
other-listed x e = ne_eqb 64 x (λ q. both (plain x) e (rw (← q) plain-sign))

-- ==== the cut

sign_same : (t : List ℕ) → one_of (escape t) 64 ≡ one_of t 64
unfolding escape one_of
sign_same [] = refl
sign_same (x ∷ t) = go (plain x) refl (sign_same t)
  where
    go : (b : Bool) → plain x ≡ b → one_of (escape t) 64 ≡ one_of t 64 → one_of (escape (x ∷ t)) 64 ≡ one_of (x ∷ t) 64
    go true e ih = rw (escape, e, ih)
    go false e ih = let h = hex-listed (x / 16) in let l = hex-listed (x % 16) in rw (escape, e, h, l, ih, other-listed x e)

pub local_same : (t : List ℕ) → local_of (escape t) ≡ escape (local_of t)
unfolding escape local_of
local_same [] = refl
local_same (x ∷ t) = go (plain x) refl (eqb x 64 && not (one_of t 64)) refl (local_same t)
  where
    go : (b : Bool) → plain x ≡ b → (c : Bool) → (eqb x 64 && not (one_of t 64)) ≡ c → local_of (escape t) ≡ escape (local_of t) → local_of (escape (x ∷ t)) ≡ escape (local_of (x ∷ t))
    go true e true q ih = rw (escape, local_of, e, sign_same t, q)
    go true e false q ih = rw (escape, local_of, e, sign_same t, q, e, ih)
    go false e c q ih =
        let h = hex-sign (x / 16) in
        let l = hex-sign (x % 16) in
        let o = other_sign x e in
        rw (escape, local_of, e, h, l, o, e, ih)

pub domain-same : (t : List ℕ) → domain_of (escape t) ≡ escape (domain_of t)
unfolding escape domain_of
domain-same [] = refl
domain-same (x ∷ t) = go (plain x) refl (eqb x 64 && not (one_of t 64)) refl (domain-same t)
  where
    go : (b : Bool) → plain x ≡ b → (c : Bool) → (eqb x 64 && not (one_of t 64)) ≡ c → domain_of (escape t) ≡ escape (domain_of t) → domain_of (escape (x ∷ t)) ≡ escape (domain_of (x ∷ t))
    go true e true q ih = rw (escape, domain_of, e, sign_same t, q)
    go true e false q ih = rw (escape, domain_of, e, sign_same t, q, ih)
    go false e c q ih =
        let h = hex-sign (x / 16) in
        let l = hex-sign (x % 16) in
        let o = other_sign x e in
        rw (escape, domain_of, e, h, l, o, ih)

-- ==== a domain is written as it stands

percent-out : in_domain 37 ≡ false
unfolding resinfo.opened
percent-out = refl

domain-plain : (b : ℕ) → in_domain b ≡ true → plain b ≡ true
unfolding resinfo.opened plain
domain-plain b e = implied (in_domain b) (plain b) (tested_at (λ b. not (in_domain b) || plain b) 127 b tt (domain-bound b e)) e

pub escape-same : (d : List ℕ) → each in_domain d ≡ true → escape d ≡ d
unfolding escape each
escape-same [] e = refl
escape-same (x ∷ d) e =
    let p : plain x ≡ true = domain-plain x (and_left (in_domain x) _ e) in
    rw (escape, p) (ap (λ (l : List ℕ). x ∷ l) (escape-same d (and_right (in_domain x) _ e)))

same-escape : (d : List ℕ) → each in_domain (escape d) ≡ true → escape d ≡ d
unfolding escape each
same-escape [] e = refl
same-escape (x ∷ d) e = go (plain x) refl (same-escape d)
  where
    go : (b : Bool) → plain x ≡ b → (each in_domain (escape d) ≡ true → escape d ≡ d) → escape (x ∷ d) ≡ x ∷ d
    go true q ih = rw (escape, q) (ap (λ (l : List ℕ). x ∷ l) (ih (and_right (in_domain x) _ (rw (escape, q) at e))))
    go false q ih = absurd (both (in_domain 37) percent-out (and_left (in_domain 37) _ (rw (escape, q) at e)))

-- so code may test a domain before it decodes it
pub domain-raw : (d : List ℕ) → whole domain (escape d) ≡ whole domain d
domain-raw d = go (whole domain (escape d)) refl (whole domain d) refl
  where
    go : (a : Bool) → whole domain (escape d) ≡ a → (b : Bool) → whole domain d ≡ b → whole domain (escape d) ≡ whole domain d
    go true p b q = ap (whole domain) (same-escape d (domain-each (escape d) p))
    go false p true q = ap (whole domain) (escape-same d (domain-each d q))
    go false p false q = p ∙ sym q

-- ==== dots

hex-dot : (n : ℕ) → eqb (hex_digit n) 46 ≡ false
hex-dot n = go (leb n 9)
  where
    go : (t : Bool) → eqb (cond t (48 + n) (65 + (n - 10))) 46 ≡ false
    go true = ne_eqb (48 + n) 46 (λ e. omega arith)
    go false = ne_eqb (65 + (n - 10)) 46 (λ e. omega arith)

plain-dot : plain 46 ≡ true
unfolding plain in_class within
plain-dot = refl

other-dot : (x : ℕ) → plain x ≡ false → eqb x 46 ≡ false
other-dot x e = ne_eqb x 46 (λ q. both (plain x) e (rw q plain-dot))

-- so code may look for dots before it decodes a local part
pub dots-raw : (b : Bool) (l : List ℕ) → single_dots b (escape l) ≡ single_dots b l
unfolding single_dots escape
dots-raw b [] = refl
dots-raw b (x ∷ l) = go (plain x) refl (eqb x 46) refl (dots-raw true l) (dots-raw false l)
  where
    go : (p : Bool) → plain x ≡ p → (q : Bool) → eqb x 46 ≡ q → single_dots true (escape l) ≡ single_dots true l → single_dots false (escape l) ≡ single_dots false l
        → single_dots b (escape (x ∷ l)) ≡ single_dots b (x ∷ l)
    go true e true q i j = rw (escape, single_dots, e, q, i)
    go true e false q i j = rw (escape, single_dots, e, q, j)
    go false e q r i j =
        let h = hex-dot (x / 16) in
        let k = hex-dot (x % 16) in
        let o = other-dot x e in
        rw (escape, single_dots, e, h, k, o, j)
