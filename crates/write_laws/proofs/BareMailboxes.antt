-- 02, ticket [1]: a mailbox's local part is written bare exactly where, written so, the mailbox reads back as itself from just its own bytes. As
-- in BareTexts: with a quoted string it is read from two bytes more at least.
use Prim.Native.Char.{code}
use Prim.Native.Nat.{ℕ, zero, suc, ◌+◌, ◌≤◌}
use native.Mathlib.Omega.{arith}
use mathlib.Core.Path.{◌≡◌, refl, sym, ap, ◌∙◌}
use mathlib.Core.Bool.{Bool, true, false}
use mathlib.Core.List.{List, [], ◌∷◌, ◌++◌}
use lib.ListN.{length, take, drop, length-append}
use borrow.Author.Tests.{eq-eqb}
use Rattle.base_readers.specs.Texts.{same}
use Rattle.base_readers.specs.Readers.{run}
use Rattle.base_readers.specs.Parsers.{got, give, when, byte, taken, text, branch}
use Rattle.base_readers.proofs.Sequencing.{Both, bind_inv, give-inv, when-inv, byte-inv, taken-inv, text-inv, branch_yes, branch_no}
use Rattle.lexis_rules.specs.Pieces.{token, quoted}
use Rattle.lexis_rules.specs.Words.{quoted_text}
use Rattle.result_rules.specs.Results.{Token, Quoted, Mailbox, AtDomain, Value, next, read_quoted, in_local_part, is_local_part, domain, addressed, address, quoted_mailbox, quoted_value, token_value, at_behind, property_value}
use Rattle.result_laws.proofs.Following.{Delimited}
use Rattle.write_rules.specs.Entries.{each, whole, local_of}
use Rattle.write_rules.specs.Bodies.{quote, bare_or, is_bare_local, pvalue}
use Rattle.write_laws.proofs.Quotes.{each-run}
use Rattle.write_laws.proofs.Values.{run-took, domain-no-at, local-of, domain-of, domain-finds, bare-mailbox-reads}
use Rattle.write_laws.proofs.BareTexts.{quoted-longer, bare-or}

quoted-mailbox : Quoted ≡ Mailbox → ⊥
quoted-mailbox e = let z : ◌≡◌ {A = ℕ} 0 1 = cc in omega arith

token-mailbox : Token ≡ Mailbox → ⊥
token-mailbox e = let z : ◌≡◌ {A = ℕ} 0 1 = cc in omega arith

at-mailbox : AtDomain ≡ Mailbox → ⊥
at-mailbox e = let z : ◌≡◌ {A = ℕ} 0 1 = cc in omega arith

take-fits : (n : ℕ) (l : List ℕ) → length (take n l) ≤ n
take-fits zero l = omega arith
take-fits (suc n) [] = omega arith
take-fits (suc n) (x ∷ l) = let h = take-fits n l in omega (arith, h)

-- a property value that was read from n bytes: an address, a mailbox with a quoted string, which has two bytes more than its text at least, or no
-- mailbox
data Mailed (v : Value) (n : ℕ) : Type 0 where
  addressed-as : (l d : List ℕ) → each in_local_part l ≡ true → is_local_part l ≡ true → whole domain d ≡ true → addressed l d ≡ v → Mailed v n
  longer : 2 + length v.text ≤ n → Mailed v n
  other : (v.kind ≡ Mailbox → ⊥) → Mailed v n

address-mailed : (xs : List ℕ) (v : Value) (n : ℕ) → address xs ≡ got v n → Mailed v n
unfolding address
address-mailed xs v n h =
    let a = bind_inv (taken (run in_local_part)) _ xs v n h in
    let t = taken-inv (run in_local_part) xs a.val a.fst a.reads in
    let ys = drop a.fst xs in
    let b = bind_inv (when (is_local_part a.val)) _ ys v a.snd a.goes in
    let s = (when-inv (is_local_part a.val) ys b.val b.fst b.reads).0 in
    let zs = drop b.fst ys in
    let c = bind_inv (byte 64) _ zs v b.snd b.goes in
    let d = bind_inv (text domain) _ (drop c.fst zs) v c.snd c.goes in
    let f = domain-finds (drop c.fst zs) d.val d.fst d.reads in
    let g = give-inv (addressed a.val d.val) (drop d.fst (drop c.fst zs)) v d.snd d.goes in
    addressed-as a.val d.val (rw (t.1, ← t.0) (run-took in_local_part xs)) s f.1 g.0

quoted-size : (xs q : List ℕ) (n : ℕ) → read_quoted xs ≡ got q n → 2 + length q ≤ n
unfolding read_quoted
quoted-size xs q n h =
    let a = bind_inv (text quoted) _ xs q n h in
    let v = text-inv quoted xs a.val a.fst a.reads in
    let g = give-inv (quoted_text a.val) (drop a.fst xs) q a.snd a.goes in
    let l = quoted-longer xs v.less (v.takes ∙ v.some) in
    let i : quoted_text (take (suc v.less) xs) ≡ q = ap quoted_text (ap (λ (k : ℕ). take k xs) (sym v.some) ∙ sym v.is) ∙ g.0 in
    let m = a.sum in
    let j = v.some in
    let k : length (quoted_text (take (suc v.less) xs)) ≡ length q = ap length i in
    omega (arith, l, m, j, k)

quoted-mailed : (xs : List ℕ) (v : Value) (n : ℕ) → quoted_value xs ≡ got v n → Mailed v n
unfolding quoted_value quoted_mailbox
quoted-mailed xs v n h = go (next 64 ys) refl
  where
    a : Both read_quoted (λ (q : List ℕ). branch (next 64) (quoted_mailbox q) (give (record { kind = Quoted; text = q }))) xs v n
    a = bind_inv read_quoted _ xs v n h

    ys : List ℕ
    ys = drop a.fst xs

    go : (t : Bool) → next 64 ys ≡ t → Mailed v n
    go true e =
        let r : quoted_mailbox a.val ys ≡ got v a.snd = sym (branch_yes (next 64) _ _ ys e) ∙ a.goes in
        let b = bind_inv (byte 64) _ ys v a.snd r in
        let c = bind_inv (text domain) _ (drop b.fst ys) v b.snd b.goes in
        let d = text-inv domain (drop b.fst ys) c.val c.fst c.reads in
        let g = give-inv (record { kind = Mailbox; text = a.val ++ (64 ∷ c.val) }) (drop c.fst (drop b.fst ys)) v c.snd c.goes in
        let w = (byte-inv 64 ys b.val b.fst b.reads).1 in
        let q = quoted-size xs a.val a.fst a.reads in
        let l : length v.text ≡ length a.val + suc (length c.val) = ap (λ (u : Value). length u.text) (sym g.0) ∙ length-append a.val (64 ∷ c.val) in
        let m : length c.val ≤ c.fst = rw d.is (take-fits c.fst (drop b.fst ys)) in
        let i = a.sum in
        let j = b.sum in
        let k = c.sum in
        longer (omega (arith, q, l, m, i, j, k, w))
    go false e =
        let r : give (record { kind = Quoted; text = a.val }) ys ≡ got v a.snd = sym (branch_no (next 64) _ _ ys e) ∙ a.goes in
        let g = give-inv (record { kind = Quoted; text = a.val }) ys v a.snd r in
        other (λ m. quoted-mailbox (ap (λ (u : Value). u.kind) g.0 ∙ m))

token-mailed : (xs : List ℕ) (v : Value) (n : ℕ) → token_value xs ≡ got v n → Mailed v n
unfolding token_value
token-mailed xs v n h =
    let a = bind_inv (text token) _ xs v n h in
    let g = give-inv (record { kind = Token; text = a.val }) (drop a.fst xs) v a.snd a.goes in
    other (λ m. token-mailbox (ap (λ (u : Value). u.kind) g.0 ∙ m))

value-mailed : (xs : List ℕ) (v : Value) (n : ℕ) → property_value xs ≡ got v n → Mailed v n
unfolding property_value
value-mailed xs v n h = go (at_behind xs) (next 34 xs) refl refl
  where
    go : (s t : Bool) → at_behind xs ≡ s → next 34 xs ≡ t → Mailed v n
    go true t e f = address-mailed xs v n (sym (branch_yes at_behind address _ xs e) ∙ h)
    go false true e f = quoted-mailed xs v n (sym (branch_yes (next 34) quoted_value token_value xs f) ∙ (sym (branch_no at_behind address _ xs e) ∙ h))
    go false false e f = token-mailed xs v n (sym (branch_no (next 34) quoted_value token_value xs f) ∙ (sym (branch_no at_behind address _ xs e) ∙ h))

-- a run that is no empty one
bare-local : (l : List ℕ) → each in_local_part l ≡ true → is_local_part l ≡ true → (l ≡ [] → ⊥) → is_bare_local l ≡ true
unfolding is_bare_local whole is_local_part same
bare-local [] e s n = absurd (n refl)
bare-local (x ∷ l) e s n = rw (eq-eqb (run in_local_part (x ∷ l)) (length (x ∷ l)) (each-run in_local_part (x ∷ l) e)) s

-- the local part and the domain of a mailbox
module _ (l d x : List ℕ) (D : whole domain d ≡ true) where
  abbrev mailbox : Value
  mailbox = record { kind = Mailbox; text = l ++ (code "@" ∷ d) }

  mailed-bare : Mailed mailbox (length (l ++ (64 ∷ d))) → is_bare_local l ≡ true
  unfolding addressed
  mailed-bare (addressed-as [] e f g h i) = absurd (at-mailbox (ap (λ (u : Value). u.kind) i))
  mailed-bare (addressed-as (y ∷ k) e f g h i) =
      let t : (y ∷ k) ++ (64 ∷ e) ≡ l ++ (64 ∷ d) = ap (λ (u : Value). u.text) i in
      let j : y ∷ k ≡ l = sym (local-of e (domain-no-at e h) (y ∷ k)) ∙ (ap local_of t ∙ local-of d (domain-no-at d D) l) in
      rw (← j) (bare-local (y ∷ k) f g (λ z. let q : ◌≡◌ {A = ℕ} (length (y ∷ k)) 0 = ap length z in omega (arith, q)))
  mailed-bare (longer h) = absurd (omega (arith, h))
  mailed-bare (other h) = absurd (h refl)

  mailbox-whole : property_value ((l ++ (64 ∷ d)) ++ x) ≡ got mailbox (length (l ++ (64 ∷ d))) → is_bare_local l ≡ true
  mailbox-whole h = mailed-bare (value-mailed ((l ++ (64 ∷ d)) ++ x) mailbox (length (l ++ (64 ∷ d))) h)

  written-mailbox : pvalue mailbox ≡ bare_or (is_bare_local l) l ++ (64 ∷ d)
  unfolding pvalue
  written-mailbox = let n = domain-no-at d D in rw (local-of d n l, domain-of d n l)

  pub mailbox-bare-when : Delimited x → pvalue mailbox ≡ l ++ (code "@" ∷ d) → property_value ((l ++ (code "@" ∷ d)) ++ x) ≡ got mailbox (length (l ++ (code "@" ∷ d)))
  mailbox-bare-when g e =
      let w : length (bare_or (is_bare_local l) l ++ (64 ∷ d)) ≡ length (l ++ (64 ∷ d)) = ap length (sym written-mailbox ∙ e) in
      let i : length (bare_or (is_bare_local l) l ++ (64 ∷ d)) ≡ length (bare_or (is_bare_local l) l) + length (64 ∷ d) = length-append (bare_or (is_bare_local l) l) (64 ∷ d) in
      let j : length (l ++ (64 ∷ d)) ≡ length l + length (64 ∷ d) = length-append l (64 ∷ d) in
      bare-mailbox-reads l d (bare-or (is_bare_local l) l (omega (arith, w, i, j))) D x g

  pub mailbox-when-bare : property_value ((l ++ (code "@" ∷ d)) ++ x) ≡ got mailbox (length (l ++ (code "@" ∷ d))) → pvalue mailbox ≡ l ++ (code "@" ∷ d)
  unfolding bare_or
  mailbox-when-bare h = written-mailbox ∙ rw (mailbox-whole h)

  pub mailbox-quoted : Delimited x → (property_value ((l ++ (code "@" ∷ d)) ++ x) ≡ got mailbox (length (l ++ (code "@" ∷ d))) → ⊥)
      → pvalue mailbox ≡ quote l ++ (code "@" ∷ d)
  unfolding bare_or
  mailbox-quoted g n = go (is_bare_local l) refl
    where
      go : (b : Bool) → is_bare_local l ≡ b → pvalue mailbox ≡ quote l ++ (64 ∷ d)
      go true e = absurd (n (bare-mailbox-reads l d e D x g))
      go false e = written-mailbox ∙ rw e
