-- Property values in columns, by the tests of the code: one law for each way out.
use Prim.Native.Nat.{ℕ, zero, suc, ◌+◌, ◌-◌, ◌≤◌, ◌<◌, zero-le, suc-le-suc}
use native.Mathlib.Nat.{le_of_suc-le-suc, not-suc-le-zero, zero-add}
use native.Mathlib.Omega.{arith}
use mathlib.Core.Path.{◌≡◌, refl, sym, ap, ◌∙◌}
use mathlib.Core.Bool.{Bool, true, false, not, ◌&&◌}
use mathlib.Core.List.{List, [], ◌∷◌, ◌++◌, map, append-nil}
use lib.Dec.{eqb, ltb}
use lib.ListN.{length, drop, take, get_or, length-drop}
use Rattle.std.proofs.lemmas.List.{same_from_push}
use lib.Seq.{take-suc, length-take-le, drop-cons, take-length, take-append_seam, drop-append-add}
use borrow.Author.Tests.{eqb-true, eqb-false, eq-eqb, ne_eqb}
use Rattle.base_sequences.proofs.Booleans.{no_true, both, and_left, and_right, and_none, or_right}
use Rattle.base_readers.specs.Texts.{one_of, same, starts}
use Rattle.base_readers.specs.Readers.{run}
use Rattle.base_readers.specs.Parsers.{nothing, got, ◌>>=◌, byte, either, several}
use Rattle.base_readers.specs.Places.{values}
use Rattle.base_readers.specs.Locality.{Any}
use Rattle.base_readers.proofs.Texts.{same_refl, same-eq}
use Rattle.lexis_rules.specs.Bytes.{lower}
use Rattle.result_rules.specs.Results.{Mailbox, AtDomain, next, domain}
use Rattle.result_rules.specs.Table.{listed, ptypes}
use Rattle.report_rules.specs.Report.{plain, escape}
use Rattle.write_rules.specs.Entries.{single, escaped, each, whole, is_text, is_keyword, local_of, domain_of, stands, kind_of}
use Rattle.write_rules.specs.Promise.{Bytes}
use Rattle.write_laws.proofs.Readback.{several-reads}
use Rattle.write_laws.proofs.Coded.{spelt, escape-joined, bytes-each, byte-coded, spelt-long}
use Rattle.write_laws.proofs.Keywords.{keyword-is, ptype-keyword}
use Rattle.write_laws.proofs.Signs.{plain-sign, other_sign, local_same, domain-same, domain-raw}
use Rattle.write_columns.specs.declared.coded.Test.TheVariants as test
use Rattle.write_columns.specs.Internal.{coded_byte, text_of, in_test, IsCoded}
use Rattle.write_columns.proofs.Tails.{text-test, token-test}

-- ==== a whole domain

pub domain-empty : (d : List ℕ) → length d ≡ 0 → false ≡ whole domain d
unfolding whole
domain-empty [] z = refl
domain-empty (x ∷ d) z = absurd (omega arith)

pub domain-all : (d : List ℕ) (e : ℕ) → (length d ≡ 0 → ⊥) → e ≡ 0 + domain (drop 0 d) → eqb e (length d) ≡ whole domain d
unfolding whole
domain-all [] e ne q = absurd (ne refl)
domain-all (x ∷ d) e ne q = let j : e ≡ domain (x ∷ d) = q ∙ zero-add _ in rw j

-- ==== the last "@"

not-sign : (x : ℕ) → eqb 64 x ≡ false → eqb x 64 ≡ false
not-sign x e = ne_eqb x 64 (λ q. eqb-false 64 x e (sym q))

no_cut : (xs : List ℕ) → one_of xs 64 ≡ false → local_of xs ≡ xs
unfolding one_of local_of
no_cut [] e = refl
no_cut (x ∷ xs) e = go (eqb 64 x) refl (no_cut xs)
  where
    go : (b : Bool) → eqb 64 x ≡ b → (one_of xs 64 ≡ false → local_of xs ≡ xs) → local_of (x ∷ xs) ≡ x ∷ xs
    go true q ih = absurd (no_true (sym (rw (one_of, q) at e)))
    go false q ih = rw (local_of, not-sign x q) (ap (λ (l : List ℕ). x ∷ l) (ih (rw (one_of, q) at e)))

sign-in : (xs : List ℕ) (k : ℕ) → k < length xs → get_or xs k 0 ≡ 64 → one_of xs 64 ≡ true
unfolding one_of
sign-in [] k h e = absurd (not-suc-le-zero h)
sign-in (x ∷ xs) zero h e = rw (eq-eqb 64 x (sym e))
sign-in (x ∷ xs) (suc k) h e = or_right (eqb 64 x) (one_of xs 64) (sign-in xs k (le_of_suc-le-suc h) e)

cut_at : (xs : List ℕ) (k : ℕ) → k < length xs → get_or xs k 0 ≡ 64 → one_of (drop (suc k) xs) 64 ≡ false → k ≡ length (local_of xs)
unfolding local_of
cut_at [] k h e o = absurd (not-suc-le-zero h)
cut_at (x ∷ xs) zero h e o = rw (local_of, eq-eqb x 64 e, o)
cut_at (x ∷ xs) (suc k) h e o =
    let i : one_of xs 64 ≡ true = sign-in xs k (le_of_suc-le-suc h) e in
    let q : (eqb x 64 && not (one_of xs 64)) ≡ false = rw i (and_none (eqb x 64)) in
    rw (local_of, q) (ap suc (cut_at xs k (le_of_suc-le-suc h) e o))

pub record Signing (part : List ℕ) (j : ℕ) : Type 0 where
  pub inside : j ≤ length part
  pub none : one_of (drop j part) 64 ≡ false

pub signing-start : (part : List ℕ) → Signing part (length part)
signing-start part = record { inside = omega arith; none = go part }
  where
    go : (l : List ℕ) → one_of (drop (length l) l) 64 ≡ false
    go [] = unfold one_of in refl
    go (x ∷ l) = go l

pub signing-none : (part : List ℕ) (j : ℕ) → j ≡ 0 → Signing part j → length part ≡ length (local_of part)
signing-none part j z w = ap length (sym (no_cut part (rw z at w.none)))

-- the front of a text that is left, and its last byte
module _ (part rest front : List ℕ) (last : ℕ) (q : (rest ≡ front ++ (last ∷ [])) × (length front + 1 ≡ length rest)) (p : rest ≡ take (length rest) part) (w : Signing part (length rest)) where
  there : length front < length part
  there = omega (arith, w.inside, q.1)

  long : length rest ≡ suc (length front)
  long = omega (arith, q.1)

  pair : (front ≡ take (length front) part) × (last ≡ get_or part (length front) 0)
  pair = same_from_push front (take (length front) part) last (get_or part (length front) 0) (sym q.0 ∙ (p ∙ (ap (λ (k : ℕ). take k part) long ∙ take-suc part (length front) 0 there)))

  pub signing-found : last ≡ 64 → length front ≡ length (local_of part)
  signing-found e = cut_at part (length front) there (sym pair.1 ∙ e) (rw long at w.none)

  pub signing-more : (last ≡ 64 → ⊥) → (front ≡ take (length front) part) × Signing part (length front)
  unfolding one_of
  signing-more ne =
      let e : eqb 64 (get_or part (length front) 0) ≡ false = ne_eqb 64 _ (λ k. ne (pair.1 ∙ sym k)) in
      let n : one_of (drop (suc (length front)) part) 64 ≡ false = rw long at w.none in
      (pair.0, record { inside = omega (arith, there); none = rw (drop-cons part (length front) 0 there, e) n })

-- ==== a text that is written is read back

pub text-escape : (t : List ℕ) → Bytes t → text_of (escape t) ≡ t
unfolding text_of
text-escape t h =
    let r : several coded_byte 0 (escape t ++ []) ≡ got t (length (escape t)) =
    rw (escape-joined t) (several-reads coded_byte spelt (λ b. b < 256) Any (λ u. u ≡ []) byte-coded (λ a i u. tt) (λ a i. spelt-long a) (λ u e. (tt, rw e no_byte)) t (bytes-each t h) [] refl) in
    ap values (ap (several coded_byte 0) (sym (append-nil (escape t))) ∙ r)
  where
    no_byte : coded_byte [] ≡ nothing
    no_byte = unfold either single escaped ◌>>=◌ byte in refl

-- ==== ptype and property

module _ (t p : List ℕ) (r : Bool) (q : r ≡ same (map lower t) t) where
  pub label-capital : r ≡ false → false ≡ (listed ptypes t && is_keyword p)
  label-capital f = go (listed ptypes t) refl
    where
      go : (b : Bool) → listed ptypes t ≡ b → false ≡ (b && is_keyword p)
      go true e = absurd (both (same (map lower t) t) (sym q ∙ f) (rw (keyword-is t (ptype-keyword t e)).1 (same_refl t)))
      go false e = refl

  module _ (y : r ≡ true) (k : Bool) (l : k ≡ listed ptypes (map lower t)) where
    listed-is : k ≡ listed ptypes t
    listed-is = rw (same-eq (map lower t) t (sym q ∙ y)) at l

    pub label-unlisted : k ≡ false → false ≡ (listed ptypes t && is_keyword p)
    label-unlisted f = rw (← listed-is, f)

    pub label_is : k ≡ true → (b : Bool) → b ≡ is_keyword p → b ≡ (listed ptypes t && is_keyword p)
    label_is g b e = rw (← listed-is, g) e

-- ==== kinds

-- all of a list from a place on
pub rest_all : (v : List ℕ) (k : ℕ) → take (length v - k) (drop k v) ≡ drop k v
rest_all v k = ap (λ (n : ℕ). take n (drop k v)) (sym (length-drop k v)) ∙ take-length (drop k v)

-- a text starts with "@" as it is written
raw-first : (t : List ℕ) → eqb (get_or (escape t) 0 0) 64 ≡ next 64 t
unfolding escape starts
raw-first [] = refl
raw-first (x ∷ t) = go (plain x) refl
  where
    go : (b : Bool) → plain x ≡ b → eqb (get_or (escape (x ∷ t)) 0 0) 64 ≡ eqb x 64
    go true e = rw (escape, e)
    go false e = rw (escape, e, other_sign x e)

raw-rest : (t : List ℕ) → next 64 t ≡ true → drop 1 (escape t) ≡ escape (drop 1 t)
unfolding escape starts
raw-rest [] e = refl
raw-rest (x ∷ t) e = let p : plain x ≡ true = rw (eqb-true x 64 e) plain-sign in rw (escape, p)

module _ (v : List ℕ) (c : IsCoded v) (r : Bool) (q : r ≡ eqb (get_or (drop 0 v) 0 0) 64) where
  first-is : r ≡ next 64 (text_of v)
  first-is = q ∙ (ap (λ (l : List ℕ). eqb (get_or l 0 0) 64) (sym c.0) ∙ raw-first (text_of v))

  pub at-domain-not : r ≡ false → false ≡ stands AtDomain (text_of v)
  unfolding stands
  at-domain-not f = rw (← first-is, f)

  pub at-domain-there : r ≡ true → 1 ≤ length v
  at-domain-there y = go v (sym q ∙ y)
    where
      go : (l : List ℕ) → eqb (get_or l 0 0) 64 ≡ true → 1 ≤ length l
      go [] e = absurd (no_true e)
      go (x ∷ l) e = suc-le-suc zero-le

  pub at-domain-is : r ≡ true → (b : Bool) → b ≡ whole domain (take (length v - 1) (drop 1 v)) → b ≡ stands AtDomain (text_of v)
  unfolding stands
  at-domain-is y b e =
      let d : drop 1 v ≡ escape (drop 1 (text_of v)) = ap (drop 1) (sym c.0) ∙ raw-rest (text_of v) (sym first-is ∙ y) in
      rw (← first-is, y) (e ∙ (ap (whole domain) (rest_all v 1 ∙ d) ∙ domain-raw (drop 1 (text_of v))))

pub cut-long : (v : List ℕ) → length (local_of v) < length v → v ≡ local_of v ++ (64 ∷ domain_of v)
unfolding local_of domain_of
cut-long [] h = absurd (not-suc-le-zero h)
cut-long (x ∷ v) h = go (eqb x 64 && not (one_of v 64)) refl (cut-long v)
  where
    go : (b : Bool) → (eqb x 64 && not (one_of v 64)) ≡ b → (length (local_of v) < length v → v ≡ local_of v ++ (64 ∷ domain_of v)) → x ∷ v ≡ local_of (x ∷ v) ++ (64 ∷ domain_of (x ∷ v))
    go true q ih = rw (local_of, domain_of, q, eqb-true x 64 (and_left (eqb x 64) _ q))
    go false q ih = rw (local_of, domain_of, q) (ap (λ (l : List ℕ). x ∷ l) (ih (le_of_suc-le-suc (rw (local_of, q) at h))))

cut_short : (v : List ℕ) → length v ≤ length (local_of v) → domain_of v ≡ []
unfolding local_of domain_of
cut_short [] h = refl
cut_short (x ∷ v) h = go (eqb x 64 && not (one_of v 64)) refl (cut_short v)
  where
    go : (b : Bool) → (eqb x 64 && not (one_of v 64)) ≡ b → (length v ≤ length (local_of v) → domain_of v ≡ []) → domain_of (x ∷ v) ≡ []
    go true q ih = absurd (not-suc-le-zero (rw (local_of, q) at h))
    go false q ih = rw (domain_of, q) (ih (le_of_suc-le-suc (rw (local_of, q) at h)))

-- the local part of a text of bytes
pub local-bytes : (t : List ℕ) → Bytes t → Bytes (local_of t)
unfolding local_of each
local-bytes [] e = refl
local-bytes (x ∷ t) e = go (eqb x 64 && not (one_of t 64)) refl (local-bytes t (and_right (ltb x 256) _ e))
  where
    go : (b : Bool) → (eqb x 64 && not (one_of t 64)) ≡ b → Bytes (local_of t) → Bytes (local_of (x ∷ t))
    go true q ih = rw (local_of, q)
    go false q ih = rw (local_of, q, and_left (ltb x 256) _ e) ih

module _ (v : List ℕ) (c : IsCoded v) (j : ℕ) (J : j ≡ length (local_of v)) where
  pub raw-local : local_of v ≡ escape (local_of (text_of v))
  raw-local = ap local_of (sym c.0) ∙ local_same (text_of v)

  pub raw-domain : domain_of v ≡ escape (domain_of (text_of v))
  raw-domain = ap domain_of (sym c.0) ∙ domain-same (text_of v)

  domain-test : whole domain (domain_of v) ≡ whole domain (domain_of (text_of v))
  domain-test = ap (whole domain) raw-domain ∙ domain-raw (domain_of (text_of v))

  pub mailbox-unsigned : length v ≤ j → false ≡ stands Mailbox (text_of v)
  unfolding stands whole
  mailbox-unsigned h =
      let d : whole domain (domain_of (text_of v)) ≡ false = sym domain-test ∙ ap (whole domain) (cut_short v (omega arith)) in
      rw d (sym (and_none (is_text (local_of (text_of v)))))

  module _ (h : j < length v) where
    pub mailbox-next : j + 1 ≤ length v
    mailbox-next = omega arith

    pub front-is : take j v ≡ local_of v
    front-is = rw J (ap (take (length (local_of v))) (cut-long v (omega arith)) ∙ take-append_seam (local_of v) (64 ∷ domain_of v))

    back_is : drop (j + 1) v ≡ domain_of v
    back_is =
        let e : j + 1 ≡ length (local_of v) + 1 = omega arith in
        rw e (ap (drop (length (local_of v) + 1)) (cut-long v (omega arith)) ∙ drop-append-add (local_of v) (64 ∷ domain_of v) 1)

    pub local-text : text_of (take j v) ≡ local_of (text_of v)
    local-text = ap text_of (front-is ∙ raw-local) ∙ text-escape (local_of (text_of v)) (local-bytes (text_of v) c.1)

    module _ (r : Bool) (q : r ≡ each (in_test test.Text) (text_of (drop 0 (take j v)))) where
      text-is : r ≡ is_text (local_of (text_of v))
      text-is = q ∙ (text-test (text_of (take j v)) ∙ ap is_text local-text)

      pub mailbox-untexted : r ≡ false → false ≡ stands Mailbox (text_of v)
      unfolding stands
      mailbox-untexted f = rw (← text-is, f)

      pub mailbox-is : r ≡ true → (b : Bool) → b ≡ whole domain (take (length v - (j + 1)) (drop (j + 1) v)) → b ≡ stands Mailbox (text_of v)
      unfolding stands
      mailbox-is y b e = rw (← text-is, y) (e ∙ (ap (whole domain) (rest_all v (j + 1) ∙ back_is) ∙ domain-test))

-- a letter
module _ (k : ℕ) (v : List ℕ) where
  pub kind-token : k ≡ 116 → (b : Bool) → b ≡ whole (run (in_test test.Token)) (text_of (drop 0 v)) → b ≡ stands (kind_of k) (text_of v)
  unfolding kind_of stands
  kind-token e b q = rw e (q ∙ token-test (text_of v))

  module _ (n : k ≡ 116 → ⊥) where
    pub kind-quoted : k ≡ 113 → (b : Bool) → b ≡ each (in_test test.Text) (text_of (drop 0 v)) → b ≡ stands (kind_of k) (text_of v)
    unfolding kind_of stands
    kind-quoted e b q = rw e (q ∙ text-test (text_of v))

    module _ (m : k ≡ 113 → ⊥) where
      pub kind-mailbox : k ≡ 109 → (b : Bool) → b ≡ stands Mailbox (text_of v) → b ≡ stands (kind_of k) (text_of v)
      unfolding kind_of
      kind-mailbox e b q = rw e q

      pub kind-at-domain : (k ≡ 109 → ⊥) → (b : Bool) → b ≡ stands AtDomain (text_of v) → b ≡ stands (kind_of k) (text_of v)
      unfolding kind_of
      kind-at-domain o b q = rw (ne_eqb k 116 n, ne_eqb k 113 m, ne_eqb k 109 o) q

-- a front of a list is as long as asked for
pub take_long : (v : List ℕ) (j : ℕ) → j < length v → j ≡ length (take j v)
take_long v j h = sym (length-take-le j v (omega arith))
