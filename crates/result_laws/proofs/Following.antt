-- What comes next, said by its byte: which bytes end a run or begin no space, a separator with the space around it, and what ends a result.
-- Each law is by a computed test of a short list of bytes.
use Prim.Native.Char.{code}
use Prim.Native.Nat.{ℕ, zero, suc}
use mathlib.Core.Path.{◌≡◌, refl}
use mathlib.Core.Bool.{Bool, true, false}
use mathlib.Core.List.{List, ◌∷◌}
use lib.Dec.{eqb}
use lib.ListN.{drop}
use borrow.Author.Tests.{eqb-true}
use Rattle.base_sequences.proofs.Booleans.{both, or_left, or_right, true-not}
use Rattle.base_readers.specs.Texts.{bytes, one_of, outside, starts}
use Rattle.base_readers.specs.Readers.{run}
use Rattle.base_readers.specs.Parsers.{Got, nothing, got, Parser, ◌>>◌, byte}
use Rattle.base_readers.specs.Locality.{Within, Any, Ends, Starts, Follows, Steady, Opens}
use Rattle.base_readers.proofs.Texts.{all, one_in, one_out, starts-weaker, starts-follows, follows-weaker, follows-not}
use Rattle.base_readers.proofs.Readers.{run_none}
use Rattle.base_readers.proofs.Sequencing.{bind-none, bind-stuck, bind_inv, byte-inv, byte-not, pass-is, pass-not}
use Rattle.base_readers.proofs.Bounds.{bind-within, bind-within₂, byte-within}
use Rattle.base_readers.proofs.Openings.{bind-opens, byte-opens, skipping-opens, opens-weaker}
use Rattle.base_readers.proofs.Steadiness.{then-steady, byte-steady}
use Rattle.lexis_rules.specs.declared.Class.TheVariants.{Opening, Delimiter}
use Rattle.lexis_rules.specs.Bytes.{in_class}
use Rattle.lexis_rules.specs.Pieces.{space}
use Rattle.lexis_rules.specs.Words.{skip, gap}
use Rattle.lexis_laws.proofs.Locality.{space-none}
use Rattle.lexis_laws.proofs.Steadiness.{space-first, skip-within, skip-steady, gap-opens}
use Rattle.result_rules.specs.Results.{separator}

-- ==== bytes

-- the end, or one of space, tab, CR, "(" and ";"
abbrev pub Delimited : List ℕ → Type 0
Delimited = Follows (in_class Delimiter)

-- a byte of a class without space, tab, CR and "(" begins no space
pub solid : (c : ℕ → Bool) → all (outside c) (bytes " \t\r(") ≡ true → (t : List ℕ) → Starts c t → Ends space t
unfolding in_class
solid c h t s =
    space-none t
    (starts-follows (outside (in_class Opening)) t
    (starts-weaker c (outside (in_class Opening)) (λ b e. true-not (one_of (bytes " \t\r(") b) (one_out (bytes " \t\r(") c h b e)) t s))

-- one of some bytes ends a run of a class that has none of them
pub listed-ends : (l : List ℕ) (c : ℕ → Bool) → all (outside c) l ≡ true → (t : List ℕ) → Starts (one_of l) t → Ends (run c) t
listed-ends l c h t s = run_none c t (starts-follows (outside c) t (starts-weaker (one_of l) (outside c) (one_in l (outside c) h) t s))

pub delimited-ends : (c : ℕ → Bool) → all (outside c) (bytes " \t\r(;") ≡ true → (t : List ℕ) → Delimited t → Ends (run c) t
unfolding in_class
delimited-ends c h t g = run_none c t (follows-weaker (in_class Delimiter) (outside c) (one_in (bytes " \t\r(;") (outside c) h) t g)

-- a byte that can begin a space delimits
pub opening-delimited : (t : List ℕ) → Starts (in_class Opening) t → Delimited t
unfolding in_class one_of
opening-delimited t s =
    starts-follows (in_class Delimiter) t (starts-weaker (in_class Opening) (in_class Delimiter) (one_in (bytes " \t\r(") (in_class Delimiter) refl) t s)

pub gap-delimited : {B : Type 0} (q : Parser B) → Opens (◌>>◌ gap q) Delimited
gap-delimited q = bind-opens gap (λ u. q) Delimited (opens-weaker gap (Starts (in_class Opening)) Delimited opening-delimited gap-opens)

-- where one byte comes next, no byte of a class without it does
pub next-not : (c : ℕ) (d : ℕ → Bool) → d c ≡ false → (t : List ℕ) → Starts (λ b. eqb b c) t → starts d t ≡ false
unfolding starts
next-not c d o t s = follows-not d t (starts-follows (outside d) t (starts-weaker (λ b. eqb b c) (outside d) (λ b e. rw (eqb-true b c e, o)) t s))

-- where a parser that opens with a class meets no byte of it, it fails
pub shut_out : {A : Type 0} (p : Parser A) (c : ℕ → Bool) → Opens p (Starts c) → (xs : List ℕ) → starts c xs ≡ false → p xs ≡ nothing
shut_out {A} p c O xs s = go (p xs) refl
  where
    go : (g : Got A) → p xs ≡ g → p xs ≡ nothing
    go nothing e = e
    go (got a n) e = absurd (both (starts c xs) s (O xs a n e))

-- ==== a separator with space on both sides

module _ (c : ℕ) where
  pub separator-within : Within 1 (separator c)
  unfolding separator
  separator-within = bind-within₂ 1 skip (λ u. ◌>>◌ (byte c) skip) skip-within (λ u. bind-within 1 (byte c) (λ v. skip) (byte-within c) (λ v. skip-within))

  pub separator-steady : all (outside (λ b. eqb b c)) (bytes " \t\r(") ≡ true → Steady (separator c) (Ends space)
  unfolding separator
  separator-steady h =
      then-steady skip (λ u. ◌>>◌ (byte c) skip) (Ends space) (Ends space) skip-steady
      (λ u. then-steady (byte c) (λ v. skip) Any (Ends space) (byte-steady c) (λ v. skip-steady) (λ v xs a n e. tt))
      (λ u. bind-opens (byte c) (λ v. skip) (Ends space) (byte-opens c (Ends space) (solid (λ b. eqb b c) h)))

  -- the separator, or a byte that can begin a space
  abbrev pub Separated : List ℕ → Type 0
  Separated = Starts (one_of (c ∷ bytes " \t\r("))

  pub separator-opens : Opens (separator c) Separated
  unfolding separator one_of in_class
  separator-opens =
      skipping-opens space (◌>>◌ (byte c) skip) Separated
      (λ xs n e. starts-weaker (in_class Opening) (one_of (c ∷ bytes " \t\r(")) (λ b i. or_right (eqb b c) (one_of (bytes " \t\r(") b) i) xs (space-first xs n e))
      (bind-opens (byte c) (λ v. skip) Separated
      (byte-opens c Separated (starts-weaker (λ b. eqb b c) (one_of (c ∷ bytes " \t\r(")) (λ b i. or_left (eqb b c) (one_of (bytes " \t\r(") b) i))))

  -- so a run of a class without these bytes ends before it
  pub separator-ends : {B : Type 0} (q : Parser B) (d : ℕ → Bool) → all (outside d) (c ∷ bytes " \t\r(") ≡ true → Opens (◌>>◌ (separator c) q) (Ends (run d))
  separator-ends q d h =
      bind-opens (separator c) (λ u. q) (Ends (run d)) (opens-weaker (separator c) Separated (Ends (run d)) (listed-ends (c ∷ bytes " \t\r(") d h) separator-opens)

  -- where one separator is, another is not
  pub separator-other : (d : ℕ) → eqb c d ≡ false → (xs : List ℕ) (u : Unit {0}) (n : ℕ) → separator c xs ≡ got u n → separator d xs ≡ nothing
  unfolding separator
  separator-other d o xs u n h =
      let v = bind_inv skip (λ u. ◌>>◌ (byte c) skip) xs u n h in
      let ys = drop v.fst xs in
      let w = bind_inv (byte c) (λ v. skip) ys u v.snd v.goes in
      let i = (byte-inv c ys w.val w.fst w.reads).0 in
      bind-stuck skip (λ u. ◌>>◌ (byte d) skip) xs v.val v.fst v.reads
      (bind-none (byte d) (λ v. skip) ys (byte-not d ys (next-not c (λ b. eqb b d) o ys i)))

-- ==== the end of a result

-- after the longest space comes a semicolon or the end
abbrev pub Closed : List ℕ → Type 0
Closed t = Follows (λ b. eqb b (code ";")) (drop (space t) t)

pub closed-delimited : (t : List ℕ) → Closed t → Delimited t
unfolding in_class one_of
closed-delimited t g = go (space t) refl
  where
    go : (n : ℕ) → space t ≡ n → Delimited t
    go zero e = follows-weaker (λ b. eqb b 59) (in_class Delimiter) (λ b q. rw (eqb-true b 59 q)) t (rw e at g)
    go (suc n) e = opening-delimited t (space-first t n e)

-- there nothing is read that comes after a gap and opens with a class without the semicolon
pub closed-gap : {B : Type 0} (q : Parser B) (c : ℕ → Bool) → c 59 ≡ false → Opens q (Starts c) → (t : List ℕ) → Closed t → ◌>>◌ gap q t ≡ nothing
closed-gap q c o O t g = go (space t) refl
  where
    go : (n : ℕ) → space t ≡ n → ◌>>◌ gap q t ≡ nothing
    go zero e = bind-none gap (λ u. q) t (pass-not space t e)
    go (suc n) e =
        let ys = drop (suc n) t in
        let s : Follows (outside c) ys = follows-weaker (λ b. eqb b 59) (outside c) (λ b z. rw (eqb-true b 59 z, o)) ys (rw e at g) in
        bind-stuck gap (λ u. q) t tt (suc n) (pass-is space t n e) (shut_out q c O ys (follows-not c ys s))
