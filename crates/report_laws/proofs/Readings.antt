-- A body by its head and what follows, case by case; a body within the limit is answered by what it says; and two bodies that name the
-- same newer header version in the same bytes say the same, because naming hangs on nothing behind it.
use Prim.Native.Nat.{ℕ, ◌≤◌}
use mathlib.Core.Path.{◌≡◌, refl, sym, ap, ◌∙◌, subst}
use mathlib.Core.Bool.{Bool, true, false}
use mathlib.Core.List.{List, [], ◌∷◌, ◌++◌}
use borrow.Author.Tests.{le-leb}
use lib.ListN.{length, drop, take, take-append-drop}
use lib.Seq.{length-take-le}
use Rattle.base_sequences.proofs.Booleans.{no_true}
use Rattle.base_readers.specs.Texts.{bytes, follows}
use Rattle.base_readers.specs.Parsers.{Got, nothing, got}
use Rattle.base_readers.proofs.Steadiness.{steady-exact}
use Rattle.lexis_rules.specs.Limits.{byte_limit}
use Rattle.lexis_rules.specs.declared.Class.TheVariants.{Delimiter}
use Rattle.lexis_rules.specs.Bytes.{in_class}
use Rattle.lexis_rules.specs.Numbers.{number_of, one, is_one}
use Rattle.lexis_laws.proofs.VersionNumbers.{not-one}
use Rattle.result_rules.specs.Results.{Result}
use Rattle.result_laws.proofs.Following.{Delimited}
use Rattle.report_rules.specs.Body.{Head, malformed, newer, no_result, results, head, resinfos, word_none, payload, headed, reading}
use Rattle.report_rules.specs.Report.{answer, report}
use Rattle.report_rules.specs.Newer.{naming, WellFormed}
use Rattle.report_rules.proofs.Unfolding.{opened}
use Rattle.report_laws.proofs.Heads.{naming-within, naming-steady, naming-head}

pub report-is : (b : List ℕ) (room : ℕ) → length b ≤ byte_limit → report b room ≡ answer room (reading b)
unfolding report
report-is b room h = rw (report, le-leb (length b) byte_limit h)

-- ==== by the head

-- the number of the header version that is meant where it is absent
pub first_one : is_one (number_of (bytes "1")) ≡ true
unfolding opened
first_one = refl

pub reading-is : (b : List ℕ) (h : Head) (n : ℕ) → head b ≡ got h n → reading b ≡ headed h (drop n b)
unfolding reading
reading-is b h n e = rw (reading, e)

module _ (h : Head) (xs : List ℕ) (f : Delimited xs) where
  pub headed-is : is_one (number_of h.version) ≡ true → headed h xs ≡ payload h.identifier xs
  unfolding headed
  headed-is v = rw (headed, f, v)

  pub headed-newer : is_one (number_of h.version) ≡ false → headed h xs ≡ newer h
  unfolding headed
  headed-newer v = rw (headed, f, v)

-- ==== well-formed version 1 fields

-- the head of such a field, and what follows it
pub record Sound (b : List ℕ) : Type 0 where
  pub heads : Head
  pub size : ℕ
  pub reads : head b ≡ got heads size
  pub first : is_one (number_of heads.version) ≡ true
  pub says : reading b ≡ payload heads.identifier (drop size b)

pub well-formed-inv : (b : List ℕ) → WellFormed b → Sound b
unfolding reading headed
well-formed-inv b h = go (head b) refl
  where
    behind : (hd : Head) (n : ℕ) → head b ≡ got hd n → (f v : Bool) → follows (in_class Delimiter) (drop n b) ≡ f → is_one (number_of hd.version) ≡ v → Sound b
    behind hd n e false v p q = absurd (no_true (rw (reading, e, headed, p) at h))
    behind hd n e true false p q = absurd (no_true (rw (reading, e, headed, p, q) at h))
    behind hd n e true true p q = record { heads = hd; size = n; reads = e; first = q; says = rw (reading, e, headed, p, q) }

    go : (x : Got Head) → head b ≡ x → Sound b
    go nothing e = absurd (no_true (rw (reading, e) at h))
    go (got hd n) e = behind hd n e (follows (in_class Delimiter) (drop n b)) (is_one (number_of hd.version)) refl refl

-- what follows is neither, the word none, or one or more results
pub data Payload (i xs : List ℕ) : Type 0 where
  neither : payload i xs ≡ malformed → Payload i xs
  word : (n : ℕ) → word_none xs ≡ got tt n → payload i xs ≡ no_result i → Payload i xs
  some : (rs : List Result) (n : ℕ) → resinfos xs ≡ got rs n → payload i xs ≡ results i rs → Payload i xs

pub payload-cases : (i xs : List ℕ) → Payload i xs
unfolding payload
payload-cases i xs = go (resinfos xs) refl
  where
    unlike : resinfos xs ≡ nothing → (x : Got (Unit {0})) → word_none xs ≡ x → Payload i xs
    unlike e nothing f = neither (rw (payload, e, f))
    unlike e (got tt n) f = word n f (rw (payload, e, f))

    go : (x : Got (List Result)) → resinfos xs ≡ x → Payload i xs
    go nothing e = unlike e (word_none xs) refl
    go (got [] n) e = neither (rw (payload, e))
    go (got (r ∷ rs) n) e = some (r ∷ rs) n e (rw (payload, e))

pub payload-is : (i xs : List ℕ) (r : Result) (rs : List Result) (n : ℕ) → resinfos xs ≡ got (r ∷ rs) n → payload i xs ≡ results i (r ∷ rs)
unfolding payload
payload-is i xs r rs n e = rw (payload, e)

-- ==== bodies that name a newer header version

pub naming-newer : (b : List ℕ) (h : Head) (n : ℕ) → naming b ≡ got h n → (number_of h.version ≡ one → ⊥) → reading b ≡ newer h
naming-newer b h n e ne =
    let v = naming-head b h n e in
    reading-is b h n v.0 ∙ headed-newer h (drop n b) v.1 (not-one (number_of h.version) ne)

-- the same bytes up to the end of the number name the same
naming-same : (b c : List ℕ) (g h : Head) (n m : ℕ) → naming b ≡ got g n → naming c ≡ got h m → take n b ≡ take m c → naming c ≡ got g n
naming-same b c g h n m e f s =
    let w = take n b in
    let l : length w ≡ n = length-take-le n b (naming-within b g n e).0 in
    let x : w ++ drop n b ≡ b = take-append-drop n b in
    let y : w ++ drop m c ≡ c = ap (λ (p : List ℕ). p ++ drop m c) s ∙ take-append-drop m c in
    let p : naming (w ++ drop n b) ≡ got g (length w) = rw (x, l) e in
    let q : naming (w ++ drop m c) ≡ got g (length w) = steady-exact naming Delimited naming-steady w (drop n b) (drop m c) g p (naming-head c h m f).1 in
    subst (λ (k : ℕ). naming c ≡ got g k) l (subst (λ (t : List ℕ). naming t ≡ got g (length w)) y q)

pub newer-same : (b c : List ℕ) (g h : Head) (n m : ℕ) → naming b ≡ got g n → naming c ≡ got h m → (number_of g.version ≡ one → ⊥) → take n b ≡ take m c
    → reading b ≡ reading c
newer-same b c g h n m e f ne s = naming-newer b g n e ne ∙ sym (naming-newer c g n (naming-same b c g h n m e f s) ne)
