-- The escape of a run of bytes that are written as they stand; then the two
-- loops that write escaped texts, what each keeps, one turn, and the end. The premises are literally what a need is handed, and each law
-- goes by induction over the text or by the laws of `Going`.
use Prim.Native.Nat.{ℕ, zero, suc, ◌+◌, ◌-◌, ◌≤◌, ◌<◌, ◌^◌}
use native.Mathlib.Numerals.{add-one}
use native.Mathlib.Omega.{arith}
use mathlib.Core.Path.{◌≡◌, refl, sym, ap, ◌∙◌}
use mathlib.Core.Bool.{Bool, true, false, not, ◌&&◌, ◌||◌}
use mathlib.Core.List.{List, [], ◌∷◌, ◌++◌}
use lib.Dec.{eqb, leb}
use lib.ListN.{length, get_or, take, drop, length-drop, drop_of_length-le, take-append-drop}
use lib.Seq.{drop-cons, drop-drop, get_or-drop, take-length}
use borrow.Author.Tests.{leb-true, not-true}
use Rattle.base_sequences.specs.Stored.{Clipped}
use Rattle.base_sequences.proofs.Booleans.{and_left, and_right}
use Rattle.base_sequences.proofs.Tables.{agree, tested_at}
use Rattle.base_sequences.proofs.Clips.{Going, going_start, going_step, going_done}
use Rattle.base_readers.specs.Texts.{within, one_of}
use Rattle.base_readers.specs.Readers.{run, lasts}
use Rattle.base_readers.specs.Places.{Reaches}
use Rattle.base_readers.proofs.Readers.{there-at, run_more, run_fits, run-from, lasts-more, lasts-none, lasts-run}
use Rattle.lexis_rules.specs.declared.Class.TheVariants.{Quoted}
use Rattle.lexis_rules.specs.Bytes.{in_class}
use Rattle.lexis_rules.specs.Pieces.{item}
use Rattle.lexis_rules.specs.Words.{quoted_text}
use Rattle.lexis_laws.proofs.Pieces.{item-fits}
use Rattle.result_laws.proofs.Values.{implied}
use Rattle.report_rules.specs.Report.{plain, escape}
use Rattle.report_escape.proofs.Escape.{escape-plain, escape-none, escape-cons, escape-append}
use Rattle.report_escape.specs.Internal.{verbatim}

-- what is left of the text of a quoted string at i
abbrev quoted_rest : List ℕ → ℕ → List ℕ
quoted_rest s i = lasts (item Quoted) 0 (drop i s)

-- ==== bytes that are written as they stand

pub verbatim-is : (b : ℕ) → b < 256 → (leb 38 b && not (eqb b 92) && leb b 126) ≡ verbatim b
unfolding verbatim within
verbatim-is b h = agree (λ b. leb 38 b && not (eqb b 92) && leb b 126) verbatim 256 b h tt

-- they are plain, and of the class of quoted strings
verbatim-stands : (b : ℕ) → verbatim b ≡ true → (plain b && in_class Quoted b) ≡ true
unfolding verbatim plain in_class within one_of
verbatim-stands b e =
    implied (verbatim b) (plain b && in_class Quoted b) (tested_at (λ b. not (verbatim b) || plain b && in_class Quoted b) 127 b tt low) e
  where
    low : b < 127
    low = omega (arith, leb-true b 126 (and_right (leb 38 b) (leb b 126) (and_left (leb 38 b && leb b 126) _ e)))

verbatim-plain : (b : ℕ) → verbatim b ≡ true → plain b ≡ true
verbatim-plain b e = and_left (plain b) (in_class Quoted b) (verbatim-stands b e)

verbatim-item : (x : ℕ) (xs : List ℕ) → verbatim x ≡ true → item Quoted (x ∷ xs) ≡ 1
unfolding item
verbatim-item x xs e = rw (and_right (plain x) (in_class Quoted x) (verbatim-stands x e))

verbatim-zero : verbatim 0 ≡ false
unfolding verbatim within
verbatim-zero = refl

-- the escape of a run of bytes that are written as they stand is the run
escape-run : (xs : List ℕ) → escape (take (run verbatim xs) xs) ≡ take (run verbatim xs) xs
unfolding run escape
escape-run [] = refl
escape-run (x ∷ xs) = go (verbatim x) refl (escape-run xs)
  where
    go : (b : Bool) → verbatim x ≡ b → escape (take (run verbatim xs) xs) ≡ take (run verbatim xs) xs
        → escape (take (run verbatim (x ∷ xs)) (x ∷ xs)) ≡ take (run verbatim (x ∷ xs)) (x ∷ xs)
    go true e ih = rw (run, e) (escape-plain x (take (run verbatim xs) xs) (verbatim-plain x e) ∙ ap (◌∷◌ x) ih)
    go false e ih = rw (run, e)

-- a text of which all bytes are such, because the run reaches i and the last eight bytes are a run too
pub whole-text : (s : List ℕ) (i : ℕ) → Reaches (run verbatim) s 0 i → 8 ≤ length s → length s - 8 ≤ i → i ≤ length s → (h : Bool)
    → (h ≡ false → Reaches (run verbatim) s (length s - 8) (length s - 8 + 8)) → not h ≡ true → escape s ≡ s
whole-text s i w l m u h v t =
    let a = length s - 8 in
    let d : a + (i - a) ≡ i = omega arith in
    let f = (v (not-true h t)).same in
    let r : run verbatim (drop a s) ≡ i - a + run verbatim (drop (i - a) (drop a s)) = run-from verbatim (i - a) (drop a s) (omega arith) in
    let r' : run verbatim (drop a s) ≡ i - a + run verbatim (drop i s) = rw (drop-drop, d) at r in
    let n : run verbatim s ≡ length s = omega (arith, w.same, run_fits verbatim s) in
    let e : escape (take (length s) s) ≡ take (length s) s = rw n at (escape-run s) in
    rw (take-length s) at e

pub whole-put : {old new text : List ℕ} {to n : ℕ} (r : Bool) → (r ≡ true → escape text ≡ text) → r ≡ true → Clipped old to text new n
    → Clipped old to (escape text) new n
whole-put r f t w = rw (f t) w

-- the bytes of a text from i up to e are written as they stand, and e is where that ends
module _ (s : List ℕ) (i e : ℕ) (q : e ≡ i + run verbatim (drop i s)) where
  pub verbatim-after : i ≤ e
  verbatim-after = omega arith

  pub verbatim-within : i < length s → e ≤ length s
  verbatim-within h = omega (arith, run_fits verbatim (drop i s), length-drop i s)

  size : run verbatim (drop i s) ≡ e - i
  size = omega arith

  reached : i + (e - i) ≡ e
  reached = omega arith

  part : escape (take (e - i) (drop i s)) ≡ take (e - i) (drop i s)
  part = rw size at (escape-run (drop i s))

  -- in a text
  verbatim-text : escape (drop i s) ≡ take (e - i) (drop i s) ++ escape (drop e s)
  verbatim-text =
      ap escape (sym (take-append-drop (e - i) (drop i s))) ∙ (escape-append (take (e - i) (drop i s)) (drop (e - i) (drop i s)) ∙ rw (part, drop-drop, reached))

  -- in a quoted string
  verbatim-quoted : escape (quoted_rest s i) ≡ take (e - i) (drop i s) ++ escape (quoted_rest s e)
  verbatim-quoted =
      let l : quoted_rest s i ≡ take (e - i) (drop i s) ++ lasts (item Quoted) 0 (drop (e - i) (drop i s))
      = rw size at (lasts-run (item Quoted) verbatim verbatim-item (run verbatim (drop i s)) (drop i s) (omega arith)) in
      ap escape l ∙ (escape-append (take (e - i) (drop i s)) _ ∙ rw (part, drop-drop, reached))

  -- where the first byte is one of them they are some
  module _ (r : Bool) (t : r ≡ true) where
    pub verbatim-less : i < length s → r ≡ verbatim (get_or s i 0) → length s - e < length s - i
    unfolding run
    verbatim-less h k =
        let v : verbatim (get_or s i 0) ≡ true = sym k ∙ t in
        let m : run verbatim (drop i s) ≡ suc (run verbatim (drop (suc i) s)) = rw (drop-cons s i 0 h) (run_more verbatim (get_or s i 0) (drop (suc i) s) v) in
        omega arith

-- ==== a text is written: the rest of it from i on is left

pub record Escaping (text old : List ℕ) (to : ℕ) (out : List ℕ) (i n : ℕ) : Type 0 where
  pub left : Going old to (escape text) out n (escape (drop i text))
  pub bound : i ≤ length text
  pub small : length old < 2 ^ 64

pub escaping-start : (text old : List ℕ) (to : ℕ) → length old < 2 ^ 64 → to < 2 ^ 64 → Escaping text old to old 0 to
escaping-start text old to h l = record { left = going_start old to (escape text) (omega arith); bound = omega arith; small = h }

module _ (text old : List ℕ) (to : ℕ) (out : List ℕ) (i n : ℕ) (w : Escaping text old to out i n) where
  pub escaping-done : length text ≤ i → Clipped old to (escape text) out n
  escaping-done h = going_done w.left (rw (drop_of_length-le text h) escape-none)

  -- the bytes up to e are written, or the byte at i
  pub escaping-run : i < length text → (e : ℕ) → e ≡ i + run verbatim (drop i text) → (out' : List ℕ) (m : ℕ)
      → Clipped out n (take (e - i) (drop i text)) out' m → Escaping text old to out' e m
  escaping-run h e q out' m v =
      record { left = going_step (omega (arith, w.small)) w.left (verbatim-text text i e q) v; bound = verbatim-within text i e q h; small = w.small }

  pub escaping-one : i < length text → (out' : List ℕ) (m : ℕ) → Clipped out n (escape (get_or text i 0 ∷ [])) out' m → Escaping text old to out' (i + 1) m
  escaping-one h out' m v =
      let c : escape (drop i text) ≡ escape (get_or text i 0 ∷ []) ++ escape (drop (i + 1) text)
      = rw (drop-cons text i 0 h, add-one) (escape-cons (get_or text i 0) (drop (suc i) text)) in
      record { left = going_step (omega (arith, w.small)) w.left c v; bound = omega arith; small = w.small }

-- ==== the text of a quoted string is written

pub record Quoting (s whole old : List ℕ) (to : ℕ) (out : List ℕ) (i n : ℕ) : Type 0 where
  pub left : Going old to (escape whole) out n (escape (quoted_rest s i))
  pub small : length old < 2 ^ 64

-- past the end the text is empty
pub quoted-past : (s old : List ℕ) (at to : ℕ) → length s ≤ at → to < 2 ^ 64 → Clipped old to (escape (quoted_text (drop at s))) old to
unfolding quoted_text lasts
quoted-past s old at to h l = going_done (going_start old to _ (omega arith)) (rw (drop_of_length-le s h) escape-none)

pub quoting-start : (s old : List ℕ) (at to : ℕ) → length old < 2 ^ 64 → to < 2 ^ 64 → Quoting s (quoted_text (drop at s)) old to old (at + 1) to
unfolding quoted_text
quoting-start s old at to h l = record { left = rw drop-drop (going_start old to _ (omega arith)); small = h }

-- an item of k bytes comes next, or none
module _ {s whole old : List ℕ} {to : ℕ} {out : List ℕ} {i n k : ℕ} (w : Quoting s whole old to out i n) (e : k ≡ item Quoted (drop i s)) where
  pub quoting-done : k ≡ 0 → Clipped old to (escape whole) out n
  quoting-done z = going_done w.left (rw (lasts-none (item Quoted) (drop i s) (sym e ∙ z)) escape-none)

  module _ (ne : k ≡ 0 → ⊥) {b : ℕ} (q : b ≡ get_or (drop i s) (k - 1) 0) where
    -- the last byte of the item comes next
    quoting-byte : escape (quoted_rest s i) ≡ escape (b ∷ []) ++ escape (quoted_rest s (i + k))
    quoting-byte = go k e ne q
      where
        go : (k : ℕ) → k ≡ item Quoted (drop i s) → (k ≡ 0 → ⊥) → b ≡ get_or (drop i s) (k - 1) 0
            → escape (quoted_rest s i) ≡ escape (b ∷ []) ++ escape (quoted_rest s (i + k))
        go zero e ne q = absurd (ne refl)
        go (suc n) e ne q =
            let z : suc n - 1 ≡ n = omega arith in
            let f : suc n ≤ length (drop i s) = rw (← e) at (item-fits Quoted (drop i s)) in
            ap escape (lasts-more (item Quoted) (drop i s) n (sym e) f) ∙ rw (q, z, ← drop-drop) (escape-cons _ _)

    pub quoting-more : {out' : List ℕ} {m : ℕ} → Clipped out n (escape (b ∷ [])) out' m → Quoting s whole old to out' (i + k) m
    quoting-more v = record { left = going_step (omega (arith, w.small)) w.left quoting-byte v; small = w.small }

-- or a byte that is written as it stands
module _ {s whole old : List ℕ} {to : ℕ} {out : List ℕ} {i n : ℕ} (w : Quoting s whole old to out i n) where
  pub quoting-run : {e m : ℕ} {out' : List ℕ} → e ≡ i + run verbatim (drop i s) → Clipped out n (take (e - i) (drop i s)) out' m
      → Quoting s whole old to out' e m
  quoting-run {e} q v = record { left = going_step (omega (arith, w.small)) w.left (verbatim-quoted s i e q) v; small = w.small }

module _ (s : List ℕ) (i e : ℕ) (q : e ≡ i + run verbatim (drop i s)) (b : ℕ) (k : b ≡ get_or (drop i s) 0 0) (r : Bool) (h : r ≡ verbatim b) (t : r ≡ true) where
  there : i < length s
  there = omega (arith, there-at verbatim verbatim-zero s i 0 (cc))

  pub quoting-inside : e ≤ length s
  quoting-inside = verbatim-within s i e q there

  pub quoting-less : length s - e < length s - i
  quoting-less =
      let z : i + 0 ≡ i = omega arith in
      verbatim-less s i e q r t there (h ∙ ap verbatim (k ∙ (get_or-drop i s 0 0 ∙ ap (λ (j : ℕ). get_or s j 0) z)))
