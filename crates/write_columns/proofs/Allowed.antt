-- Whether a property may be reported: one law for each way out of the code, and the two cases that its answer tells.
use Prim.Native.Nat.{ℕ, ◌+◌, ◌-◌, ◌^◌, ◌≤◌, ◌<◌}
use native.Mathlib.Omega.{arith}
use mathlib.Core.Path.{◌≡◌, refl, sym, ap, ◌∙◌}
use mathlib.Core.Bool.{Bool, true, false, ◌&&◌}
use mathlib.Core.List.{List}
use lib.Dec.{eqb}
use Rattle.base_readers.specs.Texts.{bytes, one_of}
use lib.ListN.{length, drop, get_or}
use mir.Syntax.{w64}
use mir.Val as machine
use Rattle.base_sequences.proofs.Booleans.{and_right}
use Rattle.base_readers.specs.Parsers.{Got, nothing, got, ◌>>◌, give, when}
use Rattle.base_readers.specs.Places.{from}
use Rattle.base_readers.proofs.Places.{goes_on, stops, gives, passes, fails}
use Rattle.result_rules.specs.Table.{listed, ptypes}
use Rattle.base_sequences.specs.Spans.{span}
use Rattle.write_rules.specs.Entries.{Entry, shown, is_keyword, stands, kind_of, allowed}
use Rattle.write_columns.specs.declared.coded.Text as read
use Rattle.write_columns.specs.declared.coded.Test.TheVariants as test
use Rattle.write_columns.specs.Internal.{text_of, text_at, end_or, made, shown_reader, IsCoded, shown_at, ShownEnd, shown_end, shown_not, ShownIs, shown_is, unshown}
use Rattle.write_columns.proofs.Showing.{shown-unkind, shown-untabbed, shown-unfed, shown-found}

module _ (t p : List ℕ) (k : ℕ) (v : List ℕ) (r : Bool) (q : r ≡ (listed ptypes t && is_keyword p)) where
  allowed-as : allowed (made t p (kind_of k) (text_of v)) ≡ ((listed ptypes t && is_keyword p) && stands (kind_of k) (text_of v))
  unfolding allowed
  allowed-as = refl

  pub allowed-not : r ≡ false → false ≡ allowed (made t p (kind_of k) (text_of v))
  allowed-not f = rw (allowed-as, ← q, f)

  pub allowed-stands : r ≡ true → (b : Bool) → b ≡ stands (kind_of k) (text_of v) → b ≡ allowed (made t p (kind_of k) (text_of v))
  allowed-stands y b e = rw (allowed-as, ← q, y) e

-- ==== behind ptype and property

module _ (s : List ℕ) (at g : ℕ) (E : ShownEnd s at g) where
  pub valued_not : (t p : List ℕ) → g ≡ at → at ≡ end_or at (from (shown_reader t p) s at)
  valued_not t p z = go E
    where
      go : ShownEnd s at g → at ≡ end_or at (from (shown_reader t p) s at)
      go (shown_end f c l b) = absurd (omega arith)
      go (shown_not f l) = ap (end_or at) (f t p)

  module _ (ne : g ≡ at → ⊥) where
    valued-in : (at + 2 < g) × (g ≤ length s)
    valued-in = go E
      where
        go : ShownEnd s at g → (at + 2 < g) × (g ≤ length s)
        go (shown_end f c l b) = (l, b)
        go (shown_not f l) = absurd (ne l)

    pub valued-coded : IsCoded (span s (at + 2) (g - 1))
    valued-coded = go E
      where
        go : ShownEnd s at g → IsCoded (span s (at + 2) (g - 1))
        go (shown_end f c l b) = c
        go (shown_not f l) = absurd (ne l)

    pub valued_fits : length s < 2 ^ 64 → machine.Fits w64 (at + 2)
    valued_fits l = omega (arith, valued-in)

    pub valued_one : 1 ≤ g
    valued_one = omega (arith, valued-in)

    pub valued-before : at + 2 ≤ g - 1
    valued-before = omega (arith, valued-in)

    pub valued-inside : g - 1 ≤ length s
    valued-inside = omega (arith, valued-in)

    module _ (t p : List ℕ) where
      behind : (x : Got Entry) → x ≡ from (◌>>◌ (when (allowed (shown_at t p s at g))) (give (shown (shown_at t p s at g)))) s g → x ≡ from (shown_reader t p) s at
      behind x X = go E
        where
          go : ShownEnd s at g → x ≡ from (shown_reader t p) s at
          go (shown_end f c l b) = f t p x X
          go (shown_not f l) = absurd (ne l)

      none-shown : allowed (shown_at t p s at g) ≡ false → nothing ≡ from (shown_reader t p) s at
      none-shown f = behind nothing (stops (when _) _ s g (fails _ s g f))

      one-shown : allowed (shown_at t p s at g) ≡ true → got (shown (shown_at t p s at g)) g ≡ from (shown_reader t p) s at
      one-shown y = behind _ (goes_on (when (allowed (shown_at t p s at g))) _ s g tt g _ (passes _ s g y) (gives _ s g))

      shown-stands : allowed (shown_at t p s at g) ≡ true → stands (kind_of (get_or (drop at s) 0 0)) (text_of (span s (at + 2) (g - 1))) ≡ true
      shown-stands e = unfold allowed in and_right (listed ptypes t && is_keyword p) _ e

      module _ (k : ℕ) (K : k ≡ get_or (drop at s) 0 0) (b : Bool) (B : b ≡ allowed (made t p (kind_of k) (text_of (span s (at + 2) (g - 1))))) where
        tested : b ≡ allowed (shown_at t p s at g)
        tested = rw (← K) B

        pub valued-unallowed : b ≡ false → at ≡ end_or at (from (shown_reader t p) s at)
        valued-unallowed f = ap (end_or at) (none-shown (sym tested ∙ f))

        pub valued-allowed : b ≡ true → g ≡ end_or at (from (shown_reader t p) s at)
        valued-allowed y = ap (end_or at) (one-shown (sym tested ∙ y))

-- ==== its answer

record Ending (s : List ℕ) (at : ℕ) : Type 0 where
  end : ℕ
  is : ShownEnd s at end

any-end : (s : List ℕ) (at : ℕ) → Ending s at
any-end s at = kind (one_of (bytes "tqma") (get_or (drop at s) 0 0)) refl
  where
    x : read.Text
    x = text_at test.Text s (at + 2)

    fed : one_of (bytes "tqma") (get_or (drop at s) 0 0) ≡ true → eqb (get_or (drop at s) 1 0) 9 ≡ true → (q : Bool) → q ≡ eqb (get_or (drop x.end s) 0 0) 10 → Ending s at
    fed k r true q = record { end = x.end + 1; is = shown-found s at _ refl true (sym k) refl true (sym r) refl x refl true q refl }
    fed k r false q = record { end = at; is = shown-unfed s at _ refl true (sym k) refl true (sym r) refl x refl false q refl }

    tabbed : one_of (bytes "tqma") (get_or (drop at s) 0 0) ≡ true → (r : Bool) → eqb (get_or (drop at s) 1 0) 9 ≡ r → Ending s at
    tabbed k true r = fed k r (eqb (get_or (drop x.end s) 0 0) 10) refl
    tabbed k false r = record { end = at; is = shown-untabbed s at _ refl true (sym k) refl false (sym r) refl }

    kind : (k : Bool) → one_of (bytes "tqma") (get_or (drop at s) 0 0) ≡ k → Ending s at
    kind true k = tabbed k (eqb (get_or (drop at s) 1 0) 9) refl
    kind false k = record { end = at; is = shown-unkind s at _ refl false (sym k) refl }

-- a property stands there that may be reported, or none does
pub shown-is : (t p s : List ℕ) (at r : ℕ) → r ≡ end_or at (from (shown_reader t p) s at) → ShownIs t p s at r
shown-is t p s at r h = ended (any-end s at).end (any-end s at).is
  where
    ended : (g : ℕ) → ShownEnd s at g → ShownIs t p s at r
    ended g (shown_not f l) = unshown (f t p) (h ∙ ap (end_or at) (sym (f t p)))
    ended g (shown_end f c l b) = go (allowed (shown_at t p s at g)) refl
      where
        E : ShownEnd s at g
        E = shown_end f c l b

        ne : g ≡ at → ⊥
        ne z = omega (arith, l, z)

        go : (a : Bool) → allowed (shown_at t p s at g) ≡ a → ShownIs t p s at r
        go true y =
            let k : r ≡ g = h ∙ ap (end_or at) (sym (one-shown s at g E ne t p y)) in
            rw k (shown_is (one-shown s at g E ne t p y) c (shown-stands s at g E ne t p y) l b)
        go false y = unshown (none-shown s at g E ne t p y) (h ∙ ap (end_or at) (sym (none-shown s at g E ne t p y)))
