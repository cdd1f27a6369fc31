-- What stands between the fields that go is the bytes of those that stay: by induction on the fields, with what is still to be copied in front.
use Prim.Native.Nat.{ℕ, ◌+◌, ◌-◌, ◌≤◌, zero-le}
use native.Mathlib.Omega.{arith}
use mathlib.Core.Path.{◌≡◌, refl, sym, ap, ◌∙◌}
use mathlib.Core.Bool.{Bool, true, false, not, cond}
use mathlib.Core.List.{List, [], ◌∷◌, ◌++◌, append_assoc, append-nil}
use lib.ListN.{length, drop, length-append}
use lib.Seq.{take-add, drop-drop, take-append_seam, drop_at}
use Rattle.base_sequences.specs.Spans.{span}
use Rattle.block_rules.specs.Fields.{Field, fields, bytes_of, select}
use Rattle.block_laws.proofs.Fields.{fields-fine, select_yes, select_no}
use Rattle.strip_rules.specs.Strip.{is_removed, kept_of}
use Rattle.strip_steps_rules.specs.Steps.{marks_of}
use Rattle.strip_fields.specs.Sifting.{stops_of}
use Rattle.strip_copy.specs.Unmarked.{unmarked}

-- the bytes up to a place and those behind it
span_more : (s : List ℕ) (a b c : ℕ) → a ≤ b → b ≤ c → span s a b ++ span s b c ≡ span s a c
span_more s a b c h k =
    let d : drop b s ≡ drop (b - a) (drop a s) = let o : a + (b - a) ≡ b = omega arith in rw (drop-drop, o) in
    let o : c - a ≡ b - a + (c - b) = omega arith in
    rw (o, take-add (b - a) (c - b) (drop a s), ← d)

-- the bytes of a part
span-part : (p x y : List ℕ) (at : ℕ) → length p ≡ at → span (p ++ (x ++ y)) at (at + length x) ≡ x
span-part p x y at l =
    let o : at + length x - at ≡ length x = omega arith in
    rw (o, drop_at p (x ++ y) at l) (take-append_seam x y)

span_none : (s : List ℕ) (e : ℕ) → span s e e ≡ []
span_none s e = let o : e - e ≡ 0 = omega arith in rw o

module _ (listed : List ℕ → Bool) where
  kept-none : bytes_of (kept_of listed []) ≡ []
  unfolding bytes_of select
  kept-none = refl

  kept_from : (fs : List Field) (p : List ℕ) (from at : ℕ) → length p ≡ at → from ≤ at
      → unmarked (p ++ bytes_of fs) from at (stops_of at fs) (marks_of listed fs) ≡ span (p ++ bytes_of fs) from at ++ bytes_of (kept_of listed fs)
  unfolding unmarked stops_of marks_of bytes_of
  kept_from [] p from at l h = rw kept-none (sym (append-nil (span (p ++ []) from at)))
  kept_from (f ∷ fs) p from at l h = go (is_removed listed f) refl (kept_from fs (p ++ f.bytes))
    where
      go : (t : Bool) → is_removed listed f ≡ t
          → ((from' at' : ℕ) → length (p ++ f.bytes) ≡ at' → from' ≤ at'
          → unmarked ((p ++ f.bytes) ++ bytes_of fs) from' at' (stops_of at' fs) (marks_of listed fs) ≡ span ((p ++ f.bytes) ++ bytes_of fs) from' at' ++ bytes_of (kept_of listed fs))
          → unmarked (p ++ (f.bytes ++ bytes_of fs)) from at ((at + length f.bytes) ∷ stops_of (at + length f.bytes) fs) (cond (is_removed listed f) 1 0 ∷ marks_of listed fs)
          ≡ span (p ++ (f.bytes ++ bytes_of fs)) from at ++ bytes_of (kept_of listed (f ∷ fs))
      go t e ih = by t e
        where
          -- the rest, with the field as the last part in front
          rest : (from' : ℕ) → from' ≤ at + length f.bytes
              → unmarked (p ++ (f.bytes ++ bytes_of fs)) from' (at + length f.bytes) (stops_of (at + length f.bytes) fs) (marks_of listed fs)
              ≡ span (p ++ (f.bytes ++ bytes_of fs)) from' (at + length f.bytes) ++ bytes_of (kept_of listed fs)
          rest from' g =
              let n : length (p ++ f.bytes) ≡ at + length f.bytes = omega (arith, length-append p f.bytes, l) in
              rw (append_assoc p f.bytes (bytes_of fs)) at (ih from' (at + length f.bytes) n g)

          by : (t : Bool) → is_removed listed f ≡ t
              → unmarked (p ++ (f.bytes ++ bytes_of fs)) from at ((at + length f.bytes) ∷ stops_of (at + length f.bytes) fs) (cond (is_removed listed f) 1 0 ∷ marks_of listed fs)
              ≡ span (p ++ (f.bytes ++ bytes_of fs)) from at ++ bytes_of (kept_of listed (f ∷ fs))
          by true q =
              let k : kept_of listed (f ∷ fs) ≡ kept_of listed fs = select_no (λ g. not (is_removed listed g)) f fs (rw q) in
              rw (q, k)
              (ap (◌++◌ (span (p ++ (f.bytes ++ bytes_of fs)) from at))
              (rest (at + length f.bytes) (omega arith) ∙ ap (λ (t : List ℕ). t ++ bytes_of (kept_of listed fs)) (span_none (p ++ (f.bytes ++ bytes_of fs)) (at + length f.bytes))))
          by false q =
              let k : kept_of listed (f ∷ fs) ≡ f ∷ kept_of listed fs = select_yes (λ g. not (is_removed listed g)) f fs (rw q) in
              let m : span (p ++ (f.bytes ++ bytes_of fs)) from (at + length f.bytes) ≡ span (p ++ (f.bytes ++ bytes_of fs)) from at ++ f.bytes =
              sym (span_more (p ++ (f.bytes ++ bytes_of fs)) from at (at + length f.bytes) h (omega arith))
              ∙ ap (◌++◌ (span (p ++ (f.bytes ++ bytes_of fs)) from at)) (span-part p f.bytes (bytes_of fs) at l) in
              rw (q, k)
              (rest from (omega arith)
              ∙ (ap (λ (t : List ℕ). t ++ bytes_of (kept_of listed fs)) m ∙ append_assoc (span (p ++ (f.bytes ++ bytes_of fs)) from at) f.bytes (bytes_of (kept_of listed fs))))

  -- of a block that is not refused
  pub kept-copied : (s : List ℕ) → (fields s).number ≡ 0
      → unmarked s 0 0 (stops_of 0 (fields s).items) (marks_of listed (fields s).items) ≡ bytes_of (kept_of listed (fields s).items)
  kept-copied s z = rw (fields-fine s z).bytes at (kept_from (fields s).items [] 0 0 refl zero-le)
