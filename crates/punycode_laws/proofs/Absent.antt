-- A byte of ASCII that does not stand in a text does not stand in its spelling: what decoding inserts is from 128 up, and so are the bytes
-- that UTF-8 writes for it.
use Prim.Native.Nat.{ℕ, suc, ◌+◌, ◌*◌, ◌/◌, ◌%◌, ◌≤◌, ◌<◌}
use native.Mathlib.Omega.{arith}
use mathlib.Core.Path.{◌≡◌, refl, sym, ap, ◌∙◌}
use mathlib.Core.Bool.{Bool, true, false}
use mathlib.Core.List.{List, [], ◌∷◌, map}
use mathlib.Core.Option.{Option, none, some}
use lib.Dec.{eqb, ltb}
use lib.ListN.{length, take, drop}
use borrow.Author.Tests.{eq-eqb, ne_eqb, eqb-true, eqb-false, le-ltb, ltb-false}
use Rattle.base_sequences.proofs.Booleans.{no_true}
use Rattle.base_readers.specs.Texts.{one_of}
use Rattle.base_readers.specs.Readers.{run}
use Rattle.base_readers.proofs.Readers.{run_more}
use Rattle.punycode_rules.specs.Punycode.{State, start, last, more, digit_of, numbers, before_last, basic, consumed}
use Rattle.punycode_rules.specs.Unicode.{utf8, utf8s}
use Rattle.base_readers.specs.Lines.{on_first}
use Rattle.punycode_rules.specs.Labels.{decoded, prefixed, spelled, in_label, labels, joined, spelling}
use Rattle.punycode_laws.proofs.Lists.{absurd-some, lacks-append, lacks-take, lacks-drop, lacks-cons, lacks-first, lacks_rest, lacks-insert}
use Rattle.punycode_laws.proofs.Decoding.{numbers-end, numbers-cut, by_cases, kept-some}
use Rattle.punycode_laws.proofs.Basics.{decoded-yes, decoded-no}
use Rattle.punycode_laws.proofs.Spelling.{in-other, spelled-plain, spelled-failed, spelled-some, spelling-last}

-- a text without "." is one label
pub dotless-run : (t : List ℕ) → one_of t 46 ≡ false → run in_label t ≡ length t
unfolding run
dotless-run [] h = refl
dotless-run (x ∷ t) h =
    run_more in_label x t (in-other x (ne_eqb x 46 (λ e. no_true (sym (lacks-first 46 x t h) ∙ eq-eqb 46 x (sym e))))) ∙ ap suc (dotless-run t (lacks_rest 46 x t h))

pub dotless-spelling : (t : List ℕ) → one_of t 46 ≡ false → spelling t ≡ spelled t
dotless-spelling t h = spelling-last t (dotless-run t h)

module _ (c : ℕ) (low : c < 128) where
  -- ==== what is decoded

  numbers-lack : (xs : List ℕ) (s : State) → 128 ≤ s.n → one_of s.output c ≡ false → (u : List ℕ) → numbers s xs ≡ some u → one_of u c ≡ false
  numbers-lack [] s n h u e = go (eqb s.k 36) refl
    where
      go : (t : Bool) → eqb s.k 36 ≡ t → one_of u c ≡ false
      go true k = let z : some s.output ≡ some u = sym (numbers-end s (eqb-true _ _ k)) ∙ e in let w : s.output ≡ u = cc in rw (← w) h
      go false k = absurd-some u (sym (numbers-cut s (eqb-false _ _ k)) ∙ e)
  numbers-lack (x ∷ xs) s n h u e =
      by_cases s x xs (λ o. o ≡ some u → one_of u c ≡ false) (λ f. absurd-some u f)
      (λ f. numbers-lack xs (last s (digit_of x)) (omega arith) (lacks-insert c ((s.i + digit_of x * s.w) % (length s.output + 1)) (last s (digit_of x)).n s.output (λ z. omega arith) h) u f)
      (λ a b f. numbers-lack xs (more s (digit_of x)) n h u f)
      e

  pub decoded-lacks : (xs u : List ℕ) → decoded xs ≡ some u → one_of xs c ≡ false → one_of u c ≡ false
  decoded-lacks xs u e h = go (before_last 0 0 xs) refl (basic (take (before_last 0 0 xs) xs)) refl
    where
      go : (b : ℕ) → b ≡ before_last 0 0 xs → (t : Bool) → basic (take (before_last 0 0 xs) xs) ≡ t → one_of u c ≡ false
      go b q true t =
          numbers-lack (drop (consumed b) xs) (start (take b xs)) (omega arith) (lacks-take c b xs h) u
          (kept-some _ u (sym (decoded-yes xs b q (rw q t)) ∙ e))
      go b q false t = absurd-some u (sym (decoded-no xs b q (rw q t)) ∙ e)

  -- ==== UTF-8

  high : (x : ℕ) → 128 ≤ x → eqb c x ≡ false
  high x h = ne_eqb c x (λ e. omega arith)

  utf8-lacks : (x : ℕ) → 128 ≤ x → one_of (utf8 x) c ≡ false
  unfolding utf8 one_of
  utf8-lacks x h = second (ltb x 2048) refl
    where
      third : 2048 ≤ x → (t : Bool) → ltb x 65536 ≡ t → one_of (utf8 x) c ≡ false
      third i true e = rw (utf8, le-ltb x 128 h, le-ltb x 2048 i, e, high (224 + x / 4096) (omega arith), high (128 + x / 64 % 64) (omega arith), high (128 + x % 64) (omega arith))
      third i false e = rw (utf8, le-ltb x 128 h, le-ltb x 2048 i, e, high (240 + x / 262144) (omega arith), high (128 + x / 4096 % 64) (omega arith), high (128 + x / 64 % 64) (omega arith), high (128 + x % 64) (omega arith))

      second : (t : Bool) → ltb x 2048 ≡ t → one_of (utf8 x) c ≡ false
      second true e = rw (utf8, le-ltb x 128 h, e, high (192 + x / 64) (omega arith), high (128 + x % 64) (omega arith))
      second false e = third (ltb-false _ _ e) (ltb x 65536) refl

  pub utf8s-lacks : (u : List ℕ) → one_of u c ≡ false → one_of (utf8s u) c ≡ false
  unfolding utf8s utf8 one_of
  utf8s-lacks [] h = h
  utf8s-lacks (x ∷ u) h = lacks-append c (utf8 x) (utf8s u) (first (ltb x 128) refl) (utf8s-lacks u (lacks_rest c x u h))
    where
      first : (t : Bool) → ltb x 128 ≡ t → one_of (utf8 x) c ≡ false
      first true e = rw (utf8, e) (lacks-cons c x [] (lacks-first c x u h) refl)
      first false e = utf8-lacks x (ltb-false _ _ e)

  -- ==== labels and texts

  pub spelled-lacks : (l : List ℕ) → one_of l c ≡ false → one_of (spelled l) c ≡ false
  spelled-lacks l h = first (prefixed l) refl
    where
      second : prefixed l ≡ true → (o : Option (List ℕ)) → decoded (drop 4 l) ≡ o → one_of (spelled l) c ≡ false
      second p none e = rw (spelled-failed l p e) h
      second p (some u) e = rw (spelled-some l p u e) (utf8s-lacks u (decoded-lacks (drop 4 l) u e (lacks-drop c 4 l h)))

      first : (t : Bool) → prefixed l ≡ t → one_of (spelled l) c ≡ false
      first true p = second p (decoded (drop 4 l)) refl
      first false p = rw (spelled-plain l p) h

  -- none of the labels has the byte
  data Absent : List (List ℕ) → Type 0 where
    no_label : Absent []
    label : {l : List ℕ} {ls : List (List ℕ)} → one_of l c ≡ false → Absent ls → Absent (l ∷ ls)

  absent-first : (x : ℕ) (ls : List (List ℕ)) → eqb c x ≡ false → Absent ls → Absent (on_first x ls)
  unfolding one_of
  absent-first x [] h no_label = label (lacks-cons c x [] h refl) no_label
  absent-first x (l ∷ ls) h (label g p) = label (lacks-cons c x l h g) p

  labels-absent : (t : List ℕ) → one_of t c ≡ false → Absent (labels t)
  unfolding labels one_of
  labels-absent [] h = label refl no_label
  labels-absent (x ∷ t) h = go (eqb x 46) refl (labels-absent t (lacks_rest c x t h))
    where
      go : (b : Bool) → eqb x 46 ≡ b → Absent (labels t) → Absent (labels (x ∷ t))
      go true e p = rw (labels, e) (label refl p)
      go false e p = rw (labels, e) (absent-first x (labels t) (lacks-first c x t h) p)

  joined-lacks : (ls : List (List ℕ)) → (c ≡ 46 → ⊥) → Absent ls → one_of (joined (map spelled ls)) c ≡ false
  unfolding joined one_of
  joined-lacks [] n no_label = refl
  joined-lacks (l ∷ []) n (label h p) = spelled-lacks l h
  joined-lacks (l ∷ m ∷ ms) n (label h p) =
      lacks-append c (spelled l) (46 ∷ joined (map spelled (m ∷ ms))) (spelled-lacks l h) (lacks-cons c 46 (joined (map spelled (m ∷ ms))) (ne_eqb c 46 n) (joined-lacks (m ∷ ms) n p))

  pub absent-spelling : (t : List ℕ) → one_of t c ≡ false → one_of (spelling t) c ≡ false
  unfolding spelling
  absent-spelling t h = go (eqb c 46) refl
    where
      go : (b : Bool) → eqb c 46 ≡ b → one_of (spelling t) c ≡ false
      go true e =
          let z : c ≡ 46 = eqb-true c 46 e in
          let g : one_of t 46 ≡ false = (rw z at h) in
          ap (λ (l : List ℕ). one_of l c) (dotless-spelling t g) ∙ spelled-lacks t h
      go false e = joined-lacks (labels t) (eqb-false c 46 e) (labels-absent t h)
