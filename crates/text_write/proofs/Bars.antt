-- Phrases as the code finds them. The premises are literally what a need is handed.
use Prim.Native.Nat.{ℕ, zero, suc, ◌+◌, ◌-◌, ◌≤◌, ◌<◌}
use native.Mathlib.Nat.{add-zero}
use native.Mathlib.Omega.{arith}
use mathlib.Core.Path.{◌≡◌, refl, sym, ◌∙◌}
use mathlib.Core.Bool.{Bool, true, false}
use mathlib.Core.List.{List}
use lib.Dec.{ltb}
use lib.ListN.{length, take, drop, length-drop}
use lib.Seq.{drop-drop}
use borrow.Author.Tests.{lt-ltb, le-ltb, ltb-true}
use Rattle.base_sequences.specs.Stored.{Clipped}
use Rattle.base_readers.specs.Readers.{run}
use Rattle.base_readers.proofs.Readers.{run_fits}
use Rattle.text_write.specs.Phrases.{in_phrase, start, phrase}

-- ==== where a phrase starts

start-more : (k : ℕ) (l : List ℕ) → run in_phrase l < length l → start (suc k) l ≡ suc (run in_phrase l) + start k (drop (suc (run in_phrase l)) l)
unfolding start
start-more k l h = rw (lt-ltb (run in_phrase l) (length l) h)

start-last : (k : ℕ) (l : List ℕ) → length l ≤ run in_phrase l → start (suc k) l ≡ 0
unfolding start
start-last k l h = rw (le-ltb (run in_phrase l) (length l) h)

-- a phrase of the whole text is one of what is left of it
pub record Passed (n : ℕ) (all : List ℕ) (at left : ℕ) : Type 0 where
  pub from : at + start left (drop at all) ≡ start n all
  pub within : at ≤ length all

module _ (n : ℕ) (all : List ℕ) (at left : ℕ) (p : Passed n all at left) where
  pub passed-all : left ≤ 0 → at ≡ start n all
  unfolding start
  passed-all h = go left h p.from
    where
      go : (k : ℕ) → k ≤ 0 → at + start k (drop at all) ≡ start n all → at ≡ start n all
      go zero h e = sym (add-zero at) ∙ e
      go (suc k) h e = absurd (omega arith)

  module _ (h : 0 < left) (bar : ℕ) (q : bar ≡ at + run in_phrase (drop at all)) where
    pub passed-last : length all ≤ bar → at ≡ start n all
    passed-last m = go left h p.from
      where
        go : (k : ℕ) → 0 < k → at + start k (drop at all) ≡ start n all → at ≡ start n all
        go zero h e = absurd (omega arith)
        go (suc k) h e = let z = start-last k (drop at all) (omega (arith, length-drop at all, p.within)) in omega (arith, e, z)

    pub passed-more : bar < length all → {rest : ℕ} → rest ≡ left - 1 → Passed n all (bar + 1) rest
    passed-more m e = rw e (record { from = go left h p.from; within = omega arith })
      where
        go : (k : ℕ) → 0 < k → at + start k (drop at all) ≡ start n all → (bar + 1) + start (k - 1) (drop (bar + 1) all) ≡ start n all
        go zero h e = absurd (omega arith)
        go (suc k) h e =
            let r = run in_phrase (drop at all) in
            let z = start-more k (drop at all) (omega (arith, length-drop at all, p.within)) in
            let n : at + suc r ≡ bar + 1 = omega arith in
            let f : start k (drop (suc r) (drop at all)) ≡ start k (drop (bar + 1) all) = rw (drop-drop (suc r) at all, n) in
            let y : suc k - 1 ≡ k = omega arith in
            rw y (omega (arith, e, z, f))

-- ==== a phrase

start-within : (n : ℕ) (l : List ℕ) → start n l ≤ length l
unfolding start
start-within zero l = omega arith
start-within (suc n) l = go (ltb (run in_phrase l) (length l)) refl (start-within n (drop (suc (run in_phrase l)) l))
  where
    go : (b : Bool) → ltb (run in_phrase l) (length l) ≡ b → start n (drop (suc (run in_phrase l)) l) ≤ length (drop (suc (run in_phrase l)) l) → start (suc n) l ≤ length l
    go true e h = rw e (omega (arith, h, length-drop (suc (run in_phrase l)) l, ltb-true (run in_phrase l) (length l) e))
    go false e h = rw e (omega arith)

module _ (n : ℕ) (all : List ℕ) (at end : ℕ) (e : at ≡ start n all) (q : end ≡ at + run in_phrase (drop at all)) where
  pub phrase-long : end ≤ length all
  phrase-long = omega (arith, start-within n all, run_fits in_phrase (drop at all), length-drop at all)

  pub phrase-put : (old : List ℕ) (to : ℕ) (new : List ℕ) (r : ℕ) → Clipped old to (take (end - at) (drop at all)) new r → Clipped old to (phrase n all) new r
  unfolding phrase
  phrase-put old to new r w =
      let z : end - at ≡ run in_phrase (drop at all) = omega arith in
      rw (← e) (rw z at w)
