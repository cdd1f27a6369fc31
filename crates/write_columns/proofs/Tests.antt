-- Texts that are tested byte by byte: what each loop keeps, one turn, and the end.
use Prim.Native.Nat.{ℕ, suc, ◌+◌}
use native.Mathlib.Omega.{arith}
use mathlib.Core.Path.{◌≡◌, refl, sym, ap, ◌∙◌}
use mathlib.Core.Bool.{Bool, true, false, ◌&&◌}
use mathlib.Core.List.{List, [], ◌∷◌}
use lib.Dec.{eqb}
use lib.ListN.{length, drop}
use borrow.Author.Tests.{eq-eqb, ne_eqb}
use Rattle.base_sequences.proofs.Booleans.{both}
use Rattle.lexis_rules.specs.declared.Class.TheVariants as class
use Rattle.lexis_rules.specs.Bytes.{in_class}
use Rattle.identifier_rules.specs.Identifier.{identifier_byte}
use Rattle.result_rules.specs.Results.{in_local_part}
use Rattle.write_rules.specs.Entries.{each, whole, quotable, is_text}
use Rattle.write_columns.specs.declared.coded.Test.{Test}
use Rattle.write_columns.specs.declared.coded.Test.TheVariants.{Text, Token, Identifier, Local}
use Rattle.std.specs.Prelude.{Option, Some, None, is_some}
use Rattle.write_columns.specs.declared.coded.Code.{Code}
use Rattle.write_columns.specs.declared.coded.Text as read
use Rattle.write_columns.specs.Internal.{code_size, code_at, text_of, in_test, text_at}
use Rattle.write_columns.proofs.Codes.{text-none, text-more, text-on, text-off}
use Rattle.base_readers.specs.Readers.{run, many}
use Rattle.base_readers.specs.Places.{Reaches}
use Rattle.base_readers.proofs.Loops.{reaches-start}
use Rattle.write_laws.proofs.Quotes.{run-each, each-run}

-- ==== one byte

module _ (t : Test) (b : ℕ) where
  pub in-text-yes : t ≡ Text → (r : Bool) → r ≡ in_class class.Quoted b → r ≡ true → true ≡ in_test t b
  unfolding in_test quotable
  in-text-yes e r q h = rw (e, ← q, h)

  pub in-text-no : t ≡ Text → (r : Bool) → r ≡ in_class class.Quoted b → r ≡ false → (k : Bool) → k ≡ in_class class.Escaped b → k ≡ in_test t b
  unfolding in_test quotable
  in-text-no e r q h k p = rw (e, ← q, h) p

  pub in-token : t ≡ Token → (k : Bool) → k ≡ in_class class.Token b → k ≡ in_test t b
  unfolding in_test
  in-token e k p = rw e p

  pub in-identifier : t ≡ Identifier → (k : Bool) → k ≡ identifier_byte b → k ≡ in_test t b
  unfolding in_test
  in-identifier e k p = rw e p

  pub in-local : t ≡ Local → (k : Bool) → k ≡ in_local_part b → k ≡ in_test t b
  unfolding in_test
  in-local e k p = rw e p

-- ==== all bytes

pub record Testing (s : List ℕ) (at : ℕ) (t : Test) (i : ℕ) : Type 0 where
  pub same : each (in_test t) (text_of (drop i s)) ≡ each (in_test t) (text_of (drop at s))

pub testing-start : (s : List ℕ) (at : ℕ) (t : Test) → Testing s at t at
testing-start s at t = record { same = refl }

module _ (s : List ℕ) (at : ℕ) (t : Test) (i : ℕ) (w : Testing s at t i) where
  pub testing-done : None ≡ code_at (drop i s) → true ≡ each (in_test t) (text_of (drop at s))
  unfolding each
  testing-done e = rw (text-none s i e) at w.same

  module _ (c : Code) (e : Some c ≡ code_at (drop i s)) (r : Bool) (q : r ≡ in_test t c.value) where
    here : (in_test t c.value && each (in_test t) (text_of (drop (i + c.size) s))) ≡ each (in_test t) (text_of (drop at s))
    unfolding each
    here = rw (text-more s i c e) at w.same

    pub testing-on : r ≡ true → Testing s at t (i + c.size)
    testing-on h = record { same = rw (← q, h) at here }

    pub testing-off : r ≡ false → false ≡ each (in_test t) (text_of (drop at s))
    testing-off h = rw (← q, h) at here

-- ==== bare

whole_each : (c : ℕ → Bool) (l : List ℕ) → eqb (run c l) (length l) ≡ each c l
whole_each c l = go (each c l) refl
  where
    go : (b : Bool) → each c l ≡ b → eqb (run c l) (length l) ≡ b
    go true e = eq-eqb (run c l) (length l) (each-run c l e)
    go false e = ne_eqb (run c l) (length l) (λ q. both (each c l) e (run-each c l q))

module _ (s : List ℕ) (at : ℕ) (t : Test) where
  pub bare-none : None ≡ code_at (drop at s) → false ≡ whole (run (in_test t)) (text_of (drop at s))
  unfolding whole
  bare-none e = rw (text-none s at e)

  pub bare-each : (c : Code) → Some c ≡ code_at (drop at s) → (r : Bool) → r ≡ each (in_test t) (text_of (drop at s)) → r ≡ whole (run (in_test t)) (text_of (drop at s))
  bare-each c e r q = q ∙ (sym (whole_each (in_test t) (text_of (drop at s))) ∙ go (text_of (drop at s)) (text-more s at c e))
    where
      go : (l : List ℕ) → l ≡ c.value ∷ text_of (drop (at + c.size) s) → eqb (run (in_test t) l) (length l) ≡ whole (run (in_test t)) l
      go [] q = absurd (let z : 0 ≡ suc (length (text_of (drop (at + c.size) s))) = ap length q in omega arith)
      go (x ∷ l) q = unfold whole in refl

  -- as the code asks
  pub bare-if : (o : Option Code) → o ≡ code_at (drop at s) → (is_some o && each (in_test t) (text_of (drop at s))) ≡ whole (run (in_test t)) (text_of (drop at s))
  bare-if None e = bare-none e
  bare-if (Some c) e = bare-each c e (each (in_test t) (text_of (drop at s))) refl

  -- by the two tests in turn
  pub bare-yes : (o : Option Code) → o ≡ code_at (drop at s) → (k : Bool) → k ≡ is_some o → k ≡ true → (r : Bool) → r ≡ each (in_test t) (text_of (drop at s)) → r ≡ whole (run (in_test t)) (text_of (drop at s))
  bare-yes None e k K y r q = absurd (both k K y)
  bare-yes (Some c) e k K y r q = bare-each c e r q

  pub bare-no : (o : Option Code) → o ≡ code_at (drop at s) → (k : Bool) → k ≡ is_some o → k ≡ false → k ≡ whole (run (in_test t)) (text_of (drop at s))
  bare-no None e k K z = z ∙ bare-none e
  bare-no (Some c) e k K z = absurd (both k z K)

-- ==== one walk

abbrev walked_is : ℕ → Bool → Bool → read.Text
walked_is i h b = record { end = i; holds = h; bare = b }

-- what is known of the text up to i, and that nothing is lost: the rest decides
pub record Walking (s : List ℕ) (at : ℕ) (t : Test) (i : ℕ) (h b : Bool) : Type 0 where
  pub reaches : Reaches (many code_size 0) s at i
  pub holding : (h && is_text (text_of (drop i s))) ≡ is_text (text_of (drop at s))
  pub baring : (b && each (in_test t) (text_of (drop i s))) ≡ whole (run (in_test t)) (text_of (drop at s))

module _ (s : List ℕ) (at : ℕ) (t : Test) where
  pub walking_start : (o : Option Code) → o ≡ code_at (drop at s) → (r : Bool) → r ≡ is_some o → Walking s at t at true r
  walking_start o e r q = record { reaches = reaches-start; holding = refl; baring = rw q (bare-if s at t o e) }

module _ (s : List ℕ) (at : ℕ) (t : Test) (i : ℕ) (h b : Bool) (w : Walking s at t i h b) where
  pub walking-done : None ≡ code_at (drop i s) → record { end = i; holds = h; bare = b } ≡ text_at t s at
  walking-done e = ends (text-off s i e at w.reaches) (none h (is_text (text_of (drop i s))) (ap is_text (text-none s i e) ∙ (unfold is_text each in refl)) ∙ w.holding) (none b (each (in_test t) (text_of (drop i s))) (ap (each (in_test t)) (text-none s i e) ∙ (unfold each in refl)) ∙ w.baring)
    where
      none : (a k : Bool) → k ≡ true → a ≡ (a && k)
      none true k q = sym q
      none false k q = refl

      ends : i ≡ at + many code_size 0 (drop at s) → h ≡ is_text (text_of (drop at s)) → b ≡ whole (run (in_test t)) (text_of (drop at s)) → walked_is i h b ≡ text_at t s at
      ends x y z = rw (x, y, z)

  pub walking_on : (c : Code) → Some c ≡ code_at (drop i s) → (r : Bool) → r ≡ in_test Text c.value → (q : Bool) → q ≡ in_test t c.value → Walking s at t (i + c.size) (h && r) (b && q)
  walking_on c e r R q Q =
      record {
        reaches = text-on s i c e at w.reaches;
        holding = shift h r (is_text (text_of (drop (i + c.size) s))) (is_text (text_of (drop i s))) (holds_more) ∙ w.holding;
        baring = shift b q (each (in_test t) (text_of (drop (i + c.size) s))) (each (in_test t) (text_of (drop i s))) (bare-more) ∙ w.baring;
      }
    where
      shift : (a x y z : Bool) → z ≡ (x && y) → ((a && x) && y) ≡ (a && z)
      shift true x y z e = sym e
      shift false x y z e = refl

      bare-more : each (in_test t) (text_of (drop i s)) ≡ (q && each (in_test t) (text_of (drop (i + c.size) s)))
      bare-more = ap (each (in_test t)) (text-more s i c e) ∙ (unfold each in rw Q)

      holds_more : is_text (text_of (drop i s)) ≡ (r && is_text (text_of (drop (i + c.size) s)))
      holds_more = ap is_text (text-more s i c e) ∙ (unfold is_text each in_test in rw (R, in_test))
