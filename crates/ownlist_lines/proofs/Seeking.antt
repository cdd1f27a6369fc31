-- What is asked of lines that end at places.
use Prim.Native.Nat.{ℕ, suc, ◌+◌, ◌-◌, ◌≤◌, ◌<◌, min}
use native.Mathlib.Numerals.{add-one}
use native.Mathlib.Omega.{arith}
use mathlib.Core.Path.{◌≡◌, refl, sym, ◌∙◌}
use mathlib.Core.Bool.{Bool, true, false, ◌||◌}
use mathlib.Core.List.{List, [], ◌∷◌}
use lib.ListN.{length, get_or, drop, length-drop, drop_of_length-le}
use lib.Seq.{drop-cons, length-take-le}
use Rattle.base_sequences.specs.Spans.{span}
use Rattle.base_sequences.proofs.Lists.{empty-is}
use Rattle.base_readers.specs.Texts.{same}
use Rattle.lexis_rules.specs.Bytes.{alike}
use Rattle.lexis_laws.proofs.Bytes.{alike-long}
use Rattle.ownlist_rules.specs.Spelled.{among_lines}
use Rattle.ownlist_rules.specs.Ends.{cut_at}
use Rattle.ownlist_laws.proofs.Ends.{cut_inside}

-- ==== a line by its places

module _ (s text : List ℕ) (a e : ℕ) (h : e ≤ length s) where
  span-length : length (span s a e) ≡ e - a
  span-length = length-take-le (e - a) (drop a s) (rw length-drop (omega arith))

  pub span-other : (n : ℕ) → n ≡ e - a → (n ≡ length text → ⊥) → false ≡ alike (span s a e) text
  span-other n q ne = alike-long (span s a e) text (λ z. ne (q ∙ (sym span-length ∙ z)))

  pub span-empty : (n : ℕ) → n ≡ e - a → n ≡ length text → e ≤ a → true ≡ alike (span s a e) text
  unfolding alike same
  span-empty n q z l =
      let x : e - a ≡ 0 = omega arith in
      let y : text ≡ [] = empty-is text (omega arith) in
      rw (x, y)

-- ==== the loop: what is left of the ends tells as the whole

pub record Seeking (s ends text : List ℕ) (at k : ℕ) : Type 0 where
  pub same : among_lines (cut_at s at (drop k ends)) text ≡ among_lines (cut_at s 0 ends) text

pub seek-start : (s ends text : List ℕ) → Seeking s ends text 0 0
seek-start s ends text = record { same = refl }

module _ (s ends text : List ℕ) (at k : ℕ) (w : Seeking s ends text at k) where
  pub seek-end : length ends ≤ k → false ≡ among_lines (cut_at s 0 ends) text
  unfolding among_lines cut_at
  seek-end h = rw (drop_of_length-le {A = ℕ} ends h) at w.same

  module _ (h : k < length ends) (e : ℕ) (q : e ≡ min (get_or ends k 0) (length s)) (r : Bool) (z : r ≡ alike (span s at e) text) where
    here : (r || among_lines (cut_at s (e + 1) (drop (k + 1) ends)) text) ≡ among_lines (cut_at s 0 ends) text
    unfolding among_lines
    here =
        let d : cut_at s at (drop k ends) ≡ span s at e ∷ cut_at s (suc e) (drop (suc k) ends) =
        rw (drop-cons ends k 0 h) (cut_inside s at (get_or ends k 0) e (drop (suc k) ends) q) in
        rw (add-one e, add-one k) (rw (d, ← z) at w.same)

    pub seek_hit : r ≡ true → true ≡ among_lines (cut_at s 0 ends) text
    seek_hit t = rw t at here

    pub seek-more : r ≡ false → Seeking s ends text (e + 1) (k + 1)
    seek-more t = record { same = rw t at here }
