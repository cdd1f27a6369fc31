-- The parts of a line stored one after another, the loop over the fields, and the answers of the whole. The premises are literally what a need is handed.
use Prim.Native.Nat.{ℕ, ◌+◌, ◌-◌, ◌≤◌, ◌<◌, ◌^◌, zero-le}
use native.Mathlib.Nat.{add-zero}
use native.Mathlib.Numerals.{add-one}
use native.Mathlib.Omega.{arith}
use mathlib.Core.Path.{◌≡◌, refl, sym, ap, ◌∙◌}
use mathlib.Core.List.{List, [], ◌++◌}
use borrow.Author.Tests.{eq-eqb, ne_eqb}
use lib.ListN.{length, get_or, take, drop}
use lib.Seq.{get_or-drop, take-append_seam}
use Rattle.base_sequences.specs.Spans.{span}
use Rattle.base_sequences.specs.Stored.{Clipped}
use Rattle.base_sequences.proofs.Clips.{clipped-long, clipped-then, Going, going_start, going_step, going_done}
use Rattle.base_readers.specs.Texts.{bytes}
use Rattle.text_decimals_rules.specs.Decimals.{decimal}
use Rattle.block_rules.specs.Fields.{fields, field_limit}
use Rattle.block_laws.proofs.Fields.{fields-fine}
use Rattle.block.specs.declared.Next.TheVariants.{Field, End, Refused}
use Rattle.block.specs.Steps.{next_from}
use Rattle.block.proofs.Steps.{rest_walk, step_field, step_end, step-refused}
use Rattle.ownlist_rules.specs.Calls.{Known}
use Rattle.strip_steps_rules.specs.declared.Marked.{Marked}
use Rattle.strip_steps_rules.specs.Steps.{Marks, done_marks, mark}
use Rattle.strip_steps_rules.specs.Answers.{answer_of, leaves}
use Rattle.strip_steps_rules.specs.Terms.{marks_for}
use Rattle.strip_steps_laws.proofs.Marks.{marks-for-long}
use Rattle.strip_steps_laws.proofs.Numbers.{mark-order}
use Rattle.report_rules.specs.Report.{escape}
use Rattle.command_log_rules.specs.Log.{shown, goes_line, line_by, lines_by, log_of}
use Rattle.command_log_rules.proofs.PlainAndShort.{log-known, log-unknown}

-- nothing is stored
nothing_put : (old : List ℕ) (to : ℕ) → to < 2 ^ 64 → Clipped old to [] old to
nothing_put old to h = record { place = omega arith; bytes = refl }

-- ==== a line

pub goes-put : (n : ℕ) (t old : List ℕ) (to : ℕ) → length old < 2 ^ 64 → (front : List ℕ) → front ≡ span t 0 64 → (o₁ : List ℕ) (a : ℕ) → Clipped old to (bytes "orbendash: goes: ") o₁ a
    → (o₂ : List ℕ) (b : ℕ) → Clipped o₁ a (decimal n) o₂ b → (o₃ : List ℕ) (c : ℕ) → Clipped o₂ b (bytes ": ") o₃ c → (o₄ : List ℕ) (d : ℕ) → Clipped o₃ c (escape front) o₄ d
    → (new : List ℕ) (r : ℕ) → Clipped o₄ d (bytes "\n") new r → Clipped old to (goes_line n t) new r
unfolding goes_line
goes-put n t old to l front e o₁ a u o₂ b v o₃ c w o₄ d x new r y =
    let x' : Clipped o₃ c (escape (take shown t)) o₄ d = rw e at x in
    clipped-then (omega arith) u
    (clipped-then (omega (arith, clipped-long u)) v
    (clipped-then (omega (arith, clipped-long u, clipped-long v)) w (clipped-then (omega (arith, clipped-long u, clipped-long v, clipped-long w)) x' y)))

module _ (mark n : ℕ) (t old : List ℕ) (to : ℕ) where
  pub line-goes : mark ≡ 1 → (new : List ℕ) (r : ℕ) → Clipped old to (goes_line n t) new r → Clipped old to (line_by mark n t) new r
  unfolding line_by
  line-goes e new r w = rw (eq-eqb mark 1 e) w

  pub line_stays : (mark ≡ 1 → ⊥) → to < 2 ^ 64 → Clipped old to (line_by mark n t) old to
  unfolding line_by
  line_stays e h = rw (ne_eqb mark 1 e) (nothing_put old to h)

-- ==== the loop over the fields

-- the loop stands at a place, after so many fields: what is left to be written
pub record Logging (s marks old out : List ℕ) (at count to : ℕ) : Type 0 where
  pub left : Going old 0 (lines_by marks 0 (fields s).items) out to (lines_by marks count (rest_walk s at count).items)
  pub inside : at ≤ length s
  pub few : count ≤ field_limit

pub logging-start : (s marks old : List ℕ) → Logging s marks old old 0 0 0
logging-start s marks old = record { left = going_start old 0 (lines_by marks 0 (fields s).items) zero-le; inside = zero-le; few = zero-le }

module _ (s marks old out : List ℕ) (at count to : ℕ) (w : Logging s marks old out at count to) where
  ended : (n p : ℕ) → rest_walk s at count ≡ record { items = []; number = n; place = p } → Clipped old 0 (lines_by marks 0 (fields s).items) out to
  unfolding lines_by
  ended n p e = going_done w.left (rw e)

  pub logging-end : End ≡ next_from at count (drop at s) → Clipped old 0 (lines_by marks 0 (fields s).items) out to
  logging-end e = ended 0 0 (step_end s at count e)

  pub logging-refused : (n p : ℕ) → Refused n p ≡ next_from at count (drop at s) → Clipped old 0 (lines_by marks 0 (fields s).items) out to
  logging-refused n p e = ended n p (step-refused s at count n p e)

  pub logging-field : (a n b e : ℕ) → Field a n b e ≡ next_from at count (drop at s) → length old < 2 ^ 64 → (m : ℕ) → m ≡ get_or (drop count marks) 0 0 → (out' : List ℕ) (to' : ℕ)
      → Clipped out to (line_by m (count + 1) (take (e - a) (drop a s))) out' to' → Logging s marks old out' e (count + 1) to'
  unfolding lines_by
  logging-field a n b e q l m i out' to' v =
      let c = step_field s at count a n b e q in
      let k : m ≡ get_or marks count 0 = i ∙ (get_or-drop count marks 0 0 ∙ rw add-zero) in
      let t : lines_by marks count (rest_walk s at count).items ≡ line_by m (count + 1) (take (e - a) (drop a s)) ++ lines_by marks (count + 1) (rest_walk s e (count + 1)).items = rw (c.more, k, add-one count) in
      record { left = going_step (omega arith) w.left t v; inside = c.inside; few = omega (arith, c.below) }

-- ==== the whole: by what the first step of stripping answered and left, with room for as many marks as there may be

module _ (block list first marks : List ℕ) (m : Marked) (e : m ≡ answer_of (mark block list (length first))) (l : marks ≡ leaves (mark block list (length first)) first)
    (room : field_limit ≤ length first) where
  -- where nothing is refused before, it is done
  marks-made : Known block list → mark block list (length first) ≡ done_marks (marks_for block list)
  marks-made k =
      (mark-order block list (length first)).when-zero k (omega (arith, (fields-fine block k.1.1).few, marks-for-long block list, room))

  -- it refused
  pub log-refused : (m.number ≡ 0 → ⊥) → (old : List ℕ) → Clipped old 0 (log_of block list) old 0
  log-refused ne old =
      let z : log_of block list ≡ [] = log-unknown block list (λ k. ne (ap (λ (x : Marked). x.number) e ∙ ap (λ (a : Marks). a.number) (marks-made k))) in
      rw z (nothing_put old 0 (omega arith))

  -- it marked the fields
  pub log-marked : m.number ≡ 0 → (old new : List ℕ) (r : ℕ) → Clipped old 0 (lines_by (take m.written marks) 0 (fields block).items) new r
      → Clipped old 0 (log_of block list) new r
  log-marked z old new r w =
      let k = ((mark-order block list (length first)).zero-when (sym (ap (λ (x : Marked). x.number) e) ∙ z)).0 in
      let q = marks-made k in
      let t : take m.written marks ≡ marks_for block list = rw (e, l, q) (take-append_seam (marks_for block list) (drop (length (marks_for block list)) first)) in
      rw (log-known block list k) (rw t at w)
