-- What the writer of spellings leaves; an entry, and a list that is spelled entry by entry.
use Prim.Native.Nat.{ℕ, ◌+◌, ◌-◌, ◌*◌, ◌≤◌, ◌<◌}
use native.Mathlib.Omega.{arith}
use mathlib.Core.Path.{◌≡◌, refl, ◌∙◌}
use mathlib.Core.Bool.{Bool, true, false}
use mathlib.Core.List.{List, [], ◌∷◌, ◌++◌, append_assoc}
use lib.Dec.{leb}
use lib.ListN.{length, drop, take, length-append}
use borrow.Author.Tests.{leb-true, leb-false}
use Rattle.base_sequences.specs.Stored.{Put, Wrote}
use Rattle.base_sequences.proofs.Splices.{Left, left-start, left_step, left-done, put-wrote, wrote_then, wrote_count}
use Rattle.punycode_rules.specs.Labels.{spelling, spelling_limit}
use Rattle.punycode.specs.Answers.{spell_answer, spell_stored}
use Rattle.punycode.proofs.SpellingInFront.{spell-long, spell-length, spell-front, spell-room}
use Rattle.punycode_laws.proofs.SpellingTheorems.{spelling-limit}
use Rattle.ownlist_check.specs.declared.Listed.TheVariants.{Entry, End, Bad}
use Rattle.ownlist_rules.specs.OwnList.{longest, own_list}
use Rattle.ownlist_check.specs.Steps.{listed_from}
use Rattle.ownlist_check.proofs.EntrySteps.{rest_entries, Taken, entries-end, entries-bad, entries_next, taken-length}
use Rattle.base_readers.specs.Lines.{lined}
use Rattle.ownlist_rules.specs.Spelled.{spelled_list}

-- ==== a spelling that was written

pub record Spelt (old t new : List ℕ) (n : ℕ) : Type 0 where
  pub over : spelling_limit < n → spelling_limit < length (spelling t)
  pub size : n ≤ spelling_limit → n ≡ length (spelling t)
  pub front : n ≤ spelling_limit → n ≤ length old → take n new ≡ spelling t
  pub room : length new ≡ length old

pub spelt : (old t new : List ℕ) (n : ℕ) → (n ≡ spell_answer t) × (new ≡ spell_stored t old) → Spelt old t new n
spelt old t new n w =
    record {
      over = λ h. spell-long t (rw w.0 at h);
      size = λ h. w.0 ∙ spell-length t (rw w.0 at h);
      front = λ h l. rw (w.0, w.1) (spell-front t old (rw w.0 at h) (rw w.0 at l));
      room = rw w.1 (spell-room t old);
    }

-- ==== an entry

module _ {old e new : List ℕ} {n : ℕ} (w : Spelt old e new n) (h : length e ≤ longest) where
  pub entry-small : n ≤ 1020
  entry-small = go (leb n 1020) refl
    where
      go : (b : Bool) → leb n 1020 ≡ b → n ≤ 1020
      go true b = leb-true n 1020 b
      go false b = absurd (omega (arith, w.over (leb-false n 1020 b), spelling-limit e h))

  pub entry-put : n ≤ length old → (out out' out'' : List ℕ) (to r q : ℕ) → Put out to (take n new) out' r → Put out' (to + n) (10 ∷ []) out'' q
      → Put out to (spelling e ++ (10 ∷ [])) out'' (n + 1)
  entry-put l out out' out'' to r q a b =
      let f : take n new ≡ spelling e = w.front entry-small l in
      let x : Wrote out to (spelling e) out' (to + n) = record { place = rw (w.size entry-small); bytes = rw f at a.bytes } in
      let y : Wrote out' (to + n) (10 ∷ []) out'' (to + n + 1) = record { place = omega arith; bytes = b.bytes } in
      let z = wrote_then x y in
      record { count = omega (arith, z.place); bytes = z.bytes }

-- ==== the list, entry by entry

pub record Spelling (list old out : List ℕ) (at count to : ℕ) : Type 0 where
  pub left : Left old 0 (spelled_list (own_list list).items) out to (spelled_list (rest_entries list at count).items)
  pub few : to ≤ 1021 * count

pub spell-start : (list old : List ℕ) → Spelling list old old 0 0 0
spell-start list old = record { left = left-start old 0 (spelled_list (own_list list).items); few = omega arith }

module _ (list old out : List ℕ) (at count to : ℕ) (w : Spelling list old out at count to) where
  done : (rest_entries list at count).items ≡ [] → Put old 0 (spelled_list (own_list list).items) out to
  unfolding lined
  done e =
      let r : spelled_list (rest_entries list at count).items ≡ [] = rw e in
      let z = left-done w.left r in
      record { count = wrote_count z; bytes = z.bytes }

  pub spell-end : End ≡ listed_from at count (drop at list) → Put old 0 (spelled_list (own_list list).items) out to
  spell-end e = done (rw (entries-end list at count e))

  pub spell-bad : (p : ℕ) → Bad p ≡ listed_from at count (drop at list) → Put old 0 (spelled_list (own_list list).items) out to
  spell-bad p e = done (rw (entries-bad list at count p e))

  module _ (a e : ℕ) (q : Entry a e ≡ listed_from at count (drop at list)) where
    text : List ℕ
    text = take (e - a) (drop a list)

    taken : Taken list at count a e
    taken = entries_next list at count a e q

    pub spell-short : length (take (e - a) (drop a list)) ≤ longest
    spell-short = omega (arith, taken, taken-length taken)

    pub spell-place : to ≤ 65344
    spell-place = omega (arith, w.few, taken)

    module _ (out' : List ℕ) (r : ℕ) (p : Put out to (spelling (take (e - a) (drop a list)) ++ (10 ∷ [])) out' r) where
      pub spell-size : r ≤ 1021
      spell-size = omega (arith, p.count, length-append (spelling (take (e - a) (drop a list))) (10 ∷ []), spelling-limit (take (e - a) (drop a list)) spell-short)

      pub spell-more : Spelling list old out' (e + 1) (count + 1) (to + r)
      unfolding lined
      spell-more =
          let t = take (e - a) (drop a list) in
          let more : spelled_list (rest_entries list at count).items ≡ (spelling t ++ (10 ∷ [])) ++ spelled_list (rest_entries list (e + 1) (count + 1)).items =
          rw (taken.more, append_assoc) in
          record { left = left_step w.left more (put-wrote p); few = omega (arith, w.few, spell-size) }
