-- Whose an identifier is, by what the code finds of it; a list that was spelled tells as its entries do; and lines that are asked so many at a
-- time tell as all of them.
use Prim.Native.Nat.{ℕ, suc, ◌+◌, ◌-◌, ◌≤◌, ◌<◌}
use native.Mathlib.Numerals.{add-one}
use native.Mathlib.Omega.{arith}
use mathlib.Core.Path.{◌≡◌, refl, sym, ap, ◌∙◌}
use mathlib.Core.Bool.{Bool, true, false}
use mathlib.Core.List.{List, ◌++◌}
use lib.ListN.{length, get_or, drop, take, length-drop}
use lib.Seq.{get_or-take, drop-drop, take_all}
use Rattle.base_sequences.specs.Stored.{Put}
use Rattle.base_sequences.proofs.Splices.{put_front, put_full}
use Rattle.lexis_rules.specs.Words.{quoted_text}
use Rattle.ownlist_rules.specs.OwnList.{own_list}
use Rattle.identifier.specs.declared.Identifier.TheVariants as identifier
use Rattle.ownlist_rules.specs.declared.Own.{Own}
use Rattle.ownlist_rules.specs.declared.Own.TheVariants as whose
use Rattle.identifier_rules.specs.Identifier as rules
use Rattle.identifier.specs.Answers.{identifier_at, text_of}
use Rattle.ownlist_rules.specs.Listed.{own_if, own_of}
use Rattle.base_readers.specs.Lines.{lines_of}
use Rattle.ownlist_rules.specs.Spelled.{spelled_list, among_spelled, own_of_spelled}
use Rattle.ownlist_rules.specs.Ends.{ends_of, cut_at}
use Rattle.identifier.proofs.Identifiers.{identifier-found, identifier-not}
use Rattle.ownlist_laws.proofs.OwnListLaws.{list-own}
use Rattle.ownlist_laws.proofs.Ends.{cut-ends, part-ends, part-inside, or_else, own-both}

module _ (lines : List (List ℕ)) (body : List ℕ) where
  pub whose-none : identifier.Unreadable ≡ identifier_at body → whose.Unreadable ≡ own_of_spelled lines (rules.identifier body)
  whose-none h = rw (identifier-not body h)

  whose-found : (a e : ℕ) (q : Bool) → identifier.Readable a e q ≡ identifier_at body → (b : Bool) → b ≡ among_spelled lines (text_of body a e q)
      → (r : Own) → r ≡ own_if b → r ≡ own_of_spelled lines (rules.identifier body)
  whose-found a e q h b k r z = rw (identifier-found body a e q h) (z ∙ ap own_if k)

  pub whose-quoted : (a e : ℕ) (q : Bool) → identifier.Readable a e q ≡ identifier_at body → q ≡ true → (b : Bool) → b ≡ among_spelled lines (quoted_text (drop a body))
      → (r : Own) → r ≡ own_if b → r ≡ own_of_spelled lines (rules.identifier body)
  whose-quoted a e q h t b k r z = whose-found a e q h b (rw t k) r z

  pub whose-token : (a e : ℕ) (q : Bool) → identifier.Readable a e q ≡ identifier_at body → q ≡ false → (b : Bool) → b ≡ among_spelled lines (take (e - a) (drop a body))
      → (r : Own) → r ≡ own_if b → r ≡ own_of_spelled lines (rules.identifier body)
  whose-token a e q h t b k r z = whose-found a e q h b (rw t k) r z

-- the list was spelled into a buffer
pub whose-list : (list body old new : List ℕ) (n : ℕ) → Put old 0 (spelled_list (own_list list).items) new n → n ≤ length old → (r : Own)
    → r ≡ own_of_spelled (lines_of (take n new)) (rules.identifier body) → r ≡ own_of (own_list list).items (rules.identifier body)
whose-list list body old new n w h r e = (rw (put_front w h) at e) ∙ list-own list (rules.identifier body)

-- ==== the loop over lines, so many at a time as there is room for their ends

-- the lines that are left tell as the whole
pub record Asking (own body : List ℕ) (at : ℕ) : Type 0 where
  pub same : own_of_spelled (lines_of (drop at own)) (rules.identifier body) ≡ own_of_spelled (lines_of own) (rules.identifier body)
  pub inside : at ≤ length own

pub ask-start : (own body : List ℕ) → Asking own body 0
ask-start own body = record { same = refl; inside = omega arith }

-- the bytes from a place on, as a slice has them
abbrev pub tail : List ℕ → ℕ → List ℕ
tail own at = take (length own - at) (drop at own)

tail-is : (own : List ℕ) (at : ℕ) → tail own at ≡ drop at own
tail-is own at = take_all (length own - at) (drop at own) (omega (arith, length-drop at own))

module _ (own body : List ℕ) (at : ℕ) (w : Asking own body at) (old ends : List ℕ) (n : ℕ) (p : Put old 0 (ends_of (tail own at)) ends n) where
  -- there is room for all
  pub ask-all : n ≤ length old → (r : Own) → r ≡ own_of_spelled (cut_at (tail own at) 0 (take n ends)) (rules.identifier body)
      → r ≡ own_of_spelled (lines_of own) (rules.identifier body)
  ask-all h r e =
      let z : cut_at (tail own at) 0 (take n ends) ≡ lines_of (drop at own) =
      ap (cut_at (tail own at) 0) (put_front p h) ∙ (cut-ends (tail own at) ∙ ap lines_of (tail-is own at)) in
      e ∙ (ap (λ (ls : List (List ℕ)). own_of_spelled ls (rules.identifier body)) z ∙ w.same)

  -- there is room for k and one more, and there are further ones
  module _ (k : ℕ) (l : length old ≡ suc k) (m : suc k < n) where
    stored : ends ≡ take (suc k) (ends_of (tail own at))
    stored = put_full p l (omega (arith, p.count))

    last : get_or ends k 0 ≡ get_or (ends_of (tail own at)) k 0
    last = rw stored (get_or-take (suc k) (ends_of (tail own at)) k 0 (omega arith))

    pub last-inside : at + (get_or ends k 0 + 1) < length own
    last-inside = omega (arith, last, part-inside (tail own at) k (omega (arith, p.count)), ap length (tail-is own at), length-drop at own)

    parts : lines_of (drop at own) ≡ cut_at (tail own at) 0 ends ++ lines_of (drop (at + (get_or ends k 0 + 1)) own)
    parts =
        let d : drop (suc (get_or ends k 0)) (tail own at) ≡ drop (at + (get_or ends k 0 + 1)) own = rw (tail-is own at, drop-drop, add-one) in
        let q : lines_of (tail own at) ≡ cut_at (tail own at) 0 ends ++ lines_of (drop (suc (get_or ends k 0)) (tail own at)) =
        rw (last, stored) (part-ends (tail own at) k (omega (arith, p.count))) in
        sym (ap lines_of (tail-is own at)) ∙ (q ∙ ap (λ (s : List ℕ). cut_at (tail own at) 0 ends ++ lines_of s) d)

    told : (r : Own) → r ≡ own_of_spelled (cut_at (tail own at) 0 ends) (rules.identifier body)
        → or_else r (own_of_spelled (lines_of (drop (at + (get_or ends k 0 + 1)) own)) (rules.identifier body)) ≡ own_of_spelled (lines_of own) (rules.identifier body)
    told r e =
        rw e (sym (own-both (cut_at (tail own at) 0 ends) (lines_of (drop (at + (get_or ends k 0 + 1)) own)) (rules.identifier body)))
        ∙ (ap (λ (ls : List (List ℕ)). own_of_spelled ls (rules.identifier body)) (sym parts) ∙ w.same)

    pub ask-ours : whose.Ours ≡ own_of_spelled (cut_at (tail own at) 0 ends) (rules.identifier body) → whose.Ours ≡ own_of_spelled (lines_of own) (rules.identifier body)
    ask-ours e = told whose.Ours e

    pub ask-unreadable : whose.Unreadable ≡ own_of_spelled (cut_at (tail own at) 0 ends) (rules.identifier body)
        → whose.Unreadable ≡ own_of_spelled (lines_of own) (rules.identifier body)
    ask-unreadable e = told whose.Unreadable e

    pub ask-more : whose.Others ≡ own_of_spelled (cut_at (tail own at) 0 ends) (rules.identifier body) → Asking own body (at + (get_or ends k 0 + 1))
    ask-more e = record { same = told whose.Others e; inside = omega (arith, last-inside) }
