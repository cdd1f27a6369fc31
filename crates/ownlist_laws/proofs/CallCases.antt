-- The definitions of the order of refusals, each opened at each of its cases; and what is the same where a call goes on the same.
use Prim.Native.Nat.{ℕ, zero, suc, ◌≤◌, ◌<◌}
use mathlib.Core.Path.{◌≡◌, refl, sym, ap, ◌∙◌}
use mathlib.Core.Bool.{Bool, true, false}
use mathlib.Core.List.{List}
use borrow.Author.Tests.{lt-ltb, le-ltb, ltb-true, ltb-false}
use lib.Dec.{ltb}
use lib.ListN.{length}
use Rattle.base_readers.specs.Walks.{Walked}
use Rattle.lexis_rules.specs.Limits.{byte_limit}
use Rattle.block_rules.specs.Fields.{Field, fields}
use Rattle.ownlist_rules.specs.OwnList.{own_list}
use Rattle.ownlist_rules.specs.Calls.{or_refusal, by_list, by_fields, or_short}

module _ {B : Type 0} (refuse : ℕ → ℕ → B) where
  module _ (s list : List ℕ) (f : List (List ℕ) → B) where
    pub by-list-long : byte_limit < length s → by_list refuse s list f ≡ refuse 1 0
    by-list-long h = rw (by_list, lt-ltb byte_limit (length s) h)

    pub by-list-bad : length s ≤ byte_limit → (own_list list).number ≡ 5 → by_list refuse s list f ≡ refuse 5 (own_list list).place
    by-list-bad h e = rw (by_list, le-ltb byte_limit (length s) h, or_refusal, e)

    pub by-list-good : length s ≤ byte_limit → (own_list list).number ≡ 0 → by_list refuse s list f ≡ f (own_list list).items
    by-list-good h e = rw (by_list, le-ltb byte_limit (length s) h, or_refusal, e)

  module _ (block : List ℕ) (f : List Field → B) where
    pub by-fields-cut : (n : ℕ) → (fields block).number ≡ suc n → by_fields refuse block f ≡ refuse (suc n) (fields block).place
    by-fields-cut n e = rw (by_fields, or_refusal, e)

    pub by-fields-whole : (fields block).number ≡ 0 → by_fields refuse block f ≡ f (fields block).items
    by-fields-whole e = rw (by_fields, or_refusal, e)

    -- by the number and the place that were found
    pub by-fields-refused : (n p : ℕ) → n ≡ (fields block).number → p ≡ (fields block).place → (n ≡ 0 → ⊥) → by_fields refuse block f ≡ refuse n p
    by-fields-refused zero p e q ne = absurd (ne refl)
    by-fields-refused (suc n) p e q ne = by-fields-cut n (sym e) ∙ ap (refuse (suc n)) (sym q)

  module _ (room size : ℕ) (a : B) where
    pub or-short-short : room < size → or_short refuse room size a ≡ refuse 6 size
    or-short-short h = rw (or_short, lt-ltb room size h)

    pub or-short-fits : size ≤ room → or_short refuse room size a ≡ a
    or-short-fits h = rw (or_short, le-ltb room size h)

  -- where the entries of two good lists give the same, so do the lists
  pub by-list-same : (s list list' : List ℕ) (f : List (List ℕ) → B) → (own_list list).number ≡ 0 → (own_list list').number ≡ 0
      → f (own_list list).items ≡ f (own_list list').items → by_list refuse s list f ≡ by_list refuse s list' f
  by-list-same s list list' f z z' e = go (ltb byte_limit (length s)) refl
    where
      go : (t : Bool) → ltb byte_limit (length s) ≡ t → by_list refuse s list f ≡ by_list refuse s list' f
      go true l = let h = ltb-true byte_limit (length s) l in by-list-long s list f h ∙ sym (by-list-long s list' f h)
      go false l = let h = ltb-false byte_limit (length s) l in by-list-good s list f h z ∙ (e ∙ sym (by-list-good s list' f h z'))

  -- where a walk's items give the same, so does the walk
  pub or-refusal-same : {A : Type 0} (w : Walked A) (f g : List A → B) → ((l : List A) → f l ≡ g l) → or_refusal refuse w f ≡ or_refusal refuse w g
  or-refusal-same w f g h = go w.number refl
    where
      go : (n : ℕ) → w.number ≡ n → or_refusal refuse w f ≡ or_refusal refuse w g
      go zero e = rw (or_refusal, e) (h w.items)
      go (suc n) e = rw (or_refusal, e)
