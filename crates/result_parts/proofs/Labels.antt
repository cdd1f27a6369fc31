-- What stands before a property value, by the tests that the code makes in turn; what the code finds is what the parser yields; and a
-- property is that part followed by its value.
use Prim.Native.Nat.{ℕ, ◌+◌}
use mathlib.Core.Path.{◌≡◌, refl, sym, ap, ◌∙◌}
use mathlib.Core.List.{List}
use lib.ListN.{drop}
use lib.Seq.{drop-drop}
use Rattle.base_readers.specs.Parsers.{Got, nothing, got, Parser, after, ◌>>=◌, give}
use Rattle.base_readers.specs.Places.{from}
use Rattle.base_readers.proofs.Sequencing.{after-zero, after-after, bind-none, bind_is, give-is}
use Rattle.base_readers.proofs.Places.{goes_on, stops, gives}
use Rattle.lexis_rules.specs.Pieces.{space, keyword}
use Rattle.lexis_rules.specs.Words.{keyword_text, gap, read_keyword}
use Rattle.result_parts.specs.declared.Label.{Label}
use Rattle.std.specs.Prelude.{Option, None}
use Rattle.result_rules.specs.Results.{Property, separator, property_value, property}
use Rattle.result_separators.specs.Separators.{separated, behind}
use Rattle.result_parts.specs.Parts.{Names, label_read, names, names_at, label_from, label_at, label_got}
use Rattle.base_sequences.specs.Spans.{span}
use Rattle.result_separators.proofs.Separators.{past-none, past-some, behind-none, behind-some, through, gap-reads, separator-reads, keyword-reads}

-- ==== by the tests of the code

module _ (s : List ℕ) (at a : ℕ) where
  pub label-no-space : a ≡ at → None ≡ label_from s at a
  unfolding label_from
  label-no-space z = sym (past-none at a None _ z)

  module _ (na : a ≡ at → ⊥) (e : ℕ) (p : e ≡ a + keyword (drop a s)) where
    from-type : label_from s at a ≡ behind keyword s a None (λ e. names_at s a e)
    unfolding label_from
    from-type = past-some at a None _ na

    pub label-no-type : e ≡ a → None ≡ label_from s at a
    label-no-type z = sym (from-type ∙ behind-none keyword s a e p None _ z)

    module _ (ne : e ≡ a → ⊥) (b : ℕ) (m : b ≡ e + separated 46 (drop e s)) where
      from-dot : label_from s at a ≡ names_at s a e
      from-dot = from-type ∙ behind-some keyword s a e p None _ ne

      pub label-no-dot : b ≡ e → None ≡ label_from s at a
      unfolding names_at
      label-no-dot z = sym (from-dot ∙ behind-none (separated 46) s e b m None _ z)

      module _ (nb : b ≡ e → ⊥) (f : ℕ) (w : f ≡ b + keyword (drop b s)) where
        from-name : label_from s at a ≡ behind keyword s b None (λ f. behind (separated 61) s f None (λ v. label_read a e b f v))
        unfolding names_at
        from-name = from-dot ∙ behind-some (separated 46) s e b m None _ nb

        pub label-no-name : f ≡ b → None ≡ label_from s at a
        label-no-name z = sym (from-name ∙ behind-none keyword s b f w None _ z)

        module _ (nf : f ≡ b → ⊥) (v : ℕ) (u : v ≡ f + separated 61 (drop f s)) where
          from-equals : label_from s at a ≡ behind (separated 61) s f None (λ v. label_read a e b f v)
          from-equals = from-name ∙ behind-some keyword s b f w None _ nf

          pub label-no-equals : v ≡ f → None ≡ label_from s at a
          label-no-equals z = sym (from-equals ∙ behind-none (separated 61) s f v u None _ z)

          pub label-read : (v ≡ f → ⊥) → label_read a e b f v ≡ label_from s at a
          label-read nv = sym (from-equals ∙ behind-some (separated 61) s f v u None _ nv)

-- ==== what the parser yields

-- an answer stands for what a parser gives
abbrev Stands : List ℕ → Option Label → Got Names → Type 0
Stands s m y = label_got s m ≡ y

-- what the code finds is what the parser yields
pub label-got : (s : List ℕ) (at : ℕ) → label_got s (label_at s at) ≡ from names s at
unfolding names label_from names_at
label-got s at =
    through (Stands s) space gap s at _ (gap-reads s at) None _ _ refl
    (λ a. through (Stands s) keyword read_keyword s a _ (keyword-reads s a) None _ _ refl
    (λ e. through (Stands s) (separated 46) (separator 46) s e _ (separator-reads s e 46) None _ _ refl
    (λ b. through (Stands s) keyword read_keyword s b _ (keyword-reads s b) None _ _ refl
    (λ f. through (Stands s) (separated 61) (separator 61) s f _ (separator-reads s f 61) None _ _ refl
    (λ v. gives (record { ptype = keyword_text (span s a e); property = keyword_text (span s b f) }) s v)))))

-- ==== a property

module _ {A B C : Type 0} (p : Parser A) (f : A → Parser B) (g : B → Parser C) (k : A → Parser C) (xs : List ℕ) where
  -- one after the other, however they are grouped
  regroup : ((a : A) (ys : List ℕ) → k a ys ≡ ◌>>=◌ (f a) g ys) → ◌>>=◌ p k xs ≡ ◌>>=◌ (◌>>=◌ p f) g xs
  unfolding after
  regroup same = first (p xs) refl
    where
      second : (a : A) (n : ℕ) → p xs ≡ got a n → (y : Got B) → f a (drop n xs) ≡ y → ◌>>=◌ p k xs ≡ ◌>>=◌ (◌>>=◌ p f) g xs
      second a n h nothing j =
          bind_is p k xs a n h ∙ (ap (after n) (same a (drop n xs) ∙ bind-none (f a) g (drop n xs) j)
          ∙ sym (bind-none (◌>>=◌ p f) g xs (bind_is p f xs a n h ∙ ap (after n) j)))
      second a n h (got b m) j =
          bind_is p k xs a n h ∙ (ap (after n) (same a (drop n xs) ∙ bind_is (f a) g (drop n xs) b m j)
          ∙ (rw (after-after n m (g b (drop m (drop n xs))), drop-drop m n xs) (sym (bind_is (◌>>=◌ p f) g xs b (n + m) (bind_is p f xs a n h ∙ ap (after n) j)))))

      first : (x : Got A) → p xs ≡ x → ◌>>=◌ p k xs ≡ ◌>>=◌ (◌>>=◌ p f) g xs
      first nothing h = bind-none p k xs h ∙ sym (bind-none (◌>>=◌ p f) g xs (bind-none p f xs h))
      first (got a n) h = second a n h (f a (drop n xs)) refl

-- what is given is what the next is handed
give-on : {A B : Type 0} (a : A) (g : A → Parser B) (xs : List ℕ) → g a xs ≡ ◌>>=◌ (give a) g xs
give-on a g xs = sym (bind_is (give a) g xs a 0 (give-is a xs) ∙ after-zero (g a xs))

-- a property value, with the names before it
abbrev pub valued : Names → Parser Property
valued l = ◌>>=◌ property_value (λ v. give (record { ptype = l.ptype; property = l.property; value = v }))

-- a property is the names and then the value
pub property-is : (xs : List ℕ) → property xs ≡ ◌>>=◌ names valued xs
unfolding property names
property-is xs =
    regroup gap _ valued _ xs
    (λ u xs. regroup read_keyword _ valued _ xs
    (λ t xs. regroup (separator 46) _ valued _ xs
    (λ u xs. regroup read_keyword _ valued _ xs
    (λ p xs. regroup (separator 61) _ valued _ xs
    (λ u xs. give-on (record { ptype = t; property = p }) valued xs)))))

module _ (s : List ℕ) (at : ℕ) where
  -- so a property is read from its value's place on
  pub property-behind : (a e b f v : ℕ) → label_read a e b f v ≡ label_at s at → (x : Got Property)
      → x ≡ from (valued (record { ptype = keyword_text (span s a e); property = keyword_text (span s b f) })) s v → x ≡ from property s at
  unfolding from
  property-behind a e b f v h x k =
      goes_on names valued s at (record { ptype = keyword_text (span s a e); property = keyword_text (span s b f) }) v x (ap (label_got s) h ∙ label-got s at) k
      ∙ ap (after at) (sym (property-is (drop at s)))

  pub property-not : None ≡ label_at s at → nothing ≡ from property s at
  unfolding from
  property-not h = stops names valued s at (ap (label_got s) h ∙ label-got s at) ∙ ap (after at) (sym (property-is (drop at s)))
