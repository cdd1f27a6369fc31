-- Method, version and result, by the tests that the code makes in turn; and what the code finds is what the parser yields.
use Prim.Native.Nat.{ℕ, zero, suc, ◌+◌, ◌-◌}
use native.Mathlib.Omega.{arith}
use mathlib.Core.Path.{◌≡◌, refl, sym, ap, ◌∙◌}
use mathlib.Core.List.{List}
use mathlib.Core.Option.{Option, none, some}
use lib.ListN.{drop}
use Rattle.base_readers.specs.Parsers.{Got, nothing, got, Parser, ◌>>=◌, ◌>>◌, give, text, optional}
use Rattle.base_readers.specs.Places.{from}
use Rattle.base_readers.proofs.Places.{none-at, goes_on, stops, gives, text_at, text-none, one_more, none-there}
use Rattle.lexis_rules.specs.declared.Digits.{Digits}
use Rattle.lexis_rules.specs.declared.VersionNumber.{VersionNumber}
use Rattle.lexis_rules.specs.Pieces.{keyword, digits}
use Rattle.lexis_rules.specs.Numbers.{number_of, one}
use Rattle.lexis_rules.specs.Words.{keyword_text, read_keyword, read_number}
use Rattle.lexis_rules.specs.Answers.{digits_at}
use Rattle.lexis_laws.proofs.VersionNumbers.{number-text}
use Rattle.result_method.specs.declared.MethodVersion.{MethodVersion}
use Rattle.result_method.specs.declared.Method.{Method}
use Rattle.result_method.specs.declared.Method.TheVariants.{Read, Missing}
use Rattle.result_rules.specs.Results.{Methodspec, separator, or_one, method_version, methodspec}
use Rattle.result_separators.specs.Separators.{spaced, separated, separated_from, behind}
use Rattle.result_method.specs.Methods.{version_to, unversioned, method_version_at, result_at, method_at, method_got}
use Rattle.base_sequences.specs.Spans.{span}
use Rattle.result_separators.proofs.Separators.{separator-found, behind-none, behind-some, all-behind, through, separator-reads, keyword-reads}

-- ==== the version, by the tests of the code

module _ (s : List ℕ) (at g : ℕ) (y : g ≡ spaced s at) (a : ℕ) (x : a ≡ separated_from 47 s at g) where
  q : a ≡ at + separated 47 (drop at s)
  q = separator-found s at g 47 y a x

  -- nothing is taken, and the space behind the method is known to end at g
  absent : record { end = at; gap = g; number = one } ≡ unversioned s at
  absent = rw y

  pub version-no-slash : a ≡ at → ◌≡◌ {A = MethodVersion} (record { end = at; gap = g; number = one }) (method_version_at s at)
  unfolding method_version_at
  version-no-slash z = absent ∙ sym (behind-none (separated 47) s at a q (unversioned s at) _ z)

  module _ (ne : a ≡ at → ⊥) (d : Digits) (h : d ≡ digits_at s a) where
    from-digits : method_version_at s at ≡ behind digits s a (unversioned s at) (λ e. version_to s e (number_of (drop a s)))
    unfolding method_version_at
    from-digits = behind-some (separated 47) s at a q (unversioned s at) _ ne

    ends : d.end ≡ a + digits (drop a s)
    unfolding digits_at
    ends = rw h

    numbers : d.number ≡ number_of (drop a s)
    unfolding digits_at
    numbers = rw h

    pub version-no-digits : d.end ≡ a → ◌≡◌ {A = MethodVersion} (record { end = at; gap = g; number = one }) (method_version_at s at)
    version-no-digits z = absent ∙ sym (from-digits ∙ behind-none digits s a d.end ends (unversioned s at) _ z)

    pub version-stated : (d.end ≡ a → ⊥) → (w : ℕ) → w ≡ spaced s d.end
        → ◌≡◌ {A = MethodVersion} (record { end = d.end; gap = w; number = d.number }) (method_version_at s at)
    version-stated nd w i = rw (i, numbers) (sym (from-digits ∙ behind-some digits s a d.end ends (unversioned s at) _ nd))

-- the space behind a version ends where it says
version-gap : (s : List ℕ) (at : ℕ) → (method_version_at s at).gap ≡ spaced s (method_version_at s at).end
unfolding method_version_at
version-gap s at =
    all-behind Spaced (separated 47) s at (unversioned s at) _ refl (λ a q l. all-behind Spaced digits s a (unversioned s at) _ refl (λ e p m. refl))
  where
    Spaced : MethodVersion → Type 0
    Spaced v = v.gap ≡ spaced s v.end

-- ==== method and result, by the tests of the code

module _ (s : List ℕ) (at e : ℕ) (q : e ≡ at + keyword (drop at s)) where
  pub method-no-name : e ≡ at → Missing ≡ method_at s at
  unfolding method_at
  method-no-name z = sym (behind-none keyword s at e q Missing _ z)

  module _ (ne : e ≡ at → ⊥) (v : MethodVersion) (h : v ≡ method_version_at s e) (f : ℕ) (x : f ≡ separated_from 61 s v.end v.gap) where
    p : f ≡ v.end + separated 61 (drop v.end s)
    p = separator-found s v.end v.gap 61 (rw h (version-gap s e)) f x

    from-equals : method_at s at ≡ result_at s at e v
    unfolding method_at
    from-equals = behind-some keyword s at e q Missing _ ne ∙ ap (result_at s at e) (sym h)

    pub method-no-equals : f ≡ v.end → Missing ≡ method_at s at
    unfolding result_at
    method-no-equals z = sym (from-equals ∙ behind-none (separated 61) s v.end f p Missing _ z)

    module _ (nf : f ≡ v.end → ⊥) (g : ℕ) (w : g ≡ f + keyword (drop f s)) where
      from-result : method_at s at ≡ behind keyword s f Missing (λ g. Read at e v.number f g)
      unfolding result_at
      from-result = from-equals ∙ behind-some (separated 61) s v.end f p Missing _ nf

      pub method-no-result : g ≡ f → Missing ≡ method_at s at
      method-no-result z = sym (from-result ∙ behind-none keyword s f g w Missing _ z)

      pub method-read : (g ≡ f → ⊥) → Read at e v.number f g ≡ method_at s at
      method-read ng = sym (from-result ∙ behind-some keyword s f g w Missing _ ng)

-- ==== what the parser yields

-- the version that the parser reads: it ends where the code's answer says and has the number that it says
record Versioned (s : List ℕ) (at : ℕ) (v : MethodVersion) : Type 0 where
  stated : Option VersionNumber
  reads : got stated v.end ≡ from (optional method_version) s at
  is : or_one stated ≡ v.number

module _ (s : List ℕ) (at : ℕ) where
  unstated : nothing ≡ from method_version s at → Versioned s at (unversioned s at)
  unfolding or_one
  unstated h = record { stated = none; reads = none-there method_version s at h; is = refl }

  versioned : Versioned s at (method_version_at s at)
  unfolding method_version_at method_version read_number or_one
  versioned = slash (separated 47 (drop at s)) refl
    where
      run : (m n : ℕ) → separated 47 (drop at s) ≡ suc m → digits (drop (at + suc m) s) ≡ n → Versioned s at (method_version_at s at)
      run m zero z d =
          let a = at + suc m in
          let ne : a ≡ at → ⊥ = λ i. omega arith in
          let r : nothing ≡ from read_number s a = stops (text digits) _ s a (text-none digits s a a (omega arith) refl) in
          let v : method_version_at s at ≡ unversioned s at = behind-some (separated 47) s at a (omega arith) (unversioned s at) _ ne ∙ behind-none digits s a a (omega arith) (unversioned s at) _ refl in
          rw v (unstated (goes_on (separator 47) _ s at tt a nothing ((separator-reads s at 47).there a (omega arith) ne) r))
      run m (suc n) z d =
          let a = at + suc m in
          let e = a + suc n in
          let ne : a ≡ at → ⊥ = λ i. omega arith in
          let nd : e ≡ a → ⊥ = λ i. omega arith in
          let j : e - a ≡ suc n = omega arith in
          let v : method_version_at s at ≡ version_to s e (number_of (drop a s)) = behind-some (separated 47) s at a (omega arith) (unversioned s at) _ ne ∙ behind-some digits s a e (omega arith) (unversioned s at) _ nd in
          let r : got (number_of (span s a e)) e ≡ from read_number s a =
          goes_on (text digits) _ s a (span s a e) e _ (text_at digits s a e (omega arith) nd) (gives (number_of (span s a e)) s e) in
          let w : got (number_of (span s a e)) e ≡ from method_version s at = goes_on (separator 47) _ s at tt a _ ((separator-reads s at 47).there a (omega arith) ne) r in
          let o : number_of (span s a e) ≡ number_of (drop a s) = rw j (number-text (drop a s) (suc n) d) in
          rw v (record { stated = some (number_of (span s a e)); reads = one_more method_version s at (number_of (span s a e)) e w; is = o })

      slash : (m : ℕ) → separated 47 (drop at s) ≡ m → Versioned s at (method_version_at s at)
      slash zero z =
          let v : method_version_at s at ≡ unversioned s at = behind-none (separated 47) s at at (omega arith) (unversioned s at) _ refl in
          rw v (unstated (stops (separator 47) _ s at ((separator-reads s at 47).missing at (omega arith) refl)))
      slash (suc m) z = run m (digits (drop (at + suc m) s)) z refl

module _ (s : List ℕ) where
  -- an answer stands for what a parser gives
  abbrev Stands : Method → Got Methodspec → Type 0
  Stands m y = method_got s m ≡ y

  -- from "=" on
  abbrev equalled : List ℕ → Option VersionNumber → Parser Methodspec
  equalled m v = ◌>>◌ (separator 61) (◌>>=◌ read_keyword (λ r. give (record { method = m; version = or_one v; result = r })))

  result-stands : (at e : ℕ) (v : MethodVersion) (d : Option VersionNumber) → or_one d ≡ v.number
      → Stands (result_at s at e v) (from (equalled (keyword_text (span s at e)) d) s v.end)
  unfolding result_at
  result-stands at e v d o =
      through Stands (separated 61) (separator 61) s v.end _ (separator-reads s v.end 61) Missing _ _ refl
      (λ f. through Stands keyword read_keyword s f _ (keyword-reads s f) Missing _ _ refl
      (λ g. let x : Methodspec = record { method = keyword_text (span s at e); version = or_one d; result = keyword_text (span s f g) } in
      let y : Stands (Read at e v.number f g) (got x g) = ap (λ (n : VersionNumber). got (record { method = keyword_text (span s at e); version = n; result = keyword_text (span s f g) }) g) (sym o) in
      y ∙ gives x s g))

  -- what the code finds is what the parser yields
  pub method-got : (at : ℕ) → method_got s (method_at s at) ≡ from methodspec s at
  unfolding methodspec method_at
  method-got at =
      through Stands keyword read_keyword s at _ (keyword-reads s at) Missing _ _ refl
      (λ e. let v = versioned s e in
      let w = result-stands at e (method_version_at s e) v.stated v.is in
      w ∙ goes_on (optional method_version) (equalled (keyword_text (span s at e))) s e v.stated (method_version_at s e).end _ v.reads refl)

module _ (s : List ℕ) (at : ℕ) where
  -- what is read where the code finds a method from a up to e, its version v, and a result from f up to g
  pub method-found : (a e : ℕ) (v : VersionNumber) (f g : ℕ) → Read a e v f g ≡ method_at s at
      → got (record { method = keyword_text (span s a e); version = v; result = keyword_text (span s f g) }) g ≡ from methodspec s at
  method-found a e v f g h = ap (method_got s) h ∙ method-got s at

  pub method-not : Missing ≡ method_at s at → methodspec (drop at s) ≡ nothing
  method-not h = none-at methodspec s at (ap (method_got s) h ∙ method-got s at)
