-- A result is the same whatever follows it, as long as that is, after space, a semicolon or the end; what each part takes is there, and
-- each opens with its first byte. From the laws of the parts, in the order of the grammar.
use Prim.Native.Char.{code}
use Prim.Native.Nat.{ℕ}
use native.Mathlib.Omega.{arith}
use mathlib.Core.Path.{◌≡◌, refl, sym, ◌∙◌}
use mathlib.Core.Bool.{false}
use mathlib.Core.List.{List}
use mathlib.Core.Option.{Option}
use lib.Dec.{eqb}
use lib.ListN.{drop}
use Rattle.base_readers.specs.Texts.{bytes, same}
use Rattle.base_readers.specs.Readers.{run}
use Rattle.base_readers.specs.Parsers.{Got, nothing, got, Parser, ◌>>=◌, ◌>>◌, give, when, byte, optional, several}
use Rattle.base_readers.specs.Locality.{Within, Any, Ends, Starts, Steady, Opens}
use Rattle.base_readers.proofs.Sequencing.{bind-none, bind-stuck, bind_inv, give-inv, when-inv}
use Rattle.base_readers.proofs.Bounds.{within-weaker, bind-within, give-within, byte-within, optional-within, several-within}
use Rattle.base_readers.proofs.Openings.{bind-opens, byte-opens, optional-opens, opens-weaker, zero-front, bind-front, optional-front, several-front}
use Rattle.base_readers.proofs.Steadiness.{steady-weaker, bind-steady, then-steady, map-steady, byte-steady, optional-steady, several-steady}
use Rattle.lexis_rules.specs.declared.Class.TheVariants.{Digit, Keyword, Token}
use Rattle.lexis_rules.specs.declared.VersionNumber.{VersionNumber}
use Rattle.lexis_rules.specs.Bytes.{in_class}
use Rattle.lexis_rules.specs.Pieces.{space, token, digits}
use Rattle.lexis_rules.specs.Words.{skip, gap, read_value, read_keyword, read_word, read_number}
use Rattle.lexis_laws.proofs.Steadiness.{skip-within, skip-steady, gap_within, gap-steady, opens_value, value-within, value-opens, value-steady, keyword-within, keyword-opens, keyword-steady, word-within, word-opens, word-steady, number-within, number-opens, number-steady}
use Rattle.result_rules.specs.Results.{Value, Property, Methodspec, Result, separator, or_one, property_value, method_version, methodspec, reason, property, result}
use Rattle.result_rules.proofs.Unfolding.{opened}
use Rattle.result_laws.proofs.Following.{Delimited, Closed, solid, delimited-ends, gap-delimited, separator-within, separator-steady, separator-ends, separator-other, closed-delimited, closed-gap}
use Rattle.result_laws.proofs.Values.{property-value-within, property-value-opens, property-value-steady}

-- no byte of a keyword comes next
abbrev pub Whole : List ℕ → Type 0
Whole = Ends (run (in_class Keyword))

keyword-solid : Opens read_keyword (Ends space)
unfolding opened
keyword-solid = opens-weaker read_keyword (Starts (in_class Keyword)) (Ends space) (solid (in_class Keyword) refl) keyword-opens

value-solid : Opens read_value (Ends space)
unfolding opened
value-solid = opens-weaker read_value (Starts opens_value) (Ends space) (solid opens_value refl) value-opens

value-delimited : Steady read_value Delimited
unfolding opened
value-delimited = steady-weaker read_value (Ends token) Delimited (delimited-ends (in_class Token) refl) value-steady

word-solid : (w : List ℕ) → Opens (read_word w) (Ends space)
unfolding opened
word-solid w = opens-weaker (read_word w) (Starts (in_class Keyword)) (Ends space) (solid (in_class Keyword) refl) (word-opens w)

separator-whole : {B : Type 0} (q : Parser B) → Opens (◌>>◌ (separator 61) q) Whole
unfolding opened
separator-whole q = separator-ends 61 q (in_class Keyword) refl

-- ==== method, version and result

pub method-version-within : Within 1 method_version
unfolding method_version
method-version-within = bind-within 1 (separator 47) (λ u. read_number) (separator-within 47) (λ u. within-weaker 0 1 read_number number-within (omega arith))

method-version-opens : Opens method_version Whole
unfolding method_version opened
method-version-opens = separator-ends 47 read_number (in_class Keyword) refl

pub method-version-steady : Steady method_version (Ends digits)
unfolding method_version opened
method-version-steady =
    then-steady (separator 47) (λ u. read_number) (Ends space) (Ends digits) (separator-steady 47 refl) (λ u. number-steady)
    (λ u. opens-weaker read_number (Starts (in_class Digit)) (Ends space) (solid (in_class Digit) refl) number-opens)

-- "=" ends a digit run, and is no version
equals-no-version : {B : Type 0} (q : Parser B) → Opens (◌>>◌ (separator 61) q) (λ t. Ends digits t × (method_version t ≡ nothing))
unfolding method_version
equals-no-version q xs b n h =
    let v = bind_inv (separator 61) (λ u. q) xs b n h in
    (ends xs b n h, bind-none (separator 47) (λ u. read_number) xs (separator-other 61 47 refl xs v.val v.fst v.reads))
  where
    ends : Opens (◌>>◌ (separator 61) q) (Ends digits)
    ends = unfold opened in separator-ends 61 q (in_class Digit) refl

module _ (m : List ℕ) where
  abbrev specified : Option VersionNumber → List ℕ → Methodspec
  specified v r = record { method = m; version = or_one v; result = r }

  -- from the result on, and from "=" on
  abbrev Keyworded : Option VersionNumber → Parser Methodspec
  Keyworded v = ◌>>=◌ read_keyword (λ r. give (specified v r))

  abbrev Equalled : Option VersionNumber → Parser Methodspec
  Equalled v = ◌>>◌ (separator 61) (Keyworded v)

  equalled-within : (v : Option VersionNumber) → Within 0 (Equalled v)
  equalled-within v =
      within-weaker 0 1 (Equalled v)
      (bind-within 1 (separator 61) (λ u. Keyworded v) (separator-within 61)
      (λ u. within-weaker 0 1 (Keyworded v) (bind-within 1 read_keyword (λ r. give (specified v r)) keyword-within (λ r. give-within (specified v r))) (omega arith)))
      (omega arith)

  equalled-steady : (v : Option VersionNumber) → Steady (Equalled v) Whole
  equalled-steady v =
      then-steady (separator 61) (λ u. Keyworded v) (Ends space) Whole (separator-steady 61 refl) (λ u. map-steady read_keyword (specified v) Whole keyword-steady)
      (λ u. bind-opens read_keyword (λ r. give (specified v r)) (Ends space) keyword-solid)

  versioned-steady : Steady (◌>>=◌ (optional method_version) Equalled) Whole
  versioned-steady =
      then-steady (optional method_version) Equalled (λ t. Ends digits t × (method_version t ≡ nothing)) Whole
      (optional-steady method_version (Ends digits) method-version-steady) equalled-steady (λ v. equals-no-version (Keyworded v))

  versioned-whole : Opens (◌>>=◌ (optional method_version) Equalled) Whole
  versioned-whole = optional-opens method_version Equalled Whole method-version-opens (λ v. separator-whole (Keyworded v))

pub methodspec-within : Within 1 methodspec
unfolding methodspec
methodspec-within =
    bind-within 1 read_keyword _ keyword-within
    (λ m. bind-within 0 (optional method_version) (Equalled m) (optional-within 1 method_version method-version-within) (equalled-within m))

pub methodspec-opens : Opens methodspec (Ends space)
unfolding methodspec
methodspec-opens = bind-opens read_keyword _ (Ends space) keyword-solid

pub methodspec-steady : Steady methodspec Whole
unfolding methodspec
methodspec-steady = then-steady read_keyword _ Whole Whole keyword-steady versioned-steady versioned-whole

-- ==== reason and properties

pub reason-within : Within 1 reason
unfolding reason
reason-within =
    bind-within 1 gap _ gap_within
    (λ u. bind-within 0 (read_word (bytes "reason")) _ (within-weaker 0 1 (read_word (bytes "reason")) (word-within (bytes "reason")) (omega arith))
    (λ u. bind-within 0 (separator 61) (λ u. read_value) (within-weaker 0 1 (separator 61) (separator-within 61) (omega arith))
    (λ u. within-weaker 0 1 read_value value-within (omega arith))))

pub reason-opens : Opens reason Delimited
unfolding reason
reason-opens = gap-delimited _

pub reason-steady : Steady reason Delimited
unfolding reason
reason-steady =
    then-steady gap _ (Ends space) Delimited gap-steady
    (λ u. then-steady (read_word (bytes "reason")) _ Whole Delimited (word-steady (bytes "reason"))
    (λ u. then-steady (separator 61) (λ u. read_value) (Ends space) Delimited (separator-steady 61 refl)
    (λ u. value-delimited) (λ u. value-solid))
    (λ u. separator-whole read_value))
    (λ u. bind-opens (read_word (bytes "reason")) _ (Ends space) (word-solid (bytes "reason")))

module _ (t p : List ℕ) where
  abbrev proper : Value → Property
  proper v = record { ptype = t; property = p; value = v }

  -- from the second separator on
  abbrev Valued : Parser Property
  Valued = ◌>>◌ (separator 61) (◌>>=◌ property_value (λ v. give (proper v)))

  valued-within : Within 0 Valued
  valued-within =
      bind-within 0 (separator 61) (λ u. ◌>>=◌ property_value (λ v. give (proper v))) (within-weaker 0 1 (separator 61) (separator-within 61) (omega arith))
      (λ u. bind-within 0 property_value (λ v. give (proper v)) property-value-within (λ v. give-within (proper v)))

  valued-steady : Steady Valued Delimited
  valued-steady =
      then-steady (separator 61) (λ u. ◌>>=◌ property_value (λ v. give (proper v))) (Ends space) Delimited (separator-steady 61 refl)
      (λ u. map-steady property_value proper Delimited property-value-steady)
      (λ u. bind-opens property_value (λ v. give (proper v)) (Ends space) property-value-opens)

module _ (t : List ℕ) where
  -- from the first separator on
  abbrev Named : Parser Property
  Named = ◌>>◌ (separator 46) (◌>>=◌ read_keyword (Valued t))

  named-within : Within 0 Named
  named-within =
      bind-within 0 (separator 46) (λ u. ◌>>=◌ read_keyword (Valued t)) (within-weaker 0 1 (separator 46) (separator-within 46) (omega arith))
      (λ u. bind-within 0 read_keyword (Valued t) (within-weaker 0 1 read_keyword keyword-within (omega arith)) (valued-within t))

  named-steady : Steady Named Delimited
  named-steady =
      then-steady (separator 46) (λ u. ◌>>=◌ read_keyword (Valued t)) (Ends space) Delimited (separator-steady 46 refl)
      (λ u. then-steady read_keyword (Valued t) Whole Delimited keyword-steady (valued-steady t) (λ p. separator-whole _))
      (λ u. bind-opens read_keyword (Valued t) (Ends space) keyword-solid)

pub property-within : Within 1 property
unfolding property
property-within =
    bind-within 1 gap _ gap_within (λ u. bind-within 0 read_keyword Named (within-weaker 0 1 read_keyword keyword-within (omega arith)) named-within)

pub property-opens : Opens property Delimited
unfolding property
property-opens = gap-delimited _

pub property-steady : Steady property Delimited
unfolding property
property-steady =
    then-steady gap _ (Ends space) Delimited gap-steady
    (λ u. then-steady read_keyword Named Whole Delimited keyword-steady named-steady (λ t. named-whole t))
    (λ u. bind-opens read_keyword Named (Ends space) keyword-solid)
  where
    named-whole : (t : List ℕ) → Opens (Named t) Whole
    named-whole t = unfold opened in separator-ends 46 (◌>>=◌ read_keyword (Valued t)) (in_class Keyword) refl

-- ==== a property is no reason, and neither stands where a result ends

-- a keyword before something that q can't read
word-then-not : {B : Type 0} (w : List ℕ) (q : Parser B) (ys k : List ℕ) (n : ℕ) → read_keyword ys ≡ got k n → q (drop n ys) ≡ nothing
    → ◌>>◌ (read_word w) q ys ≡ nothing
unfolding read_word
word-then-not w q ys k n e z = go (read_word w ys) refl
  where
    go : (x : Got (Unit {0})) → read_word w ys ≡ x → ◌>>◌ (read_word w) q ys ≡ nothing
    go nothing h = bind-none (read_word w) (λ u. q) ys h
    go (got u m) h =
        let v = bind_inv read_keyword (λ k. when (same k w)) ys u m h in
        let s : v.snd ≡ 0 = (when-inv (same v.val w) (drop v.fst ys) u v.snd v.goes).1 in
        let r : got v.val v.fst ≡ got k n = sym v.reads ∙ e in
        let f : v.fst ≡ n = cc in
        let l : m ≡ n = omega (arith, v.sum) in
        bind-stuck (read_word w) (λ u. q) ys u m h (rw l z)

pub property-no-reason : Opens property (λ t. reason t ≡ nothing)
unfolding property reason
property-no-reason xs a n h =
    let v = bind_inv gap _ xs a n h in
    let ys = drop v.fst xs in
    let w = bind_inv read_keyword Named ys a v.snd v.goes in
    let m = bind_inv (separator 46) (λ u. ◌>>=◌ read_keyword (Valued w.val)) (drop w.fst ys) a w.snd w.goes in
    bind-stuck gap _ xs v.val v.fst v.reads
    (word-then-not (bytes "reason") _ ys w.val w.fst w.reads
    (bind-none (separator 61) (λ u. read_value) (drop w.fst ys) (separator-other 46 61 refl (drop w.fst ys) m.val m.fst m.reads)))

keyword-open : in_class Keyword 59 ≡ false
unfolding opened
keyword-open = refl

pub closed-reason : (t : List ℕ) → Closed t → reason t ≡ nothing
unfolding reason
closed-reason t g = closed-gap _ (in_class Keyword) keyword-open (bind-opens (read_word (bytes "reason")) _ (Starts (in_class Keyword)) (word-opens (bytes "reason"))) t g

pub closed-property : (t : List ℕ) → Closed t → property t ≡ nothing
unfolding property
closed-property t g = closed-gap _ (in_class Keyword) keyword-open (bind-opens read_keyword Named (Starts (in_class Keyword)) keyword-opens) t g

-- ==== what stands behind the result keyword

module _ (f : Option (List ℕ) → List Property → Result) where
  abbrev Properties : Option (List ℕ) → Parser Result
  Properties r = ◌>>=◌ (several property 0) (λ ps. give (f r ps))

  abbrev Reasoned : Parser Result
  Reasoned = ◌>>=◌ (optional reason) Properties

  reasoned-within : Within 0 Reasoned
  reasoned-within =
      bind-within 0 (optional reason) Properties (optional-within 1 reason reason-within)
      (λ r. bind-within 0 (several property 0) (λ ps. give (f r ps)) (several-within 1 property property-within) (λ ps. give-within (f r ps)))

  properties-steady : (r : Option (List ℕ)) → Steady (Properties r) Closed
  properties-steady r =
      map-steady (several property 0) (f r) Closed
      (steady-weaker (several property 0) (λ t. Delimited t × (property t ≡ nothing)) Closed (λ t g. (closed-delimited t g, closed-property t g))
      (several-steady property Delimited property-steady property-opens property-within))

  -- where S holds of the end of a result and before each property, it holds before all of them
  properties-front : (S : List ℕ → Type 0) → Opens property S → (r : Option (List ℕ)) (xs : List ℕ) (b : Result) (n : ℕ) → Properties r xs ≡ got b n
      → S (drop n xs) → S xs
  properties-front S O r =
      bind-front (several property 0) (λ ps. give (f r ps)) S (several-front property S O)
      (λ ps. zero-front (give (f r ps)) S (λ xs b n h. (give-inv (f r ps) xs b n h).1))

  -- a result keyword may end there, and there is no reason
  abbrev Unreasoned : List ℕ → Type 0
  Unreasoned t = Delimited t × (reason t ≡ nothing)

  reasoned-steady : Steady Reasoned Closed
  reasoned-steady =
      bind-steady (optional reason) Properties Unreasoned Closed (optional-steady reason Delimited reason-steady) properties-steady
      (λ r b xs k h g. properties-front Unreasoned (λ ys p n e. (property-opens ys p n e, property-no-reason ys p n e)) r xs b k h
      (closed-delimited _ g, closed-reason _ g))

  -- a result keyword ends before them
  reasoned-front : (xs : List ℕ) (b : Result) (n : ℕ) → Reasoned xs ≡ got b n → Closed (drop n xs) → Delimited xs
  reasoned-front xs b n h g =
      bind-front (optional reason) Properties Delimited (optional-front reason Delimited reason-opens) (properties-front Delimited property-opens) xs b n h
      (closed-delimited (drop n xs) g)

-- ==== the whole result

abbrev whole : Methodspec → Option (List ℕ) → List Property → Result
whole m r ps = record { methodspec = m; reason = r; properties = ps }

pub result-within : Within 1 result
unfolding result
result-within =
    bind-within 1 (byte 59) _ (byte-within 59)
    (λ u. bind-within 0 skip _ skip-within
    (λ u. bind-within 0 methodspec (λ m. Reasoned (whole m)) (within-weaker 0 1 methodspec methodspec-within (omega arith)) (λ m. reasoned-within (whole m))))

pub result-opens : Opens result (Starts (λ b. eqb b (code ";")))
unfolding result
result-opens = bind-opens (byte 59) _ (Starts (λ b. eqb b 59)) (byte-opens 59 (Starts (λ b. eqb b 59)) (λ xs s. s))

-- a result is read the same whatever follows, as long as that is, after space, a semicolon or the end
pub result-steady : Steady result Closed
unfolding result
result-steady =
    then-steady (byte 59) _ Any Closed (byte-steady 59)
    (λ u. then-steady skip _ (Ends space) Closed skip-steady
    (λ u. bind-steady methodspec (λ m. Reasoned (whole m)) Whole Closed methodspec-steady (λ m. reasoned-steady (whole m))
    (λ m b xs k h g. delimited-whole xs (reasoned-front (whole m) xs b k h g)))
    (λ u. bind-opens methodspec (λ m. Reasoned (whole m)) (Ends space) methodspec-opens))
    (λ u xs a n h. tt)
  where
    delimited-whole : (t : List ℕ) → Delimited t → Whole t
    delimited-whole t g = unfold opened in delimited-ends (in_class Keyword) refl t g
