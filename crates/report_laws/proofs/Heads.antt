-- What stands before the results is the same whatever follows, as long as that ends it, from the laws of its parts; and a body that names
-- a header version has it in its head.
use Prim.Native.Char.{code}
use Prim.Native.Nat.{ℕ, suc, ◌+◌}
use native.Mathlib.Omega.{arith}
use mathlib.Core.Path.{◌≡◌, refl, sym, ap, ◌∙◌}
use mathlib.Core.Bool.{Bool, true, false, ◌||◌}
use mathlib.Core.List.{List}
use mathlib.Core.Option.{Option, some}
use lib.Dec.{eqb}
use lib.ListN.{drop, get_or}
use lib.Seq.{drop-drop}
use Rattle.base_readers.specs.Parsers.{nothing, got, Parser, ◌>>=◌, ◌>>◌, give, ahead, text, optional}
use Rattle.base_readers.specs.Locality.{Fits, Within, Any, Ends, Starts, Steady, Opens}
use Rattle.base_sequences.proofs.Booleans.{or_left, or_right}
use Rattle.base_readers.proofs.Texts.{starts_first, starts-weaker}
use Rattle.base_readers.proofs.Readers.{run-first, run_fits, choose_no, choose-fits}
use Rattle.base_readers.proofs.Local.{local-weaker, choose-local, run-local}
use Rattle.base_readers.proofs.Sequencing.{bind-got, bind_inv, give-is, give-inv, ahead-inv, optional-some}
use Rattle.base_readers.proofs.Bounds.{within-weaker, bind-within, bind-within₂, give-within, ahead_within, text-within, optional-within}
use Rattle.base_readers.proofs.Openings.{bind-opens, text-opens, opens-weaker, zero-front, bind-front, optional-front}
use Rattle.base_readers.proofs.Steadiness.{steady-weaker, bind-steady, then-steady, zero-steady, map-steady, give-steady, ahead-steady, text-steady, optional-steady}
use Rattle.lexis_rules.specs.declared.Class.TheVariants.{Delimiter, Digit}
use Rattle.lexis_rules.specs.Bytes.{in_class}
use Rattle.lexis_rules.specs.Pieces.{space, quoted, digits}
use Rattle.lexis_rules.specs.Words.{value_text, skip, gap, counted, read_digits}
use Rattle.lexis_laws.proofs.Pieces.{quoted-fits}
use Rattle.lexis_laws.proofs.Locality.{quoted-local}
use Rattle.lexis_laws.proofs.Steadiness.{skip-within, skip-steady, gap_within, gap-steady, digits-within, digits-opens, digits-steady}
use Rattle.identifier_rules.specs.Identifier.{identifier_byte, identifier_token, identifier_value, identifier}
use Rattle.identifier_rules.specs.Version.{stated, header_version}
use Rattle.result_rules.proofs.Unfolding as resinfo
use Rattle.result_laws.proofs.Following.{Delimited, Closed, solid, delimited-ends, gap-delimited, closed-delimited, closed-gap}
use Rattle.report_rules.specs.Body.{Head, head}
use Rattle.report_rules.specs.Newer.{naming}

-- ==== nothing more is taken

-- the end or a delimiter, and a value
abbrev then_reader : {A : Type 0} → A → Parser A
then_reader a = ◌>>◌ (ahead (in_class Delimiter)) (give a)

module _ {A : Type 0} (a : A) where
  then-zero : (xs : List ℕ) (b : A) (n : ℕ) → then_reader a xs ≡ got b n → n ≡ 0
  then-zero xs b n h =
      let v = bind_inv (ahead (in_class Delimiter)) (λ u. give a) xs b n h in
      omega (arith, (ahead-inv (in_class Delimiter) xs v.val v.fst v.reads).1, (give-inv a (drop v.fst xs) b v.snd v.goes).1, v.sum)

  then-delimited : (xs : List ℕ) (b : A) (n : ℕ) → then_reader a xs ≡ got b n → Delimited xs
  then-delimited xs b n h =
      let v = bind_inv (ahead (in_class Delimiter)) (λ u. give a) xs b n h in
      (ahead-inv (in_class Delimiter) xs v.val v.fst v.reads).0

  then-within : Within 0 (then_reader a)
  then-within = bind-within 0 (ahead (in_class Delimiter)) (λ u. give a) (ahead_within (in_class Delimiter)) (λ u. give-within a)

  then-delimited-steady : Steady (then_reader a) Delimited
  then-delimited-steady =
      zero-steady (ahead (in_class Delimiter)) (λ u. give a) Delimited (ahead-steady (in_class Delimiter)) (λ u. give-steady a Delimited)
      (λ u xs b n h. (give-inv a xs b n h).1)

-- ==== identifier

-- a byte of an identifier's token, or a quote
abbrev opens_identifier : ℕ → Bool
opens_identifier b = identifier_byte b || eqb b (code "\"")

identifier-first : (xs : List ℕ) (n : ℕ) → identifier_value xs ≡ suc n → Starts opens_identifier xs
unfolding resinfo.opened identifier_byte
identifier-first xs n e = go (eqb (get_or xs 0 0) 34) refl
  where
    go : (t : Bool) → eqb (get_or xs 0 0) 34 ≡ t → Starts opens_identifier xs
    go true q = sym (starts_first opens_identifier refl xs) ∙ or_right (identifier_byte (get_or xs 0 0)) _ q
    go false q =
        starts-weaker identifier_byte opens_identifier (λ b i. or_left (identifier_byte b) _ i) xs
        (run-first identifier_byte xs n (sym (choose_no 34 quoted identifier_token xs q) ∙ e))

identifier-fits : Fits identifier_value
identifier-fits = choose-fits (code "\"") quoted identifier_token quoted-fits (run_fits identifier_byte)

identifier-value-solid : (xs : List ℕ) (n : ℕ) → identifier_value xs ≡ suc n → Ends space xs
unfolding resinfo.opened identifier_byte
identifier-value-solid xs n e = solid opens_identifier refl xs (identifier-first xs n e)

identifier-value-steady : Steady (text identifier_value) Delimited
unfolding resinfo.opened identifier_byte
identifier-value-steady =
    steady-weaker (text identifier_value) (Ends identifier_token) Delimited (delimited-ends identifier_byte refl)
    (text-steady identifier_value (Ends identifier_token)
    (choose-local (code "\"") quoted identifier_token (Ends identifier_token) (local-weaker quoted Any (Ends identifier_token) (λ t g. tt) quoted-local) (run-local identifier_byte)))

pub identifier-within : Within 1 identifier
unfolding identifier
identifier-within =
    bind-within₂ 1 skip _ skip-within
    (λ u. bind-within 1 (text identifier_value) (λ v. then_reader (value_text v)) (text-within identifier_value identifier-fits) (λ v. then-within (value_text v)))

pub identifier-steady : Steady identifier Delimited
unfolding identifier
identifier-steady =
    then-steady skip _ (Ends space) Delimited skip-steady
    (λ u. zero-steady (text identifier_value) (λ v. then_reader (value_text v)) Delimited identifier-value-steady
    (λ v. then-delimited-steady (value_text v)) (λ v. then-zero (value_text v)))
    (λ u. bind-opens (text identifier_value) (λ v. then_reader (value_text v)) (Ends space) (text-opens identifier_value (Ends space) identifier-value-solid))

-- ==== header version

pub stated-within : Within 1 stated
unfolding stated
stated-within = bind-within 1 gap (λ u. read_digits) gap_within (λ u. within-weaker 0 1 read_digits digits-within (omega arith))

stated-opens : Opens stated Delimited
unfolding stated
stated-opens = gap-delimited read_digits

digits-solid : Opens read_digits (Ends space)
unfolding resinfo.opened
digits-solid = opens-weaker read_digits (Starts (in_class Digit)) (Ends space) (solid (in_class Digit) refl) digits-opens

delimited-digits : (t : List ℕ) → Delimited t → Ends digits t
unfolding resinfo.opened
delimited-digits t g = delimited-ends (in_class Digit) refl t g

pub stated-steady : Steady stated (Ends digits)
unfolding stated
stated-steady = then-steady gap (λ u. read_digits) (Ends space) (Ends digits) gap-steady (λ u. digits-steady) (λ u. digits-solid)

pub closed-stated : (t : List ℕ) → Closed t → stated t ≡ nothing
unfolding stated
closed-stated t g = closed-gap read_digits (in_class Digit) no_digit digits-opens t g
  where
    no_digit : in_class Digit 59 ≡ false
    no_digit = unfold resinfo.opened in refl

-- ==== head

abbrev head_is : List ℕ → Option (List ℕ) → Head
head_is i v = record { identifier = i; version = header_version v }

-- from the header version on
abbrev versioned_reader : List ℕ → Parser Head
versioned_reader i = ◌>>=◌ (optional stated) (λ v. give (head_is i v))

pub head-within : Within 1 head
unfolding head
head-within =
    bind-within 1 identifier versioned_reader identifier-within
    (λ i. bind-within 0 (optional stated) (λ v. give (head_is i v)) (optional-within 1 stated stated-within) (λ v. give-within (head_is i v)))

pub head-steady : Steady head Closed
unfolding head
head-steady =
    bind-steady identifier versioned_reader Delimited Closed identifier-steady
    (λ i. map-steady (optional stated) (head_is i) Closed
    (steady-weaker (optional stated) (λ t. Ends digits t × (stated t ≡ nothing)) Closed
    (λ t g. (delimited-digits t (closed-delimited t g), closed-stated t g)) (optional-steady stated (Ends digits) stated-steady)))
    (λ i b xs k h g. bind-front (optional stated) (λ v. give (head_is i v)) Delimited (optional-front stated Delimited stated-opens)
    (λ v. zero-front (give (head_is i v)) Delimited (λ ys c n e. (give-inv (head_is i v) ys c n e).1)) xs b k h (closed-delimited (drop k xs) g))

-- ==== a named header version

abbrev named_head : List ℕ → List ℕ → Head
named_head i v = record { identifier = i; version = v }

abbrev naming_reader : List ℕ → Parser Head
naming_reader i = ◌>>=◌ stated (λ v. then_reader (named_head i v))

pub naming-within : Within 1 naming
unfolding naming
naming-within =
    bind-within 1 identifier naming_reader identifier-within
    (λ i. bind-within 0 stated (λ v. then_reader (named_head i v)) (within-weaker 0 1 stated stated-within (omega arith)) (λ v. then-within (named_head i v)))

pub naming-steady : Steady naming Delimited
unfolding naming
naming-steady =
    then-steady identifier naming_reader Delimited Delimited identifier-steady
    (λ i. zero-steady stated (λ v. then_reader (named_head i v)) Delimited (steady-weaker stated (Ends digits) Delimited delimited-digits stated-steady)
    (λ v. then-delimited-steady (named_head i v)) (λ v. then-zero (named_head i v)))
    (λ i. bind-opens stated (λ v. then_reader (named_head i v)) Delimited stated-opens)

-- it is in the head, and the end or a delimiter follows
pub naming-head : (xs : List ℕ) (h : Head) (n : ℕ) → naming xs ≡ got h n → (head xs ≡ got h n) × Delimited (drop n xs)
unfolding naming head header_version
naming-head xs h n e =
    let v = bind_inv identifier naming_reader xs h n e in
    let i = v.val in
    let ys = drop v.fst xs in
    let w = bind_inv stated (λ v. then_reader (named_head i v)) ys h v.snd v.goes in
    let zs = drop w.fst ys in
    let a = named_head i w.val in
    let t = bind_inv (ahead (in_class Delimiter)) (λ u. give a) zs h w.snd w.goes in
    let z : w.snd ≡ 0 = then-zero a zs h w.snd w.goes in
    let c : a ≡ h = (give-inv a (drop t.fst zs) h t.snd t.goes).0 in
    let s : w.fst ≡ v.snd = omega (arith, w.sum) in
    let d : drop n xs ≡ zs = ap (λ (k : ℕ). drop k xs) (sym v.sum) ∙ (sym (drop-drop v.snd v.fst xs) ∙ rw s) in
    let f : versioned_reader i ys ≡ got a (w.fst + 0) =
    bind-got (optional stated) (λ v. give (head_is i v)) ys (some w.val) w.fst a 0 (optional-some stated ys w.val w.fst w.reads) (give-is a zs) in
    let l : v.fst + (w.fst + 0) ≡ n = omega (arith, v.sum) in
    (bind-got identifier versioned_reader xs i v.fst a (w.fst + 0) v.reads f ∙ rw (c, l), rw d (then-delimited a zs h w.snd w.goes))

-- the digits of a header version are those that count of a run
pub record Run (v : List ℕ) : Type 0 where
  pub run : List ℕ
  pub is : counted run ≡ v

stated-run : (xs v : List ℕ) (n : ℕ) → stated xs ≡ got v n → Run v
unfolding stated read_digits
stated-run xs v n e =
    let g = bind_inv gap (λ u. read_digits) xs v n e in
    let d = bind_inv (text digits) (λ d. give (counted d)) (drop g.fst xs) v g.snd g.goes in
    record { run = d.val; is = (give-inv (counted d.val) (drop d.fst (drop g.fst xs)) v d.snd d.goes).0 }

pub naming-run : (xs : List ℕ) (h : Head) (n : ℕ) → naming xs ≡ got h n → Run h.version
unfolding naming
naming-run xs h n e =
    let v = bind_inv identifier naming_reader xs h n e in
    let i = v.val in
    let ys = drop v.fst xs in
    let w = bind_inv stated (λ v. then_reader (named_head i v)) ys h v.snd v.goes in
    let zs = drop w.fst ys in
    let a = named_head i w.val in
    let t = bind_inv (ahead (in_class Delimiter)) (λ u. give a) zs h w.snd w.goes in
    let c : a ≡ h = (give-inv a (drop t.fst zs) h t.snd t.goes).0 in
    let r = stated-run ys w.val w.fst w.reads in
    record { run = r.run; is = r.is ∙ ap (λ (k : Head). k.version) c }
