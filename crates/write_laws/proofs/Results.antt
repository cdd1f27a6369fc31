-- Results: what is written is read back, part by part along the grammar of a result.
use Prim.Native.Char.{code}
use Prim.Native.Nat.{ℕ, ◌≤◌, zero-le, suc-le-suc}
use mathlib.Core.Path.{◌≡◌, refl, sym, ap, ◌∙◌}
use mathlib.Core.Bool.{true, false, ◌&&◌}
use mathlib.Core.List.{List, [], ◌∷◌, ◌++◌, append_assoc}
use mathlib.Core.Option.{Option, none, some}
use lib.Dec.{eqb}
use lib.ListN.{length}
use borrow.Author.Tests.{eqb-true}
use Rattle.base_sequences.proofs.Booleans.{and_left, and_right, true-not}
use Rattle.base_readers.specs.Texts.{bytes, one_of, outside, follows}
use Rattle.base_readers.specs.Readers.{choose}
use Rattle.base_readers.specs.Parsers.{nothing, ◌>>=◌, give, byte, text, optional, several}
use Rattle.base_readers.specs.Locality.{Any, Ends, Starts, Follows, Shut}
use Rattle.base_readers.proofs.Texts.{follows-weaker}
use Rattle.base_readers.proofs.Readers.{many_more, choose_no, run_none}
use Rattle.base_readers.proofs.Sequencing.{bind-none}
use Rattle.lexis_rules.specs.declared.Class.TheVariants as class
use Rattle.lexis_rules.specs.declared.VersionNumber.{VersionNumber}
use Rattle.lexis_rules.specs.Bytes.{in_class}
use Rattle.lexis_rules.specs.Pieces.{space, comment, item, token, quoted}
use Rattle.lexis_rules.specs.Numbers.{one}
use Rattle.lexis_rules.specs.Words.{skip, gap, read_value, read_keyword, read_word}
use Rattle.lexis_laws.proofs.Locality.{space-none, token-local}
use Rattle.lexis_laws.proofs.Steadiness.{value-opens, opens_value}
use Rattle.result_rules.specs.Results.{Property, Methodspec, Result, or_one, separator, property_value, method_version, methodspec, reason, property, result}
use Rattle.result_rules.specs.Table.{listed, table, ptypes, tabled}
use Rattle.result_rules.proofs.Unfolding as resinfo
use Rattle.result_laws.proofs.Following.{Delimited, Closed, solid, delimited-ends, separator-other}
use Rattle.result_laws.proofs.Values.{property-value-opens}
use Rattle.result_laws.proofs.Results.{property-no-reason, closed-reason, closed-property}
use Rattle.write_rules.specs.Entries.{judged, reasoned, shown, whole, is_text, is_keyword, allowed}
use Rattle.write_rules.specs.Bodies.{bare_or, pvalue, piece}
use Rattle.write_laws.proofs.Readback.{Reads, Each, Takes, bind-reads, none_reads, last-reads, weaker-reads, give-reads, byte_reads, skip-reads, skipping-reads, pass-reads, some-reads, absent-reads, joined, joined-front, several-reads}
use Rattle.write_laws.proofs.Quotes.{value-reads, value-text}
use Rattle.write_laws.proofs.Values.{pvalue-reads}
use Rattle.write_laws.proofs.Keywords.{Unworded, keyword-reads, keyword-solid, word-reads, ptype-keyword, tabled-keywords}

-- ==== one space, and a separator

pub blank-takes : Takes space (32 ∷ []) (Ends space)
unfolding item in_class one_of
blank-takes t g =
    let c : choose 40 (comment 16) (item class.Blank) (32 ∷ t) ≡ 1 = choose_no 40 (comment 16) (item class.Blank) (32 ∷ t) refl in
    many_more (choose 40 (comment 16) (item class.Blank)) (32 ∷ t) 0 c (suc-le-suc zero-le) ∙ rw g

pub gap-reads : Reads gap (32 ∷ []) tt (Ends space)
gap-reads = pass-reads space 32 [] (Ends space) blank-takes

pub blank-reads : Reads skip (32 ∷ []) tt (Ends space)
blank-reads = skipping-reads space (32 ∷ []) (Ends space) blank-takes

-- a byte that begins no space
pub separator-reads : (c : ℕ) → ((t : List ℕ) → Ends space (c ∷ t)) → Reads (separator c) (c ∷ []) tt (Ends space)
unfolding separator
separator-reads c S =
    none_reads skip _ (c ∷ []) tt tt (Ends space) (Ends space) (skip-reads space)
    (bind-reads (byte c) _ (c ∷ []) [] tt tt Any (Ends space) (byte_reads c) (skip-reads space) (λ t g. tt)) (λ t g. S t)

solid-byte : (c : ℕ) → one_of (bytes " \t\r(") c ≡ false → (t : List ℕ) → Ends space (c ∷ t)
unfolding follows in_class
solid-byte c e t = space-none (c ∷ t) (true-not (one_of (bytes " \t\r(") c) e)

pub equals-solid : (t : List ℕ) → Ends space (61 ∷ t)
equals-solid = solid-byte 61 (unfold one_of in refl)

dot-solid : (t : List ℕ) → Ends space (46 ∷ t)
dot-solid = solid-byte 46 (unfold one_of in refl)

pub equals-reads : Reads (separator 61) (61 ∷ []) tt (Ends space)
equals-reads = separator-reads 61 equals-solid

-- a keyword ends before these
pub unworded : (c : ℕ) (t : List ℕ) → in_class class.Keyword c ≡ false → Unworded (c ∷ t)
unworded c t e = run_none (in_class class.Keyword) (c ∷ t) (unfold follows in true-not (in_class class.Keyword c) e)

pub delimited-unworded : (t : List ℕ) → Delimited t → Unworded t
unfolding resinfo.opened
delimited-unworded t g = delimited-ends (in_class class.Keyword) refl t g

pub spaced-delimited : (t : List ℕ) → Delimited (32 ∷ t)
unfolding resinfo.opened
spaced-delimited t = refl

-- ==== method and result

abbrev pub spec : List ℕ → List ℕ → Methodspec
spec m r = record { method = m; version = one; result = r }

no-version : (t : List ℕ) → Ends space t → method_version (61 ∷ t) ≡ nothing
unfolding method_version
no-version t g = bind-none (separator 47) _ (61 ∷ t) (separator-other 61 47 refl (61 ∷ t) tt 1 (equals-reads t g))

pub methodspec-reads : (m r : List ℕ) → is_keyword m ≡ true → is_keyword r ≡ true → Reads methodspec (m ++ (61 ∷ r)) (spec m r) Unworded
unfolding methodspec or_one
methodspec-reads m r e f =
    bind-reads read_keyword _ m (61 ∷ r) m (spec m r) Unworded Unworded (keyword-reads m e)
    (none_reads (optional method_version) _ (61 ∷ r) none (spec m r) (λ t. method_version t ≡ nothing) Unworded (absent-reads method_version (λ t. method_version t ≡ nothing) (λ t g. g))
    (bind-reads (separator 61) _ (61 ∷ []) r tt (spec m r) (Ends space) Unworded equals-reads
    (last-reads read_keyword _ r r (spec m r) Unworded (keyword-reads r f) (give-reads (spec m r) Unworded)) (λ t g. keyword-solid r f t))
    (λ t g. no-version (r ++ t) (keyword-solid r f t)))
    (λ t g. unworded 61 (r ++ t) (unfold resinfo.opened in refl))

-- ==== reason

token-shut : Shut token 34
unfolding resinfo.opened
token-shut [] h = refl
token-shut (x ∷ xs) h = rw h

delimited-token : (t : List ℕ) → Delimited t → Ends token t
unfolding resinfo.opened
delimited-token = delimited-ends (in_class class.Token) refl

-- a value as it is written
abbrev pub bare : List ℕ → List ℕ
bare t = bare_or (whole token t) t

pub read-value-reads : (t : List ℕ) → is_text t ≡ true → Reads read_value (bare t) t Delimited
unfolding read_value
read-value-reads t e =
    last-reads (text (choose 34 quoted token)) _ (bare t) (bare t) t Delimited
    (weaker-reads (text (choose 34 quoted token)) (bare t) (bare t) (Ends token) Delimited delimited-token (value-reads token (Ends token) token-local token-shut t e))
    (rw (value-text token (Ends token) token-local token-shut t e) (give-reads t Delimited))

value-solid : (xs : List ℕ) → Starts opens_value xs → Ends space xs
unfolding resinfo.opened
value-solid = solid opens_value refl

pub reason-keyword : is_keyword (bytes "reason") ≡ true
unfolding resinfo.opened is_keyword whole
reason-keyword = refl

pub reason-reads : (t : List ℕ) → is_text t ≡ true → Reads reason (piece (reasoned t)) t Delimited
unfolding reason piece
reason-reads t e =
    bind-reads gap _ (32 ∷ []) (bytes "reason" ++ (61 ∷ bare t)) tt t (Ends space) Delimited gap-reads
    (bind-reads (read_word (bytes "reason")) _ (bytes "reason") (61 ∷ bare t) tt t Unworded Delimited (word-reads (bytes "reason") reason-keyword)
    (bind-reads (separator 61) _ (61 ∷ []) (bare t) tt t (Ends space) Delimited equals-reads (read-value-reads t e)
    (λ x g. value-solid (bare t ++ x) (value-opens (bare t ++ x) t (length (bare t)) (read-value-reads t e x g))))
    (λ x g. unworded 61 (bare t ++ x) (unfold resinfo.opened in refl)))
    (λ x g. keyword-solid (bytes "reason") reason-keyword ((61 ∷ bare t) ++ x))

-- ==== property

abbrev pub Allowed : Property → Type 0
Allowed p = allowed p ≡ true

pub property-reads : (p : Property) → Allowed p → Reads property (piece (shown p)) p Delimited
unfolding property piece allowed
property-reads p e =
    bind-reads gap _ (32 ∷ []) (t ++ (46 ∷ (n ++ (61 ∷ w)))) tt p (Ends space) Delimited gap-reads
    (bind-reads read_keyword _ t (46 ∷ (n ++ (61 ∷ w))) t p Unworded Delimited (keyword-reads t tk)
    (bind-reads (separator 46) _ (46 ∷ []) (n ++ (61 ∷ w)) tt p (Ends space) Delimited (separator-reads 46 dot-solid)
    (bind-reads read_keyword _ n (61 ∷ w) n p Unworded Delimited (keyword-reads n nk)
    (bind-reads (separator 61) _ (61 ∷ []) w tt p (Ends space) Delimited equals-reads
    (last-reads property_value _ w p.value p Delimited vr (give-reads p Delimited))
    (λ x g. property-value-opens (w ++ x) p.value (length w) (vr x g)))
    (λ x g. unworded 61 (w ++ x) (unfold resinfo.opened in refl)))
    (λ x g. rw (append_assoc n (61 ∷ w) x) (keyword-solid n nk ((61 ∷ w) ++ x))))
    (λ x g. unworded 46 ((n ++ (61 ∷ w)) ++ x) (unfold resinfo.opened in refl)))
    (λ x g. rw (append_assoc t (46 ∷ (n ++ (61 ∷ w))) x) (keyword-solid t tk ((46 ∷ (n ++ (61 ∷ w))) ++ x)))
  where
    t : List ℕ
    t = p.ptype

    n : List ℕ
    n = p.property

    w : List ℕ
    w = pvalue p.value

    tk : is_keyword p.ptype ≡ true
    tk = ptype-keyword p.ptype (and_left (listed ptypes p.ptype) _ (and_left (listed ptypes p.ptype && is_keyword p.property) _ e))

    nk : is_keyword p.property ≡ true
    nk = and_right (listed ptypes p.ptype) _ (and_left (listed ptypes p.ptype && is_keyword p.property) _ e)

    vr : Reads property_value (pvalue p.value) p.value Delimited
    vr = pvalue-reads p.value.kind p.value.text (and_right (listed ptypes p.ptype && is_keyword p.property) _ e)

-- ==== a whole result

-- a semicolon or the end comes next
abbrev pub Stop : List ℕ → Type 0
Stop = Follows (λ b. eqb b (code ";"))

pub stop-solid : (t : List ℕ) → Stop t → Ends space t
stop-solid t g = space-none t (follows-weaker (λ b. eqb b 59) (outside (in_class class.Opening)) (λ b e. rw (eqb-true b 59 e) (unfold in_class one_of in refl)) t g)

pub stop-closed : (t : List ℕ) → Stop t → Closed t
stop-closed t g = rw (stop-solid t g) g

pub stop-delimited : (t : List ℕ) → Stop t → Delimited t
stop-delimited t g = follows-weaker (λ b. eqb b 59) (in_class class.Delimiter) (λ b e. rw (eqb-true b 59 e) (unfold in_class one_of in refl)) t g

-- the pieces behind the method
abbrev pub reason_piece : Option (List ℕ) → List ℕ
reason_piece none = []
reason_piece (some t) = piece (reasoned t)

abbrev pub property_piece : Property → List ℕ
property_piece p = piece (shown p)

abbrev pub result_pieces : Result → List ℕ
result_pieces r = piece (judged r.methodspec.method r.methodspec.result) ++ (reason_piece r.reason ++ joined property_piece r.properties)

property-long : (p : Property) → 1 ≤ length (property_piece p)
unfolding piece
property-long p = suc-le-suc zero-le

property-front : (p : Property) (t : List ℕ) → Delimited (property_piece p ++ t)
unfolding piece
property-front p t = spaced-delimited _

pub properties-reads : (ps : List Property) → Each Allowed ps → Reads (several property 0) (joined property_piece ps) ps Stop
properties-reads ps h =
    several-reads property property_piece Allowed Delimited Stop property-reads (λ p a t. property-front p t) (λ p a. property-long p)
    (λ t g. (stop-delimited t g, closed-property t (stop-closed t g))) ps h

properties-front : (ps : List Property) → Each Allowed ps → (t : List ℕ) → Stop t → Delimited (joined property_piece ps ++ t)
properties-front ps h =
    joined-front property property_piece Allowed Delimited Stop property-reads (λ p a t. property-front p t) (λ p a. property-long p)
    (λ t g. (stop-delimited t g, closed-property t (stop-closed t g))) ps h

-- no reason stands before properties
properties-no-reason : (ps : List Property) → Each Allowed ps → (t : List ℕ) → Stop t → reason (joined property_piece ps ++ t) ≡ nothing
properties-no-reason [] h t g = closed-reason t (stop-closed t g)
properties-no-reason (p ∷ ps) h t g =
    let x = joined property_piece ps ++ t in
    rw (append_assoc (property_piece p) (joined property_piece ps) t)
    (property-no-reason (property_piece p ++ x) p (length (property_piece p)) (property-reads p h.0 x (properties-front ps h.1 t g)))

abbrev pub Reasoned : Option (List ℕ) → Type 0
Reasoned none = Unit
Reasoned (some t) = is_text t ≡ true

behind-reads : (f : Option (List ℕ) → List Property → Result) (r : Option (List ℕ)) (ps : List Property) → Reasoned r → Each Allowed ps
    → Reads (◌>>=◌ (optional reason) (λ r. ◌>>=◌ (several property 0) (λ ps. give (f r ps)))) (reason_piece r ++ joined property_piece ps) (f r ps) Stop
behind-reads f none ps e h =
    none_reads (optional reason) _ (joined property_piece ps) none (f none ps) (λ t. reason t ≡ nothing) Stop (absent-reads reason (λ t. reason t ≡ nothing) (λ t g. g))
    (last-reads (several property 0) _ (joined property_piece ps) ps (f none ps) Stop (properties-reads ps h) (give-reads (f none ps) Stop))
    (properties-no-reason ps h)
behind-reads f (some t) ps e h =
    bind-reads (optional reason) _ (piece (reasoned t)) (joined property_piece ps) (some t) (f (some t) ps) Delimited Stop
    (some-reads reason (piece (reasoned t)) t Delimited (reason-reads t e))
    (last-reads (several property 0) _ (joined property_piece ps) ps (f (some t) ps) Stop (properties-reads ps h) (give-reads (f (some t) ps) Stop))
    (properties-front ps h)

behind-front : (r : Option (List ℕ)) (ps : List Property) → Each Allowed ps → (t : List ℕ) → Stop t → Delimited ((reason_piece r ++ joined property_piece ps) ++ t)
behind-front none ps h t g = properties-front ps h t g
behind-front (some x) ps h t g = unfold piece in spaced-delimited _

-- a result that can be written: method and result in the table, version 1
pub record Stated (r : Result) : Type 0 where
  pub tabled : tabled table r.methodspec.method r.methodspec.result ≡ true
  pub version : r.methodspec.version ≡ one
  pub reason : Reasoned r.reason
  pub properties : Each Allowed r.properties

abbrev pub result_is : Methodspec → Option (List ℕ) → List Property → Result
result_is m r ps = record { methodspec = m; reason = r; properties = ps }

made_reads : (m o : List ℕ) (r : Option (List ℕ)) (ps : List Property) → tabled table m o ≡ true → Reasoned r → Each Allowed ps
    → Reads result (result_pieces (result_is (spec m o) r ps)) (result_is (spec m o) r ps) Stop
unfolding result piece
made_reads m o r ps e f h =
    let a = result_is (spec m o) r ps in
    let k = tabled-keywords m o e in
    let w = m ++ (61 ∷ o) in
    let v = reason_piece r ++ joined property_piece ps in
    bind-reads (byte 59) _ (59 ∷ []) (32 ∷ (w ++ v)) tt a Any Stop (byte_reads 59)
    (bind-reads skip _ (32 ∷ []) (w ++ v) tt a (Ends space) Stop blank-reads
    (bind-reads methodspec _ w v (spec m o) a Unworded Stop (methodspec-reads m o k.0 k.1) (behind-reads (result_is (spec m o)) r ps f h)
    (λ t g. delimited-unworded (v ++ t) (behind-front r ps h t g)))
    (λ t g. rw (append_assoc w v t, append_assoc m (61 ∷ o) (v ++ t)) (keyword-solid m k.0 ((61 ∷ o) ++ (v ++ t)))))
    (λ t g. tt)

pub result-reads : (r : Result) → Stated r → Reads result (result_pieces r) r Stop
result-reads r s =
    let m = r.methodspec in
    let e : spec m.method m.result ≡ m = ap (λ (v : VersionNumber). record { method = m.method; version = v; result = m.result }) (sym s.version) in
    rw e at (made_reads m.method m.result r.reason r.properties s.tabled s.reason s.properties)

pub result-front : (r : Result) (t : List ℕ) → Stop (result_pieces r ++ t)
unfolding piece follows
result-front r t = refl

pub result-long : (r : Result) → 1 ≤ length (result_pieces r)
unfolding piece
result-long r = suc-le-suc zero-le
