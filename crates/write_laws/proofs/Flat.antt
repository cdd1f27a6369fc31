-- Lines and what a body says: the lines of results may follow one another, and lines that may follow one another are those of results. By
-- induction over the results, and over the lines.
use Prim.Native.Nat.{ℕ, ◌+◌}
use native.Mathlib.Omega.{arith}
use mathlib.Core.Path.{◌≡◌, refl, sym, ap, ◌∙◌, subst}
use mathlib.Core.Bool.{Bool, true, false, ◌&&◌}
use mathlib.Core.List.{List, [], ◌∷◌, ◌++◌, append_assoc, append-nil, map}
use mathlib.Core.Option.{Option, none, some}
use Rattle.base_sequences.proofs.Booleans.{no_true, and_left, and_right}
use Rattle.lexis_rules.specs.Numbers.{one, is_one}
use Rattle.lexis_laws.proofs.VersionNumbers.{is-one}
use Rattle.result_rules.specs.Results.{Property, Result}
use Rattle.result_rules.specs.Table.{listed, table, ptypes, tabled, known_version, known_method, known_types, understood}
use Rattle.report_rules.specs.Report.{method_line, reason_line, property_line, property_lines, result_lines, lines, ignored_of}
use Rattle.write_rules.specs.Entries.{Entry, identified, unstated, judged, reasoned, shown, line_of, is_keyword, allowed}
use Rattle.write_rules.specs.Bodies.{piece, body_of}
use Rattle.write_rules.specs.Compose.{State, front, named, closed, stated, detailed, goes, final}
use Rattle.write_laws.proofs.Readback.{Each, joined}
use Rattle.write_laws.proofs.Results.{spec, Allowed, Reasoned, Stated, reason_piece, result_pieces}
use Rattle.write_laws.proofs.ReadResults.{Byted, Named}
use Rattle.write_laws.proofs.Lines.{Good}
use Rattle.write_laws.proofs.Runs.{Runs, over, more, no-some}

-- ==== the lines of results

abbrev pub reason_lines : Option (List ℕ) → List Entry
reason_lines none = []
reason_lines (some t) = reasoned t ∷ []

abbrev pub head : Result → Entry
head r = judged r.methodspec.method r.methodspec.result

abbrev pub flat : List Result → List Entry
flat [] = []
flat (r ∷ rs) = head r ∷ (reason_lines r.reason ++ (map shown r.properties ++ flat rs))

pub joined-append : {A : Type 0} (w : A → List ℕ) (l m : List A) → joined w (l ++ m) ≡ joined w l ++ joined w m
joined-append w [] m = refl
joined-append w (a ∷ l) m = ap (λ (r : List ℕ). w a ++ r) (joined-append w l m) ∙ sym (append_assoc (w a) (joined w l) (joined w m))

joined-map : (w : Entry → List ℕ) (ps : List Property) → joined w (map shown ps) ≡ joined (λ p. w (shown p)) ps
joined-map w [] = refl
joined-map w (p ∷ ps) = ap (λ (r : List ℕ). w (shown p) ++ r) (joined-map w ps)

abbrev reason_text : (Entry → List ℕ) → Option (List ℕ) → List ℕ
reason_text w none = []
reason_text w (some t) = w (reasoned t)

joined-reason : (w : Entry → List ℕ) (r : Option (List ℕ)) → joined w (reason_lines r) ≡ reason_text w r
joined-reason w none = refl
joined-reason w (some t) = append-nil (w (reasoned t))

abbrev result_text : (Entry → List ℕ) → Result → List ℕ
result_text w r = w (head r) ++ (reason_text w r.reason ++ joined (λ p. w (shown p)) r.properties)

pub joined-flat : (w : Entry → List ℕ) (rs : List Result) → joined w (flat rs) ≡ joined (result_text w) rs
joined-flat w [] = refl
joined-flat w (r ∷ rs) =
    let a = w (head r) in
    let b = reason_text w r.reason in
    let c = joined (λ p. w (shown p)) r.properties in
    let d = joined (result_text w) rs in
    let e : joined w (reason_lines r.reason ++ (map shown r.properties ++ flat rs)) ≡ b ++ (c ++ d) =
    joined-append w (reason_lines r.reason) (map shown r.properties ++ flat rs)
    ∙ rw (joined-reason w r.reason, joined-append w (map shown r.properties) (flat rs), joined-map w r.properties, joined-flat w rs) in
    rw (e, append_assoc a (b ++ c) d, append_assoc b c d)

-- ==== as a body

pub body-joined : (es : List Entry) → body_of es ≡ joined piece es
unfolding body_of
body-joined [] = refl
body-joined (e ∷ es) = ap (λ (r : List ℕ). piece e ++ r) (body-joined es)

reason-piece : (r : Option (List ℕ)) → reason_text piece r ≡ reason_piece r
reason-piece none = refl
reason-piece (some t) = refl

joined_same : {A : Type 0} (v w : A → List ℕ) → ((a : A) → v a ≡ w a) → (l : List A) → joined v l ≡ joined w l
joined_same v w h [] = refl
joined_same v w h (a ∷ l) = rw (h a, joined_same v w h l)

pub flat-body : (rs : List Result) → joined piece (flat rs) ≡ joined result_pieces rs
flat-body rs = joined-flat piece rs ∙ joined_same (result_text piece) result_pieces (λ r. rw (reason-piece r.reason)) rs

-- ==== as a report

properties-lines : (ps : List Property) → joined (λ p. line_of (shown p)) ps ≡ property_lines ps
unfolding line_of property_lines
properties-lines [] = refl
properties-lines (p ∷ ps) = ap (λ (r : List ℕ). property_line p ++ r) (properties-lines ps)

reason-line : (r : Option (List ℕ)) → reason_text line_of r ≡ reason_line r
unfolding line_of reason_line
reason-line none = refl
reason-line (some t) = refl

result-lines : (r : Result) → result_text line_of r ≡ result_lines r
unfolding result_lines
result-lines r = rw (reason-line r.reason, properties-lines r.properties) (ap (λ (l : List ℕ). l ++ (reason_line r.reason ++ property_lines r.properties)) (method-line r))
  where
    method-line : (r : Result) → line_of (head r) ≡ method_line r.methodspec
    method-line r = unfold line_of method_line in refl

-- all results are understood
pub flat-lines : (rs : List Result) → Each (λ r. understood r ≡ true) rs → joined line_of (flat rs) ≡ lines rs
unfolding lines
flat-lines rs h = joined-flat line_of rs ∙ go rs h
  where
    go : (rs : List Result) → Each (λ r. understood r ≡ true) rs → joined (result_text line_of) rs ≡ lines rs
    go [] h = refl
    go (r ∷ rs) h = rw (result-lines r, go rs h.1, h.0)

pub none-ignored : (rs : List Result) → Each (λ r. understood r ≡ true) rs → ignored_of rs ≡ 0
unfolding ignored_of
none-ignored [] h = refl
none-ignored (r ∷ rs) h = rw (h.0, none-ignored rs h.1)

pub ignored-none : (rs : List Result) → ignored_of rs ≡ 0 → Each (λ r. understood r ≡ true) rs
unfolding ignored_of
ignored-none [] e = tt
ignored-none (r ∷ rs) e = go (ignored-none rs) (understood r) refl
  where
    go : (ignored_of rs ≡ 0 → Each (λ r. understood r ≡ true) rs) → (b : Bool) → understood r ≡ b → (understood r ≡ true) × Each (λ r. understood r ≡ true) rs
    go ih true q = (q, ih (let z : 0 + ignored_of rs ≡ 0 = rw q at e in omega arith))
    go ih false q = absurd (let z : 1 + ignored_of rs ≡ 0 = rw q at e in omega arith)

-- ==== understood, and what can be written

types-known : (ps : List Property) → Each Allowed ps → known_types ps ≡ true
unfolding known_types allowed
types-known [] h = refl
types-known (p ∷ ps) h = rw (and_left (listed ptypes p.ptype) _ (and_left (listed ptypes p.ptype && is_keyword p.property) _ h.0)) (types-known ps h.1)

pub stated-understood : (r : Result) → Stated r → understood r ≡ true
unfolding understood known_method known_version
stated-understood r s = rw (s.version, s.tabled) (types-known r.properties s.properties)

known-allowed : (ps : List Property) → known_types ps ≡ true → Each Named ps → Each Allowed ps
unfolding known_types allowed
known-allowed [] e h = tt
known-allowed (p ∷ ps) e h =
    (rw (and_left (listed ptypes p.ptype) _ e, h.0.0, h.0.1), known-allowed ps (and_right (listed ptypes p.ptype) _ e) h.1)

reasoned-byted : (r : Option (List ℕ)) → Byted r → Reasoned r
reasoned-byted none b = tt
reasoned-byted (some t) b = b.0

pub understood-stated : (r : Result) → understood r ≡ true → Byted r.reason × Each Named r.properties → Stated r
unfolding understood known_method known_version
understood-stated r e h =
    let m = and_left (is_one r.methodspec.version && tabled table r.methodspec.method r.methodspec.result) _ e in
    record {
      tabled = and_right (is_one r.methodspec.version) _ m;
      version = is-one r.methodspec.version (and_left (is_one r.methodspec.version) _ m);
      reason = reasoned-byted r.reason h.0;
      properties = known-allowed r.properties (and_right (is_one r.methodspec.version && tabled table r.methodspec.method r.methodspec.result) _ e) h.1;
    }

-- the lines of such results
pub each_append : {A : Type 0} (P : A → Type 0) (l m : List A) → Each P l → Each P m → Each P (l ++ m)
each_append P [] m h k = k
each_append P (a ∷ l) m h k = (h.0, each_append P l m h.1 k)

shown-good : (ps : List Property) → Each Allowed ps → Each Named ps → Each Good (map shown ps)
shown-good [] h k = tt
shown-good (p ∷ ps) h k = ((h.0, k.0.2), shown-good ps h.1 k.1)

reason-good : (r : Option (List ℕ)) → Byted r → Each Good (reason_lines r)
reason-good none b = tt
reason-good (some t) b = (b, tt)

pub flat_good : (rs : List Result) → Each Stated rs → Each (λ r. Byted r.reason × Each Named r.properties) rs → Each Good (flat rs)
flat_good [] h k = tt
flat_good (r ∷ rs) h k = (
  h.0.tabled,
  each_append Good (reason_lines r.reason) _ (reason-good r.reason k.0.0)
      (each_append Good (map shown r.properties) _ (shown-good r.properties h.0.properties k.0.1) (flat_good rs h.1 k.1)),
)

-- ==== which lines may follow one another

-- lines that may stand after a state, to the end
pub record Ran (s : State) (es : List Entry) : Type 0 where
  pub last : State
  pub runs : Runs s es last
  pub ends : final last ≡ true

ran-more : (s t : State) (e : Entry) (es : List Entry) → goes s e ≡ some t → Ran t es → Ran s (e ∷ es)
ran-more s t e es g r = record { last = r.last; runs = more g r.runs; ends = r.ends }

-- a state behind a result
pub data Late : State → Type 0 where
  late_stated : Late stated
  late_detailed : Late detailed

late-final : (s : State) → Late s → final s ≡ true
unfolding final
late-final s late_stated = refl
late-final s late_detailed = refl

late-method : (s : State) → Late s → (m r : List ℕ) → goes s (judged m r) ≡ some stated
unfolding goes
late-method s late_stated m r = refl
late-method s late_detailed m r = refl

late-shown : (s : State) → Late s → (p : Property) → goes s (shown p) ≡ some detailed
unfolding goes
late-shown s late_stated p = refl
late-shown s late_detailed p = refl

ran-shown : (s : State) → Late s → (ps : List Property) (es : List Entry) → ((t : State) → Late t → Ran t es) → Ran s (map shown ps ++ es)
ran-shown s l [] es k = k s l
ran-shown s l (p ∷ ps) es k = ran-more s detailed (shown p) (map shown ps ++ es) (late-shown s l p) (ran-shown detailed late_detailed ps es k)

ran-reason : (r : Option (List ℕ)) (es : List Entry) → ((t : State) → Late t → Ran t es) → Ran stated (reason_lines r ++ es)
unfolding goes
ran-reason none es k = k stated late_stated
ran-reason (some t) es k = ran-more stated detailed (reasoned t) es refl (k detailed late_detailed)

ran-result : (s : State) → ((m r : List ℕ) → goes s (judged m r) ≡ some stated) → (r : Result) (es : List Entry) → ((t : State) → Late t → Ran t es)
    → Ran s (head r ∷ (reason_lines r.reason ++ (map shown r.properties ++ es)))
ran-result s g r es k =
    ran-more s stated (head r) _ (g r.methodspec.method r.methodspec.result)
    (ran-reason r.reason (map shown r.properties ++ es) (λ t l. ran-shown t l r.properties es k))

pub ran-flat : (rs : List Result) (s : State) → Late s → Ran s (flat rs)
ran-flat [] s l = record { last = s; runs = over; ends = late-final s l }
ran-flat (r ∷ rs) s l = ran-result s (late-method s l) r (flat rs) (λ t k. ran-flat rs t k)

pub ran-results : (i : List ℕ) (r : Result) (rs : List Result) → Ran front (identified i ∷ flat (r ∷ rs))
unfolding goes
ran-results i r rs = ran-more front named (identified i) _ refl (ran-result named (λ m r. refl) r (flat rs) (λ t k. ran-flat rs t k))

pub ran-none : (i : List ℕ) → Ran front (identified i ∷ unstated ∷ [])
unfolding goes final
ran-none i = ran-more front named (identified i) _ refl (ran-more named closed unstated [] refl (record { last = closed; runs = over; ends = refl }))

-- ==== what lines say

abbrev Once : Result → Type 0
Once r = r.methodspec.version ≡ one

-- lines behind an r or p line, or behind an m line
record Shown (es : List Entry) : Type 0 where
  properties : List Property
  others : List Result
  is : es ≡ map shown properties ++ flat others
  once : Each Once others

record Behind (es : List Entry) : Type 0 where
  reason : Option (List ℕ)
  rest : List Entry
  shows : Shown rest
  is : es ≡ reason_lines reason ++ rest

abbrev Says : State → List Entry → Type 0
Says front es = Unit
Says named es = Unit
Says closed es = Unit
Says stated es = Behind es
Says detailed es = Shown es

-- a method line, and what is behind it
abbrev result_of : List ℕ → List ℕ → (es : List Entry) → Behind es → Result
result_of m r es b = record { methodspec = spec m r; reason = b.reason; properties = b.shows.properties }

judged-is : (m r : List ℕ) (es : List Entry) (b : Behind es) → judged m r ∷ es ≡ flat (result_of m r es b ∷ b.shows.others)
judged-is m r es b = ap (λ (l : List Entry). judged m r ∷ l) (b.is ∙ ap (λ (l : List Entry). reason_lines b.reason ++ l) b.shows.is)

judged-says : (m r : List ℕ) (es : List Entry) → Behind es → Shown (judged m r ∷ es)
judged-says m r es b =
    record { properties = []; others = result_of m r es b ∷ b.shows.others; is = judged-is m r es b; once = (refl, b.shows.once) }

shown-says : (p : Property) (es : List Entry) → Shown es → Shown (shown p ∷ es)
shown-says p es v = record { properties = p ∷ v.properties; others = v.others; is = ap (λ (l : List Entry). shown p ∷ l) v.is; once = v.once }

unreasoned : (es : List Entry) → Shown es → Behind es
unreasoned es v = record { reason = none; rest = es; shows = v; is = refl }

nothing-shown : Shown []
nothing-shown = record { properties = []; others = []; is = refl; once = tt }

some_is : {a b : State} → some a ≡ some b → b ≡ a
some_is {a} {b} e = let i : a ≡ b = cc in sym i

says_none : (s : State) → Says s []
says_none front = tt
says_none named = tt
says_none closed = tt
says_none stated = unreasoned [] nothing-shown
says_none detailed = nothing-shown

says-more : (s w : State) (e : Entry) (es : List Entry) → goes s e ≡ some w → Says w es → Says s (e ∷ es)
unfolding goes
says-more front w e es g h = tt
says-more named w e es g h = tt
says-more closed w e es g h = tt
says-more stated w (identified i) es g h = absurd (no-some g)
says-more stated w unstated es g h = absurd (no-some g)
says-more stated w (judged m o) es g h = unreasoned (judged m o ∷ es) (judged-says m o es (subst (λ (v : State). Says v es) (some_is g) h))
says-more stated w (reasoned x) es g h = record { reason = some x; rest = es; shows = subst (λ (v : State). Says v es) (some_is g) h; is = refl }
says-more stated w (shown p) es g h = unreasoned (shown p ∷ es) (shown-says p es (subst (λ (v : State). Says v es) (some_is g) h))
says-more detailed w (identified i) es g h = absurd (no-some g)
says-more detailed w unstated es g h = absurd (no-some g)
says-more detailed w (judged m o) es g h = judged-says m o es (subst (λ (v : State). Says v es) (some_is g) h)
says-more detailed w (reasoned x) es g h = absurd (no-some g)
says-more detailed w (shown p) es g h = shown-says p es (subst (λ (v : State). Says v es) (some_is g) h)

says : {s t : State} {es : List Entry} → Runs s es t → Says s es
says (over {s}) = says_none s
says (more {s} {t} {e} {es} g r) = says-more s t e es g (says r)

-- whole lists of lines
pub data Spoken (es : List Entry) : Type 0 where
  spoken_none : (i : List ℕ) → es ≡ identified i ∷ unstated ∷ [] → Spoken es
  spoken_results : (i : List ℕ) (r : Result) (rs : List Result) → es ≡ identified i ∷ flat (r ∷ rs) → Each Once (r ∷ rs) → Spoken es

-- nothing may follow the line none
none-behind : {s t : State} {es : List Entry} → Runs s es t → s ≡ closed → es ≡ []
none-behind over q = refl
none-behind (more {s} {t} {e} {es} g r) q = absurd (go e (rw q at g))
  where
    go : (e : Entry) → goes closed e ≡ some t → ⊥
    go (identified i) g = unfold goes in no-some g
    go unstated g = unfold goes in no-some g
    go (judged m o) g = unfold goes in no-some g
    go (reasoned x) g = unfold goes in no-some g
    go (shown p) g = unfold goes in no-some g

behind-named : (i : List ℕ) {s t : State} {es : List Entry} → Runs s es t → s ≡ named → final t ≡ true → Spoken (identified i ∷ es)
unfolding goes final
behind-named i over q f = absurd (no_true (rw q at f))
behind-named i (more {s} {t} {e} {es} g r) q f = go e (rw q at g)
  where
    go : (e : Entry) → goes named e ≡ some t → Spoken (identified i ∷ e ∷ es)
    go (identified j) g = absurd (no-some g)
    go unstated g = spoken_none i (ap (λ (l : List Entry). identified i ∷ unstated ∷ l) (none-behind r (some_is g)))
    go (judged m o) g =
        let b : Behind es = subst (λ (v : State). Says v es) (some_is g) (says r) in
        spoken_results i (result_of m o es b) b.shows.others (ap (λ (l : List Entry). identified i ∷ l) (judged-is m o es b)) (refl, b.shows.once)
    go (reasoned x) g = absurd (no-some g)
    go (shown p) g = absurd (no-some g)

pub spoken : {s t : State} {es : List Entry} → Runs s es t → s ≡ front → final t ≡ true → Spoken es
unfolding goes final
spoken over q f = absurd (no_true (rw q at f))
spoken (more {s} {t} {e} {es} g r) q f = go e (rw q at g)
  where
    go : (e : Entry) → goes front e ≡ some t → Spoken (e ∷ es)
    go (identified i) g = behind-named i r (some_is g) f
    go unstated g = absurd (no-some g)
    go (judged m o) g = absurd (no-some g)
    go (reasoned x) g = absurd (no-some g)
    go (shown p) g = absurd (no-some g)

-- such results can be written
good_left : {A : Type 0} (P : A → Type 0) (l m : List A) → Each P (l ++ m) → Each P l
good_left P [] m h = tt
good_left P (a ∷ l) m h = (h.0, good_left P l m h.1)

good_right : {A : Type 0} (P : A → Type 0) (l m : List A) → Each P (l ++ m) → Each P m
good_right P [] m h = h
good_right P (a ∷ l) m h = good_right P l m h.1

shown-allowed : (ps : List Property) → Each Good (map shown ps) → Each Allowed ps
shown-allowed [] h = tt
shown-allowed (p ∷ ps) h = (h.0.0, shown-allowed ps h.1)

reasons-reasoned : (r : Option (List ℕ)) → Each Good (reason_lines r) → Reasoned r
reasons-reasoned none h = tt
reasons-reasoned (some t) h = h.0.0

pub good-stated : (rs : List Result) → Each Once rs → Each Good (flat rs) → Each Stated rs
good-stated [] o h = tt
good-stated (r ∷ rs) o h =
    let b = good_right Good (reason_lines r.reason) _ h.1 in (
      record {
        tabled = h.0;
        version = o.0;
        reason = reasons-reasoned r.reason (good_left Good (reason_lines r.reason) _ h.1);
        properties = shown-allowed r.properties (good_left Good (map shown r.properties) _ b);
      },
      good-stated rs o.1 (good_right Good (map shown r.properties) _ b),
    )
