-- One line: what the report writes is read back, and what is read is what the report writes. Column by column along the grammar of the line;
-- the first byte tells which line it is.
use Prim.Native.Nat.{ℕ}
use mathlib.Core.Path.{◌≡◌, refl, sym, ap}
use mathlib.Core.Bool.{Bool, true, false, ◌&&◌}
use mathlib.Core.List.{List, [], ◌∷◌, ◌++◌, append-nil}
use lib.Dec.{eqb}
use Rattle.base_sequences.proofs.Booleans.{and_left, and_right}
use Rattle.base_readers.specs.Texts.{bytes, one_of, starts, same}
use Rattle.base_readers.specs.Readers.{run}
use Rattle.base_readers.specs.Parsers.{nothing, Parser, ◌>>=◌, ◌>>◌, give, when, byte, text}
use Rattle.base_readers.specs.Locality.{Any}
use Rattle.base_readers.proofs.Texts.{one_in, same-eq}
use Rattle.base_readers.proofs.Sequencing.{bind-none, byte-not}
use Rattle.lexis_rules.specs.Pieces.{keyword}
use Rattle.lexis_laws.proofs.Pieces.{keyword-fits}
use Rattle.lexis_laws.proofs.Locality.{keyword-local}
use Rattle.result_rules.specs.Results.{Kind, Token, Quoted, Mailbox, AtDomain, Property}
use Rattle.result_rules.specs.Table.{listed, table, ptypes, tabled}
use Rattle.result_rules.proofs.Unfolding as resinfo
use Rattle.report_rules.specs.Report.{escape, line, id_line, none_line, method_line, reason_line, letter_of, property_line}
use Rattle.write_rules.specs.Entries.{Entry, identified, unstated, judged, reasoned, shown, line_of, whole, is_text, is_keyword, single, literal, coded, kind_of, kind_letter, allowed, id_entry, none_entry, method_entry, reason_entry, property_entry, entry}
use Rattle.write_rules.specs.Promise.{Bytes}
use Rattle.write_laws.proofs.Readback.{Reads, bind-reads, none_reads, last-reads, give-reads, when-reads, byte_reads, first_reads, second_reads, whole-reads}
use Rattle.write_laws.proofs.Finds.{Finds, bind-finds, give-finds, when-finds, byte-finds, text-finds, either-finds}
use Rattle.write_laws.proofs.Coded.{single_reads, single-finds, Fed, coded-reads, coded-finds}
use Rattle.write_laws.proofs.Keywords.{Unworded, keyword-is, ptype-keyword, tabled-keywords}

-- what is asked of a line
abbrev pub Good : Entry → Type 0
Good (identified i) = (is_text i ≡ true) × Bytes i
Good unstated = Unit
Good (judged m r) = tabled table m r ≡ true
Good (reasoned t) = (is_text t ≡ true) × Bytes t
Good (shown p) = (allowed p ≡ true) × Bytes p.value.text

-- ==== these bytes

pub literal-reads : (w : List ℕ) → Reads (literal w) w tt Any
unfolding literal
literal-reads [] = give-reads tt Any
literal-reads (c ∷ w) = bind-reads (byte c) _ (c ∷ []) w tt tt Any Any (byte_reads c) (literal-reads w) (λ t g. tt)

pub literal-finds : (w : List ℕ) → Finds (literal w) (λ a u. u ≡ w)
unfolding literal
literal-finds [] = λ xs a n e. (give-finds tt xs a n e).1
literal-finds (c ∷ w) =
    bind-finds (byte c) _ (λ a u. u ≡ c ∷ []) (λ a u. u ≡ c ∷ w) (byte-finds c) (λ a u i xs b n e. rw i (ap (λ (l : List ℕ). c ∷ l) (literal-finds w xs b n e)))

-- where the first byte is another one, there is no such line
literal-not : {B : Type 0} (c : ℕ) (w : List ℕ) (q : Parser B) (x : ℕ) (xs : List ℕ) → eqb x c ≡ false → ◌>>◌ (literal (c ∷ w)) q (x ∷ xs) ≡ nothing
unfolding literal starts
literal-not c w q x xs e = bind-none (literal (c ∷ w)) _ (x ∷ xs) (bind-none (byte c) _ (x ∷ xs) (byte-not c (x ∷ xs) e))

not-id : (x : ℕ) (xs : List ℕ) → eqb x 105 ≡ false → id_entry (x ∷ xs) ≡ nothing
unfolding id_entry
not-id x xs e = literal-not 105 (bytes "d\t") _ x xs e

not_none : (x : ℕ) (xs : List ℕ) → eqb x 110 ≡ false → none_entry (x ∷ xs) ≡ nothing
unfolding none_entry
not_none x xs e = literal-not 110 (bytes "one\n") _ x xs e

not-method : (x : ℕ) (xs : List ℕ) → eqb x 109 ≡ false → method_entry (x ∷ xs) ≡ nothing
unfolding method_entry
not-method x xs e = literal-not 109 (bytes "\t") _ x xs e

not-reason : (x : ℕ) (xs : List ℕ) → eqb x 114 ≡ false → reason_entry (x ∷ xs) ≡ nothing
unfolding reason_entry
not-reason x xs e = literal-not 114 (bytes "\t") _ x xs e

-- ==== columns

tab-ends : (t : List ℕ) → Unworded (9 ∷ t)
unfolding resinfo.opened
tab-ends t = refl

feed-ends : (t : List ℕ) → Unworded (10 ∷ t)
unfolding resinfo.opened
feed-ends t = refl

fed : (t : List ℕ) → Fed (10 ∷ t)
unfolding starts
fed t = refl

column-reads : (k : List ℕ) → is_keyword k ≡ true → Reads (text keyword) k k Unworded
column-reads k e = whole-reads keyword Unworded keyword-local k (keyword-is k e).0

column-finds : Finds (text keyword) (λ a u. (a ≡ u) × (whole keyword a ≡ true))
column-finds = text-finds keyword Unworded keyword-local keyword-fits (unfold run in refl)

kind-reads : (k : Kind) → Reads kind_letter (letter_of k) k Any
unfolding kind_letter letter_of kind_of one_of
kind-reads Token = last-reads (single (one_of (bytes "tqma"))) _ (116 ∷ []) 116 Token Any (single_reads (one_of (bytes "tqma")) 116 refl) (give-reads Token Any)
kind-reads Quoted = last-reads (single (one_of (bytes "tqma"))) _ (113 ∷ []) 113 Quoted Any (single_reads (one_of (bytes "tqma")) 113 refl) (give-reads Quoted Any)
kind-reads Mailbox = last-reads (single (one_of (bytes "tqma"))) _ (109 ∷ []) 109 Mailbox Any (single_reads (one_of (bytes "tqma")) 109 refl) (give-reads Mailbox Any)
kind-reads AtDomain = last-reads (single (one_of (bytes "tqma"))) _ (97 ∷ []) 97 AtDomain Any (single_reads (one_of (bytes "tqma")) 97 refl) (give-reads AtDomain Any)

-- the letter of a kind that a letter says
letter-same : (b : ℕ) → one_of (bytes "tqma") b ≡ true → same (letter_of (kind_of b)) (b ∷ []) ≡ true
unfolding same letter_of kind_of
letter-same b e = one_in (bytes "tqma") (λ b. same (letter_of (kind_of b)) (b ∷ [])) refl b e

kind-finds : Finds kind_letter (λ k u. u ≡ letter_of k)
unfolding kind_letter
kind-finds =
    bind-finds (single (one_of (bytes "tqma"))) _ (λ a u. (u ≡ a ∷ []) × (one_of (bytes "tqma") a ≡ true)) (λ k u. u ≡ letter_of k) (single-finds (one_of (bytes "tqma")))
    (λ b u i xs k n e. let g = give-finds (kind_of b) xs k n e in rw (g.1, append-nil u, ← g.0, i.0) (sym (same-eq _ _ (letter-same b i.1))))

-- ==== the lines, as the report writes them

pub id-shape : (i : List ℕ) → line_of (identified i) ≡ bytes "id\t" ++ (escape i ++ (10 ∷ []))
unfolding line_of id_line line
id-shape i = refl

pub none-shape : line_of unstated ≡ bytes "none\n"
unfolding line_of none_line line
none-shape = refl

pub method-shape : (m r : List ℕ) → line_of (judged m r) ≡ bytes "m\t" ++ (m ++ (9 ∷ (r ++ (10 ∷ []))))
unfolding line_of method_line line
method-shape m r = refl

pub reason-shape : (t : List ℕ) → line_of (reasoned t) ≡ bytes "r\t" ++ (escape t ++ (10 ∷ []))
unfolding line_of reason_line line
reason-shape t = refl

pub property-shape : (p : Property) → line_of (shown p)
    ≡ bytes "p\t" ++ (p.ptype ++ (9 ∷ (p.property ++ (9 ∷ (letter_of p.value.kind ++ (9 ∷ (escape p.value.text ++ (10 ∷ []))))))))
unfolding line_of property_line line
property-shape p = refl

-- ==== written and read back

-- a text, LF, a test and a value
texted-reads : {A : Type 0} (t : List ℕ) (b : Bool) (a : A) (f : List ℕ → Bool) (g : List ℕ → A) → Bytes t → f t ≡ true → g t ≡ a
    → Reads (◌>>=◌ coded (λ t. ◌>>◌ (byte 10) (◌>>◌ (when (f t)) (give (g t))))) (escape t ++ (10 ∷ [])) a Any
texted-reads t b a f g h e q =
    bind-reads coded _ (escape t) (10 ∷ []) t a Fed Any (coded-reads t h)
    (bind-reads (byte 10) _ (10 ∷ []) [] tt a Any Any (byte_reads 10)
    (none_reads (when (f t)) _ [] tt a Any Any (when-reads (f t) Any e) (rw q (give-reads a Any)) (λ x k. tt)) (λ x k. tt))
    (λ x k. fed x)

id-reads : (i : List ℕ) → Good (identified i) → Reads id_entry (line_of (identified i)) (identified i) Any
unfolding id_entry
id-reads i h =
    rw (id-shape i)
    (bind-reads (literal (bytes "id\t")) _ (bytes "id\t") (escape i ++ (10 ∷ [])) tt (identified i) Any Any (literal-reads (bytes "id\t"))
    (texted-reads i true (identified i) is_text identified h.1 h.0 refl) (λ t g. tt))

none-reads-line : Reads none_entry (line_of unstated) unstated Any
unfolding none_entry
none-reads-line = rw none-shape (last-reads (literal (bytes "none\n")) _ (bytes "none\n") tt unstated Any (literal-reads (bytes "none\n")) (give-reads unstated Any))

method-reads : (m r : List ℕ) → Good (judged m r) → Reads method_entry (line_of (judged m r)) (judged m r) Any
unfolding method_entry
method-reads m r h =
    let k = tabled-keywords m r h in
    let a = judged m r in
    rw (method-shape m r)
    (bind-reads (literal (bytes "m\t")) _ (bytes "m\t") (m ++ (9 ∷ (r ++ (10 ∷ [])))) tt a Any Any (literal-reads (bytes "m\t"))
    (bind-reads (text keyword) _ m (9 ∷ (r ++ (10 ∷ []))) m a Unworded Any (column-reads m k.0)
    (bind-reads (byte 9) _ (9 ∷ []) (r ++ (10 ∷ [])) tt a Any Any (byte_reads 9)
    (bind-reads (text keyword) _ r (10 ∷ []) r a Unworded Any (column-reads r k.1)
    (bind-reads (byte 10) _ (10 ∷ []) [] tt a Any Any (byte_reads 10)
    (none_reads (when (tabled table m r)) _ [] tt a Any Any (when-reads (tabled table m r) Any h) (give-reads a Any) (λ t g. tt)) (λ t g. tt))
    (λ t g. feed-ends t))
    (λ t g. tt))
    (λ t g. tab-ends ((r ++ (10 ∷ [])) ++ t)))
    (λ t g. tt))

reason-reads : (t : List ℕ) → Good (reasoned t) → Reads reason_entry (line_of (reasoned t)) (reasoned t) Any
unfolding reason_entry
reason-reads i h =
    rw (reason-shape i)
    (bind-reads (literal (bytes "r\t")) _ (bytes "r\t") (escape i ++ (10 ∷ [])) tt (reasoned i) Any Any (literal-reads (bytes "r\t"))
    (texted-reads i true (reasoned i) is_text reasoned h.1 h.0 refl) (λ t g. tt))

abbrev made : List ℕ → List ℕ → Kind → List ℕ → Property
made t n k x = record { ptype = t; property = n; value = record { kind = k; text = x } }

property-reads : (p : Property) → Good (shown p) → Reads property_entry (line_of (shown p)) (shown p) Any
unfolding property_entry allowed
property-reads p h =
    let a = shown p in
    let t = p.ptype in
    let n = p.property in
    let k = p.value.kind in
    let x = p.value.text in
    let e = and_left (listed ptypes p.ptype && is_keyword p.property) _ h.0 in
    let tk : is_keyword p.ptype ≡ true = ptype-keyword p.ptype (and_left (listed ptypes p.ptype) _ e) in
    let nk : is_keyword p.property ≡ true = and_right (listed ptypes p.ptype) _ e in
    let w₄ : List ℕ = escape p.value.text ++ (10 ∷ []) in
    let w₃ : List ℕ = letter_of p.value.kind ++ (9 ∷ w₄) in
    let w₂ : List ℕ = p.property ++ (9 ∷ w₃) in
    let w₁ : List ℕ = p.ptype ++ (9 ∷ w₂) in
    rw (property-shape p)
    (bind-reads (literal (bytes "p\t")) _ (bytes "p\t") w₁ tt a Any Any (literal-reads (bytes "p\t"))
    (bind-reads (text keyword) _ t (9 ∷ w₂) t a Unworded Any (column-reads t tk)
    (bind-reads (byte 9) _ (9 ∷ []) w₂ tt a Any Any (byte_reads 9)
    (bind-reads (text keyword) _ n (9 ∷ w₃) n a Unworded Any (column-reads n nk)
    (bind-reads (byte 9) _ (9 ∷ []) w₃ tt a Any Any (byte_reads 9)
    (bind-reads kind_letter _ (letter_of k) (9 ∷ w₄) k a Any Any (kind-reads k)
    (bind-reads (byte 9) _ (9 ∷ []) w₄ tt a Any Any (byte_reads 9)
    (texted-reads x true a (λ x. allowed (made t n k x)) (λ x. shown (made t n k x)) h.1 h.0 refl)
    (λ y g. tt)) (λ y g. tt)) (λ y g. tt))
    (λ y g. tab-ends (w₃ ++ y))) (λ y g. tt))
    (λ y g. tab-ends (w₂ ++ y))) (λ y g. tt))

pub entry-reads : (e : Entry) → Good e → Reads entry (line_of e) e Any
unfolding entry line_of id_line none_line method_line reason_line property_line line
entry-reads (identified i) h = first_reads id_entry _ (line_of (identified i)) (identified i) Any (id-reads i h)
entry-reads unstated h =
    second_reads id_entry _ (line_of unstated) unstated Any (λ t g. not-id _ _ refl) (first_reads none_entry _ (line_of unstated) unstated Any none-reads-line)
entry-reads (judged m r) h =
    let w = line_of (judged m r) in
    second_reads id_entry _ w (judged m r) Any (λ t g. not-id _ _ refl)
    (second_reads none_entry _ w (judged m r) Any (λ t g. not_none _ _ refl) (first_reads method_entry _ w (judged m r) Any (method-reads m r h)))
entry-reads (reasoned x) h =
    let w = line_of (reasoned x) in
    second_reads id_entry _ w (reasoned x) Any (λ t g. not-id _ _ refl)
    (second_reads none_entry _ w (reasoned x) Any (λ t g. not_none _ _ refl)
    (second_reads method_entry _ w (reasoned x) Any (λ t g. not-method _ _ refl) (first_reads reason_entry _ w (reasoned x) Any (reason-reads x h))))
entry-reads (shown p) h =
    let w = line_of (shown p) in
    second_reads id_entry _ w (shown p) Any (λ t g. not-id _ _ refl)
    (second_reads none_entry _ w (shown p) Any (λ t g. not_none _ _ refl)
    (second_reads method_entry _ w (shown p) Any (λ t g. not-method _ _ refl)
    (second_reads reason_entry _ w (shown p) Any (λ t g. not-reason _ _ refl) (property-reads p h))))

-- ==== read and written

abbrev pub Lined : Entry → List ℕ → Type 0
Lined e u = (u ≡ line_of e) × Good e

-- a text, LF, a test and a value, behind what was read before
texted-finds : (J : List ℕ → List ℕ) (f : List ℕ → Bool) (g : List ℕ → Entry)
    → ((t : List ℕ) → f t ≡ true → Bytes t → (line_of (g t) ≡ J (escape t ++ (10 ∷ []))) × Good (g t))
    → Finds (◌>>=◌ coded (λ t. ◌>>◌ (byte 10) (◌>>◌ (when (f t)) (give (g t))))) (λ e u. Lined e (J u))
texted-finds J f g H =
    bind-finds coded _ (λ t u. (u ≡ escape t) × Bytes t) (λ e u. Lined e (J u)) coded-finds
    (λ t u i. bind-finds (byte 10) _ (λ a w. w ≡ 10 ∷ []) (λ e w. Lined e (J (u ++ w))) (byte-finds 10)
    (λ a w j. bind-finds (when (f t)) _ (λ a x. (f t ≡ true) × (x ≡ [])) (λ e x. Lined e (J (u ++ (w ++ x)))) (when-finds (f t))
    (λ b x k xs e n q. let z = give-finds (g t) xs e n q in let h = H t k.0 i.1 in rw (← z.0, z.1, k.1, j, i.0) (sym h.0, h.1))))

id-finds : Finds id_entry Lined
unfolding id_entry
id-finds =
    bind-finds (literal (bytes "id\t")) _ (λ a u. u ≡ bytes "id\t") Lined (literal-finds (bytes "id\t"))
    (λ a u i. texted-finds (λ w. u ++ w) is_text identified (λ t e b. (rw i (id-shape t), (e, b))))

none-finds : Finds none_entry Lined
unfolding none_entry
none-finds =
    bind-finds (literal (bytes "none\n")) _ (λ a u. u ≡ bytes "none\n") Lined (literal-finds (bytes "none\n"))
    (λ a u i xs e n q. let z = give-finds unstated xs e n q in rw (← z.0, z.1, i) (sym none-shape, tt))

reason-finds : Finds reason_entry Lined
unfolding reason_entry
reason-finds =
    bind-finds (literal (bytes "r\t")) _ (λ a u. u ≡ bytes "r\t") Lined (literal-finds (bytes "r\t"))
    (λ a u i. texted-finds (λ w. u ++ w) is_text reasoned (λ t e b. (rw i (reason-shape t), (e, b))))

abbrev Columned : List ℕ → List ℕ → Type 0
Columned a u = (a ≡ u) × (whole keyword a ≡ true)

method-finds : Finds method_entry Lined
unfolding method_entry
method-finds =
    bind-finds (literal (bytes "m\t")) _ (λ a u. u ≡ bytes "m\t") Lined (literal-finds (bytes "m\t"))
    (λ a u₀ i₀. bind-finds (text keyword) _ Columned (λ e w. Lined e (u₀ ++ w)) column-finds
    (λ m u₁ i₁. bind-finds (byte 9) _ (λ a w. w ≡ 9 ∷ []) (λ e w. Lined e (u₀ ++ (u₁ ++ w))) (byte-finds 9)
    (λ a u₂ i₂. bind-finds (text keyword) _ Columned (λ e w. Lined e (u₀ ++ (u₁ ++ (u₂ ++ w)))) column-finds
    (λ r u₃ i₃. bind-finds (byte 10) _ (λ a w. w ≡ 10 ∷ []) (λ e w. Lined e (u₀ ++ (u₁ ++ (u₂ ++ (u₃ ++ w))))) (byte-finds 10)
    (λ a u₄ i₄. bind-finds (when (tabled table m r)) _ (λ a x. (tabled table m r ≡ true) × (x ≡ [])) (λ e w. Lined e (u₀ ++ (u₁ ++ (u₂ ++ (u₃ ++ (u₄ ++ w)))))) (when-finds (tabled table m r))
    (λ b u₅ i₅ xs e n q. let z = give-finds (judged m r) xs e n q in rw (← z.0, z.1, i₀, ← i₁.0, i₂, ← i₃.0, i₄, i₅.1) (sym (method-shape m r), i₅.0)))))))

property-finds : Finds property_entry Lined
unfolding property_entry
property-finds =
    bind-finds (literal (bytes "p\t")) _ (λ a u. u ≡ bytes "p\t") Lined (literal-finds (bytes "p\t"))
    (λ a u₀ i₀. bind-finds (text keyword) _ Columned (λ e w. Lined e (u₀ ++ w)) column-finds
    (λ t u₁ i₁. bind-finds (byte 9) _ (λ a w. w ≡ 9 ∷ []) (λ e w. Lined e (u₀ ++ (u₁ ++ w))) (byte-finds 9)
    (λ a u₂ i₂. bind-finds (text keyword) _ Columned (λ e w. Lined e (u₀ ++ (u₁ ++ (u₂ ++ w)))) column-finds
    (λ r u₃ i₃. bind-finds (byte 9) _ (λ a w. w ≡ 9 ∷ []) (λ e w. Lined e (u₀ ++ (u₁ ++ (u₂ ++ (u₃ ++ w))))) (byte-finds 9)
    (λ a u₄ i₄. bind-finds kind_letter _ (λ k u. u ≡ letter_of k) (λ e w. Lined e (u₀ ++ (u₁ ++ (u₂ ++ (u₃ ++ (u₄ ++ w)))))) kind-finds
    (λ k u₅ i₅. bind-finds (byte 9) _ (λ a w. w ≡ 9 ∷ []) (λ e w. Lined e (u₀ ++ (u₁ ++ (u₂ ++ (u₃ ++ (u₄ ++ (u₅ ++ w))))))) (byte-finds 9)
    (λ a u₆ i₆. texted-finds (λ w. u₀ ++ (u₁ ++ (u₂ ++ (u₃ ++ (u₄ ++ (u₅ ++ (u₆ ++ w))))))) (λ x. allowed (made t r k x)) (λ x. shown (made t r k x))
    (λ x h b. (rw (i₀, ← i₁.0, i₂, ← i₃.0, i₄, i₅, i₆) (property-shape (made t r k x)), (h, b))))))))))

pub entry-finds : Finds entry Lined
unfolding entry
entry-finds =
    either-finds id_entry _ Lined id-finds (either-finds none_entry _ Lined none-finds (either-finds method_entry _ Lined method-finds (either-finds reason_entry _ Lined reason-finds property-finds)))
