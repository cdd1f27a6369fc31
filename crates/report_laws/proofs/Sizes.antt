-- A report is at most three times as long as its body, and four bytes: each line is no longer than three times the part of the body that
-- it reports, by the columns of a line and the weights of the parts, and so is the whole.
use Prim.Native.Char.{code}
use Prim.Native.Nat.{ℕ, suc, ◌+◌, ◌*◌, ◌≤◌}
use native.Mathlib.Omega.{arith}
use mathlib.Core.Path.{◌≡◌, refl, ap, ◌∙◌}
use mathlib.Core.Bool.{Bool, true, false, cond}
use mathlib.Core.List.{List, [], ◌∷◌, ◌++◌}
use mathlib.Core.Option.{some}
use lib.Dec.{leb}
use lib.ListN.{length, drop, length-append, length-drop}
use Rattle.base_readers.specs.Texts.{bytes, follows}
use Rattle.base_readers.specs.Parsers.{Got, nothing, got, give, end, optional, several}
use Rattle.base_readers.specs.Locality.{Within}
use Rattle.base_readers.proofs.Bounds.{within-weaker, bind-within, bind-within₂, give-within, ahead_within, end-within, byte-within, optional-within, several-within}
use Rattle.lexis_rules.specs.Limits.{byte_limit}
use Rattle.lexis_rules.specs.declared.Class.TheVariants.{Delimiter}
use Rattle.lexis_rules.specs.Bytes.{in_class}
use Rattle.lexis_rules.specs.Words.{value_text, skip, read_word}
use Rattle.lexis_rules.specs.Numbers.{number_of, is_one}
use Rattle.lexis_laws.proofs.Steadiness.{skip-within, word-within}
use Rattle.identifier_rules.specs.Identifier.{identifier_value, identifier}
use Rattle.identifier_rules.specs.Version.{stated, header_version}
use Rattle.result_rules.specs.Results.{Kind, Token, Quoted, Mailbox, AtDomain, Property, Methodspec, Result, separator, or_one, method_version, methodspec, reason, property, result}
use Rattle.result_rules.specs.Table.{understood}
use Rattle.result_laws.proofs.Following.{separator-within}
use Rattle.result_laws.proofs.Results.{method-version-within}
use Rattle.report_rules.specs.Body.{Head, Reading, unreadable, malformed, newer, no_result, results, head, resinfo, resinfos, word_none, payload, headed, reading}
use Rattle.report_rules.specs.Report.{plain, escape, line, id_line, version_line, none_line, method_line, reason_line, letter_of, property_line, property_lines, result_lines, lines, refusal, fitted, answer, report}
use Rattle.report_rules.proofs.Unfolding.{opened}
use Rattle.report_laws.proofs.Weights.{Sized, thrice, bind-sized, sized-more, give-sized, optional-sized, several-sized, within-sized, text-sized, value-short, keyword-sized, value-sized, digits-sized, gap-sized, separator-sized, skip-sized, of_value, property-value-sized}
use Rattle.report_laws.proofs.Heads.{head-within}
use Rattle.report_laws.proofs.Readings.{Payload, neither, word, some, payload-cases}
use Rattle.report_laws.proofs.Sequence.{resinfo-within}

-- ==== lines

-- each byte becomes one or three
escape-short : (xs : List ℕ) → length (escape xs) ≤ 3 * length xs
unfolding escape
escape-short [] = omega arith
escape-short (x ∷ xs) = go (escape-short xs) (plain x) refl
  where
    go : length (escape xs) ≤ 3 * length xs → (t : Bool) → plain x ≡ t → length (escape (x ∷ xs)) ≤ 3 * suc (length xs)
    go ih true e = rw (escape, e) (omega (arith, ih))
    go ih false e = rw (escape, e) (omega (arith, ih))

-- the columns of a line, with the byte behind each
abbrev columns : List (List ℕ) → ℕ
columns [] = 0
columns (c ∷ cs) = length c + (1 + columns cs)

line-size : (c : List ℕ) (cs : List (List ℕ)) → length (line (c ∷ cs)) ≡ columns (c ∷ cs)
unfolding line
line-size c [] = length-append c (code "\n" ∷ [])
line-size c (d ∷ ds) = length-append c (code "\t" ∷ line (d ∷ ds)) ∙ ap (λ (k : ℕ). length c + suc k) (line-size d ds) ∙ omega arith

id-line : (i : List ℕ) → length (id_line i) ≤ thrice i + 4
unfolding id_line
id-line i = omega (arith, line-size (bytes "id") (escape i ∷ []), escape-short i)

version-line : (v : List ℕ) → length (version_line v) ≡ length v + 3
unfolding version_line
version-line v = line-size (bytes "v") (v ∷ []) ∙ omega arith

none-line : length none_line ≡ 5
unfolding none_line line
none-line = refl

method-line : (m : Methodspec) → length (method_line m) ≡ length m.method + (length m.result + 4)
unfolding method_line
method-line m = line-size (bytes "m") (m.method ∷ m.result ∷ []) ∙ omega arith

reason-line : (r : List ℕ) → length (reason_line (some r)) ≤ thrice r + 3
unfolding reason_line
reason-line r = omega (arith, line-size (bytes "r") (escape r ∷ []), escape-short r)

letter-size : (k : Kind) → length (letter_of k) ≡ 1
unfolding letter_of
letter-size Token = refl
letter-size Quoted = refl
letter-size Mailbox = refl
letter-size AtDomain = refl

property-line : (p : Property) → length (property_line p) ≤ length p.ptype + (length p.property + (of_value p.value + 7))
unfolding property_line
property-line p =
    let l = letter_of p.value.kind in
    let t = escape p.value.text in
    omega (arith, line-size (bytes "p") (p.ptype ∷ p.property ∷ l ∷ t ∷ []), letter-size p.value.kind, escape-short p.value.text)

-- ==== results

property-sized : Sized (λ p. length (property_line p)) 0 property
unfolding property
property-sized =
    bind-sized gap-sized
    (λ u. bind-sized keyword-sized
    (λ t. bind-sized (separator-sized (code "."))
    (λ u. bind-sized keyword-sized
    (λ p. bind-sized (separator-sized (code "="))
    (λ u. bind-sized property-value-sized
    (λ v. let a : Property = record { ptype = t; property = p; value = v } in give-sized a (omega (arith, property-line a))))))))

properties-sized : Sized (λ ps. length (property_lines ps)) 0 (several property 0)
unfolding property_lines
properties-sized =
    several-sized (λ ps. length (property_lines ps)) refl (λ p ps. omega (arith, length-append (property_line p) (property_lines ps))) property-sized

reason-sized : Sized (λ r. length (reason_line (some r))) 0 reason
unfolding reason
reason-sized =
    bind-sized gap-sized
    (λ u. bind-sized (within-sized 1 (word-within (bytes "reason")))
    (λ u. bind-sized (separator-sized (code "=")) (λ u. sized-more _ (λ r. omega (arith, reason-line r)) value-sized)))

optional-reason-sized : Sized (λ o. length (reason_line o)) 0 (optional reason)
optional-reason-sized = optional-sized (λ o. length (reason_line o)) (unfold reason_line in refl) (λ r. omega arith) reason-sized

methodspec-sized : Sized (λ m. thrice m.method + (thrice m.result + 3)) 0 methodspec
unfolding methodspec
methodspec-sized =
    bind-sized keyword-sized
    (λ m. bind-sized (within-sized 0 (optional-within 1 method_version method-version-within))
    (λ v. bind-sized (separator-sized (code "="))
    (λ u. bind-sized keyword-sized
    (λ r. give-sized (record { method = m; version = or_one v; result = r }) (omega arith)))))

result-lines : (r : Result) → length (result_lines r)
    ≡ length (method_line r.methodspec) + (length (reason_line r.reason) + length (property_lines r.properties))
unfolding result_lines
result-lines r = simp length-append refl

result-sized : Sized (λ r. length (result_lines r)) 0 result
unfolding result
result-sized =
    bind-sized (within-sized 1 (byte-within (code ";")))
    (λ u. bind-sized skip-sized
    (λ u. bind-sized methodspec-sized
    (λ m. bind-sized optional-reason-sized
    (λ r. bind-sized properties-sized
    (λ ps. let a : Result = record { methodspec = m; reason = r; properties = ps } in give-sized a (omega (arith, result-lines a, method-line m)))))))

resinfo-sized : Sized (λ r. length (result_lines r)) 0 resinfo
unfolding resinfo
resinfo-sized = bind-sized skip-sized (λ u. sized-more _ (λ r. omega arith) result-sized)

-- an ignored result has no lines
lines_more : (r : Result) (rs : List Result) → length (lines (r ∷ rs)) ≤ length (result_lines r) + length (lines rs)
unfolding lines
lines_more r rs = go (understood r) refl
  where
    go : (t : Bool) → understood r ≡ t → length (lines (r ∷ rs)) ≤ length (result_lines r) + length (lines rs)
    go true e = rw (lines, e) (omega (arith, length-append (result_lines r) (lines rs)))
    go false e = rw (lines, e) (omega arith)

lines-sized : Sized (λ rs. length (lines rs)) 0 (several resinfo 0)
lines-sized = several-sized (λ rs. length (lines rs)) (unfold lines in refl) lines_more resinfo-sized

-- ==== identifier and header version

identifier-sized : Sized thrice 0 identifier
unfolding identifier
identifier-sized =
    bind-sized skip-sized
    (λ u. bind-sized (text-sized identifier_value)
    (λ v. bind-sized (within-sized 0 (ahead_within (in_class Delimiter))) (λ u. give-sized (value_text v) (omega (arith, value-short v)))))

stated-sized : Sized (λ v. length (version_line v)) 0 stated
unfolding stated
stated-sized = bind-sized gap-sized (λ u. sized-more _ (λ v. omega (arith, version-line v)) digits-sized)

-- ==== what is written of each part, by the bytes that the part takes

pub resinfo-size : (xs : List ℕ) (r : Result) (n : ℕ) → resinfo xs ≡ got r n → length (result_lines r) ≤ 3 * n
resinfo-size xs r n h = omega (arith, resinfo-sized.bound xs r n h)

pub lines-size : (xs : List ℕ) (rs : List Result) (n : ℕ) → several resinfo 0 xs ≡ got rs n → length (lines rs) ≤ 3 * n
lines-size xs rs n h = omega (arith, lines-sized.bound xs rs n h)

pub id-size : (xs i : List ℕ) (n : ℕ) → identifier xs ≡ got i n → length (id_line i) ≤ 3 * n + 4
id-size xs i n h = omega (arith, id-line i, identifier-sized.bound xs i n h)

pub stated-size : (xs v : List ℕ) (n : ℕ) → stated xs ≡ got v n → length (version_line v) ≤ 3 * n
stated-size xs v n h = omega (arith, stated-sized.bound xs v n h)

-- ==== the whole report

-- what the line of a header version weighs, if one is written
abbrev of_version : List ℕ → ℕ
of_version v = cond (is_one (number_of v)) 0 (length (version_line v))

version-short : (v : List ℕ) → of_version v ≤ length (version_line v)
version-short v = go (is_one (number_of v))
  where
    go : (t : Bool) → cond t 0 (length (version_line v)) ≤ length (version_line v)
    go true = omega arith
    go false = omega arith

optional-stated-sized : Sized (λ o. of_version (header_version o)) 0 (optional stated)
unfolding opened
optional-stated-sized = optional-sized (λ o. of_version (header_version o)) refl version-short stated-sized

head-sized : Sized (λ h. length (id_line h.identifier) + of_version h.version) 4 head
unfolding head
head-sized =
    bind-sized identifier-sized
    (λ i. bind-sized optional-stated-sized (λ v. give-sized (record { identifier = i; version = header_version v }) (omega (arith, id-line i))))

resinfos-sized : Sized (λ rs. length (lines rs)) 0 resinfos
unfolding resinfos
resinfos-sized =
    bind-sized lines-sized
    (λ rs. bind-sized skip-sized (λ u. bind-sized (within-sized 0 end-within) (λ u. give-sized rs (omega arith))))

pub resinfos-within : Within 0 resinfos
unfolding resinfos
resinfos-within =
    bind-within 0 (several resinfo 0) _ (several-within 1 resinfo resinfo-within)
    (λ rs. bind-within 0 skip _ skip-within (λ u. bind-within 0 end (λ u. give rs) end-within (λ u. give-within rs)))

none-sized : Sized (λ u. length none_line) 0 word_none
unfolding word_none
none-sized =
    bind-sized (separator-sized (code ";"))
    (λ u. bind-sized (within-sized 1 (word-within (bytes "none")))
    (λ u. bind-sized skip-sized (λ u. sized-more _ (λ u. omega (arith, none-line)) (within-sized 0 end-within))))

none_within : Within 0 word_none
unfolding word_none
none_within =
    bind-within₂ 0 (separator (code ";")) _ (within-weaker 0 1 (separator (code ";")) (separator-within (code ";")) (omega arith))
    (λ u. bind-within₂ 0 (read_word (bytes "none")) _ (within-weaker 0 1 (read_word (bytes "none")) (word-within (bytes "none")) (omega arith))
    (λ u. bind-within 0 skip (λ u. end) skip-within (λ u. end-within)))

-- what is written of a body that says so much, where it fits
abbrev whole : Reading → List ℕ
whole unreadable = []
whole malformed = []
whole (newer h) = id_line h.identifier ++ version_line h.version
whole (no_result i) = id_line i ++ none_line
whole (results i rs) = id_line i ++ lines rs

fitted_short : (room n : ℕ) (out : List ℕ) (k : ℕ) → length (fitted room n out k).written ≤ length out
unfolding fitted refusal
fitted_short room n out k = go (leb (length out) room) refl
  where
    go : (t : Bool) → leb (length out) room ≡ t → length (fitted room n out k).written ≤ length out
    go true e = rw (fitted, e) (omega arith)
    go false e = rw (fitted, e) (omega arith)

answer-short : (room : ℕ) (r : Reading) → length (answer room r).written ≤ length (whole r)
unfolding answer refusal
answer-short room unreadable = omega arith
answer-short room malformed = omega arith
answer-short room (newer h) = fitted_short room 8 _ 0
answer-short room (no_result i) = fitted_short room 0 _ 0
answer-short room (results i rs) = fitted_short room 0 _ _

payload-size : (i xs : List ℕ) → length (whole (payload i xs)) ≤ length (id_line i) + 3 * length xs
payload-size i xs = go (payload-cases i xs)
  where
    go : Payload i xs → length (whole (payload i xs)) ≤ length (id_line i) + 3 * length xs
    go (neither e) = rw e (omega arith)
    go (word n h e) = rw e (omega (arith, length-append (id_line i) none_line, none-sized.bound xs tt n h, (none_within xs tt n h).0))
    go (some rs n h e) = rw e (omega (arith, length-append (id_line i) (lines rs), resinfos-sized.bound xs rs n h, (resinfos-within xs rs n h).0))

headed-size : (h : Head) (xs : List ℕ) → length (whole (headed h xs)) ≤ length (id_line h.identifier) + (of_version h.version + 3 * length xs)
unfolding headed
headed-size h xs = go (follows (in_class Delimiter) xs) (is_one (number_of h.version)) refl refl
  where
    go : (f v : Bool) → follows (in_class Delimiter) xs ≡ f → is_one (number_of h.version) ≡ v
        → length (whole (headed h xs)) ≤ length (id_line h.identifier) + (of_version h.version + 3 * length xs)
    go false v d e = rw (headed, d) (omega arith)
    go true true d e = rw (headed, d, e) (omega (arith, payload-size h.identifier xs))
    go true false d e = rw (headed, d, e) (omega (arith, length-append (id_line h.identifier) (version_line h.version)))

reading-size : (b : List ℕ) → length (whole (reading b)) ≤ 3 * length b + 4
unfolding reading
reading-size b = go (head b) refl
  where
    go : (g : Got Head) → head b ≡ g → length (whole (reading b)) ≤ 3 * length b + 4
    go nothing e = rw (reading, e) (omega arith)
    go (got h n) e =
        rw (reading, e) (omega (arith, headed-size h (drop n b), head-sized.bound b h n e, (head-within b h n e).0, length-drop n b))

pub report-size : (b : List ℕ) (room : ℕ) → length (report b room).written ≤ 3 * length b + 4
unfolding report refusal
report-size b room = go (leb (length b) byte_limit) refl
  where
    go : (t : Bool) → leb (length b) byte_limit ≡ t → length (report b room).written ≤ 3 * length b + 4
    go true e = rw (report, e) (omega (arith, answer-short room (reading b), reading-size b))
    go false e = rw (report, e) (omega arith)
