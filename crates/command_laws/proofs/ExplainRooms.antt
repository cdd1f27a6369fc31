-- 786,432 bytes have room for what `explain` says of any block. What is said of lines is at most 42 bytes and what they cost (`explained-added`): what their bytes
-- weigh, and our own words for each. Each line costs at most nine bytes for each byte of the body that it reports; a field costs 359 more.
use Prim.Native.Nat.{ℕ, suc, ◌+◌, ◌*◌, ◌-◌, ◌≤◌, ◌<◌}
use native.Mathlib.Omega.{arith}
use mathlib.Core.Path.{◌≡◌, refl, sym, ap, ◌∙◌, subst}
use mathlib.Core.Bool.{Bool, true, false}
use mathlib.Core.List.{List, [], ◌∷◌, ◌++◌, append-nil}
use lib.Dec.{eqb, lit≤}
use lib.ListN.{length, take, drop, length-append, length-drop, length-take}
use borrow.Author.Tests.{eqb-true, eqb-false}
use Rattle.base_readers.specs.Texts.{bytes, within, follows}
use Rattle.base_readers.specs.Lines.{lines_of}
use Rattle.base_readers.specs.Parsers.{Got, nothing, got, ahead, text, optional}
use Rattle.base_readers.proofs.Sequencing.{text-inv, Perhaps, absent, present, optional-inv}
use Rattle.text_decimals_rules.specs.Decimals.{decimal}
use Rattle.lexis_rules.specs.Limits.{byte_limit}
use Rattle.lexis_rules.specs.declared.Class.TheVariants.{Digit, Delimiter}
use Rattle.lexis_rules.specs.Bytes.{alike, in_class}
use Rattle.lexis_rules.specs.Numbers.{number_of, is_one}
use Rattle.lexis_rules.specs.Pieces.{digits, leading}
use Rattle.lexis_rules.specs.Words.{value_text, counted, skip, gap, read_digits}
use Rattle.block_rules.specs.Fields.{Field, name_of, body_of, fields, bytes_of}
use Rattle.block_laws.proofs.Fields.{fields-fine}
use Rattle.identifier_rules.specs.Identifier.{identifier_value, identifier}
use Rattle.identifier_rules.specs.Version.{stated, header_version}
use Rattle.ownlist_rules.specs.declared.Own.{Own}
use Rattle.ownlist_rules.specs.declared.Own.TheVariants.{Ours, Others, Unreadable}
use Rattle.ownlist_rules.specs.OwnList.{own_list}
use Rattle.ownlist_rules.specs.Listed.{own_of}
use Rattle.report_rules.specs.Body.{Head, Reading, head, payload, headed, reading}
use Rattle.report_rules.specs.ByCase.{text_of, count_of}
use Rattle.report_rules.specs.ByCase as cases
use Rattle.report_laws.proofs.Counts.{count-size}
use Rattle.report_laws.proofs.Heads.{head-within, identifier-within}
use Rattle.report_laws.proofs.Readings as readings
use Rattle.report_laws.proofs.Readings.{Payload, payload-cases}
use Rattle.report_laws.proofs.Sizes.{resinfos-within}
use Rattle.report_laws.proofs.Weights.{text-sized, value-short}
use Rattle.blockreport_rules.specs.declared.Detail.TheVariants.{Identified}
use Rattle.blockreport_rules.specs.FieldLines.{word_of, field_line, identifier_line}
use Rattle.blockreport_rules.specs.BlockReport.{detail_line, body_lines, addition, additions}
use Rattle.blockreport_rules.specs.Terms.{block_text, Known}
use Rattle.blockreport_laws.proofs.WithIdentifiers.{nine-malformed, detail-nine, detail-not-nine}
use Rattle.blockreport_laws.proofs.Sizes.{number_size}
use Rattle.blockreport_laws.proofs.Rooms.{field-line-room, body-size}
use Rattle.explain_rules.specs.Explained.{explained}
use Rattle.explain_rules.specs.Promise.{weight, weighed, added}
use Rattle.explain_rules.proofs.PlainAndShort.{explained-added}
use Rattle.explain_rules.proofs.Lengths.{weighed-most}
use Rattle.report_rules.specs.Report.{escape, line, id_line, version_line, none_line}
use Rattle.command_laws.proofs.LastLines.{decimal-digits}
use Rattle.command_laws.proofs.LineCosts.{cost, Costs, nothing-costs, costs-more, both-cost, Still, still-take, still-drop, digits-still, row, line_row, row-costs, tab-still, tab-weight, light, coded, empty, then}
use Rattle.command_laws.proofs.ResultCosts.{Prices, bind-prices, give-prices, any-prices, run-still, opened, version-kind, identifier-kind, field-kind, one-weight, resinfos-prices}

-- ==== the head of a body

identifier-costs : (i : List ℕ) → Costs (id_line i) (39 + 8 * length i)
unfolding id_line weighed
identifier-costs i =
    let c = coded i in
    row-costs (bytes "id") (escape i ∷ []) _ (then refl (then refl (then refl c.still)))
    (omega (arith, identifier-kind (escape i), light 105 (lit≤ tt) (lit≤ tt), light 100 (lit≤ tt) (lit≤ tt), tab-weight [] (escape i), c.light))

version-costs : (v : List ℕ) → Still v → Costs (version_line v) (34 + 4 * length v)
unfolding version_line
version-costs v s =
    row-costs (bytes "v") (v ∷ []) _ (then refl (then refl s))
    (omega (arith, version-kind v, one-weight 118 v (lit≤ tt) (lit≤ tt), weighed-most v))

none-costs : Costs none_line 43
unfolding none_line opened weighed weight within
none-costs = row-costs (bytes "none") [] 43 (then refl (then refl (then refl (then refl empty)))) (lit≤ tt)

identifier-prices : Prices identifier (λ i n. length i ≤ n)
unfolding identifier
identifier-prices =
    bind-prices skip _ (λ u n. 0 ≤ n) (λ i n. length i ≤ n) (any-prices skip)
    (λ u a o. bind-prices (text identifier_value) _ (λ v n. length v ≤ n) (λ i n. length i ≤ a + n) (λ xs v n h. omega (arith, (text-sized identifier_value).bound xs v n h))
    (λ v b l. bind-prices (ahead (in_class Delimiter)) _ (λ u n. 0 ≤ n) (λ i n. length i ≤ a + (b + n)) (any-prices (ahead (in_class Delimiter)))
    (λ u c o. give-prices (value_text v) (λ i n. length i ≤ a + (b + (c + n))) (omega (arith, l, value-short v)))))

record Numbered (v : List ℕ) (n : ℕ) : Type 0 where
  still : Still v
  short : length v ≤ n

digits-prices : Prices read_digits Numbered
unfolding read_digits counted
digits-prices =
    bind-prices (text digits) _ Numbered Numbered
    (λ xs d n h. let w = text-inv digits xs d n h in
    record {
      still = subst (λ (t : List ℕ). Still t) (sym (w.is ∙ ap (λ (k : ℕ). take k xs) (sym w.takes))) (run-still (in_class Digit) (unfold in_class within in refl) xs);
      short = omega (arith, (text-sized digits).bound xs d n h);
    })
    (λ d a w. give-prices (counted d) (λ v n. Numbered v (a + n))
    (record {
      still = still-take (digits d - leading d) (still-drop (leading d) w.still);
      short = omega (arith, w.short, length-take (digits d - leading d) (drop (leading d) d), length-drop (leading d) d);
    }))

record Headed (h : Head) (n : ℕ) : Type 0 where
  still : Still h.version
  paid : 8 * length h.identifier + 4 * length h.version ≤ 9 * n + 4

stated-prices : Prices stated Numbered
unfolding stated
stated-prices =
    bind-prices gap _ (λ u n. 0 ≤ n) Numbered (any-prices gap)
    (λ u a o xs v n h. let w = digits-prices xs v n h in record { still = w.still; short = omega (arith, w.short) })

-- an absent version is one digit
version-prices : Prices (optional stated) (λ o n. Still (header_version o) × (length (header_version o) ≤ 1 + n))
unfolding header_version
version-prices xs o n h = go (optional-inv stated xs o n h)
  where
    go : Perhaps stated xs o n → Still (header_version o) × (length (header_version o) ≤ 1 + n)
    go (absent e i l) = rw i (then refl empty, omega arith)
    go (present v e i) = let w = stated-prices xs v n e in rw i (w.still, omega (arith, w.short))

head-prices : Prices head Headed
unfolding head
head-prices =
    bind-prices identifier _ (λ i n. length i ≤ n) Headed identifier-prices
    (λ i a l. bind-prices (optional stated) _ (λ o n. Still (header_version o) × (length (header_version o) ≤ 1 + n)) (λ h n. Headed h (a + n)) version-prices
    (λ v b w. give-prices (record { identifier = i; version = header_version v }) (λ h n. Headed h (a + (b + n)))
    (record { still = w.0; paid = omega (arith, l, w.1) })))

-- ==== the report of a body

payload-costs : (i xs : List ℕ) → Costs (text_of (payload i xs)) (82 + 8 * length i + 9 * length xs)
payload-costs i xs = go (payload-cases i xs)
  where
    go : Payload i xs → Costs (text_of (payload i xs)) (82 + 8 * length i + 9 * length xs)
    go (readings.neither e) = rw e (nothing-costs _)
    go (readings.word n h e) = rw e (costs-more (both-cost (identifier-costs i) none-costs) (omega arith))
    go (readings.some rs n h e) = rw e (costs-more (both-cost (identifier-costs i) (resinfos-prices xs rs n h)) (omega (arith, (resinfos-within xs rs n h).0)))

headed-costs : (h : Head) (n : ℕ) (xs : List ℕ) → Headed h n → Costs (text_of (headed h xs)) (86 + 9 * n + 9 * length xs)
unfolding headed
headed-costs h n xs w = go (follows (in_class Delimiter) xs) (is_one (number_of h.version)) refl refl
  where
    go : (f v : Bool) → follows (in_class Delimiter) xs ≡ f → is_one (number_of h.version) ≡ v → Costs (text_of (headed h xs)) (86 + 9 * n + 9 * length xs)
    go false v d e = rw (headed, d) (nothing-costs _)
    go true true d e = rw (headed, d, e) (costs-more (payload-costs h.identifier xs) (omega (arith, w.paid)))
    go true false d e =
        rw (headed, d, e) (costs-more (both-cost (identifier-costs h.identifier) (version-costs h.version w.still)) (omega (arith, w.paid)))

reading-costs : (b : List ℕ) → Costs (text_of (reading b)) (86 + 9 * length b)
unfolding reading
reading-costs b = go (head b) refl
  where
    go : (g : Got Head) → head b ≡ g → Costs (text_of (reading b)) (86 + 9 * length b)
    go nothing e = rw (reading, e) (nothing-costs _)
    go (got h n) e =
        rw (reading, e) (costs-more (headed-costs h n (drop n b) (head-prices b h n e)) (omega (arith, (head-within b h n e).0, length-drop n b)))

-- ==== a field

word-still : (o : Own) → Still (word_of o)
unfolding word_of
word-still Ours = then refl (then refl (then refl empty))
word-still Others = then refl (then refl (then refl (then refl (then refl empty))))
word-still Unreadable = then refl (then refl (then refl (then refl (then refl (then refl (then refl (then refl (then refl (then refl empty)))))))))

field-costs : (n : ℕ) (o : Own) (a i : ℕ) → n < 1000 → a < 10 → i < 1000000 → Costs (field_line n o a i) 295
unfolding field_line
field-costs n o a i p q r =
    let cs = decimal n ∷ word_of o ∷ decimal a ∷ decimal i ∷ [] in
    let s = row (bytes "field" ∷ cs) in
    let l : length (line (bytes "field" ∷ cs)) ≡ length s + 1 = ap length (line_row (bytes "field") cs) ∙ length-append s (10 ∷ []) in
    row-costs (bytes "field") cs 295
    (then refl (then refl (then refl (then refl (then refl (then refl
    (tab-still (digits-still (decimal-digits n)) (tab-still (word-still o) (tab-still (digits-still (decimal-digits a)) (digits-still (decimal-digits i)))))))))))
    (omega (arith, field-kind (row cs), weighed-most s, l, field-line-room n o a i p q r))

-- the report of a body, or where that answers 9 the line of its identifier
detailed-costs : (body : List ℕ) → Costs (text_of (reading body) ++ detail_line Identified (cases.number_of (reading body)) (identifier body)) (86 + 9 * length body)
unfolding identifier_line
detailed-costs body = go (eqb (cases.number_of (reading body)) 9) refl
  where
    read : (g : Got (List ℕ)) → identifier body ≡ g → Costs (identifier_line g) (86 + 9 * length body)
    read nothing e = nothing-costs _
    read (got i n) e = costs-more (identifier-costs i) (omega (arith, identifier-prices body i n e, (identifier-within body i n e).0))

    go : (t : Bool) → eqb (cases.number_of (reading body)) 9 ≡ t
        → Costs (text_of (reading body) ++ detail_line Identified (cases.number_of (reading body)) (identifier body)) (86 + 9 * length body)
    go true e =
        let m = nine-malformed (reading body) (eqb-true _ 9 e) in
        rw (m, detail-nine (identifier body)) (read (identifier body) refl)
    go false e =
        let d = detail-not-nine Identified (cases.number_of (reading body)) (identifier body) (eqb-false _ 9 e) in
        rw (d, append-nil (text_of (reading body))) (reading-costs body)

module _ (whose : Got (List ℕ) → Own) where
  addition-costs : (n : ℕ) (name body : List ℕ) → n < 1000 → length body ≤ byte_limit → Costs (addition Identified whose n name body) (381 + 9 * length body)
  unfolding addition body_lines
  addition-costs n name body p h = go (alike name (bytes "Authentication-Results")) refl
    where
      x : Reading
      x = reading body

      go : (t : Bool) → alike name (bytes "Authentication-Results") ≡ t → Costs (addition Identified whose n name body) (381 + 9 * length body)
      go false e = rw (addition, e) (nothing-costs _)
      go true e =
          rw (addition, e)
          (costs-more
          (both-cost (field-costs n (whose (identifier body)) (cases.number_of x) (count_of x) p (omega (arith, number_size x)) (omega (arith, count-size body, h))) (detailed-costs body))
          (omega arith))

  additions-cost : (n : ℕ) (fs : List Field) → n + length fs ≤ 1000 → length (bytes_of fs) ≤ byte_limit
      → Costs (additions Identified whose n fs) (381 * length fs + 9 * length (bytes_of fs))
  unfolding additions bytes_of
  additions-cost n [] p h = nothing-costs _
  additions-cost n (f ∷ fs) p h =
      let l = length-append f.bytes (bytes_of fs) in
      let b = body-size f in
      costs-more
      (both-cost (addition-costs n (name_of f) (body_of f) (omega (arith, p)) (omega (arith, h, l, b))) (additions-cost (suc n) fs (omega (arith, p)) (omega (arith, h, l))))
      (omega (arith, l, b))

-- ==== a block

-- what is said in words of the report of any block that is not refused
pub explained-fits : (block list : List ℕ) → Known block list → length (explained (block_text Identified block list)) ≤ 786432
unfolding lines_of weighed added
explained-fits block list k =
    let t = block_text Identified block list in
    let w = fields-fine block k.1.1 in
    let s = ap length w.bytes in
    let c = (additions-cost (own_of (own_list list).items) 1 (fields block).items (omega (arith, w.few)) (omega (arith, s, k.0))).bound [] in
    let d : cost t ≤ 381 * length (fields block).items + 9 * length (bytes_of (fields block).items) + cost [] = rw (append-nil t) at c in
    omega (arith, explained-added t, d, s, k.0, w.few)
