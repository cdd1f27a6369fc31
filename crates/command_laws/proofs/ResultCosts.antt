-- What the lines of a result cost where `explain` says them: at most nine bytes for each byte of the body that the result takes.
use Prim.Native.Nat.{ℕ, ◌+◌, ◌*◌, ◌≤◌}
use native.Mathlib.Omega.{arith}
use mathlib.Core.Path.{◌≡◌, refl, sym, ap, ◌∙◌, subst}
use mathlib.Core.Bool.{Bool, true, false, cond}
use mathlib.Core.List.{List, [], ◌∷◌, ◌++◌}
use mathlib.Core.Option.{some}
use lib.Dec.{lit≤}
use lib.ListN.{length, take, drop}
use Rattle.base_sequences.proofs.Booleans.{and_left, and_right}
use Rattle.base_readers.specs.Texts.{bytes, within, same}
use Rattle.base_readers.specs.Readers.{run}
use Rattle.base_readers.specs.Parsers.{got, Parser, ◌>>=◌, give, end, byte, optional, several}
use Rattle.base_readers.specs.Locality.{Within}
use Rattle.base_readers.proofs.Sequencing.{bind_inv, give-inv, Perhaps, absent, present, optional-inv}
use Rattle.base_readers.proofs.Bounds.{byte-within}
use Rattle.base_readers.proofs.Repeats.{Turn, stop, turn, several-inv}
use Rattle.lexis_rules.specs.declared.Class.TheVariants.{Keyword}
use Rattle.lexis_rules.specs.Bytes.{letter, in_class}
use Rattle.lexis_rules.specs.Words.{skip, gap, read_keyword, read_word}
use Rattle.lexis_laws.proofs.Steadiness.{gap_within, keyword-within, word-within}
use Rattle.result_rules.specs.Results.{Kind, Token, Quoted, Mailbox, AtDomain, Value, Property, Methodspec, separator, or_one, method_version, methodspec, reason, property, property_value, result}
use Rattle.result_laws.proofs.Following.{separator-within}
use Rattle.result_rules.specs.Table.{understood}
use Rattle.report_rules.specs.Body.{resinfo, resinfos}
use Rattle.report_laws.proofs.Weights.{keyword-sized, value-sized, property-value-sized}
use Rattle.write_rules.specs.Entries.{each}
use Rattle.write_laws.proofs.Keywords.{keyword-each, keyword-is, keyword-finds}
use Rattle.explain_rules.specs.Explained.{kind_of, kind_of_line}
use Rattle.explain_rules.specs.Promise.{weight, weighed, most}
use Rattle.explain_rules.proofs.Lengths.{weighed-most}
use Rattle.report_rules.specs.Report.{escape, method_line, reason_line, letter_of, property_line, property_lines, result_lines, lines}
use Rattle.command_laws.proofs.LineCosts.{Costs, nothing-costs, costs-more, both-cost, Still, class-still, row, row-costs, tab-still, tab-weight, light, coded, empty, then}

-- ==== what a parser yields, and how many bytes it takes

abbrev pub Prices : {A : Type 0} → Parser A → (A → ℕ → Type 0) → Type 0
Prices {A} p R = (xs : List ℕ) (a : A) (n : ℕ) → p xs ≡ got a n → R a n

pub bind-prices : {A B : Type 0} (p : Parser A) (q : A → Parser B) (R : A → ℕ → Type 0) (S : B → ℕ → Type 0) → Prices p R
    → ((a : A) (m : ℕ) → R a m → Prices (q a) (λ b n. S b (m + n))) → Prices (◌>>=◌ p q) S
bind-prices p q R S P Q xs b n h =
    let v = bind_inv p q xs b n h in
    subst (λ (k : ℕ). S b k) v.sum (Q v.val v.fst (P xs v.val v.fst v.reads) (drop v.fst xs) b v.snd v.goes)

pub give-prices : {A : Type 0} (a : A) (S : A → ℕ → Type 0) → S a 0 → Prices (give a) S
give-prices {A} a S s xs b n h =
    let v = give-inv a xs b n h in subst (λ (k : ℕ). S b k) (sym v.1) (subst (λ (c : A). S c 0) v.0 s)

-- so many bytes at least
within-prices : {A : Type 0} (k : ℕ) (p : Parser A) → Within k p → Prices p (λ a n. k ≤ n)
within-prices k p w xs a n h = (w xs a n h).1

pub any-prices : {A : Type 0} (p : Parser A) → Prices p (λ a n. 0 ≤ n)
any-prices p xs a n h = omega arith

-- ==== small pieces

pub run-still : (c : ℕ → Bool) → c 10 ≡ false → (xs : List ℕ) → Still (take (run c xs) xs)
unfolding run
run-still c z [] = empty
run-still c z (x ∷ xs) = go (c x) refl (run-still c z xs)
  where
    go : (t : Bool) → c x ≡ t → Still (take (run c xs) xs) → Still (take (run c (x ∷ xs)) (x ∷ xs))
    go true e s = rw (run, e) (then (class-still c z x e) s)
    go false e s = rw (run, e) empty

each-still : (c : ℕ → Bool) → c 10 ≡ false → (xs : List ℕ) → each c xs ≡ true → Still xs
unfolding each
each-still c z [] e = empty
each-still c z (x ∷ xs) e = then (class-still c z x (and_left (c x) (each c xs) e)) (each-still c z xs (and_right (c x) (each c xs) e))

-- a keyword: what it weighs in a line, and five bytes more, is paid for by what it takes
pub record Keyed (k : List ℕ) (n : ℕ) : Type 0 where
  pub still : Still k
  pub paid : 4 * length k + 5 ≤ 9 * n

keyed : Prices read_keyword Keyed
unfolding in_class letter within
keyed xs k n h =
    record {
      still = each-still (in_class Keyword) refl k (keyword-each k (keyword-is k (keyword-finds xs k n h)).0);
      paid = omega (arith, keyword-sized.bound xs k n h, (keyword-within xs k n h).1);
    }

abbrev Valued : Value → ℕ → Type 0
Valued v n = length v.text ≤ n

valued : Prices property_value Valued
valued xs v n h = omega (arith, property-value-sized.bound xs v n h)

-- ==== the lines of a result

letter-still : (k : Kind) → Still (letter_of k)
unfolding letter_of
letter-still Token = then refl empty
letter-still Quoted = then refl empty
letter-still Mailbox = then refl empty
letter-still AtDomain = then refl empty

letter-light : (k : Kind) → weighed (letter_of k) ≤ 4
unfolding letter_of weighed weight within
letter-light Token = omega arith
letter-light Quoted = omega arith
letter-light Mailbox = omega arith
letter-light AtDomain = omega arith

unfoldable pub opened : Unit {0}
unfolding run same kind_of most
opened = tt

property-kind : (rest : List ℕ) → most (kind_of_line (112 ∷ 9 ∷ rest)) ≡ 11
unfolding opened
property-kind rest = refl

method-kind : (rest : List ℕ) → most (kind_of_line (109 ∷ 9 ∷ rest)) ≡ 13
unfolding opened
method-kind rest = refl

reason-kind : (rest : List ℕ) → most (kind_of_line (114 ∷ 9 ∷ rest)) ≡ 12
unfolding opened
reason-kind rest = refl

pub version-kind : (rest : List ℕ) → most (kind_of_line (118 ∷ 9 ∷ rest)) ≡ 24
unfolding opened
version-kind rest = refl

pub identifier-kind : (rest : List ℕ) → most (kind_of_line (105 ∷ 100 ∷ 9 ∷ rest)) ≡ 27
unfolding opened
identifier-kind rest = refl

pub field-kind : (rest : List ℕ) → most (kind_of_line (102 ∷ 105 ∷ 101 ∷ 108 ∷ 100 ∷ 9 ∷ rest)) ≡ 175
unfolding opened
field-kind rest = refl

-- one letter and its column
pub one-weight : (x : ℕ) (b : List ℕ) → 32 ≤ x → x ≤ 126 → weighed (x ∷ 9 ∷ b) ≡ 6 + weighed b
unfolding weighed
one-weight x b l h = omega (arith, light x l h, tab-weight [] b)

property-costs : (p : Property) → Still p.ptype → Still p.property
    → Costs (property_line p) (37 + 4 * length p.ptype + 4 * length p.property + 8 * length p.value.text)
unfolding property_line
property-costs p s t =
    let l = letter_of p.value.kind in
    let v = escape p.value.text in
    let c = coded p.value.text in
    row-costs (bytes "p") (p.ptype ∷ p.property ∷ l ∷ v ∷ []) _
    (then refl (then refl (tab-still s (tab-still t (tab-still (letter-still p.value.kind) c.still)))))
    (omega (
      arith,
      property-kind (row (p.ptype ∷ p.property ∷ l ∷ v ∷ [])),
      one-weight 112 (row (p.ptype ∷ p.property ∷ l ∷ v ∷ [])) (lit≤ tt) (lit≤ tt),
      tab-weight p.ptype (row (p.property ∷ l ∷ v ∷ [])),
      tab-weight p.property (row (l ∷ v ∷ [])),
      tab-weight l v,
      weighed-most p.ptype,
      weighed-most p.property,
      letter-light p.value.kind,
      c.light,
    ))

method-costs : (m : Methodspec) → Still m.method → Still m.result → Costs (method_line m) (27 + 4 * length m.method + 4 * length m.result)
unfolding method_line
method-costs m s t =
    row-costs (bytes "m") (m.method ∷ m.result ∷ []) _ (then refl (then refl (tab-still s t)))
    (omega (
      arith,
      method-kind (row (m.method ∷ m.result ∷ [])),
      one-weight 109 (row (m.method ∷ m.result ∷ [])) (lit≤ tt) (lit≤ tt),
      tab-weight m.method m.result,
      weighed-most m.method,
      weighed-most m.result,
    ))

reason-costs : (r : List ℕ) → Costs (reason_line (some r)) (22 + 8 * length r)
unfolding reason_line
reason-costs r =
    let c = coded r in
    row-costs (bytes "r") (escape r ∷ []) _ (then refl (then refl c.still))
    (omega (arith, reason-kind (escape r), one-weight 114 (escape r) (lit≤ tt) (lit≤ tt), c.light))

-- ==== results, by the bytes that they take

property-prices : Prices property (λ p n. Costs (property_line p) (9 * n))
unfolding property
property-prices =
    bind-prices gap _ (λ u n. 1 ≤ n) (λ p n. Costs (property_line p) (9 * n)) (within-prices 1 gap gap_within)
    (λ u a i. bind-prices read_keyword _ Keyed (λ p n. Costs (property_line p) (9 * (a + n))) keyed
    (λ t b s. bind-prices (separator 46) _ (λ u n. 1 ≤ n) (λ p n. Costs (property_line p) (9 * (a + (b + n)))) (within-prices 1 (separator 46) (separator-within 46))
    (λ u c j. bind-prices read_keyword _ Keyed (λ p n. Costs (property_line p) (9 * (a + (b + (c + n))))) keyed
    (λ o d z. bind-prices (separator 61) _ (λ u n. 1 ≤ n) (λ p n. Costs (property_line p) (9 * (a + (b + (c + (d + n)))))) (within-prices 1 (separator 61) (separator-within 61))
    (λ u e k. bind-prices property_value _ Valued (λ p n. Costs (property_line p) (9 * (a + (b + (c + (d + (e + n))))))) valued
    (λ v f w. let x : Property = record { ptype = t; property = o; value = v } in
    give-prices x (λ p n. Costs (property_line p) (9 * (a + (b + (c + (d + (e + (f + n))))))))
    (costs-more (property-costs x s.still z.still) (omega (arith, i, s.paid, j, z.paid, k, w)))))))))

-- what is yielded over and over costs what all of it takes
several-prices : {A : Type 0} (p : Parser A) (w : A → List ℕ) (ws : List A → List ℕ) → ws [] ≡ [] → ((a : A) (l : List A) → ws (a ∷ l) ≡ w a ++ ws l)
    → Prices p (λ a n. Costs (w a) (9 * n)) → Prices (several p 0) (λ l n. Costs (ws l) (9 * n))
several-prices {A} p w ws z s P xs l n h = all l xs n h
  where
    all : (l : List A) (xs : List ℕ) (n : ℕ) → several p 0 xs ≡ got l n → Costs (ws l) (9 * n)
    all [] xs n h = rw z (nothing-costs (9 * n))
    all (a ∷ l) xs n h = go (λ ys k. all l ys k) (several-inv p xs (a ∷ l) n h)
      where
        go : ((ys : List ℕ) (k : ℕ) → several p 0 ys ≡ got l k → Costs (ws l) (9 * k)) → Turn p xs (a ∷ l) n → Costs (ws (a ∷ l)) (9 * n)
        go ih (stop e v) = absurd (let o : ◌≡◌ {A = ℕ} 0 1 = cc in omega arith)
        go ih (turn b m t k e h u v) =
            let i : b ≡ a = cc in
            let j : t ≡ l = cc in
            let c = P xs a m (e ∙ ap (λ (x : A). got x m) i) in
            let d = ih (drop m xs) k (h ∙ ap (λ (x : List A). got x k) j) in
            rw (s a l) (costs-more (both-cost c d) (omega (arith, v)))

reason-prices : Prices reason (λ r n. Costs (reason_line (some r)) (9 * n))
unfolding reason
reason-prices =
    bind-prices gap _ (λ u n. 1 ≤ n) (λ r n. Costs (reason_line (some r)) (9 * n)) (within-prices 1 gap gap_within)
    (λ u a i. bind-prices (read_word (bytes "reason")) _ (λ u n. 1 ≤ n) (λ r n. Costs (reason_line (some r)) (9 * (a + n))) (within-prices 1 (read_word (bytes "reason")) (word-within (bytes "reason")))
    (λ u b j. bind-prices (separator 61) _ (λ u n. 1 ≤ n) (λ r n. Costs (reason_line (some r)) (9 * (a + (b + n)))) (within-prices 1 (separator 61) (separator-within 61))
    (λ u c k xs r n h. costs-more (reason-costs r) (omega (arith, i, j, k, value-sized.bound xs r n h)))))

optional-reason-prices : Prices (optional reason) (λ o n. Costs (reason_line o) (9 * n))
unfolding reason_line
optional-reason-prices xs o n h = go (optional-inv reason xs o n h)
  where
    go : Perhaps reason xs o n → Costs (reason_line o) (9 * n)
    go (absent e i l) = rw i (nothing-costs (9 * n))
    go (present r e i) = rw i (reason-prices xs r n e)

methodspec-prices : Prices methodspec (λ m n. Costs (method_line m) (9 * (1 + n)))
unfolding methodspec
methodspec-prices =
    bind-prices read_keyword _ Keyed (λ m n. Costs (method_line m) (9 * (1 + n))) keyed
    (λ m a s. bind-prices (optional method_version) _ (λ u n. 0 ≤ n) (λ m n. Costs (method_line m) (9 * (1 + (a + n)))) (any-prices (optional method_version))
    (λ v b o. bind-prices (separator 61) _ (λ u n. 1 ≤ n) (λ m n. Costs (method_line m) (9 * (1 + (a + (b + n))))) (within-prices 1 (separator 61) (separator-within 61))
    (λ u c i. bind-prices read_keyword _ Keyed (λ m n. Costs (method_line m) (9 * (1 + (a + (b + (c + n)))))) keyed
    (λ r d t. let x : Methodspec = record { method = m; version = or_one v; result = r } in
    give-prices x (λ m n. Costs (method_line m) (9 * (1 + (a + (b + (c + (d + n)))))))
    (costs-more (method-costs x s.still t.still) (omega (arith, i, s.paid, t.paid)))))))

result-prices : Prices result (λ r n. Costs (result_lines r) (9 * n))
unfolding result result_lines
result-prices =
    bind-prices (byte 59) _ (λ u n. 1 ≤ n) (λ r n. Costs (result_lines r) (9 * n)) (within-prices 1 (byte 59) (byte-within 59))
    (λ u a i. bind-prices skip _ (λ u n. 0 ≤ n) (λ r n. Costs (result_lines r) (9 * (a + n))) (any-prices skip)
    (λ u b o. bind-prices methodspec _ (λ m n. Costs (method_line m) (9 * (1 + n))) (λ r n. Costs (result_lines r) (9 * (a + (b + n)))) methodspec-prices
    (λ m c x. bind-prices (optional reason) _ (λ o n. Costs (reason_line o) (9 * n)) (λ r n. Costs (result_lines r) (9 * (a + (b + (c + n))))) optional-reason-prices
    (λ r d y. bind-prices (several property 0) _ (λ ps n. Costs (property_lines ps) (9 * n)) (λ r n. Costs (result_lines r) (9 * (a + (b + (c + (d + n))))))
    (several-prices property property_line property_lines (unfold property_lines in refl) (λ p ps. unfold property_lines in refl) property-prices)
    (λ ps e z. give-prices (record { methodspec = m; reason = r; properties = ps }) (λ r n. Costs (result_lines r) (9 * (a + (b + (c + (d + (e + n)))))))
    (costs-more (both-cost x (both-cost y z)) (omega (arith, i))))))))

resinfo-prices : Prices resinfo (λ r n. Costs (result_lines r) (9 * n))
unfolding resinfo
resinfo-prices =
    bind-prices skip _ (λ u n. 0 ≤ n) (λ r n. Costs (result_lines r) (9 * n)) (any-prices skip)
    (λ u a o xs r n h. costs-more (result-prices xs r n h) (omega arith))

-- an ignored result has no lines
understood-prices : Prices resinfo (λ r n. Costs (cond (understood r) (result_lines r) []) (9 * n))
understood-prices xs r n h = go (understood r)
  where
    go : (t : Bool) → Costs (cond t (result_lines r) []) (9 * n)
    go true = resinfo-prices xs r n h
    go false = nothing-costs (9 * n)

pub resinfos-prices : Prices resinfos (λ rs n. Costs (lines rs) (9 * n))
unfolding resinfos
resinfos-prices =
    bind-prices (several resinfo 0) _ (λ rs n. Costs (lines rs) (9 * n)) (λ rs n. Costs (lines rs) (9 * n))
    (several-prices resinfo (λ r. cond (understood r) (result_lines r) []) lines (unfold lines in refl) (λ r rs. unfold lines in refl) understood-prices)
    (λ rs a c. bind-prices skip _ (λ u n. 0 ≤ n) (λ rs n. Costs (lines rs) (9 * (a + n))) (any-prices skip)
    (λ u b o. bind-prices end _ (λ u n. 0 ≤ n) (λ rs n. Costs (lines rs) (9 * (a + (b + n)))) (any-prices end)
    (λ u d o. give-prices rs (λ rs n. Costs (lines rs) (9 * (a + (b + (d + n))))) (costs-more c (omega arith)))))
