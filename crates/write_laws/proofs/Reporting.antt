-- What is written for lines that may follow one another has these lines as its report, and the report of every body without ignored results
-- is of such lines: both by what the results of a body say, line by line.
use Prim.Native.Nat.{ℕ, ◌≤◌}
use native.Mathlib.Nat.{le_refl}
use native.Mathlib.Omega.{arith}
use mathlib.Core.Path.{◌≡◌, refl, sym, ap, ◌∙◌, subst}
use mathlib.Core.Bool.{Bool, true, false}
use mathlib.Core.List.{List, [], ◌∷◌, ◌++◌, append-nil}
use lib.Dec.{leb}
use lib.ListN.{length}
use borrow.Author.Tests.{le-leb}
use Rattle.result_rules.specs.Results.{Result}
use Rattle.result_rules.specs.Table.{understood}
use Rattle.report_rules.specs.Body.{Reading, unreadable, malformed, newer, no_result, results, reading}
use Rattle.report_rules.specs.Report as report
use Rattle.report_rules.specs.Report.{id_line, none_line, lines, ignored_of, fitted}
use Rattle.report_rules.specs.Newer.{well_formed}
use Rattle.write_rules.specs.Entries.{Entry, identified, unstated, line_of, is_text}
use Rattle.write_rules.specs.Bodies.{piece}
use Rattle.write_rules.specs.Compose.{State, front, final}
use Rattle.write_rules.specs.Promise.{Reports, HasBody, says_lines}
use Rattle.write_laws.proofs.Readback.{Each, joined}
use Rattle.write_laws.proofs.Results.{Stated, result_pieces}
use Rattle.write_laws.proofs.ReadResults.{Byted, Named}
use Rattle.write_laws.proofs.Heads.{none_written, results-written, Said, said_none, said_results, said}
use Rattle.write_laws.proofs.Lines.{Good}
use Rattle.write_laws.proofs.Runs.{Runs}
use Rattle.write_laws.proofs.Flat.{flat, flat-body, flat-lines, none-ignored, ignored-none, stated-understood, understood-stated, flat_good, Ran, ran-results, ran-none, Spoken, spoken_none, spoken_results, spoken, good-stated}
use Rattle.write_laws.proofs.WrittenBodies.{body_bytes}

-- ==== the report of what is written

-- a report for which there is room
fitted_wide : (r : ℕ) (out : List ℕ) → length out ≤ r → fitted r 0 out 0 ≡ says_lines out
unfolding fitted
fitted_wide r out l = rw (fitted, le-leb (length out) r l)

stated-all : (rs : List Result) → Each Stated rs → Each (λ r. understood r ≡ true) rs
stated-all [] h = tt
stated-all (r ∷ rs) h = (stated-understood r h.0, stated-all rs h.1)

none-lines : (i : List ℕ) → joined line_of (identified i ∷ unstated ∷ []) ≡ id_line i ++ none_line
unfolding line_of
none-lines i = ap (λ (l : List ℕ). id_line i ++ l) (append-nil none_line)

result-lines : (i : List ℕ) (rs : List Result) → Each (λ r. understood r ≡ true) rs → joined line_of (identified i ∷ flat rs) ≡ id_line i ++ lines rs
unfolding line_of
result-lines i rs u = ap (λ (l : List ℕ). id_line i ++ l) (flat-lines rs u)

none-reports : (i : List ℕ) → is_text i ≡ true → Reports (joined piece (identified i ∷ unstated ∷ [])) (joined line_of (identified i ∷ unstated ∷ []))
unfolding report.answer
none-reports i e =
    let b : joined piece (identified i ∷ unstated ∷ []) ≡ piece (identified i) ++ piece unstated = ap (λ (l : List ℕ). piece (identified i) ++ l) (append-nil (piece unstated)) in
    rw (b, none-lines i, none_written i e) (fitted_wide _ (id_line i ++ none_line) (le_refl _))

results-report : (i : List ℕ) (r : Result) (rs : List Result) → is_text i ≡ true → Each Stated (r ∷ rs)
    → Reports (joined piece (identified i ∷ flat (r ∷ rs))) (joined line_of (identified i ∷ flat (r ∷ rs)))
unfolding report.answer
results-report i r rs e h =
    let u = stated-all (r ∷ rs) h in
    let b : joined piece (identified i ∷ flat (r ∷ rs)) ≡ piece (identified i) ++ joined result_pieces (r ∷ rs) = ap (λ (l : List ℕ). piece (identified i) ++ l) (flat-body (r ∷ rs)) in
    rw (b, result-lines i (r ∷ rs) u, results-written i r rs e h, none-ignored (r ∷ rs) u) (fitted_wide _ (id_line i ++ lines (r ∷ rs)) (le_refl _))

-- lines that may follow one another to the end are the report of what is written for them
pub written-reports : (es : List Entry) (t : State) → Runs front es t → Each Good es → final t ≡ true → Reports (joined piece es) (joined line_of es)
written-reports es t r h f = go (spoken r refl f)
  where
    go : Spoken es → Reports (joined piece es) (joined line_of es)
    go (spoken_none i e) = rw e (none-reports i (subst (λ (l : List Entry). Each Good l) e h).0.0)
    go (spoken_results i s ss e o) =
        let k : Each Good (identified i ∷ flat (s ∷ ss)) = subst (λ (l : List Entry). Each Good l) e h in
        rw e (results-report i s ss k.0.0 (good-stated (s ∷ ss) o k.1))

pub written-reported : (es : List Entry) (t : State) → Runs front es t → Each Good es → final t ≡ true → HasBody (joined line_of es)
written-reported es t r h f = record { body = joined piece es; bytes = body_bytes es h; reports = written-reports es t r h f }

-- ==== every report of a body without ignored results is accepted

-- the lines of a report
pub record Told (ls : List ℕ) : Type 0 where
  pub told : List Entry
  pub ran : Ran front told
  pub good : Each Good told
  pub is : ls ≡ joined line_of told

fitted-written : (room n k : ℕ) (out ls : List ℕ) → fitted room n out k ≡ says_lines ls → (n ≡ 0) × (out ≡ ls) × (k ≡ 0)
unfolding fitted report.refusal
fitted-written room n k out ls e = go (leb (length out) room) refl
  where
    go : (b : Bool) → leb (length out) room ≡ b → (n ≡ 0) × (out ≡ ls) × (k ≡ 0)
    go true q =
        let w : ◌≡◌ {A = report.Answer} (record { number = n; place = 0; ignored = k; written = out }) (says_lines ls) = rw (fitted, q) at e in
        (ap (λ (a : report.Answer). a.number) w, ap (λ (a : report.Answer). a.written) w, ap (λ (a : report.Answer). a.ignored) w)
    go false q =
        let w : ◌≡◌ {A = report.Answer} (record { number = 6; place = length out; ignored = 0; written = [] }) (says_lines ls) = rw (fitted, q) at e in
        absurd (let z : 6 ≡ 0 = ap (λ (a : report.Answer). a.number) w in omega arith)

well-formed : (room : ℕ) (ls : List ℕ) (x : Reading) → report.answer room x ≡ says_lines ls → well_formed x ≡ true
unfolding report.answer report.refusal
well-formed room ls unreadable e = absurd (let z : 7 ≡ 0 = ap (λ (a : report.Answer). a.number) e in omega arith)
well-formed room ls malformed e = absurd (let z : 9 ≡ 0 = ap (λ (a : report.Answer). a.number) e in omega arith)
well-formed room ls (newer h) e = absurd (let z = fitted-written room 8 0 (id_line h.identifier ++ report.version_line h.version) ls e in omega (arith, z.0))
well-formed room ls (no_result i) e = refl
well-formed room ls (results i rs) e = refl

understood-all : (rs : List Result) → Each (λ r. understood r ≡ true) rs → Each (λ r. Byted r.reason × Each Named r.properties) rs → Each Stated rs
understood-all [] u h = tt
understood-all (r ∷ rs) u h = (understood-stated r u.0 h.0, understood-all rs u.1 h.1)

pub reported-told : (ls : List ℕ) → HasBody ls → Told ls
reported-told ls v = go (said v.body (well-formed (length ls) ls (reading v.body) v.reports) v.bytes)
  where
    of_none : (i : List ℕ) → reading v.body ≡ no_result i → fitted (length ls) 0 (id_line i ++ none_line) 0 ≡ says_lines ls
    of_none i e = unfold report.answer in rw e at v.reports

    of-results : (i : List ℕ) (r : Result) (rs : List Result) → reading v.body ≡ results i (r ∷ rs)
        → fitted (length ls) 0 (id_line i ++ lines (r ∷ rs)) (ignored_of (r ∷ rs)) ≡ says_lines ls
    of-results i r rs e = unfold report.answer in rw e at v.reports

    go : Said v.body → Told ls
    go (said_none i e t b) =
        let w = fitted-written (length ls) 0 0 (id_line i ++ none_line) ls (of_none i e) in
        record { told = identified i ∷ unstated ∷ []; ran = ran-none i; good = ((t, b), (tt, tt)); is = sym (none-lines i ∙ w.1) }
    go (said_results i r rs e t b h) =
        let w = fitted-written (length ls) 0 (ignored_of (r ∷ rs)) (id_line i ++ lines (r ∷ rs)) ls (of-results i r rs e) in
        let u = ignored-none (r ∷ rs) w.2 in
        record {
          told = identified i ∷ flat (r ∷ rs);
          ran = ran-results i r rs;
          good = ((t, b), flat_good (r ∷ rs) (understood-all (r ∷ rs) u h) h);
          is = sym (result-lines i (r ∷ rs) u ∙ w.1);
        }

-- ==== more room than the lines need

-- more room changes nothing
pub answer-more : (room r : ℕ) (ls : List ℕ) (x : Reading) → report.answer room x ≡ says_lines ls → length ls ≤ r → report.answer r x ≡ says_lines ls
unfolding report.answer report.refusal
answer-more room r ls unreadable e l = e
answer-more room r ls malformed e l = e
answer-more room r ls (newer h) e l = absurd (let z = fitted-written room 8 0 (id_line h.identifier ++ report.version_line h.version) ls e in omega (arith, z.0))
answer-more room r ls (no_result i) e l =
    let z = fitted-written room 0 0 (id_line i ++ none_line) ls e in
    rw z.1 (fitted_wide r ls l)
answer-more room r ls (results i rs) e l =
    let z = fitted-written room 0 (ignored_of rs) (id_line i ++ lines rs) ls e in
    rw (z.1, z.2) (fitted_wide r ls l)
