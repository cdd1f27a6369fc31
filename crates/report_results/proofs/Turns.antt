-- One result, read and written: what the code finds of its reason, its properties and its method is what the parsers yield there, and
-- the lines that it writes are the lines of that. By the theorems of the crates `result_method`, `result_parts` and `result_steps` on what was found.
use Prim.Native.Nat.{ℕ, ◌+◌, ◌≤◌, ◌<◌, ◌^◌, min}
use native.Mathlib.Omega.{arith}
use mathlib.Core.Path.{◌≡◌, refl, sym, ap, ◌∙◌}
use mathlib.Core.Bool.{Bool, true, false, ◌&&◌, and-true, and_assoc}
use mathlib.Core.Logic.{◌⊎◌, ⊎_elim}
use mathlib.Core.List.{List, ◌∷◌, ◌++◌, map}
use mathlib.Core.Option.{none, some}
use denote.Enum.Declared.{tag_of}
use lib.ListN.{length}
use lib.Seq.{sets}
use Rattle.base_sequences.specs.Stored.{cap, Clipped}
use Rattle.base_sequences.proofs.Clips.{clipped-then, Going, going_start, going_step, going_done}
use Rattle.base_readers.specs.Parsers.{Got, nothing, got, Parser, optional, several}
use Rattle.base_readers.specs.Places.{from, list_at, end_at}
use Rattle.base_readers.proofs.Places.{at_none, goes_on, stops, gives, one_more, none-there}
use Rattle.base_readers.proofs.Repeats.{list-is, list-none, end_none, further, list-more, end_more}
use Rattle.lexis_rules.specs.declared.VersionNumber.{VersionNumber}
use Rattle.lexis_rules.specs.Bytes.{lower}
use Rattle.lexis_rules.specs.Numbers.{is_one}
use Rattle.lexis_rules.specs.Words.{keyword_text}
use Rattle.identifier.specs.Answers.{text_of}
use Rattle.result_steps.specs.declared.Step.{Step}
use Rattle.result_steps.specs.contracts.Step.{the_type}
use Rattle.result_steps.specs.declared.Step.TheVariants as step
use Rattle.result_method.specs.declared.Method.TheVariants as method
use Rattle.result_parts.specs.declared.Reason.TheVariants.{Stated, Absent}
use Rattle.result_values.specs.declared.Value as place
use Rattle.result_rules.specs.Results.{Property, Methodspec, Result, reason, property, methodspec, bare_result}
use Rattle.result_values.specs.Values.{value_of}
use Rattle.base_sequences.specs.Spans.{span}
use Rattle.result_separators.specs.Separators.{spaced}
use Rattle.result_method.specs.Methods.{method_at}
use Rattle.result_parts.specs.Parts.{reason_from, reason_got}
use Rattle.result_steps.specs.Steps.{step_from, property_got}
use Rattle.result_rules.specs.Table.{listed, tabled, table, ptypes, known_version, known_method, known_types, understood}
use Rattle.result_method.proofs.Methods.{method-found, method-not}
use Rattle.result_parts.proofs.Reasons.{reason-got}
use Rattle.result_steps.proofs.Steps.{step-got}
use Rattle.result_laws.proofs.Results.{property-within}
use Rattle.report_rules.specs.Report.{method_line, reason_line, property_line, property_lines, result_lines}
use Rattle.report_results.specs.declared.Details.{Details}
use Rattle.report_results.specs.declared.Stated as stated
use Rattle.std.specs.Prelude as std
use Rattle.std.specs.Prelude.{Some, None}
use Rattle.report_results.specs.declared.Turn.{Turn}
use Rattle.report_lines.specs.Lines.{method_text, reason_text, property_text}
use Rattle.report_results.specs.Turns.{turn_at, lines_at}
use Rattle.report_results.specs.Internal.{knows_type, knows_method, option_at, option_end, properties_at, detail_lines, PropertiesPut, ReasonPut, DetailsPut}

-- ==== a part that may be missing

module _ {A : Type 0} (p : Parser A) (s : List ℕ) (i : ℕ) where
  option-some : (a : A) (e : ℕ) → got a e ≡ from p s i → option_at p s i ≡ some a
  unfolding option_at
  option-some a e h = rw (option_at, ← h)

  pub end-some : (a : A) (e : ℕ) → got a e ≡ from p s i → option_end p s i ≡ e
  unfolding option_end
  end-some a e h = rw (option_end, ← h)

  option-missing : nothing ≡ from p s i → option_at p s i ≡ none
  unfolding option_at
  option-missing h = rw (option_at, ← h)

  pub end-missing : nothing ≡ from p s i → option_end p s i ≡ i
  unfolding option_end
  end-missing h = rw (option_end, ← h)

  option_is : got (option_at p s i) (option_end p s i) ≡ from (optional p) s i
  option_is = go (from p s i) refl
    where
      go : (g : Got A) → from p s i ≡ g → got (option_at p s i) (option_end p s i) ≡ from (optional p) s i
      go nothing e = rw (option-missing (sym e), end-missing (sym e)) (none-there p s i (sym e))
      go (got a n) e = rw (option-some a n (sym e), end-some a n (sym e)) (one_more p s i a n (sym e))

-- ==== the reason

-- the space behind the place i ends at g
module _ (s : List ℕ) (i g : ℕ) (y : g ≡ spaced s i) where
  pub reason-found : (a e : ℕ) (q : Bool) → Stated a e q ≡ reason_from s i g → got (text_of s a e q) e ≡ from reason s i
  reason-found a e true h = ap (reason_got s) (h ∙ ap (reason_from s i) y) ∙ reason-got s i
  reason-found a e false h = ap (reason_got s) (h ∙ ap (reason_from s i) y) ∙ reason-got s i

  module _ (a e : ℕ) (q : Bool) (h : Stated a e q ≡ reason_from s i g) where
    pub reason-put : (old new : List ℕ) (to n : ℕ) → Clipped old to (reason_text s a e q) new n → (x : ℕ) → x ≡ spaced s e
        → ReasonPut s i old to new (record { end = e; gap = x; next = n })
    reason-put old new to n c x z =
        let f = reason-found a e q h in
        record { end = sym (end-some reason s i (text_of s a e q) e f); gap = z; wrote = rw (option-some reason s i (text_of s a e q) e f) c }

  pub reason-absent : Absent ≡ reason_from s i g → (old : List ℕ) (to : ℕ) → to < 2 ^ 64 → ReasonPut s i old to old (record { end = i; gap = g; next = to })
  unfolding reason_line
  reason-absent h old to l =
      let f : nothing ≡ from reason s i = ap (reason_got s) (h ∙ ap (reason_from s i) y) ∙ reason-got s i in
      record { end = sym (end-missing reason s i f); gap = y; wrote = rw (option-missing reason s i f) (record { place = omega arith; bytes = refl }) }

-- ==== properties

abbrev property_on : List ℕ → ℕ → ℕ → ℕ → ℕ → place.Value → Property
property_on s a e b f v = record { ptype = keyword_text (span s a e); property = keyword_text (span s b f); value = value_of s v }

lines_more : (p : Property) (ps : List Property) → property_lines (p ∷ ps) ≡ property_line p ++ property_lines ps
unfolding property_lines
lines_more p ps = refl

types_more : (p : Property) (ps : List Property) → known_types (p ∷ ps) ≡ (listed ptypes p.ptype && known_types ps)
unfolding known_types
types_more p ps = refl

-- the loop over the properties behind a place stands at i, behind which the space ends at g: what is left to read and to write ends as
-- the whole would have
pub record Writing (s : List ℕ) (at : ℕ) (old : List ℕ) (to : ℕ) (out : List ℕ) (i g n : ℕ) (known : Bool) : Type 0 where
  pub gap : g ≡ spaced s i
  pub left : Going old to (property_lines (list_at property s at)) out n (property_lines (list_at property s i))
  pub end : end_at property s i ≡ end_at property s at
  pub types : (known && known_types (list_at property s i)) ≡ known_types (list_at property s at)

pub writing_start : (s : List ℕ) (at : ℕ) (old : List ℕ) (to g : ℕ) → g ≡ spaced s at → to < 2 ^ 64 → Writing s at old to old at g to true
writing_start s at old to g y l = record { gap = y; left = going_start _ _ _ (omega arith); end = refl; types = refl }

module _ (s : List ℕ) (at : ℕ) (old : List ℕ) (to : ℕ) (out : List ℕ) (i g n : ℕ) (known : Bool) (w : Writing s at old to out i g n known) where
  -- what a step finds is what the parser of properties yields
  stepped : (t : Step) → t ≡ step_from s i g → property_got s t ≡ from property s i
  stepped t h = ap (property_got s) (h ∙ ap (step_from s i) w.gap) ∙ step-got s i

  module _ (a e b f : ℕ) (v : place.Value) (x : ℕ) (h : step.Property a e b f v x ≡ step_from s i g) where
    read : got (property_on s a e b f v) x ≡ from property s i
    read = stepped (step.Property a e b f v x) h

    more : list_at property s i ≡ property_on s a e b f v ∷ list_at property s x
    more = list-more property s i property-within (property_on s a e b f v) x read

    split : property_lines (list_at property s i) ≡ property_text s a e b f v ++ property_lines (list_at property s x)
    split = ap property_lines more ∙ lines_more (property_on s a e b f v) (list_at property s x)

    pub writing-further : (i < x) × (x ≤ length s)
    writing-further = further property s i property-within (property_on s a e b f v) x read

    pub writing_more : length old < 2 ^ 64 → (t : Bool) → t ≡ knows_type known (span s a e)
        → (out' : List ℕ) (m : ℕ) → Clipped out n (property_text s a e b f v) out' m → (j : ℕ) → j ≡ spaced s x → Writing s at old to out' x j m t
    unfolding knows_type
    writing_more l t q out' m u j z =
        let p = property_on s a e b f v in
        let ps = list_at property s x in
        let k : known_types (list_at property s i) ≡ (listed ptypes p.ptype && known_types ps) = ap known_types more ∙ types_more p ps in
        record {
          gap = z;
          left = going_step (omega arith) w.left split u;
          end = sym (end_more property s i property-within p x read) ∙ w.end;
          types = rw q (and_assoc known (listed ptypes p.ptype) (known_types ps) ∙ rw k at w.types);
        }

  written : nothing ≡ from property s i → PropertiesPut s at old to out (record { end = i; gap = g; next = n; known = known })
  unfolding property_lines known_types
  written h =
      let l = list-none property s i h in
      record {
        end = sym (end_none property s i h) ∙ w.end;
        gap = w.gap;
        known = sym (and-true known) ∙ rw l at w.types;
        wrote = going_done w.left (rw l);
      }

  -- no property comes next, whether or not the result may end there
  pub written_all : (t : Step) → (tag_of the_type t ≡ 1) ⊎ (tag_of the_type t ≡ 2) → t ≡ step_from s i g
      → PropertiesPut s at old to out (record { end = i; gap = g; next = n; known = known })
  written_all step.Done k h = written (stepped step.Done h)
  written_all step.Refused k h = written (stepped step.Refused h)
  written_all (step.Property a e b f v x) k h = absurd (⊎_elim (λ e. omega (arith, e)) (λ e. omega (arith, e)) k)

-- ==== reason and properties

pub details-put : (s : List ℕ) (i : ℕ) (old mid new : List ℕ) (to : ℕ) (r : stated.Stated) (d : Details) → length old < 2 ^ 64 → ReasonPut s i old to mid r
    → PropertiesPut s r.end mid r.next new d → DetailsPut s i old to new d
details-put s i old mid new to r d l p q =
    record {
      end = q.end ∙ ap (end_at property s) p.end;
      gap = q.gap;
      known = q.known ∙ ap (λ (k : ℕ). known_types (list_at property s k)) p.end;
      wrote = clipped-then (omega arith) p.wrote (rw p.end at q.wrote);
    }

-- ==== a whole result

-- where the version is understood the table decides, and else the method is not known
module _ (v : VersionNumber) (o : Bool) (h : o ≡ is_one v) (m r : List ℕ) where
  pub version-known : o ≡ true → (m' r' : List ℕ) → m' ≡ m → r' ≡ r → (t : Bool) → t ≡ tabled table (map lower m') (map lower r') → t ≡ knows_method v m r
  unfolding knows_method known_version
  version-known e m' r' x y t q = rw (knows_method, ← h, e, ← x, ← y) q

  pub version-unknown : o ≡ false → false ≡ knows_method v m r
  unfolding knows_method known_version
  version-unknown e = rw (knows_method, ← h, e)

-- where all ptypes so far are known the next one decides, and else they stay unknown
module _ (known : Bool) (p : List ℕ) where
  pub type-known : known ≡ true → (p' : List ℕ) → p' ≡ p → (t : Bool) → t ≡ listed ptypes (map lower p') → t ≡ knows_type known p
  unfolding knows_type
  type-known e p' x t q = rw (knows_type, e, ← x) q

  pub type-unknown : known ≡ false → false ≡ knows_type known p
  unfolding knows_type
  type-unknown e = rw (knows_type, e)

-- a turn by its places
abbrev pub turn_of : ℕ → ℕ → ℕ → Bool → std.Option Turn
turn_of e g n u = Some (record { end = e; gap = g; next = n; understood = u })

-- where there is no method there is no result
module _ (s : List ℕ) (a : ℕ) (h : method.Missing ≡ method_at s a) where
  pub none_read : nothing ≡ from bare_result s a
  none_read = stops methodspec _ s a (at_none methodspec s a (method-not s a h))

  pub turn-missing : (to : ℕ) → None ≡ turn_at s a to
  unfolding turn_at
  turn-missing to = rw (turn_at, ← none_read)

  pub lines-missing : (old : List ℕ) (to : ℕ) → old ≡ sets old to (lines_at s a)
  unfolding lines_at
  lines-missing old to = rw (lines_at, ← none_read)

module _ (s : List ℕ) (a b e : ℕ) (v : VersionNumber) (f g : ℕ) (h : method.Read b e v f g ≡ method_at s a) where
  -- the result that stands there
  abbrev spec : Methodspec
  spec = record { method = keyword_text (span s b e); version = v; result = keyword_text (span s f g) }

  abbrev whole : Result
  whole = record { methodspec = spec; reason = option_at reason s g; properties = properties_at s g }

  pub read_whole : got whole (end_at property s (option_end reason s g)) ≡ from bare_result s a
  read_whole =
      let k = option_end reason s g in
      let n = end_at property s k in
      goes_on methodspec _ s a spec g (got whole n) (method-found s a b e v f g h)
      (goes_on (optional reason) _ s g (option_at reason s g) k (got whole n) (option_is reason s g)
      (goes_on (several property 0) _ s k (properties_at s g) n (got whole n) (list-is property s k) (gives whole s n)))

  lines-whole : result_lines whole ≡ method_text s b e f g ++ detail_lines s g
  unfolding result_lines method_line
  lines-whole = refl

  known-whole : understood whole ≡ (known_version (map lower (span s b e)) v && tabled table (map lower (span s b e)) (map lower (span s f g)) && known_types (properties_at s g))
  unfolding understood known_method
  known-whole = refl

  turn-whole : (to : ℕ)
      → turn_of (end_at property s (option_end reason s g)) (spaced s (end_at property s (option_end reason s g))) (min (to + length (result_lines whole)) cap) (understood whole) ≡ turn_at s a to
  unfolding turn_at
  turn-whole to = rw (turn_at, ← read_whole)

  lines-at : result_lines whole ≡ lines_at s a
  unfolding lines_at
  lines-at = rw (lines_at, ← read_whole)

  module _ (old mid new : List ℕ) (to n : ℕ) (l : length old < 2 ^ 64) (c : Clipped old to (method_text s b e f g) mid n) (d : Details) (p : DetailsPut s g mid n new d) where
    put_whole : Clipped old to (result_lines whole) new d.next
    put_whole = rw lines-whole (clipped-then (omega arith) c p.wrote)

    pub lines-read : new ≡ sets old to (lines_at s a)
    lines-read = rw (← lines-at) put_whole.bytes

    pub turn-read : (t : Bool) → t ≡ knows_method v (span s b e) (span s f g) → (u : Bool) → u ≡ (t && d.known)
        → turn_of d.end d.gap d.next u ≡ turn_at s a to
    unfolding knows_method
    turn-read t q u r =
        let k : u ≡ understood whole = r ∙ (rw (q, p.known) (sym known-whole)) in
        rw (k, put_whole.place, p.gap, p.end) (turn-whole to)
