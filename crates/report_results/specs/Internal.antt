-- What private functions say: no public contract cites these.
use Rattle.std.specs.Prelude.{ℕ, ◌≡◌, Bool, ◌&&◌, List, ◌++◌, map}
use Rattle.std.proofs.Math.Option.{Option, none, some}
use Rattle.base_sequences.specs.Stored.{Clipped}
use Rattle.base_readers.specs.Parsers.{nothing, got, Parser}
use Rattle.base_readers.specs.Places.{from, list_at, end_at}
use Rattle.lexis_rules.specs.declared.VersionNumber.{VersionNumber}
use Rattle.lexis_rules.specs.Bytes.{lower}
use Rattle.result_rules.specs.Results.{Property, reason, property}
use Rattle.result_rules.specs.Table.{listed, tabled, table, ptypes, known_version, known_types}
use Rattle.result_separators.specs.Separators.{spaced}
use Rattle.report_rules.specs.Report.{reason_line, property_lines}
use Rattle.report_results.specs.declared.Details.{Details}
use Rattle.report_results.specs.declared.Stated.{Stated}

-- all ptypes so far are known, and this one too
unfoldable pub knows_type : Bool → List ℕ → Bool
knows_type known t = known && listed ptypes (map lower t)

-- the version of a method is understood, and its result stands in its row
unfoldable pub knows_method : VersionNumber → List ℕ → List ℕ → Bool
knows_method v m r = known_version (map lower m) v && tabled table (map lower m) (map lower r)

-- what p reads at a place, if it does, and where it ends
unfoldable pub option_at : {A : Type 0} → Parser A → List ℕ → ℕ → Option A
option_at p s at = elim (from p s at) [ nothing ↦ none | got a n ↦ some a ]

unfoldable pub option_end : {A : Type 0} → Parser A → List ℕ → ℕ → ℕ
option_end p s at = elim (from p s at) [ nothing ↦ at | got a n ↦ n ]

-- the properties behind a reason, or where it would stand
abbrev pub properties_at : List ℕ → ℕ → List Property
properties_at s at = list_at property s (option_end reason s at)

-- the lines of the reason and the properties behind a place
abbrev pub detail_lines : List ℕ → ℕ → List ℕ
detail_lines s at = reason_line (option_at reason s at) ++ property_lines (properties_at s at)

pub record PropertiesPut (s : List ℕ) (at : ℕ) (old : List ℕ) (to : ℕ) (new : List ℕ) (r : Details) : Type 0 where
  pub end : r.end ≡ end_at property s at
  pub gap : r.gap ≡ spaced s r.end
  pub known : r.known ≡ known_types (list_at property s at)
  pub wrote : Clipped old to (property_lines (list_at property s at)) new r.next

pub record ReasonPut (s : List ℕ) (at : ℕ) (old : List ℕ) (to : ℕ) (new : List ℕ) (r : Stated) : Type 0 where
  pub end : r.end ≡ option_end reason s at
  pub gap : r.gap ≡ spaced s r.end
  pub wrote : Clipped old to (reason_line (option_at reason s at)) new r.next

pub record DetailsPut (s : List ℕ) (at : ℕ) (old : List ℕ) (to : ℕ) (new : List ℕ) (r : Details) : Type 0 where
  pub end : r.end ≡ end_at property s (option_end reason s at)
  pub gap : r.gap ≡ spaced s r.end
  pub known : r.known ≡ known_types (properties_at s at)
  pub wrote : Clipped old to (detail_lines s at) new r.next
