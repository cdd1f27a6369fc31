-- What is known of a stripped block, with a field of ours that is put in front of it: the theorems of Ticket14 rest on it, each by itself.
use Prim.Native.Nat.{ℕ, ◌+◌, ◌*◌, ◌≤◌}
use mathlib.Core.Path.{◌≡◌, sym, ap, ◌∙◌}
use mathlib.Core.List.{List, ◌++◌}
use lib.ListN.{length}
use Rattle.base_readers.specs.Walks.{Walked}
use Rattle.lexis_rules.specs.Limits.{byte_limit}
use Rattle.block_rules.specs.Fields.{Field, body_of, fields, bytes_of}
use Rattle.ownlist_rules.specs.declared.Own.TheVariants.{Ours}
use Rattle.strip_rules.specs.Strip.{Answer, strip}
use Rattle.strip_rules.specs.Terms.{kept_fields}
use Rattle.strip_laws.proofs.Laws as strip-laws
use Rattle.strip_laws.proofs.StripTheorems as strip-theorems
use Rattle.report_rules.specs.Report.{report}
use Rattle.blockreport_rules.specs.declared.Detail.{Detail}
use Rattle.blockreport_rules.specs.FieldLines.{field_line}
use Rattle.blockreport_rules.specs.BlockReport.{body_lines}
use Rattle.ownfield_rules.specs.OwnField.{OwnField, Within}
use Rattle.ownfield_laws.proofs.OwnFieldFirst as own-laws

module _ (block list stripped ours : List ℕ) (f : Field) (size : ℕ) (zero-is : (strip block list size).number ≡ 0)
    (written-is : (strip block list size).written ≡ stripped) (own : OwnField list ours f) (within : Within (ours ++ stripped)) where
  done : strip-laws.Sound block list size
  done = strip-laws.strip-sound block list size zero-is

  pub fielded : (fields block).number ≡ 0
  fielded = done.fielded

  pub is : stripped ≡ bytes_of (kept_fields block list)
  is = sym written-is ∙ ap (λ (a : Answer). a.written) done.is

  pub kept : (fields stripped).items ≡ kept_fields block list
  kept = rw (← written-is) (ap (λ (w : Walked Field). w.items) (strip-theorems.strip-fields block list size zero-is))

  pub short : length f.bytes ≤ byte_limit
  short = own-laws.own-short block list ours stripped f own done.fielded is within

  pub lines_are : (detail : Detail) (room : ℕ) → 3 * length (body_of f) + 4 ≤ room
      → body_lines detail 1 Ours (body_of f) ≡ field_line 1 Ours 0 (report (body_of f) room).ignored ++ (report (body_of f) room).written
  lines_are detail room h = (own-laws.own-report list ours f own short detail room h).1
