-- What private functions say: no public contract cites these.
use Rattle.std.specs.Prelude.{ℕ, ◌≤◌, ◌≡◌, List, length}
use Rattle.std.proofs.lemmas.List.Edits.{sets}
use Rattle.base_readers.specs.Parsers.{Got}
use Rattle.block_rules.specs.Fields.{fields}
use Rattle.ownlist_rules.specs.declared.Own.{Own}
use Rattle.blockreport_rules.specs.declared.Detail.{Detail}
use Rattle.blockreport_rules.specs.declared.BlockReported.{BlockReported}
use Rattle.blockreport_rules.specs.BlockReport.{additions}

-- what the fields up to the first refusal add
abbrev pub text_before : Detail → List ℕ → (Got (List ℕ) → Own) → List ℕ
text_before detail s whose = additions detail whose 1 (fields s).items

-- it is written where it fits, and the refusal and its length are returned
pub record FieldsPut (detail : Detail) (s : List ℕ) (whose : Got (List ℕ) → Own) (old new : List ℕ) (r : BlockReported) : Type 0 where
  pub number : r.number ≡ (fields s).number
  pub place : r.place ≡ (fields s).place
  pub written : r.written ≡ length (text_before detail s whose)
  pub long : length new ≡ length old
  pub bytes : length (text_before detail s whose) ≤ length old → new ≡ sets old 0 (text_before detail s whose)
