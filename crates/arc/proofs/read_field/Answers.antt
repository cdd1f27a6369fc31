-- `arc::read_field` meets its contract: an instance, and the list that its kind has.
use Rattle.std.proofs.Common.{rules, ◌≡◌, Some, None}
use Rattle.arc.proofs.FieldReading.{field-results, field-signature, field-seal, field-other, field-missing}
use Rattle.arc.proofs.read_field.Goals as goal

pub returns-in_err-start : goal.returns-in_err-start
returns-in_err-start c =
    let q : c.from_residual.result ≡ None = search rules in
    rw q (field-missing c.args.body.now _ c.instance_of.ensures c.in_err-start.was _)

pub returns-in_err-cv-in-Signature : goal.returns-in_err-cv-in-Signature
returns-in_err-cv-in-Signature c =
    let q : c.from_residual-in_err-cv-in-Signature.result ≡ None = search rules in
    rw q (field-signature c.args.body.now _ c.instance_of.ensures _ c.in_ok-start.was c.args.kind c.requires None c.in_err-cv-in-Signature.ensures c.in-Signature.is)

pub returns-in_err-cv-in-Seal : goal.returns-in_err-cv-in-Seal
returns-in_err-cv-in-Seal c =
    let q : c.from_residual-in_err-cv-in-Seal.result ≡ None = search rules in
    rw q (field-seal c.args.body.now _ c.instance_of.ensures _ c.in_ok-start.was c.args.kind c.requires None c.in_err-cv-in-Seal.ensures c.in-Seal.is)

pub returns-in-Results : goal.returns-in-Results
returns-in-Results c = field-results c.args.body.now _ c.instance_of.ensures _ c.in_ok-start.was c.args.kind c.in-Results.is

pub returns-in_ok-cv-in-Signature : goal.returns-in_ok-cv-in-Signature
returns-in_ok-cv-in-Signature c = field-signature c.args.body.now _ c.instance_of.ensures _ c.in_ok-start.was c.args.kind c.requires (Some c.in_ok-cv-in-Signature.cv) c.in_ok-cv-in-Signature.ensures c.in-Signature.is

pub returns-in_ok-cv-in-Seal : goal.returns-in_ok-cv-in-Seal
returns-in_ok-cv-in-Seal c = field-seal c.args.body.now _ c.instance_of.ensures _ c.in_ok-start.was c.args.kind c.requires (Some c.in_ok-cv-in-Seal.cv) c.in_ok-cv-in-Seal.ensures c.in-Seal.is

pub returns-in-Other : goal.returns-in-Other
returns-in-Other c = search field-other
