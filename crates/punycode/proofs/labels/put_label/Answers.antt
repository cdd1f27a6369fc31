-- `punycode::labels::put_label` meets its contract: each answer of the decoder is a case of the definition.
use lib.ListN.{drop}
use mathlib.Core.Path.{refl, ap, sym, ◌∙◌}
use Rattle.std.proofs.Common.{Err}
use Rattle.punycode.proofs.Labelling.{told, told-points, label-plain, label-failed, label-text, label-long}
use Rattle.punycode_laws.proofs.Spelling.{prefixed-long}
use Rattle.punycode.proofs.labels.put_label.Goals as goal

pub returns-then-not-is_prefixed : goal.returns-then-not-is_prefixed
returns-then-not-is_prefixed c = label-plain _ _ _ _ _ (sym c.if-not-is_prefixed.ensures) c.put_plain.ensures

pub slice_bounds-read_points-count : goal.slice_bounds-read_points-count
slice_bounds-read_points-count c = prefixed-long _ (sym c.if-not-is_prefixed.ensures)

pub slice_bounds-read_points-start : goal.slice_bounds-read_points-start
slice_bounds-read_points-start c = prefixed-long _ (sym c.if-not-is_prefixed.ensures)

pub put_points-requires : goal.put_points-requires
put_points-requires c =
    let t = told-points (drop 4 c.args.l.now) c.read_points.new.out c.in-Ok.n (told c.args.l.now c.read_points.new.out c.read_points.result _ c.read_points.ensures c.in-Ok.is) _ refl in
    (t.0, c.requires, t.1)

pub returns-in-Ok : goal.returns-in-Ok
returns-in-Ok c =
    label-text _ _ c.args.l.now (sym c.if-not-is_prefixed.ensures) c.read_points.new.out _ _ _ (told c.args.l.now c.read_points.new.out c.read_points.result _ c.read_points.ensures c.in-Ok.is) _ refl c.put_points.ensures

pub returns-in-Err-Failed : goal.returns-in-Err-Failed
returns-in-Err-Failed c =
    label-failed _ _ c.args.l.now (sym c.if-not-is_prefixed.ensures) c.read_points.new.out _ _ (told c.args.l.now c.read_points.new.out c.read_points.result _ c.read_points.ensures (c.in-Err-Failed.is ∙ ap Err c.in-Err-Failed.field-0-is)) c.put_plain-in-Err-Failed.ensures

pub returns-in-Err-Long : goal.returns-in-Err-Long
returns-in-Err-Long c =
    label-long _ _ c.args.l.now (sym c.if-not-is_prefixed.ensures) c.read_points.new.out (told c.args.l.now c.read_points.new.out c.read_points.result _ c.read_points.ensures (c.in-Err-Long.is ∙ ap Err c.in-Err-Long.field-0-is))
