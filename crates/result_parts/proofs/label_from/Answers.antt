-- `result_parts::label_from` meets its contract: each way through the code is a case of the definition.
use mathlib.Core.Path.{ap, ◌∙◌}
use Rattle.result_parts.specs.Parts.{label_from}
use Rattle.result_parts.proofs.Labels.{label-no-space, label-no-type, label-no-dot, label-no-name, label-no-equals, label-read}
use Rattle.result_parts.proofs.label_from.Goals as goal

pub returns : goal.returns
returns c =
    label-read c.args.s.now c.args.at _ c.in_ok-type_start.ensures.1
    _ (c.in_ok-type_end.ensures.0 ∙ c.keyword_end.ensures) c.in_ok-type_end.ensures.1
    _ (c.in_ok-name_start.ensures.0 ∙ c.separator_end.ensures) c.in_ok-name_start.ensures.1
    _ (c.in_ok-name_end.ensures.0 ∙ c.keyword_end-2.ensures) c.in_ok-name_end.ensures.1
    _ (c.in_ok-value.ensures.0 ∙ c.separator_end-2.ensures) c.in_ok-value.ensures.1
    ∙ ap (label_from c.args.s.now c.args.at) c.in_ok-type_start.ensures.0

pub returns-in_err-type_start : goal.returns-in_err-type_start
returns-in_err-type_start c = rw c.from_residual.ensures (label-no-space c.args.s.now c.args.at c.args.a c.in_err-type_start.ensures)

pub returns-in_err-type_end : goal.returns-in_err-type_end
returns-in_err-type_end c =
    rw c.from_residual-in_err-type_end.ensures
    (label-no-type c.args.s.now c.args.at _ c.in_ok-type_start.ensures.1 _ c.keyword_end.ensures c.in_err-type_end.ensures ∙ ap (label_from c.args.s.now c.args.at) c.in_ok-type_start.ensures.0)

pub returns-in_err-name_start : goal.returns-in_err-name_start
returns-in_err-name_start c =
    rw c.from_residual-in_err-name_start.ensures
    (label-no-dot c.args.s.now c.args.at _ c.in_ok-type_start.ensures.1
    _ (c.in_ok-type_end.ensures.0 ∙ c.keyword_end.ensures) c.in_ok-type_end.ensures.1 _ c.separator_end.ensures c.in_err-name_start.ensures ∙ ap (label_from c.args.s.now c.args.at) c.in_ok-type_start.ensures.0)

pub returns-in_err-name_end : goal.returns-in_err-name_end
returns-in_err-name_end c =
    rw c.from_residual-in_err-name_end.ensures
    (label-no-name c.args.s.now c.args.at _ c.in_ok-type_start.ensures.1
    _ (c.in_ok-type_end.ensures.0 ∙ c.keyword_end.ensures) c.in_ok-type_end.ensures.1
    _ (c.in_ok-name_start.ensures.0 ∙ c.separator_end.ensures) c.in_ok-name_start.ensures.1 _ c.keyword_end-2.ensures c.in_err-name_end.ensures ∙ ap (label_from c.args.s.now c.args.at) c.in_ok-type_start.ensures.0)

pub returns-in_err-value : goal.returns-in_err-value
returns-in_err-value c =
    rw c.from_residual-in_err-value.ensures
    (label-no-equals c.args.s.now c.args.at _ c.in_ok-type_start.ensures.1
    _ (c.in_ok-type_end.ensures.0 ∙ c.keyword_end.ensures) c.in_ok-type_end.ensures.1
    _ (c.in_ok-name_start.ensures.0 ∙ c.separator_end.ensures) c.in_ok-name_start.ensures.1
    _ (c.in_ok-name_end.ensures.0 ∙ c.keyword_end-2.ensures) c.in_ok-name_end.ensures.1 _ c.separator_end-2.ensures c.in_err-value.ensures ∙ ap (label_from c.args.s.now c.args.at) c.in_ok-type_start.ensures.0)
