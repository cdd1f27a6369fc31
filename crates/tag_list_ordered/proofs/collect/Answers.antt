use native.Mathlib.Omega.{arith}
use Rattle.tag_content.proofs.TagsRead.{told-tag, found-named}
use Rattle.tag_list_ordered.proofs.Collecting.{collecting-start, collecting-twice, collecting-full, collecting-slot, collecting-on, collecting-end}
use Rattle.tag_list_ordered.proofs.collect.Goals as goal

pub loop-tag-init : goal.loop-tag-init
loop-tag-init c = collecting-start _ _ _

pub slice_bounds-name-count : goal.slice_bounds-name-count
slice_bounds-name-count c = omega (arith, (told-tag _ _ _ _ c.in-Some.is c.tag_at.ensures).stands)

pub slice_bounds-name-start : goal.slice_bounds-name-start
slice_bounds-name-start c = omega (arith, (told-tag _ _ _ _ c.in-Some.is c.tag_at.ensures).stands)

pub slice_bounds-name-end : goal.slice_bounds-name-end
slice_bounds-name-end c = omega (arith, (told-tag _ _ _ _ c.in-Some.is c.tag_at.ensures).stands)

pub slot_of-requires : goal.slot_of-requires
slot_of-requires c = (c.loop-tag.invariant.table, found-named _ _ _ (told-tag _ _ _ _ c.in-Some.is c.tag_at.ensures))

pub returns-in_default-slot_of : goal.returns-in_default-slot_of
returns-in_default-slot_of c = collecting-twice _ _ _ _ _ _ _ c.loop-tag.invariant _ (told-tag _ _ _ _ c.in-Some.is c.tag_at.ensures) _ c.slot_of.ensures c.in_default-slot_of.is

pub returns-then-count-table : goal.returns-then-count-table
returns-then-count-table c = collecting-full _ _ _ _ _ _ _ c.loop-tag.invariant _ (told-tag _ _ _ _ c.in-Some.is c.tag_at.ensures) c.if-count-table.true

pub insert-requires : goal.insert-requires
insert-requires c = (collecting-slot _ _ _ _ _ _ _ c.loop-tag.invariant _ (told-tag _ _ _ _ c.in-Some.is c.tag_at.ensures) _ c.slot_of.ensures _ c.in-Some-slot_of.is, c.if-count-table.false)

pub slice_bounds-cv_after-count : goal.slice_bounds-cv_after-count
slice_bounds-cv_after-count c = omega (arith, (told-tag _ _ _ _ c.in-Some.is c.tag_at.ensures).stands)

pub slice_bounds-cv_after-start : goal.slice_bounds-cv_after-start
slice_bounds-cv_after-start c = omega (arith, (told-tag _ _ _ _ c.in-Some.is c.tag_at.ensures).stands)

pub slice_bounds-cv_after-end : goal.slice_bounds-cv_after-end
slice_bounds-cv_after-end c = omega (arith, (told-tag _ _ _ _ c.in-Some.is c.tag_at.ensures).stands)

pub loop-tag-smaller : goal.loop-tag-smaller
loop-tag-smaller c = omega (arith, (told-tag _ _ _ _ c.in-Some.is c.tag_at.ensures).stands)

pub loop-tag-preserved : goal.loop-tag-preserved
loop-tag-preserved c =
    collecting-on _ _ _ _ _ _ _ c.loop-tag.invariant _ (told-tag _ _ _ _ c.in-Some.is c.tag_at.ensures) _ c.slot_of.ensures _ c.in-Some-slot_of.is _ _ _
    c.requires
    c.if-count-table.false
    c.narrow.ensures
    c.insert.ensures
    c.cv_after-cv.ensures

pub returns : goal.returns
returns c = collecting-end _ _ _ _ _ _ _ c.loop-tag.invariant _ _ (told-tag _ _ _ _ c.in_default.is c.tag_at.ensures) c.ended.ensures
