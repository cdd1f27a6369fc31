use native.Mathlib.Omega.{arith}
use Rattle.tag_content.proofs.TagsRead.{told-tag}
use Rattle.tag_list.proofs.Linking.{linking-start, linking-bucket, linking-seeks, linking-twice, linking-on, linking-end}
use Rattle.tag_list.proofs.collect_linked.Goals as goal

pub loop-tag-init : goal.loop-tag-init
loop-tag-init c = linking-start _ _ _ _ _ c.requires

pub slice_bounds-name-count : goal.slice_bounds-name-count
slice_bounds-name-count c = omega (arith, (told-tag _ _ _ _ c.in-Some.is c.tag_at.ensures).stands)

pub slice_bounds-name-start : goal.slice_bounds-name-start
slice_bounds-name-start c = omega (arith, (told-tag _ _ _ _ c.in-Some.is c.tag_at.ensures).stands)

pub slice_bounds-name-end : goal.slice_bounds-name-end
slice_bounds-name-end c = omega (arith, (told-tag _ _ _ _ c.in-Some.is c.tag_at.ensures).stands)

pub offset_bounds-heads-bucket : goal.offset_bounds-heads-bucket
offset_bounds-heads-bucket c = omega (arith, linking-bucket _ _ _ _ _ _ _ _ _ _ _ c.loop-tag.invariant _ (told-tag _ _ _ _ c.in-Some.is c.tag_at.ensures) _ c.bucket-bucket.ensures)

pub bounds-heads-bucket : goal.bounds-heads-bucket
bounds-heads-bucket c = linking-bucket _ _ _ _ _ _ _ _ _ _ _ c.loop-tag.invariant _ (told-tag _ _ _ _ c.in-Some.is c.tag_at.ensures) _ c.bucket-bucket.ensures

pub sought-requires : goal.sought-requires
sought-requires c = linking-seeks _ _ _ _ _ _ _ _ _ _ _ c.loop-tag.invariant _ (told-tag _ _ _ _ c.in-Some.is c.tag_at.ensures) _ c.bucket-bucket.ensures _ c.from.ensures

pub returns-in-Taken : goal.returns-in-Taken
returns-in-Taken c = linking-twice _ _ _ _ _ _ _ _ _ _ _ c.loop-tag.invariant _ (told-tag _ _ _ _ c.in-Some.is c.tag_at.ensures) _ c.bucket-bucket.ensures _ c.from.ensures _ c.sought.ensures c.in-Taken.is

pub returns-in-Unsure : goal.returns-in-Unsure
returns-in-Unsure c = tt

pub returns-then-count-next : goal.returns-then-count-next
returns-then-count-next c = tt

pub link-requires : goal.link-requires
link-requires c = let inv = c.loop-tag.invariant in
    let room = c.if-count-next.false in
    (omega (arith, inv.fits, room), room, linking-bucket _ _ _ _ _ _ _ _ _ _ _ c.loop-tag.invariant _ (told-tag _ _ _ _ c.in-Some.is c.tag_at.ensures) _ c.bucket-bucket.ensures, omega (arith, inv.narrow, room))

pub slice_bounds-cv_after-count : goal.slice_bounds-cv_after-count
slice_bounds-cv_after-count c = omega (arith, (told-tag _ _ _ _ c.in-Some.is c.tag_at.ensures).stands)

pub slice_bounds-cv_after-start : goal.slice_bounds-cv_after-start
slice_bounds-cv_after-start c = omega (arith, (told-tag _ _ _ _ c.in-Some.is c.tag_at.ensures).stands)

pub slice_bounds-cv_after-end : goal.slice_bounds-cv_after-end
slice_bounds-cv_after-end c = omega (arith, (told-tag _ _ _ _ c.in-Some.is c.tag_at.ensures).stands)

pub overflow_add-count : goal.overflow_add-count
overflow_add-count c = omega (arith, c.if-count-next.false, c.loop-tag.invariant.narrow)

pub loop-tag-smaller : goal.loop-tag-smaller
loop-tag-smaller c = omega (arith, (told-tag _ _ _ _ c.in-Some.is c.tag_at.ensures).stands)

pub loop-tag-preserved : goal.loop-tag-preserved
loop-tag-preserved c = linking-on _ _ _ _ _ _ _ _ _ _ _ c.loop-tag.invariant _ (told-tag _ _ _ _ c.in-Some.is c.tag_at.ensures) _ c.bucket-bucket.ensures _ c.from.ensures _ c.sought.ensures c.in-Free.is _ _ _ _ _
    c.requires.0
    c.if-count-next.false
    c.narrow.ensures
    c.link.ensures.table_after
    c.link.ensures.next_after
    c.link.ensures.heads_after
    c.cv_after-cv.ensures

pub returns : goal.returns
returns c = linking-end _ _ _ _ _ _ _ _ _ _ _ c.loop-tag.invariant _ _ (told-tag _ _ _ _ c.in_default.is c.tag_at.ensures) c.ended.ensures
