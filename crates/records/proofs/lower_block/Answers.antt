-- `lower_block` meets its contract. Assumes nothing.
use mathlib.Core.Path.{◌∙◌}
use native.Mathlib.Omega.{arith}
use lib.ListN.{length-set}
use Rattle.records.proofs.Lowers.{ready, lowered, total_kept, long_kept}
use Rattle.records.proofs.lower_block.Goals as goal

pub word_below-below-requires : goal.word_below-below-requires
word_below-below-requires c =
    let a = c.args in
    let p = c.requires in
    (omega (arith, (p.7 a.block.start (omega arith) p.0).high), p.5, p.6)

pub lift_words-requires : goal.lift_words-requires
lift_words-requires c =
    let a = c.args in
    let p = c.requires in
    let u = c.with_slot in
    let v = c.word_below-below in
    (omega (arith, p.0), omega (arith, length-set a.records.now a.block.start u.result, p.1, p.2), omega arith, ready a.records.now a.bytes.now a.count a.block.start a.block.end a.s a.name.now p.0 p.1 p.2 u.result v.result u.ensures.0 u.ensures.1 u.ensures.2 v.ensures.0 v.ensures.2 p.7)

pub open_entry-requires : goal.open_entry-requires
open_entry-requires c =
    let a = c.args in
    let p = c.requires in
    let u = c.with_slot in
    let v = c.word_below-below in
    let k = c.lift_words.ensures in
    (omega (arith, p.0, p.1), omega (arith, p.2, long_kept a.records.now a.bytes.now a.count a.block.start a.block.end a.s a.name.now p.0 p.1 p.2 u.result v.result u.ensures.0 u.ensures.1 u.ensures.2 v.ensures.0 v.ensures.2 p.7 p.8 _ k), p.3, v.ensures.1, omega (arith, p.8, total_kept a.records.now a.bytes.now a.count a.block.start a.block.end a.s a.name.now p.0 p.1 p.2 u.result v.result u.ensures.0 u.ensures.1 u.ensures.2 v.ensures.0 v.ensures.2 p.7 p.8 _ k))

pub shape_of-records : goal.shape_of-records
shape_of-records c =
    let a = c.args in
    let p = c.requires in
    let u = c.with_slot in
    let v = c.word_below-below in
    c.open_entry.ensures.record_count ∙ long_kept a.records.now a.bytes.now a.count a.block.start a.block.end a.s a.name.now p.0 p.1 p.2 u.result v.result u.ensures.0 u.ensures.1 u.ensures.2 v.ensures.0 v.ensures.2 p.7 p.8 _ c.lift_words.ensures

pub returns : goal.returns
returns c =
    let a = c.args in
    let p = c.requires in
    let u = c.with_slot in
    let v = c.word_below-below in
    lowered a.records.now a.bytes.now a.count a.block.start a.block.end a.s a.name.now p.0 p.1 p.2 u.result v.result u.ensures.0 u.ensures.1 u.ensures.2 v.ensures.0 v.ensures.2 p.7 p.8 _ c.lift_words.ensures _ _ c.open_entry.ensures
