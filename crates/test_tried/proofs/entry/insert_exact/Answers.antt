-- `insert_exact` asks what the edit asks, and the edit leaves a lawful store.
-- Assumes nothing.
use mathlib.Core.List.{[]}
use Rattle.edit_entry.proofs.Inserts.{name-short}
use Rattle.layout.specs.Store.{lent}
use Rattle.test_tried.proofs.entry.insert_exact.Goals as goal

pub may_insert-requires : goal.may_insert-requires
may_insert-requires c = (c.requires.0, name-short _ c.in-Some.ensures.vacant.name)

pub insert_entry-requires : goal.insert_entry-requires
insert_entry-requires c =
    let a = c.args in
    let i = c.may_insert.ensures c.if-not-may_insert.false in
    (lent [] [] [] [] a.paths.now [], c.requires.0, (_, record { vacant = c.in-Some.ensures.vacant; allowed = i; free = c.requires.1 i.more }))

pub returns : goal.returns
returns c =
    let a = c.args in
    let i = c.may_insert.ensures c.if-not-may_insert.false in
    (c.insert_entry.ensures (lent [] [] [] [] a.paths.now []) c.requires.0 _ (record { vacant = c.in-Some.ensures.vacant; allowed = i; free = c.requires.1 i.more })).spells.lawful
