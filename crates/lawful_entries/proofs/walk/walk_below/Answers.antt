-- `walk_below` meets its contract. The loop's invariant is `Walked`: the entries that are left decide.
-- Assumes nothing.
use native.Mathlib.Omega.{arith}
use mathlib.Core.Path.{◌∙◌}
use lib.ListN.{get_or}
use Rattle.std.proofs.Common.{rules}
use Rattle.layout.specs.declared.kind.Kind.TheVariants.{Directory}
use Rattle.layout.proofs.Kinded.{kind-test}
use Rattle.lawful_entries.proofs.Walking.{walked-name, walked-depth, walked-bad, walked_on, walked_end}
use Rattle.lawful_entries.proofs.walk.walk_below.Goals as goal

pub entry_ok-requires : goal.entry_ok-requires
entry_ok-requires c = let a = c.args in let l = c.loop-w in (l.invariant.spelt, walked-name a.recs.now a.heads.now a.bytes.now l.last l.w-index l.off l.d l.dir l.invariant (omega arith))

pub returns-then-not-entry_ok : goal.returns-then-not-entry_ok
returns-then-not-entry_ok c = let a = c.args in let l = c.loop-w in walked-bad a.recs.now a.heads.now a.bytes.now l.last l.w-index l.off l.d l.dir l.invariant (omega arith) (search rules)

pub bounds-last-d : goal.bounds-last-d
bounds-last-d c = let a = c.args in let l = c.loop-w in let h = walked-depth a.recs.now a.heads.now a.bytes.now l.last l.w-index l.off l.d l.dir l.invariant (omega arith) (omega arith) (search rules) in omega arith

pub loop-w-preserved : goal.loop-w-preserved
loop-w-preserved c =
    let a = c.args in let l = c.loop-w in
    rw (c.eq-dir.ensures ∙ kind-test Directory (get_or c.args.heads.now c.slot_of.result 0) c.of.ensures, c.slot_of.ensures, c.depth_of-d.ensures, c.nlen_of-n.ensures) (walked_on a.recs.now a.heads.now a.bytes.now l.last l.w-index l.off l.d l.dir l.invariant (omega arith) (omega arith) (search rules) c.new.result (rw c.nlen_of-n.ensures at c.new.ensures))

pub returns : goal.returns
returns c = let a = c.args in let l = c.loop-w in walked_end a.recs.now a.heads.now a.bytes.now l.last l.w-index l.off l.d l.dir l.invariant (omega arith)
