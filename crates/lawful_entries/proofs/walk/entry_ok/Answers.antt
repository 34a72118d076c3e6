-- `entry_ok` meets its contract, test by test.
-- Assumes nothing.
use mathlib.Core.Path.{◌≡◌, sym, ◌∙◌}
use Prim.Native.Nat.{◌+◌}
use native.Mathlib.Omega.{arith}
use borrow.Author.Tests.{ltb-true}
use Rattle.std.proofs.Common.{rules}
use Rattle.path.specs.declared.pieces.Piece.TheVariants as kind
use Rattle.layout.specs.Fields.{nlen_of}
use Rattle.lawful_entries.specs.Fits.{row_at, spell}
use Rattle.lawful_entries.proofs.Looking.{part-name}
use Rattle.lawful_entries.proofs.Walking.{fits-slot, fits-form, fits-rest}
use Rattle.lawful_entries.proofs.walk.entry_ok.Goals.{then-slot_of-n, else-slot_of-n}
use Rattle.lawful_entries.proofs.walk.entry_ok.Goals as goal

pub returns-then-eq : goal.returns-then-eq
returns-then-eq c =
    let a = c.args in
    let name = part-name a.bytes.now a.off (a.off + c.nlen_of.result) (nlen_of a.w) (omega arith) in
    elim c.if-slot_of-n.branch [
      | then-slot_of-n w ↦
          let t = sym w.value-is ∙ c.if-eq.true in
          let k : w.kind_of.result ≡ kind.Name = search rules in
          (rw (c.depth_of.ensures, name) at c.follows_ok.ensures) ∙ fits-rest a.n (spell a.bytes.now a.path.now) a.dir (row_at a.bytes.now a.w a.off) (omega arith) (sym (rw name at w.kind_of.ensures) ∙ k)
      | else-slot_of-n w ↦ absurd (omega (arith, ltb-true c.slot_of.result a.n (sym w.value-is ∙ c.if-eq.true)))
    ]

pub returns-else-eq : goal.returns-else-eq
returns-else-eq c =
    let a = c.args in
    let name = part-name a.bytes.now a.off (a.off + c.nlen_of.result) (nlen_of a.w) (omega arith) in
    elim c.if-slot_of-n.branch [
      | then-slot_of-n w ↦
          let t = sym w.value-is ∙ c.if-eq.false in
          let other : w.kind_of.result ≡ kind.Name → ⊥ = search rules in
          c.if-eq.false ∙ fits-form a.n (spell a.bytes.now a.path.now) a.dir (row_at a.bytes.now a.w a.off) (omega arith) (λ e. other ((rw name at w.kind_of.ensures) ∙ e))
      | else-slot_of-n w ↦ c.if-eq.false ∙ fits-slot a.n (spell a.bytes.now a.path.now) a.dir (row_at a.bytes.now a.w a.off) (omega arith)
    ]
