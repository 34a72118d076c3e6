-- `removed_bytes` meets its contract: a mark is the number of records that have its slot. Assumes nothing.
use mathlib.Core.Path.{◌∙◌, refl}
use native.Mathlib.Omega.{arith}
use Rattle.layout.proofs.Zeros.{zeros-read}
use Rattle.ask_used.proofs.Marked.{counted-alone}
use Rattle.ask_used.proofs.removed_bytes.Goals as goal

pub mark_records-requires : goal.mark_records-requires
mark_records-requires c =
    let p = c.requires in
    (λ i h. omega (arith, p.1 i h, p.0), refl, λ k. zeros-read 4128 k)

pub returns : goal.returns
returns c =
    let p = c.requires in
    let g = c.args in
    c.unmarked.ensures ∙ counted-alone g.recs.now g.heads.now _ c.mark_records.result p.1 p.2 c.mark_records.ensures.0
