-- `sifting::drop_names` meets its contract. The loop's invariant: path[..h] is the text of some names, and what is asked is these
-- without as many of their last as there are turns left.
use mathlib.Core.List.{drop_last}
use mathlib.Core.Path.{◌≡◌, sym, ap, ◌∙◌}
use Prim.Native.Nat.{ℕ, ◌+◌, ◌-◌, ◌<◌, zero-le}
use native.Mathlib.Omega.{arith}
use lib.ListN.{take}
use lib.Seq.{take-length}
use Rattle.path.specs.Path.{names, body}
use Rattle.path.specs.Backward.{drop_n}
use Rattle.path.proofs.Cutting.{NoSlash}
use Rattle.path.proofs.Dropping.{drop-step, drop_all, drop-done, drop_next, names_no_slash}
use Rattle.path.proofs.Every.{every-drop_last}
use Rattle.path_scan.proofs.sifting.drop_names.Goals.{After-piece_start-h}
use Rattle.path_scan.proofs.sifting.drop_names.Goals as goal

pub loop-init : goal.loop-init
loop-init c =
    let z : c.args.k ≡ c.args.k - 0 = omega arith in
    (names _, names_no_slash _, omega arith, take-length _ ∙ sym c.requires, ap (λ (j : ℕ). drop_n j (names c.args.path.now)) z)

pub returns-then-h-eq0 : goal.returns-then-h-eq0
returns-then-h-eq0 c =
    let l = c.loop in
    (zero-le, drop_all _ l.h (c.args.k - l.counter) l.invariant.0 _ c.if-h-eq0.true l.invariant.3 l.invariant.4)

-- a turn drops the last name
stepped : (c : After-piece_start-h)
    → (0 < c.piece_start-h.result) × (take (c.piece_start-h.result - 1) c.args.path.now ≡ body (drop_last c.loop.invariant.0))
stepped c =
    let l = c.loop in
    drop-step _ l.h c.piece_start-h.result l.invariant.0 (omega arith) (omega arith) l.invariant.1 l.invariant.3 c.piece_start-h.ensures.last

pub overflow_sub-h : goal.overflow_sub-h
overflow_sub-h c = (stepped c).0

pub loop-preserved : goal.loop-preserved
loop-preserved c =
    let l = c.loop in
    let cur = l.invariant.0 in
    let less : c.args.k - l.counter - 1 ≡ c.args.k - (l.counter + 1) = omega arith in (
      drop_last cur,
      every-drop_last NoSlash cur l.invariant.1,
      omega arith,
      (stepped c).1,
      drop_next (c.args.k - l.counter) cur _ (omega arith) l.invariant.4 ∙ ap (λ (j : ℕ). drop_n j (drop_last cur)) less,
    )

pub returns : goal.returns
returns c =
    let l = c.loop in
    (l.invariant.2, l.invariant.3 ∙ sym (ap body (drop-done (c.args.k - l.counter) l.invariant.0 _ (omega arith) l.invariant.4)))
