-- `text::walk` meets its contract: a character further, the whole is a text where what is left is one. Assumes nothing.
use mathlib.Core.Path.{◌≡◌, sym, ◌∙◌}
use Prim.Native.Nat.{◌+◌, ◌≤◌, ◌<◌}
use native.Mathlib.Omega.{arith}
use lib.ListN.{length, drop}
use Rattle.text.proofs.Turns.{turn}
use Rattle.text.specs.Utf8.{octets, text}
use Rattle.text.proofs.Classes.walk.Goals.{In-Some}
use Rattle.text.proofs.Classes.walk.Goals as goal

-- what holds behind a character
moved : (c : In-Some) → let s = c.args.s.now in
    let i = c.loop-i.i + c.in-Some.k in
    (0 < c.in-Some.k) × (i ≤ length s) × (text s ≡ octets 0 (drop i s))
moved c =
    let l = c.loop-i in
    turn c.args.s.now l.i c.in-Some.k l.invariant.0 (sym c.char_len.ensures ∙ c.in-Some.is) l.invariant.1

pub overflow_add-i : goal.overflow_add-i
overflow_add-i c = omega (arith, moved (goal.at.overflow_add-i c).In-Some)

pub loop-i-smaller : goal.loop-i-smaller
loop-i-smaller c = omega (arith, moved (goal.at.loop-i-smaller c).In-Some)

pub loop-i-preserved : goal.loop-i-preserved
loop-i-preserved c = let m = moved (goal.at.loop-i-preserved c).In-Some in (m.1, m.2)
