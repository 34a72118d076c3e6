-- `Kept::put` meets its contract: of no text nothing is stored, and of a plain one its part, a slash in front.
use mathlib.Core.Path.{◌≡◌, sym, ap, ◌∙◌}
use Prim.Native.Nat.{ℕ, ◌+◌, ◌-◌}
use native.Mathlib.Omega.{arith}
use lib.ListN.{length}
use borrow.Author.Tests.{eqb-true}
use Rattle.path.specs.Path.{body}
use Rattle.path.specs.Backward.{sifted}
use Rattle.path.proofs.Following.{empty-stored, plain-stored}
use Rattle.path_scan.specs.Plain.{PlainPart}
use Rattle.path_scan.proofs.Trimming.{plain-told, part_body, part-long}
use Rattle.path_scan.proofs.kept.Kept.put.Goals.{In-Some}
use Rattle.path_scan.proofs.kept.Kept.put.Goals as goal

pub returns-then-is_empty : goal.returns-then-is_empty
returns-then-is_empty c = empty-stored _ _ _ _ _ (eqb-true _ _ (sym c.is_empty.ensures ∙ c.if-is_empty.true))

plain : (c : In-Some) → let k = c.args.self.now in PlainPart c.in-Some.names.now k.strike k.behind k.text.now
plain c = let k = c.args.self.now in plain-told k.strike k.behind k.text.now c.in-Some.is k.stands

-- what is stored is as long as it is to be
size : (c : In-Some) → length c.in-Some.names.now + 1 ≡ c.args.self.now.len
size c = part-long _ _ _ _ (plain c) ∙ sym c.args.self.now.long

pub put_name-requires : goal.put_name-requires
put_name-requires c = omega (arith, size (goal.at.put_name-requires c).In-Some, c.requires.0, c.requires.1)

pub returns-in-Some : goal.returns-in-Some
returns-in-Some c =
    let k = c.args.self.now in let s = (goal.at.returns-in-Some c).In-Some in
    plain-stored c.args.out.now _ c.in-Some.names.now (body (sifted k.strike k.behind k.text.now).kept) c.args.end (c.args.end - k.len)
    (sym (part_body _ _ _ _ (plain s))) (ap (λ (n : ℕ). c.args.end - n) k.long) (omega (arith, k.long)) c.put_name.ensures
