-- `none_open` meets its contract. Assumes nothing.
use mathlib.Core.Bool.{Bool, true, false, false≢true}
use mathlib.Core.List.{List}
use mathlib.Core.Path.{◌≡◌, refl}
use Prim.Native.Nat.{ℕ, ◌<◌}
use native.Mathlib.Nat.{zero-add}
use native.Mathlib.Omega.{arith}
use lib.ListN.{length, get_or}
use borrow.Author.Tests.{tests}
use Rattle.std.proofs.Common.{rules}
use Rattle.std.specs.Bool.{MatchBool}
use Rattle.std.specs.List.{range_with_len, AllWithin, HoldsAt}
use Rattle.std.proofs.lemmas.Iterator.{YieldsList-from_range, cases_from_all}
use Rattle.std.proofs.lemmas.List.FromFn.{length-range_with_len, get_or-range_with_len}
use Rattle.layout.specs.Numbers.{file_numbers, holder_at}
use Rattle.ask_used.specs.Unnamed.{AllClosed}
use Rattle.ask_used.proofs.none_open.Goals as goal

-- where every number passes, each is closed
ends : (ws : List ℕ) (r : Bool) → MatchBool r (AllWithin (λ j. get_or ws (holder_at j) 0 ≡ 0) (range_with_len 0 file_numbers) 0 (length (range_with_len 0 file_numbers)))
    ((k : ℕ) × (k < length (range_with_len 0 file_numbers)) × HoldsAt (λ j. get_or ws (holder_at j) 0 ≡ 0 → ⊥) (range_with_len 0 file_numbers) k)
    → r ≡ true → AllClosed ws
ends ws true h e j l = rw (get_or-range_with_len 0 file_numbers j 0 l, zero-add j) at (h j 0 (omega arith) (omega (arith, length-range_with_len 0 file_numbers)))
ends ws false h e j l = absurd (false≢true e)

pub returns : goal.returns
returns c =
    let ws = c.args.words.now in
    let yes : ℕ → Type 0 = λ j. get_or ws (holder_at j) 0 ≡ 0 in
    let no : ℕ → Type 0 = λ j. get_or ws (holder_at j) 0 ≡ 0 → ⊥ in
    let h = cases_from_all _ _ _ yes no c.all.ensures.ran (YieldsList-from_range 0 file_numbers file_numbers refl refl) (λ x q k. search (rules, tests)) (λ x q k. search (rules, tests)) in
    ends ws c.all.result h
