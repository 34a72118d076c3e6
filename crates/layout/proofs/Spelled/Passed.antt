-- Every state that obeys the rules is that of slices that refusal 1 lets pass: the store that spells it is exactly as long as its limits
-- ask, so nothing is cut off it.
-- Assumes nothing.
use mathlib.Core.List.{List}
use mathlib.Core.Path.{◌≡◌, sym, ap, ◌∙◌, subst}
use Prim.Native.Nat.{ℕ, ◌*◌}
use native.Mathlib.Omega.{arith}
use lib.ListN.{length, take}
use lib.Seq.{take-length}
use Rattle.model.specs.Calls.States.{State}
use Rattle.model.specs.Rules.{Obeys}
use Rattle.model.specs.Alike.{Alike}
use Rattle.layout.specs.Store.{Store, most, room, extent, slots_for, state, core}
use Rattle.layout.specs.Numbers.{word_count, paths_bytes}
use Rattle.layout.specs.Lawful.{Lawful, Sized, Passes}
use Rattle.layout.proofs.Spelled.Lawing.{spell-lawful}
use Rattle.layout.proofs.Spelled.Ordered.{sorted, sorted-obeys, sorted-ascends, alike-sorted}
use Rattle.layout.proofs.Spelled.Stored.{spell, heads-length, most_back}
use Rattle.layout.proofs.Spelled.Everything.{spell-alike}
use Rattle.layout.proofs.Spelled.Sizing.{spell-sized}

take_own : {A : Type 0} (l : List A) (n : ℕ) → length l ≡ n → take n l ≡ l
take_own l n e = subst (λ (k : ℕ). take k l ≡ l) e (take-length l)

whole : (st : Store) → Lawful st → core st ≡ st
whole st l = λ i. record {
  words = take_own st.words word_count l.exact.words i;
  records = take_own st.records (most st) l.exact.records i;
  heads = take_own st.heads (extent st) l.exact.heads i;
  times = take_own st.times (4 * slots_for (most st)) l.exact.times i;
  paths = take_own st.paths paths_bytes l.exact.paths i;
  bytes = take_own st.bytes (room st) l.exact.bytes i;
}

pass_whole : (st : Store) → Lawful st → Sized st → length st.heads ≡ slots_for (most st) → Passes st
pass_whole st l z h = (
  record { words = omega (arith, l.exact.words); records = omega (arith, l.exact.records); heads = omega (arith, h); times = omega (arith, l.exact.times); paths = omega (arith, l.exact.paths); bytes = omega (arith, l.exact.bytes) },
  subst Lawful (sym (whole st l)) l,
  subst Sized (sym (whole st l)) z,
)

pub every-passes : (s : State) → Obeys s → (st : Store) × Passes st × Alike (state (core st)) s
every-passes s o =
    let u = sorted-obeys s o in
    let a = sorted-ascends s o in
    let st = spell (sorted s) in
    let l = spell-lawful (sorted s) u a in (
      st,
      pass_whole st l (spell-sized (sorted s) u) (heads-length (sorted s) ∙ ap slots_for (sym (most_back (sorted s)))),
      subst (λ (x : Store). Alike (state x) s) (sym (whole st l)) (alike-sorted s o (state st) (spell-alike (sorted s) u a)),
    )
