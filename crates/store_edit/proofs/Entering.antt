-- The entry at a spot of a store that shows a state, and an open number: the slot that it has is one of those so far, and it is a file's
-- where the state says so.
-- Assumes nothing.
use mathlib.Core.Bool.{Bool, true, false, cond}
use mathlib.Core.Option.{Option, none, some}
use mathlib.Core.Path.{◌≡◌, refl, sym, ap, ◌∙◌, subst}
use Prim.Native.Nat.{ℕ, ◌+◌, ◌*◌, ◌<◌}
use native.Mathlib.Decide.{ℕ_discrete}
use native.Mathlib.Omega.{arith}
use lib.Dec.{eqb}
use lib.ListN.{length, get_or}
use borrow.Author.Tests.{eqb-true}
use Rattle.model.specs.Tree.{Path, Open, file, look, Change}
use Rattle.model.specs.Prog.{Kind, a_dir, aFile, a_link, kind_number, Position, kind?, open?, answer, on_some, opens}
use Rattle.model.specs.Calls.States.{State, world_of, edited}
use Rattle.model.proofs.Entries.{clash, some_inj}
use Rattle.layout.specs.Fields.{slot_of}
use Rattle.layout.specs.Store.{Store, holder, kind_at, state}
use Rattle.layout.specs.Lawful.{Lawful}
use Rattle.layout.specs.Alike.{Spells, HasSlot}
use Rattle.layout.proofs.Slotted.{file_at_lem}
use Rattle.layout.proofs.Entered.{Stood, stood}
use Rattle.layout.proofs.Tables.{open_there}
use Rattle.ask_find.specs.declared.Spot.{Spot}
use Rattle.ask_find.proofs.Records.{slot-low, path-look, path-slot}
use Rattle.ask_entry.specs.declared.Opened.{Opened}
use Rattle.ask_entry.specs.Reads.{kind_by, NumberIs}
use Rattle.std.specs.Prelude as std
use Rattle.std.specs.Prelude.{IsSome}
use Rattle.ask_entry.proofs.Stats.{kind-told}
use Rattle.ask_entry.proofs.Numbers.{open-low}
use Rattle.edit_room.specs.Extents.{trim}
use Rattle.edit_slot.specs.Changes.{Changes}
use Rattle.store.specs.Shows.{Shows, Stands, says}
use Rattle.store.proofs.Asked.{told}
use Rattle.store_edit.specs.Turns.{NumberOpen}

kind_two : (k : ℕ) → kind_by k ≡ aFile → k ≡ 2
kind_two k e = go (eqb k 1) (eqb k 2) refl e
  where
    go : (a b : Bool) → eqb k 2 ≡ b → cond a a_dir (cond b aFile a_link) ≡ aFile → k ≡ 2
    go true b f z = absurd (let y = ap kind_number z in omega (arith, y))
    go false true f z = eqb-true k 2 f
    go false false f z = absurd (let y = ap kind_number z in omega (arith, y))

-- ---- an entry

module _ {st : Store} {s : State} (h : Shows st s) {spot : Spot} {p : Path} (a : Stands st spot p) where
  abbrev l : Lawful (trim st)
  l = h.roomy.lawful

  abbrev slot : ℕ
  slot = slot_of (get_or st.records spot.at 0)

  -- its record is there
  pub spot-low : spot.at < length st.records
  spot-low = omega (arith, a.within, l.counted, l.exact.records)

  -- its slot is one of those so far
  pub spot-slot : slot < length (trim st).heads
  spot-slot = slot-low (trim st) l spot.at a.within

  pub slot-few : slot < 4128
  slot-few = omega (arith, spot-slot, l.exact.heads, l.slotted, l.entry_limit.1)

  -- its times are there
  pub spot-times : 4 * slot + 3 < length st.times
  spot-times = omega (arith, spot-slot, l.exact.heads, l.exact.times, l.slotted)

  pub spot_has : {k : ℕ} → k ≡ slot → HasSlot (trim st) p k
  spot_has e = subst (HasSlot (trim st) p) (sym e) (subst (λ (q : Path). HasSlot (trim st) q slot) a.path (path-slot (trim st) l spot.at a.within))

  pub spot-kind : (k : Kind) → says (kind? p) s ≡ some k → kind_by (kind_at (trim st) slot) ≡ k
  spot-kind k e =
      some_inj (sym (kind-told (trim st) l spot.at a.within) ∙ (ap (λ (q : Path). answer (kind? q) (world_of (state (trim st)))) a.path ∙ (told st s h (kind? p) ∙ e)))

  -- it is a file's
  pub spot-file : says (kind? p) s ≡ some aFile → kind_at (trim st) slot ≡ 2
  spot-file e = kind_two (kind_at (trim st) slot) (spot-kind aFile e)

  pub spot-look : says (kind? p) s ≡ some aFile → look (state (trim st)).tree p ≡ some (file slot)
  spot-look e =
      ap (look (state (trim st)).tree) (sym a.path)
      ∙ (path-look (trim st) l spot.at a.within ∙ ap some (file_at_lem (trim st) slot (spot-file e)))

-- ---- a number

module _ (st : Store) (s : State) (h : Shows st s) (n : ℕ) where
  pub open_at : NumberOpen n s → (n < 32) × Stood (trim st) h.roomy.lawful n
  open_at o =
      let k = open-low (trim st) h.roomy.lawful n o.0 (told st s h (open? n) ∙ o.1) in
      (k.0, stood (trim st) h.roomy.lawful n k.0 k.1)

  -- a closed number has no holder
  pub closed_at : n < 32 → says (open? n) s ≡ none → holder (trim st) n ≡ 0
  unfolding answer
  closed_at b e = go (ℕ_discrete (holder (trim st) n) 0)
    where
      go : Dec (holder (trim st) n ≡ 0) → holder (trim st) n ≡ 0
      go (yes z) = z
      go (no z) =
          clash (says (open? n) (state (trim st))) _ (told st s h (open? n) ∙ e)
          (ap (λ (v : Option Open). on_some {B = Position} v (λ q. some (record { pos = q.pos; kept = q.kept }))) (open_there (trim st) 32 0 n (omega arith) (omega (arith, b)) z))

-- a number that is found is open
pub found-open : {st : Store} {s : State} → Shows st s → (n : ℕ) → NumberOpen n s → (r : std.Option Opened) → NumberIs (trim st) n r → IsSome r
found-open {st} {s} h n o std.None x = clash (says (open? n) (state (trim st))) o.0 x (told st s h (open? n) ∙ o.1)
found-open h n o (std.Some y) x = refl

-- ---- a change

-- a time that was passed on is the time that was given
pub same_change : {c d : Change} {st u : Store} {k : ℕ} → c ≡ d → Changes c st u k → Changes d st u k
same_change {st = st} {u = u} {k = k} e h = subst (λ (x : Change). Changes x st u k) e h

-- a number opened at a path, by another way to say the path
pub same_opens : {u : Store} (n k : ℕ) (s : State) {p q : Path} → p ≡ q → Spells u (edited (opens n p k) s) → Spells u (edited (opens n q k) s)
same_opens {u = u} n k s e h = subst (λ (r : Path). Spells u (edited (opens n r k) s)) e h
