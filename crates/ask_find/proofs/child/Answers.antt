-- `child` meets its contract: the names behind the directory begin where its own ends. Assumes nothing.
use mathlib.Core.Path.{◌≡◌, sym, ap, ◌∙◌}
use Prim.Native.Nat.{ℕ, ◌+◌, ◌<◌}
use native.Mathlib.Omega.{arith}
use lib.ListN.{take, drop, get_or}
use Rattle.layout.specs.Fields.{depth_of, nlen_of}
use Rattle.layout.specs.Rows.{name_total, rows}
use Rattle.layout.specs.Store.{Store, count, live, rows_of}
use Rattle.layout.specs.Lawful.{Lawful}
use Rattle.ask_find.specs.declared.Spot.{Spot}
use Rattle.ask_find.specs.Finds.{Place, find_in, scan}
use Rattle.ask_find.specs.Spots.{hidden_at}
use Rattle.ask_find.proofs.Scan as scanning
use Rattle.ask_find.proofs.Children.{Ready, ready, asked_is, next_is, depth_is, child-found, child-hidden, child-missing, not_hidden, is_hidden}
use Rattle.ask_find.proofs.child.Goals.{After-find_child, Start, in-Ok-2-2, in-Ok-2}
use Rattle.ask_find.proofs.child.Goals as goal

-- what the slices have
at-hand : (c : Start) → let a = c.args in Ready a.records.now a.bytes.now a.dir
at-hand c = let a = c.args in ready a.records.now a.bytes.now a.dir c.requires

-- the offset of the first name behind the directory
abbrev next : Start → ℕ
next c = c.args.dir.off + nlen_of (get_or c.args.records.now c.args.dir.at 0)

pub behind-requires : goal.behind-requires
behind-requires c = let r = at-hand (goal.at.behind-requires c).Start in (omega (arith, r.within, r.few), omega (arith, r.low))

-- what the search starts with
start : (c : Start) (d : ℕ) → let a = c.args in scanning.Start a.records.now a.bytes.now d a.name.now (a.dir.at + 1) (next c)
start c d =
    let a = c.args in
    let r = at-hand c in
    scanning.scan-start a.records.now a.bytes.now d a.name.now (a.dir.at + 1) (next c) (omega (arith, r.within)) r.next r.room

pub find_child-requires : goal.find_child-requires
find_child-requires c = rw c.behind.ensures (start (goal.at.find_child-requires c).Start 0).within

-- the place that was answered, of a store that has the slices
told : (c : After-find_child) (w : Place) → let s = c.args in w ≡ scan s.records.now s.bytes.now c.depth_of-d.result s.name.now c.behind.result
    → (st : Store) → live st ≡ s.records.now → st.bytes ≡ s.bytes.now → s.dir.at < count st
    → w ≡ find_in (depth_of (get_or st.records s.dir.at 0)) s.name.now (drop (s.dir.at + 1) (rows_of st)) (s.dir.at + 1) (next (goal.at.After-find_child c).Start)
told c w y st e f h =
    let s = c.args in
    let i = (goal.at.After-find_child c).Start in
    y
    ∙ ap (λ (o : Spot). scan s.records.now s.bytes.now c.depth_of-d.result s.name.now o) c.behind.ensures
    ∙ (start i c.depth_of-d.result).same
    ∙ ap (λ (d : ℕ). find_in d s.name.now (drop (s.dir.at + 1) (rows s.records.now s.bytes.now)) (s.dir.at + 1) (next i)) c.depth_of-d.ensures
    ∙ asked_is s.records.now s.bytes.now st e f s.dir h s.name.now (next i)

offset : (c : Start) → (st : Store) → let s = c.args in live st ≡ s.records.now → st.bytes ≡ s.bytes.now → Lawful st → s.dir.at < count st → next c ≡ name_total (take (s.dir.at + 1) st.records)
offset c st e f l h = let s = c.args in next_is s.records.now s.bytes.now st e f s.dir h l (next c) (at-hand c).next

deep : (c : After-find_child) → (st : Store) → let s = c.args in live st ≡ s.records.now → st.bytes ≡ s.bytes.now → s.dir.at < count st → c.depth_of-d.result + 1 ≡ depth_of (get_or st.records s.dir.at 0) + 1
deep c st e f h = let s = c.args in depth_is s.records.now s.bytes.now st e f s.dir h (c.depth_of-d.result + 1) (ap (λ (d : ℕ). d + 1) c.depth_of-d.ensures)

pub returns-in-Ok : goal.returns-in-Ok
returns-in-Ok c =
    λ st e f l p t a d k.
    let s = c.args in
    let w = (goal.at.returns-in-Ok c).After-find_child in
    let i = (goal.at.returns-in-Ok c).Start in
    child-found st l s.dir p a (hidden_at s.hidden) t d k s.name.now (next i) (offset i st e f l a.within) c.in-Ok.spot.at c.in-Ok.spot.off (not_hidden st l s.hidden c.in-Ok.spot.at (sym c.ne.ensures ∙ c.if-ne.true)) (told w _ c.in-Ok.ensures st e f a.within)

-- an entry that is hidden, or missing
pub returns-in-Ok-2 : goal.returns-in-Ok-2
returns-in-Ok-2 c =
    λ st e f l p t a d k.
    let s = c.args in
    let w = (goal.at.returns-in-Ok-2 c).After-find_child in
    let i = (goal.at.returns-in-Ok-2 c).Start in
    let o = offset i st e f l a.within in
    let n = deep w st e f a.within in
    rw c.gap.ensures (elim c.in-Ok-2-1.branch [
      | in-Ok-2-2 v ↦ rw v.spot-is (child-hidden st l s.dir p a (hidden_at s.hidden) t d k s.name.now (next i) o v.in-Ok.spot.at v.in-Ok.spot.off (c.depth_of-d.result + 1) (is_hidden s.hidden v.in-Ok.spot.at (sym v.ne.ensures ∙ v.if-ne.false)) (told w _ v.in-Ok.ensures st e f a.within) n)
      | in-Ok-2 v ↦ rw v.spot-is (child-missing st l s.dir p a (hidden_at s.hidden) t d k s.name.now (next i) o v.in-Ok-2.spot.at v.in-Ok-2.spot.off (c.depth_of-d.result + 1) (told w _ v.in-Ok-2.ensures st e f a.within) n)
    ])
