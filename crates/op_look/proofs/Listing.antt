-- The records of a directory's entries, one after the other: what stands in the row is the records of those that were given out, and then
-- the row as it was. Each has seven numbers, so that the next one has room where the row holds all.
-- Assumes nothing.
use mathlib.Core.List.{List, [], ◌∷◌, ◌++◌, append-nil, append_assoc}
use mathlib.Core.Option.{some}
use mathlib.Core.Path.{◌≡◌, refl, sym, ap, ◌∙◌, subst}
use Prim.Native.Nat.{ℕ, ◌+◌, ◌*◌, ◌≤◌, ◌<◌, ◌^◌}
use native.Mathlib.Omega.{arith}
use lib.IntN.{ℤ}
use lib.ListN.{length, take, drop, length-append}
use lib.Seq.{take_at, drop-append-add, drop-drop}
use Rattle.path.specs.Path.{Name}
use Rattle.model.specs.Tree.{Path}
use Rattle.model.specs.Prog.{Stat, stat?}
use Rattle.model.specs.Operations.Shows.{stats_of}
use Rattle.model.specs.Calls.States.{State}
use Rattle.model.specs.Buffers.{stat_numbers, row_numbers, in_front}
use Rattle.model.proofs.Entries.{some_inj}
use Rattle.layout.specs.Store.{Store}
use Rattle.layout.specs.Lent.{◌∘◌, with_tree, with_times}
use Rattle.layout.specs.declared.slices.Tree.{Tree}
use Rattle.ask_find.specs.declared.Spot.{Spot}
use Rattle.ask_entry.specs.declared.Stat as shown
use Rattle.ask_entry.specs.Reads.{stat_from}
use Rattle.std.specs.Prelude.{Option, Some, None}
use Rattle.store.specs.Shows.{Shows, Stands, SomeEntry, says}
use Rattle.store.specs.Listing.{listed, rest, StepIs}
use Rattle.op_look.specs.Rows.{SomeRows}
use Rattle.op_look.proofs.Showing.{size_low}

-- ---- records in a row

-- the numbers of the records
abbrev pub numbers : List (Name × Stat) → List ℤ
numbers l = row_numbers (stats_of l)

numbers-length : (l : List (Name × Stat)) → length (numbers l) ≡ 7 * length l
unfolding row_numbers stats_of
numbers-length [] = refl
numbers-length (e ∷ l) = omega (arith, numbers-length l)

numbers_last : (l : List (Name × Stat)) (e : Name × Stat) → numbers (l ++ (e ∷ [])) ≡ numbers l ++ stat_numbers e.1
unfolding row_numbers stats_of
numbers_last [] e = refl
numbers_last (d ∷ l) e = ap (λ (x : List ℤ). stat_numbers d.1 ++ x) (numbers_last l e)

-- a part written behind what stands in front
behind-front : (a b l : List ℤ) (n m : ℕ) → length a ≡ n → length b ≡ m → take n (in_front a l) ++ (b ++ drop (n + m) (in_front a l)) ≡ in_front (a ++ b) l
behind-front a b l n m x y =
    let e : drop (n + m) (in_front a l) ≡ drop (length (a ++ b)) l =
    ap (λ (k : ℕ). drop (k + m) (in_front a l)) (sym x) ∙ drop-append-add a (drop (length a) l) m ∙ drop-drop m (length a) l
    ∙ ap (λ (k : ℕ). drop k l) (ap (λ (k : ℕ). length a + k) (sym y) ∙ sym (length-append a b)) in
    ap (λ (u : List ℤ). u ++ (b ++ drop (n + m) (in_front a l))) (take_at a (drop (length a) l) n x) ∙ ap (λ (u : List ℤ). a ++ (b ++ u)) e
    ∙ sym (append_assoc a b (drop (length (a ++ b)) l))

-- ---- entry by entry, in one state

-- entries were given out, and their records stand in front of the row, up to the place; the others are left, and begin with the step
pub record Given (st : Store) (s : State) (p : Path) (l : List (Name × Stat)) (first rows : List ℤ) (at : ℕ) (step : Option Spot) : Type 0 where
  pub out : List (Name × Stat)
  pub left : List (Name × Stat)
  pub whole : l ≡ out ++ left
  pub place : length (numbers out) ≡ at
  pub row : rows ≡ in_front (numbers out) first
  pub next : StepIs st s p left step

module _ (st : Store) (s : State) (p : Path) (l : List (Name × Stat)) (first : List ℤ) where
  given_none : (step : Option Spot) → StepIs st s p l step → Given st s p l first first 0 step
  unfolding row_numbers stats_of
  given_none step b = record { out = []; left = l; whole = refl; place = refl; row = refl; next = b }

  given_all : (rows : List ℤ) (at : ℕ) → Given st s p l first rows at None → rows ≡ in_front (numbers l) first
  given_all rows at g =
      g.row ∙ ap (λ (x : List (Name × Stat)). in_front (numbers x) first) (sym (append-nil g.out) ∙ ap (λ (x : List (Name × Stat)). g.out ++ x) (sym g.next) ∙ sym g.whole)

  module _ (rows : List ℤ) (at : ℕ) (spot : Spot) (g : Given st s p l first rows at (Some spot)) where
    given-room : 7 * length l ≤ length first → at + 7 ≤ length first
    given-room f =
        omega (arith, f, numbers-length g.out, g.place, ap length g.whole ∙ length-append g.out g.left, ap length g.next.list)

    given-next : (x : Stat) → says (stat? (p ++ (g.next.name ∷ []))) s ≡ some x → (after : List ℤ) → after ≡ take at rows ++ (stat_numbers x ++ drop (at + 7) rows)
        → (step : Option Spot) → StepIs st s p (rest st p spot) step → Given st s p l first after (at + 7) step
    given-next x y after e step b =
        let z : x ≡ g.next.stat = some_inj (sym y ∙ g.next.told) in
        let d : Name × Stat = (g.next.name, x) in
        let n : numbers (g.out ++ (d ∷ [])) ≡ numbers g.out ++ stat_numbers x = numbers_last g.out d in
        record {
          out = g.out ++ (d ∷ []);
          left = rest st p spot;
          whole =
              g.whole ∙ ap (λ (k : List (Name × Stat)). g.out ++ k) (g.next.list ∙ ap (λ (k : Stat). (g.next.name, k) ∷ rest st p spot) (sym z))
              ∙ sym (append_assoc g.out (d ∷ []) (rest st p spot));
          place = ap length n ∙ length-append (numbers g.out) (stat_numbers x) ∙ ap (λ (k : ℕ). k + 7) g.place;
          row =
              e ∙ ap (λ (k : List ℤ). take at k ++ (stat_numbers x ++ drop (at + 7) k)) g.row
              ∙ behind-front (numbers g.out) (stat_numbers x) first at 7 g.place refl ∙ ap (λ (k : List ℤ). in_front k first) (sym n);
          next = b;
        }

-- ---- in all states that a store with the slices shows

-- a store with those that hold the tree, and these times
abbrev pub five : Tree → List ℤ → Store → Store
five t times = with_tree t ∘ with_times times

-- some list of entries begins with the step, and the row holds a record of each
pub record Held (has : Store → Store) (start : Option Spot) (rows : List ℤ) : Type 0 where
  pub store : Store
  pub state : State
  pub path : Path
  pub list : List (Name × Stat)
  pub shows : Shows (has store) state
  pub begins : StepIs (has store) state path list start
  pub fits : 7 * length list ≤ length rows

-- of every list of entries that begins with the first step, some were given out
pub record Filling (has : Store → Store) (start : Option Spot) (first rows : List ℤ) (at : ℕ) (step : Option Spot) : Type 0 where
  pub long : length rows ≡ length first
  pub given : (st : Store) (s : State) → Shows (has st) s → (p : Path) (l : List (Name × Stat)) → StepIs (has st) s p l start → Given (has st) s p l first rows at step

module _ (has : Store → Store) (start : Option Spot) (first : List ℤ) where
  pub held : (spot : Spot) → SomeRows has spot first → ((st : Store) (s : State) → Shows (has st) s → (p : Path) → Stands (has st) spot p → StepIs (has st) s p (listed s p) start)
      → Held has start first
  held spot x b = record { store = x.0; state = x.1; path = x.2; list = listed x.1 x.2; shows = x.3; begins = b x.0 x.1 x.3 x.2 x.4; fits = x.5 }

  pub fill_start : Filling has start first first 0 start
  fill_start = record { long = refl; given = λ st s h p l b. given_none (has st) s p l first start b }

  module _ (rows : List ℤ) (at : ℕ) (step : Option Spot) (f : Filling has start first rows at step) where
    pub fill_end : step ≡ None → (st : Store) (s : State) → Shows (has st) s → (p : Path) (l : List (Name × Stat)) → StepIs (has st) s p l start → rows ≡ in_front (numbers l) first
    fill_end e st s h p l b = given_all (has st) s p l first rows at (subst (Given (has st) s p l first rows at) e (f.given st s h p l b))

    module _ (spot : Spot) (e : step ≡ Some spot) where
      turn : (st : Store) (s : State) → Shows (has st) s → (p : Path) (l : List (Name × Stat)) → StepIs (has st) s p l start → Given (has st) s p l first rows at (Some spot)
      turn st s h p l b = subst (Given (has st) s p l first rows at) e (f.given st s h p l b)

      -- the entry of the store that is known
      met : (k : Held has start first) → Given (has k.store) k.state k.path k.list first rows at (Some spot)
      met k = turn k.store k.state k.shows k.path k.list k.begins

      pub fill-room : Held has start first → at + 7 ≤ length rows
      fill-room k = omega (arith, f.long, given-room (has k.store) k.state k.path k.list first rows at spot (met k) k.fits)

      pub fill-entry : Held has start first → SomeEntry has spot
      fill-entry k = let b = (met k).next in (k.store, k.state, k.path ++ (b.name ∷ []), k.shows, b.at)

      module _ (x : shown.Stat) (told : (st : Store) (s : State) → Shows (has st) s → (p : Path) → Stands (has st) spot p → says (stat? p) s ≡ some (stat_from x)) where
        pub fill-size : Held has start first → x.size < 2 ^ 63
        fill-size k =
            let b = (met k).next in
            size_low (has k.store) k.state k.shows _ (stat_from x) (told k.store k.state k.shows (k.path ++ (b.name ∷ [])) b.at)

        pub fill-next : (after : List ℤ) → length after ≡ length first → after ≡ take at rows ++ (stat_numbers (stat_from x) ++ drop (at + 7) rows) → (r : Option Spot)
            → ((st : Store) (s : State) → Shows (has st) s → (p : Path) (n : Name) → Stands (has st) spot (p ++ (n ∷ [])) → StepIs (has st) s p (rest (has st) p spot) r)
            → Filling has start first after (at + 7) r
        fill-next after long w r n = record {
          long = long;
          given = λ st s h p l b.
              let g = turn st s h p l b in
              given-next (has st) s p l first rows at spot g (stat_from x) (told st s h (p ++ (g.next.name ∷ [])) g.next.at) after w r (n st s h p g.next.name g.next.at);
        }
