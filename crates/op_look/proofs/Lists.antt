-- List by what the lookup found: the names and the records of a directory's entries, where there is room for both.
-- Assumes nothing.
use mathlib.Core.Bool.{Bool, true, false}
use mathlib.Core.List.{List}
use mathlib.Core.Path.{◌≡◌, refl, ap, ◌∙◌}
use Prim.Native.Nat.{ℕ, ◌≤◌, ◌<◌}
use lib.Dec.{leb}
use lib.IntN.{ℤ}
use lib.ListN.{length, take}
use borrow.Author.Tests.{le-leb, lt-leb}
use Rattle.text.specs.Utf8.{Bytes}
use Rattle.path.specs.Path.{Name, names}
use Rattle.model.specs.Tree.{Path}
use Rattle.model.specs.Prog.{World, Kind, a_dir, Stat, list?, answer, Prog, ret, asks, ◌>>=◌, ◌>>◌, Out, done, refused, run}
use Rattle.model.specs.Operations.Steps as model
use Rattle.model.specs.Operations.Steps.{Reply, only_dir, fits}
use Rattle.model.specs.Operations.Shows.{names_text, stats_of, list_at}
use Rattle.model.specs.Buffers.{row_numbers, in_front, written}
use Rattle.model.specs.Calls.States.{State, world_of}
use Rattle.model.proofs.Running.{allowed, need-run}
use Rattle.std.specs.Prelude.{Ok, Err}
use Rattle.refusal.specs.Numbers.{number_of}
use Rattle.refusal.specs.declared.Refusal.{Refusal}
use Rattle.layout.specs.Kinds.{kind_from}
use Rattle.layout.specs.declared.kind.Kind as kind
use Rattle.layout.specs.declared.kind.Kind.TheVariants.{Directory, File, Link}
use Rattle.layout.specs.Store.{Store}
use Rattle.store.specs.Listing.{listed, names_of}
use Rattle.walk.specs.declared.There as led
use Rattle.walk.specs.Leads.{Leads}
use Rattle.op.specs.Lending.{in_both}
use Rattle.op.proofs.Leading.{led_there, led-count, led-refused}

-- ---- what is answered

-- how many entries, their names and their records
abbrev pub list_reply : List (Name × Stat) → (link_count : ℕ) → Reply
list_reply l c = record { number = length l; out = names_text l; rows = stats_of l; link_count = c }

-- in the lent bytes and the lent row
pub list_written : (l : List (Name × Stat)) (c : ℕ) (out outAfter : Bytes) (rows rowsAfter : List ℤ) (number numberAfter links : ℕ)
    → outAfter ≡ in_front (names_text l) out → rowsAfter ≡ in_front (row_numbers (stats_of l)) rows → numberAfter ≡ length l
    → in_both outAfter rowsAfter numberAfter c ≡ written (list_reply l c) (in_both out rows number links)
list_written l c out outAfter rows rowsAfter number numberAfter links x y z =
    ap (λ (k : Bytes). in_both k rowsAfter numberAfter c) x ∙ ap (λ (k : List ℤ). in_both (in_front (names_text l) out) k numberAfter c) y
    ∙ ap (λ (k : ℕ). in_both (in_front (names_text l) out) (in_front (row_numbers (stats_of l)) rows) k c) z

-- ---- the run behind the lookup

-- the listing l, behind c links
abbrev answered : (lent rows : ℕ) → List (Name × Stat) → (link_count : ℕ) → Prog Reply
answered lent rows l c = fits (length (names_text l)) lent >> (fits (length l) rows >> ret (list_reply l c))

-- the directory at p, behind the links ls
abbrev list_it : (lent rows : ℕ) → Path → Kind → List Path → Prog Reply
list_it lent rows p k ls = only_dir k >> (asks (list? p) >>= λ l. answered lent rows l (length ls))

-- what that comes to, by the tests of both rooms
abbrev by_room : World → List (Name × Stat) → (link_count : ℕ) → (names stats : Bool) → Out Reply
by_room w l c a b = allowed a 14 (allowed b 14 (done (list_reply l c) w))

answered-run : (w : World) (lent rows : ℕ) (l : List (Name × Stat)) (c : ℕ)
    → run (answered lent rows l c) w ≡ by_room w l c (leb (length (names_text l)) lent) (leb (length l) rows)
unfolding run fits
answered-run w lent rows l c =
    need-run (leb (length (names_text l)) lent) 14 (fits (length l) rows >> ret (list_reply l c)) w
    ∙ ap (allowed (leb (length (names_text l)) lent) 14) (need-run (leb (length l) rows) 14 (ret (list_reply l c)) w)

directory-run : (w : World) (lent rows : ℕ) (p : Path) (ls : List Path) → run (list_it lent rows p a_dir ls) w ≡ run (answered lent rows (answer (list? p) w) (length ls)) w
unfolding run ◌>>=◌ ◌>>◌ only_dir
directory-run w lent rows p ls = refl

-- 10: not a directory
other_run : (w : World) (lent rows : ℕ) (p : Path) (k : kind.Kind) (ls : List Path) → (k ≡ Directory → ⊥) → run (list_it lent rows p (kind_from k) ls) w ≡ refused 10
unfolding run ◌>>=◌ ◌>>◌ only_dir
other_run w lent rows p Directory ls n = absurd (n refl)
other_run w lent rows p File ls n = refl
other_run w lent rows p Link ls n = refl

-- ---- list

pub list-refused : {st : Store} {s : State} (b : ℕ) {text out : Bytes} {e : Refusal} (lent rows : ℕ) → Leads (model.leads b) st s (world_of s) text out (Err e)
    → run (list_at b lent rows (names text)) (world_of s) ≡ refused (number_of e)
unfolding list_at
list-refused b lent rows l = led-refused l (λ t. list_it lent rows t.path t.kind t.links)

module _ {st : Store} {s : State} (b : ℕ) {text out : Bytes} {t : led.There} (lent rows : ℕ) (l : Leads (model.leads b) st s (world_of s) text out (Ok t)) where
  abbrev w : World
  w = world_of s

  abbrev at : Path
  at = names (take t.len out)

  abbrev found : List (Name × Stat)
  found = listed s at

  goes : run (list_at b lent rows (names text)) w ≡ run (list_it lent rows at (kind_from t.kind) l.links) w
  unfolding list_at
  goes = led_there l (λ t. list_it lent rows t.path t.kind t.links)

  pub list-kind : (t.kind ≡ Directory → ⊥) → run (list_at b lent rows (names text)) w ≡ refused 10
  list-kind z = goes ∙ other_run w lent rows at t.kind l.links z

  by_tests : t.kind ≡ Directory → (x y : Bool) → leb (length (names_text found)) lent ≡ x → leb (length found) rows ≡ y → run (list_at b lent rows (names text)) w ≡ by_room w found t.links x y
  by_tests z x y u v =
      goes ∙ ap (λ (j : kind.Kind). run (list_it lent rows at (kind_from j) l.links) w) z ∙ directory-run w lent rows at l.links
      ∙ answered-run w lent rows found (length l.links)
      ∙ ap (λ (m : ℕ). by_room w found m (leb (length (names_text found)) lent) (leb (length found) rows)) (led-count l)
      ∙ ap (λ (k : Bool). by_room w found t.links k (leb (length found) rows)) u ∙ ap (by_room w found t.links x) v

  -- 14: the names do not fit, or the records do not
  pub list-names : t.kind ≡ Directory → lent < length (names_of s at) → run (list_at b lent rows (names text)) w ≡ refused 14
  list-names z x = by_tests z false (leb (length found) rows) (lt-leb (length (names_text found)) lent x) refl

  pub list-rows : t.kind ≡ Directory → length (names_of s at) ≤ lent → rows < length found → run (list_at b lent rows (names text)) w ≡ refused 14
  list-rows z x y = by_tests z true false (le-leb (length (names_text found)) lent x) (lt-leb (length found) rows y)

  pub list-told : t.kind ≡ Directory → length (names_of s at) ≤ lent → length found ≤ rows → run (list_at b lent rows (names text)) w ≡ done (list_reply found t.links) w
  list-told z x y = by_tests z true true (le-leb (length (names_text found)) lent x) (le-leb (length found) rows y)
