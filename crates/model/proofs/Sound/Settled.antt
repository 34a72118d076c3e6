-- A sound world, as a state of the limits that it is tested against, obeys the rules, and the world of a state that obeys them is
-- sound: only files that nothing names or holds are dropped.
-- Assumes nothing.
use mathlib.Core.Bool.{Bool, true, false, ◌||◌}
use mathlib.Core.List.{List, [], ◌∷◌}
use mathlib.Core.Option.{Option, none, some}
use mathlib.Core.Path.{◌≡◌, refl, sym, ap, ◌∙◌}
use Prim.Native.Nat.{ℕ, ◌+◌, ◌≤◌, ◌<◌}
use native.Mathlib.Nat.{lt_of_lt_of_le}
use native.Mathlib.Omega.{arith}
use lib.Dec.{T, eqb, leb, eqb→eq, leb→le, lit≤}
use lib.ListN.{length}
use Rattle.model.specs.Tree.{Path, File, Node, dir, file, link, Entries, Files, Open, or_else, keep_if, look, file_of, contents_length}
use Rattle.model.specs.Prog.{World, Out, done, refused}
use Rattle.model.specs.Operations.{Reply}
use Rattle.model.specs.Calls.{State, entries_used, bytes_used, is_named, is_held, kept_files, world_of, state_of, settle_by, settle}
use Rattle.model.specs.Rules.{NodeOk, Obeys}
use Rattle.model.specs.Shaped.{HasFile, Shaped}
use Rattle.model.proofs.Entries.{is_true, of_true, clash, some_inj, look_none}
use Rattle.model.proofs.Demand.Contents.{or_left, or_right, at_named, by_held}
use Rattle.model.proofs.Demand.Keeping.{kept-once}
use Rattle.model.proofs.Running.{After}
use Rattle.model.proofs.Sound.Worlds.{Sound}
use Rattle.model.proofs.Sound.Entries.{tidy_none}
use Rattle.model.proofs.Sound.Operations.{Small}

-- ---- files that are kept

-- something names the file or holds it
abbrev Wanted : Entries → List Open → ℕ → Bool
Wanted t os i = is_named t i || is_held os i

-- the file, if it is kept
abbrev if_so : Bool → Option File → Option File
if_so true o = o
if_so false o = none

module _ (t : Entries) (os : List Open) where
  kept-file : (fs : Files) (i : ℕ) → file_of (kept_files t os fs) i ≡ if_so (Wanted t os i) (file_of fs i)
  unfolding kept_files file_of
  kept-file [] i = go (Wanted t os i)
    where
      go : (b : Bool) → none ≡ if_so b none
      go true = refl
      go false = refl
  kept-file (f ∷ fs) i = go (Wanted t os f.0) refl (eqb f.0 i) refl (kept-file fs i)
    where
      here : (b : Bool) → Wanted t os f.0 ≡ b → T (eqb f.0 i) → Wanted t os i ≡ b
      here b e h = ap (Wanted t os) (sym (eqb→eq f.0 i h)) ∙ e

      go : (a : Bool) → Wanted t os f.0 ≡ a → (b : Bool) → eqb f.0 i ≡ b → file_of (kept_files t os fs) i ≡ if_so (Wanted t os i) (file_of fs i)
          → file_of (keep_if a f (kept_files t os fs)) i ≡ if_so (Wanted t os i) (or_else b f.1 (file_of fs i))
      go true x true y ih = rw y (sym (ap (λ (c : Bool). if_so c (some f.1)) (here true x (of_true y))))
      go true x false y ih = rw y ih
      go false x true y ih =
          ih ∙ ap (λ (c : Bool). if_so c (file_of fs i)) (here false x (of_true y)) ∙ sym (ap (λ (c : Bool). if_so c (some f.1)) (here false x (of_true y)))
      go false x false y ih = ih

  pub kept_some : (fs : Files) (i : ℕ) (f : File) → file_of (kept_files t os fs) i ≡ some f → T (Wanted t os i) × (file_of fs i ≡ some f)
  kept_some fs i f e = go (Wanted t os i) (sym (kept-file fs i) ∙ e)
    where
      go : (b : Bool) → if_so b (file_of fs i) ≡ some f → T b × (file_of fs i ≡ some f)
      go true e = (tt, e)
      go false e = clash none f refl e

  kept_has : (fs : Files) (i : ℕ) → T (Wanted t os i) → HasFile fs i → HasFile (kept_files t os fs) i
  kept_has fs i h (f, e) = (f, kept-file fs i ∙ ap (λ (c : Bool). if_so c (file_of fs i)) (is_true (Wanted t os i) h) ∙ e)

-- ---- between states and worlds

-- the world of a state that obeys the rules
pub world-sound : (s : State) → Obeys s → Sound (world_of s)
world-sound s o = record {
  tree = record { paths = o.paths; parents = o.parents; named = o.named; nodes = o.nodes; one_name = o.one_name };
  in_hand = tidy_none s.files;
  root = o.root;
  apart = λ p q i _ e. clash (look [] q) (file i) (look_none q) e;
  table = record { once = o.files; each = o.each_file };
  numbers = record { once = o.numbers; each = λ n u e. let h = o.opens n u e in record { small = h.0; place = h.1; path = h.2; stands = h.3 } };
  current = o.current;
  umask = o.umask;
}

-- what a sound world leaves, within the limits
state-obeys : (s : State) (w : World) → Obeys s → Sound w → entries_used (state_of s w) ≤ s.most → bytes_used (state_of s w) ≤ s.room → Obeys (state_of s w)
state-obeys s w o u e b = record {
  entry_limit = o.entry_limit;
  byte_limit = o.byte_limit;
  entries_fit = e;
  bytes_fit = b;
  paths = u.tree.paths;
  root = u.root;
  parents = u.tree.parents;
  named = u.tree.named;
  nodes = λ p n h. node p n h (u.tree.nodes p n h);
  files = kept-once w.at w.opens w.files u.table.once;
  each_file = λ i f h. u.table.each i f (kept_some w.at w.opens w.files i f h).1;
  one_name = u.tree.one_name;
  used = λ i f h. (kept_some w.at w.opens w.files i f h).0;
  numbers = u.numbers.once;
  opens = λ n k h.
      let v = u.numbers.each n k h in
      (v.small, v.place, v.path, kept_has w.at w.opens w.files k.id (or_right (is_named w.at k.id) (is_held w.opens k.id) (by_held w.opens n k h)) v.stands);
  current = u.current;
  umask = u.umask;
}
  where
    node : (p : Path) (n : Node) → look w.at p ≡ some n → NodeOk w.files n → NodeOk (kept_files w.at w.opens w.files) n
    node p (dir m) h k = k
    node p (file i) h k = kept_has w.at w.opens w.files i (or_left (is_named w.at i) (is_held w.opens i) (at_named w.at p i h)) k
    node p (link m g) h k = k

-- before it is tested against them
pub sound-shaped : (s : State) (w : World) → Sound w → Shaped (state_of s w)
sound-shaped s w u = record {
  paths = u.tree.paths;
  nodes = λ p i h. kept_has w.at w.opens w.files i (or_left (is_named w.at i) (is_held w.opens i) (at_named w.at p i h)) (u.tree.nodes p (file i) h);
  one_name = u.tree.one_name;
  files = kept-once w.at w.opens w.files u.table.once;
  used = λ i f h. (kept_some w.at w.opens w.files i f h).0;
  numbers = u.numbers.once;
  stands = λ n k h.
      kept_has w.at w.opens w.files k.id (or_right (is_named w.at k.id) (is_held w.opens k.id) (by_held w.opens n k h)) (u.numbers.each n k h).stands;
}

-- what a program leaves that ends in a sound world, and what a refused one leaves
pub settle-obeys : (s : State) → Obeys s → (r : Out Reply) → After r (λ _ w. Sound w × Unit {0}) → Obeys (settle s r).after
unfolding settle
settle-obeys s o (refused n) h = o
settle-obeys s o (done r w) h = go (leb (entries_used (state_of s w)) s.most) refl (leb (bytes_used (state_of s w)) s.room) refl
  where
    go : (a : Bool) → leb (entries_used (state_of s w)) s.most ≡ a → (b : Bool) → leb (bytes_used (state_of s w)) s.room ≡ b
        → Obeys (settle_by a b s r (state_of s w)).after
    go false x b y = o
    go true x false y = o
    go true x true y =
        state-obeys s w o h.0 (leb→le (entries_used (state_of s w)) s.most (of_true x)) (leb→le (bytes_used (state_of s w)) s.room (of_true y))

-- ---- lengths

pub contents-file : (fs : Files) (i : ℕ) (f : File) → file_of fs i ≡ some f → length f.bytes ≤ contents_length fs
unfolding file_of contents_length
contents-file [] i f e = clash none f refl e
contents-file (g ∷ fs) i f e = go (eqb g.0 i) e (contents-file fs i f)
  where
    go : (b : Bool) → or_else b g.1 (file_of fs i) ≡ some f → (file_of fs i ≡ some f → length f.bytes ≤ contents_length fs) → length f.bytes ≤ length g.1.bytes + contents_length fs
    go true e ih = let z : length g.1.bytes ≡ length f.bytes = ap (λ (k : File). length k.bytes) (some_inj e) in omega arith
    go false e ih = let z = ih e in omega arith

-- the byte limit bounds every file's length
pub files-small : (s : State) → Obeys s → Small s.files
files-small s o i f e = lt_of_lt_of_le most (lit≤ tt)
  where
    most : length f.bytes < 1048577
    most = omega (arith, contents-file s.files i f e, o.bytes_fit, o.byte_limit.1)
