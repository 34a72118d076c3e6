-- Entries and bytes used of the state that a call would leave, by those of the state before and what its edits add and take off.
-- In a state every file is named or held, so all contents count; a file that edits leave without a name and a number counts no
-- more.
-- Assumes nothing.
use mathlib.Core.Bool.{Bool, true, false, ◌||◌}
use mathlib.Core.List.{[], ◌++◌}
use mathlib.Core.Option.{Option, none, some}
use mathlib.Core.Path.{◌≡◌, refl, sym, ap, ◌∙◌}
use Prim.Native.Nat.{ℕ, ◌+◌}
use native.Mathlib.Omega.{arith}
use lib.Dec.{T}
use lib.ListN.{length}
use Rattle.model.specs.Tree.{Path, File, Node, dir, file, link, Entries, Open, look, file_of, open_of, names_and_targets, contents_length}
use Rattle.model.specs.Prog.{World, Edit, make, create, symlink, change, remove, take, give, opens, close, seek, change_held, go, umask, apply, change_at, opened_at, change_by}
use Rattle.model.specs.Calls.{edited, State, entries_used, bytes_used, is_named, is_held, kept_files, world_of, state_of}
use Rattle.model.specs.Rules.{Obeys, Once, new_file, new_number}
use Rattle.model.proofs.Demand.Contents.{or_left}
use Rattle.model.proofs.Entries.{of_true, Apart}
use Rattle.model.proofs.Demand.Keeping.{kept-file, kept-once, kept_all}
use Rattle.model.specs.Shaped.{HasFile}
use Rattle.model.proofs.Sound.Settled.{kept_some}
use Rattle.model.proofs.Space.Sums.{names, count, none_counted, bytes_over}
use Rattle.model.proofs.Space.Edits.{entries_in, bytes_in, Shift, shift_then, Single}
use Rattle.model.proofs.Space.Steps.{single-edit, state-single}
use Rattle.model.proofs.Demand.Totals.{total_both}

-- ---- states

-- what is needed of a state: no limit is part of it
pub record Spaced (s : State) : Type 0 where
  pub single : Single (world_of s)
  pub used : (i : ℕ) (f : File) → file_of s.files i ≡ some f → T (is_named s.tree i || is_held s.opens i)

-- by six of the rules
pub spaced : (s : State) → Apart s.tree → ((p : Path) (i : ℕ) → look s.tree p ≡ some (file i) → HasFile s.files i)
    → ((p q : Path) (i : ℕ) → look s.tree p ≡ some (file i) → look s.tree q ≡ some (file i) → p ≡ q)
    → Once new_file s.files → ((i : ℕ) (f : File) → file_of s.files i ≡ some f → T (is_named s.tree i || is_held s.opens i))
    → Once new_number s.opens → Spaced s
spaced s a n h o u k = record { single = state-single s a n h o k; used = u }

-- every state that obeys the rules
pub obeys-spaced : (s : State) → Obeys s → Spaced s
obeys-spaced s o = spaced s o.paths (λ p i e. o.nodes p (file i) e) o.one_name o.files o.used o.numbers

-- and what is left of a world, whatever the limits are
pub left_spaced : (s : State) (w : World) → Single w → Spaced (state_of s w)
left_spaced s w u = record {
  single = record {
    tidy = record { tree = u.tidy.tree; hand = tt; files = kept-once w.at w.opens w.files u.tidy.files; numbers = u.tidy.numbers };
    one_name = λ i. omega (arith, u.one_name i, total_both (λ p. 0) (names i) w.hand w.at);
    present = λ i e. at i e (is_named w.at i) refl;
  };
  used = λ i f e. (kept_some w.at w.opens w.files i f e).0;
}
  where
    at : (i : ℕ) → file_of (kept_files w.at w.opens w.files) i ≡ none → (b : Bool) → is_named w.at i ≡ b → count i w.at ≡ 0
    at i e false k = none_counted i w.at k
    at i e true k =
        let f : file_of w.files i ≡ none = sym (kept-file w.at w.opens w.files i (or_left (is_named w.at i) (is_held w.opens i) (of_true k))) ∙ e in
        omega (arith, u.present i f, total_both (λ p. 0) (names i) w.hand w.at)

-- ---- used before and edited

-- from one state to another: entries more and fewer, bytes more and freed
pub record Uses (s u : State) (more fewer grown freed : ℕ) : Type 0 where
  pub entries : entries_used u + fewer ≡ entries_used s + more
  pub bytes : bytes_used u + freed ≡ bytes_used s + grown

-- the bytes of a state are those of its world
pub state-bytes : (s : State) → Spaced s → bytes_used s ≡ bytes_in (world_of s)
state-bytes s h = ap (λ (k : ℕ). names_and_targets s.tree + k) (sym (ap contents_length (kept_all s.tree s.opens s.files h.single.tidy.files h.used)))

-- with nothing in hand, what is left of a world uses what the world does
left_entries : (s : State) (w : World) → w.hand ≡ [] → entries_in w ≡ entries_used (state_of s w)
left_entries s w z = ap (λ (t : Entries). length (t ++ w.at)) z

left-bytes : (s : State) (w : World) → w.hand ≡ [] → bytes_in w ≡ bytes_used (state_of s w)
left-bytes s w z = ap (λ (t : Entries). bytes_over (t ++ w.at) w.opens w.files) z

-- what edits do to the world of a state, they do to the state
pub shift-uses : {a b c d : ℕ} (s : State) (w : World) → Spaced s → w.hand ≡ [] → Shift (world_of s) w a b c d → Uses s (state_of s w) a b c d
shift-uses s w h z x =
    record { entries = omega (arith, x.entries, left_entries s w z); bytes = omega (arith, x.bytes, left-bytes s w z, state-bytes s h) }

-- the same in the middle of a call
pub left_uses : {a b c d : ℕ} (s : State) (w v : World) → w.hand ≡ [] → v.hand ≡ [] → Shift w v a b c d → Uses (state_of s w) (state_of s v) a b c d
left_uses s w v y z x = record {
  entries = omega (arith, x.entries, left_entries s w y, left_entries s v z);
  bytes = omega (arith, x.bytes, left-bytes s w y, left-bytes s v z);
}

-- one edited another
pub uses_then : {s u v : State} {a b c d e f g h : ℕ} → Uses s u a b c d → Uses u v e f g h → Uses s v (a + e) (b + f) (c + g) (d + h)
uses_then x y = record { entries = omega (arith, x.entries, y.entries); bytes = omega (arith, x.bytes, y.bytes) }

-- the same by other numbers
pub uses_as : {s u : State} {a b c d e f g h : ℕ} → Uses s u a b c d → e + b ≡ a + f → g + d ≡ c + h → Uses s u e f g h
uses_as x p q = record { entries = omega (arith, x.entries); bytes = omega (arith, x.bytes) }

-- ---- one edit

-- an edit that takes nothing in hand
abbrev pub HandFree : Edit → Type 0
HandFree (make p m) = Unit {0}
HandFree (create p f) = Unit {0}
HandFree (symlink p m s) = Unit {0}
HandFree (change p c) = Unit {0}
HandFree (remove p) = Unit {0}
HandFree (take p) = ⊥
HandFree (give p) = Unit {0}
HandFree (opens n p k) = Unit {0}
HandFree (close n) = Unit {0}
HandFree (seek n k) = Unit {0}
HandFree (change_held n c) = Unit {0}
HandFree (go p) = Unit {0}
HandFree (umask m) = Unit {0}

-- leaves nothing there
pub hand-free : (e : Edit) (w : World) → HandFree e → w.hand ≡ [] → (apply e w).hand ≡ []
unfolding apply
hand-free (make p m) w f z = z
hand-free (create p g) w f z = z
hand-free (symlink p m s) w f z = z
hand-free (change p c) w f z = at (look w.at p)
  where
    at : (o : Option Node) → (change_at w p c o).hand ≡ []
    at none = z
    at (some (dir m)) = z
    at (some (file i)) = z
    at (some (link m s)) = z
hand-free (remove p) w f z = z
hand-free (take p) w f z = absurd f
hand-free (give p) w f z = refl
hand-free (opens n p k) w f z = at (look w.at p)
  where
    at : (o : Option Node) → (opened_at w n p k o).hand ≡ []
    at none = z
    at (some (dir m)) = z
    at (some (file i)) = z
    at (some (link m s)) = z
hand-free (close n) w f z = z
hand-free (seek n k) w f z = z
hand-free (change_held n c) w f z = at (open_of w.opens n)
  where
    at : (o : Option Open) → (change_by w c o).hand ≡ []
    at none = z
    at (some a) = z
hand-free (go p) w f z = z
hand-free (umask m) w f z = z

-- what an edit does to the world of a state, it does to the state
pub after-uses : {a b c d : ℕ} (e : Edit) (s : State) → Spaced s → HandFree e → Shift (world_of s) (apply e (world_of s)) a b c d → Uses s (edited e s) a b c d
after-uses e s h f x = shift-uses s (apply e (world_of s)) h (hand-free e (world_of s) f refl) x

-- and two in a row, as the world goes on
pub both_uses : {a b c d i j k l : ℕ} (e g : Edit) (s : State) → Spaced s → HandFree e → HandFree g
    → Shift (world_of s) (apply e (world_of s)) a b c d → Shift (apply e (world_of s)) (apply g (apply e (world_of s))) i j k l
    → Uses s (state_of s (apply g (apply e (world_of s)))) (a + i) (b + j) (c + k) (d + l)
both_uses e g s h f n x y =
    shift-uses s (apply g (apply e (world_of s))) h (hand-free g (apply e (world_of s)) n (hand-free e (world_of s) f refl)) (shift_then x y)

-- the state edited an edit is again such a one
pub after-spaced : (e : Edit) (s : State) → Spaced s → Spaced (edited e s)
after-spaced e s h = left_spaced s (apply e (world_of s)) (single-edit (world_of s) h.single e)
