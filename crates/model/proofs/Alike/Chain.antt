-- Several edits, one after the other. A state that is alike to what is left of a world has the shape of a state, since a path, a file
-- and a number stand once in a world, and names and numbers of alike states lead to files in both. So edits of alike states leave alike
-- states, edit by edit, and it does not matter whether files that nothing names or holds are dropped after each or after the last.
-- Assumes nothing.
use mathlib.Core.Bool.{true, false≢true}
use mathlib.Core.List.{List, [], ◌∷◌}
use mathlib.Core.Logic.{◌⊎◌, inl, inr}
use mathlib.Core.Option.{Option, none, some}
use mathlib.Core.Path.{◌≡◌, refl, sym, ap, ◌∙◌, subst}
use Prim.Native.Nat.{ℕ}
use borrow.Author.Tests.{eq-eqb, eqb-true}
use Rattle.model.specs.Tree.{Path, File, Node, dir, file, link, Entries, Files, Open, look, file_of, open_of}
use Rattle.model.specs.Prog.{World, Ask, answer, Edit, apply, on_some}
use Rattle.model.specs.Calls.{State, world_of, state_of}
use Rattle.model.specs.Fuller.{shown_file, shown_node, shown, StandsAt, StandsRemoved}
use Rattle.model.specs.Alike.{same_file, one_file, Alike}
use Rattle.model.specs.Shaped.{HasFile, Shaped}
use Rattle.model.proofs.Entries.{clash, some_inj, look_none}
use Rattle.model.proofs.Demand.Joining.{shaped-tidy}
use Rattle.model.proofs.Demand.Keeping.{kept-once, Empty}
use Rattle.model.proofs.Demand.Over.{erase, file-inj, Paired, at_place, by_number, SameNumber, Over}
use Rattle.model.proofs.Demand.Places.{Place, in_tree, in_hand, seen}
use Rattle.model.proofs.Demand.Tidy.{Tidy, tidy-edit}
use Rattle.model.proofs.Sound.Settled.{kept_some}
use Rattle.model.proofs.Alike.States.{open-sym, alike-trans}
use Rattle.model.proofs.Alike.Runs.{Even, even-edit, even-start, even-alike, even-asked}

-- one edit after the other
abbrev pub applied : List Edit → World → World
applied [] w = w
applied (e ∷ es) w = applied es (apply e w)

-- the state after them
abbrev pub edited_by : List Edit → State → State
edited_by es s = state_of s (applied es (world_of s))

pub tidy-edits : (es : List Edit) (w : World) → Tidy w → Tidy (applied es w)
tidy-edits [] w t = t
tidy-edits (e ∷ es) w t = tidy-edits es (apply e w) (tidy-edit e w t)

pub even-edits : (es : List Edit) (w v : World) → Even w v → Even (applied es w) (applied es v)
even-edits [] w v h = h
even-edits (e ∷ es) w v h = even-edits es (apply e w) (apply e v) (even-edit e w v h)

-- ---- the shape of a state, by one that it is alike to

both_files : (a b : Option Node) → same_file a b ≡ true → (i : ℕ) × (a ≡ some (file i)) × (b ≡ some (file i))
both_files none b e = absurd (false≢true e)
both_files (some (dir m)) b e = absurd (false≢true e)
both_files (some (link m t)) b e = absurd (false≢true e)
both_files (some (file i)) none e = absurd (false≢true e)
both_files (some (file i)) (some (dir m)) e = absurd (false≢true e)
both_files (some (file i)) (some (link m t)) e = absurd (false≢true e)
both_files (some (file i)) (some (file j)) e = (i, refl, ap (λ (k : ℕ). some (file k)) (sym (eqb-true i j e)))

module _ (s t : State) (o : Shaped s) (h : Alike s t) where
  -- two names of one file in the second are two of one file in the first
  back : (p q : Path) (i : ℕ) → look t.tree p ≡ some (file i) → look t.tree q ≡ some (file i)
      → (k : ℕ) × (look s.tree p ≡ some (file k)) × (look s.tree q ≡ some (file k))
  unfolding one_file
  back p q i x y =
      both_files (look s.tree p) (look s.tree q)
      (h.names p q ∙ ((λ j. same_file (x j) (y j)) ∙ eq-eqb i i refl))

  one_back : (p q : Path) (i : ℕ) → look t.tree p ≡ some (file i) → look t.tree q ≡ some (file i) → p ≡ q
  one_back p q i x y = let b = back p q i x y in o.one_name p q b.0 b.1 b.2

  shown-file : (p : Path) (i k : ℕ) → look t.tree p ≡ some (file i) → look s.tree p ≡ some (file k) → HasFile t.files i
  unfolding shown shown_node
  shown-file p i k x y = go (file_of t.files i) refl
    where
      f : HasFile s.files k
      f = o.nodes p k y

      here : shown s p ≡ some (shown_file f.0.meta f.0.bytes)
      here = ap (λ (a : Option Node). on_some a (shown_node s)) y ∙ ap (λ (b : Option File). on_some b (λ g. some (shown_file g.meta g.bytes))) f.1

      there : shown t p ≡ on_some (file_of t.files i) (λ g. some (shown_file g.meta g.bytes))
      there = ap (λ (a : Option Node). on_some a (shown_node t)) x

      go : (b : Option File) → file_of t.files i ≡ b → HasFile t.files i
      go (some g) e = (g, e)
      go none e =
          clash (shown t p) (shown_file f.0.meta f.0.bytes) (there ∙ ap (λ (b : Option File). on_some b (λ g. some (shown_file g.meta g.bytes))) e) (sym (h.entries p) ∙ here)

  name_back : (p : Path) (i : ℕ) → look t.tree p ≡ some (file i) → HasFile t.files i
  name_back p i x = let b = back p p i x x in shown-file p i b.0 x b.1

  number-back : (n : ℕ) (a : Open) → open_of t.opens n ≡ some a → HasFile t.files a.id
  number-back n a e = go ((open-sym s t h.opens).on_file n a e)
    where
      same : (c : Open) → open_of t.opens n ≡ some c → c.id ≡ a.id
      same c x = ap (λ (z : Open). z.id) (some_inj (sym x ∙ e))

      go : ((p : Path) × StandsAt t n p × StandsAt s n p) ⊎ ((f : File) × StandsRemoved t n f × StandsRemoved s n f) → HasFile t.files a.id
      go (inl x) = subst (HasFile t.files) (same x.1.held x.1.is_open) (name_back x.0 x.1.held.id x.1.is_there)
      go (inr x) = subst (HasFile t.files) (same x.1.held x.1.is_open) (x.0, x.1.is_file)

-- what is left of a world, where a state that has the shape of one is alike to it
pub left_shaped : (s x : State) (w : World) → Shaped s → Tidy w → Alike s (state_of x w) → Shaped (state_of x w)
left_shaped s x w o d h = record {
  paths = d.tree;
  nodes = name_back s (state_of x w) o h;
  one_name = one_back s (state_of x w) o h;
  files = kept-once w.at w.opens w.files d.files;
  used = λ i f e. (kept_some w.at w.opens w.files i f e).0;
  numbers = d.numbers;
  stands = number-back s (state_of x w) o h;
}

-- ---- edits of alike states

pub edits-alike : (es : List Edit) (s u : State) → Shaped s → Shaped u → Alike s u → Alike (edited_by es s) (edited_by es u)
edits-alike es s u os ou h =
    even-alike s u h.entry_limit h.byte_limit (applied es (world_of s)) (applied es (world_of u)) (even-edits es (world_of s) (world_of u) (even-start s u os ou h))

-- t is alike to what edits leave of s: so it is to what they leave of a state that is alike to s
module _ (es : List Edit) (t s u : State) (ot : Shaped t) (os : Shaped s) (ou : Shaped u) (h : Alike s u) (k : Alike t (edited_by es s)) where
  pub carried : Alike t (edited_by es u)
  carried =
      alike-trans t (edited_by es s) (edited_by es u) (left_shaped t s (applied es (world_of s)) ot (tidy-edits es (world_of s) (shaped-tidy s os)) k) k
      (edits-alike es s u os ou h)

  pub carried-shape : Shaped (edited_by es u)
  carried-shape = left_shaped t u (applied es (world_of u)) ot (tidy-edits es (world_of u) (shaped-tidy u ou)) carried

-- ---- files that nothing names or holds, dropped between edits or at the end

module _ (s : State) (v : World) (d : Tidy v) (h : Empty v) (o : Shaped (state_of s v)) where
  abbrev t : State
  t = state_of s v

  -- a file in the one, in the other
  record Lives (i : ℕ) : Type 0 where
    of : File
    left : file_of t.files i ≡ some of
    whole : file_of v.files i ≡ some of

  lives : (i : ℕ) → HasFile t.files i → Lives i
  lives i f = record { of = f.0; left = f.1; whole = (kept_some v.at v.opens v.files i f.0 f.1).1 }

  -- the world with other files, and nothing in hand
  abbrev with : Entries → Files → World
  with hand fs = record { at = v.at; hand = hand; files = fs; opens = v.opens; here = v.here; mask = v.mask }

  abbrev Hollow : Entries → Type 0
  Hollow hand = (q : Path) → look hand q ≡ none

  same_number : (x : Option Open) → SameNumber x x
  same_number none = tt
  same_number (some a) = (refl, refl)

  module _ (a b : Entries) (fs gs : Files) (ea : Hollow a) (eb : Hollow b) (f : (i : ℕ) (l : Lives i) → file_of fs i ≡ some l.of) (g : (i : ℕ) (l : Lives i) → file_of gs i ≡ some l.of) where
    -- a pair is one file, which lives
    pair : (i j : ℕ) → Paired (with a fs) (with b gs) i j → (i ≡ j) × Lives i
    pair i j (at_place (in_tree p) x y) = (file-inj (some_inj (sym x ∙ y)), lives i (o.nodes p i x))
    pair i j (at_place (in_hand p) x y) = clash (look a p) (file i) (ea p) x
    pair i j (by_number n c d x y p q) =
        (sym p ∙ ap (λ (z : Open). z.id) (some_inj (sym x ∙ y)) ∙ q, subst Lives p (lives c.id (o.stands n c x)))

    has : (pl : Place) (n : Node) → seen (with a fs) pl ≡ some n → (m : Node) × (seen (with b gs) pl ≡ some m) × (erase n ≡ erase m)
    has (in_tree p) n e = (n, e, refl)
    has (in_hand p) n e = clash (look a p) n (ea p) e

    covers : (i j : ℕ) → i ≡ j → (pl : Place) → seen (with b gs) pl ≡ some (file j) → seen (with a fs) pl ≡ some (file i)
    covers i j k (in_tree p) e = e ∙ ap (λ (z : ℕ). some (file z)) (sym k)
    covers i j k (in_hand p) e = clash (look b p) (file j) (eb p) e

    grounded : (pl : Place) (j : ℕ) → seen (with b gs) pl ≡ some (file j) → HasFile gs j
    grounded (in_tree p) j e = let l = lives j (o.nodes p j e) in (l.of, g j l)
    grounded (in_hand p) j e = clash (look b p) (file j) (eb p) e

    over-left : Over (with a fs) (with b gs)
    over-left = record {
      has = has;
      numbers = λ n. same_number (open_of v.opens n);
      alike = λ i j p. let k = pair i j p in (k.1.of, f i k.1, ap (file_of gs) (sym k.0) ∙ g i k.1);
      first = λ i k j p q. (pair i j p).0 ∙ sym (pair k j q).0;
      second = λ i j k p q. sym (pair i j p).0 ∙ (pair i k q).0;
      covers = λ i j p pl e. covers i j (pair i j p).0 pl e;
      grounded = grounded;
    }

  pub even_left : Even (world_of t) v
  even_left = record {
    over = over-left [] v.hand t.files v.files look_none h (λ i l. l.left) (λ i l. l.whole);
    back = over-left v.hand [] v.files t.files h look_none (λ i l. l.whole) (λ i l. l.left);
    tidy = shaped-tidy t o;
    tidy_too = d;
    set = record { here = refl; mask = refl };
  }

  -- a question has the same answer in both
  pub asked_left : (q : Ask) → answer q (world_of t) ≡ answer q v
  asked_left q = even-asked q (world_of t) v even_left

  -- and edits leave alike states of them
  pub edits_left : (es : List Edit) → Alike (edited_by es t) (state_of s (applied es v))
  edits_left es = even-alike t s refl refl (applied es (world_of t)) (applied es v) (even-edits es (world_of t) v even_left)
