-- Alike states: an equivalence, the same use of space, and "fuller" does not depend on which of them is meant. What is shown at a
-- path, and who shares a file, are equations; a file has one name, so the path on which a number stands is the same in all three.
-- Assumes nothing.
use mathlib.Core.Bool.{Bool, true, false, ◌&&◌, false≢true}
use mathlib.Core.Logic.{◌⊎◌, inl, inr}
use mathlib.Core.Option.{Option, none, some}
use mathlib.Core.Path.{◌≡◌, refl, sym, ap, ap₂, ◌∙◌, subst}
use Prim.Native.Nat.{ℕ, ◌≤◌}
use native.Mathlib.Omega.{arith}
use lib.Dec.{eqb}
use borrow.Author.Tests.{eq-eqb, ne_eqb}
use Rattle.model.specs.Tree.{Path, File, Node, dir, file, link, Open, same_path, look, file_of, open_of, name_length, target_length, contents_length}
use Rattle.model.specs.Prog.{Position, on_some, answer}
use Rattle.model.specs.Calls.{State, entries_used, bytes_used, is_named, world_of}
use Rattle.model.specs.Fuller.{Shown, shown_dir, shown_file, shown_link, shown_node, shown, HasEverything, position_of, StandsAt, StandsRemoved, SameOpen, Fuller}
use Rattle.model.specs.Alike.{same_file, one_file, Alike}
use Rattle.model.specs.Shaped.{Shaped}
use Rattle.model.proofs.Demand.Contents.{kept-weigh, at_named, named_at}
use Rattle.model.proofs.Entries.{clash, some_inj, is_true, of_true, is_false, path-dec, path-equal, path-yes}
use Rattle.model.proofs.Demand.Joining.{shaped_over, shaped-tidy}
use Rattle.model.proofs.Demand.Keeping.{kept_all}
use Rattle.model.proofs.Demand.Parting.{contents-apart}
use Rattle.model.proofs.Demand.Spacing.{tree_has, total-length, total-names, last_name_lem, root-name, like-target}
use Rattle.model.proofs.Demand.Totals.{total_has}

-- a state with everything that another has, and the same open files, uses no less
pub shaped-uses : (s u : State) → Shaped s → Shaped u → HasEverything s u → SameOpen s u → (entries_used s ≤ entries_used u) × (bytes_used s ≤ bytes_used u)
shaped-uses s u os ou h o =
    let r = shaped_over s u os ou h o in
    let ts = shaped-tidy s os in
    let tu = shaped-tidy u ou in (
      omega (
        arith,
        total-length s.tree,
        total-length u.tree,
        total_has (λ p. 0) (λ n. 1) s.tree u.tree ts.tree tu.tree (tree_has (λ p. 0) (λ n. 1) refl (λ p x q. refl) (λ n m l. refl) (world_of s) (world_of u) r),
      ),
      omega (
        arith,
        total-names s.tree,
        total-names u.tree,
        total_has name_length target_length s.tree u.tree ts.tree tu.tree (tree_has name_length target_length root-name last_name_lem like-target (world_of s) (world_of u) r),
        contents-apart (world_of s) (world_of u) r ts tu,
        sym (kept-weigh s.tree s.opens s.files) ∙ ap contents_length (kept_all s.tree s.opens s.files os.files os.used),
        sym (kept-weigh u.tree u.opens u.files) ∙ ap contents_length (kept_all u.tree u.opens u.files ou.files ou.used),
      ),
    )

-- the open files of two states, the other way round
abbrev On : State → State → ℕ → Type 0
On a b n = ((p : Path) × StandsAt a n p × StandsAt b n p) ⊎ ((f : File) × StandsRemoved a n f × StandsRemoved b n f)

module _ (s u : State) (h : SameOpen s u) where
  swap : (n : ℕ) → On s u n → On u s n
  swap n (inl x) = inl (x.0, x.2, x.1)
  swap n (inr x) = inr (x.0, x.2, x.1)

  there : (n : ℕ) (o : Open) → open_of u.opens n ≡ some o → (a : Open) × (open_of s.opens n ≡ some a)
  unfolding position_of answer
  there n o e = go (open_of s.opens n) refl (h.position n)
    where
      f : Open → Option Position
      f a = some (record { pos = a.pos; kept = a.kept })

      go : (x : Option Open) → open_of s.opens n ≡ x → on_some (open_of s.opens n) f ≡ on_some (open_of u.opens n) f → (a : Open) × (open_of s.opens n ≡ some a)
      go none y z = clash (on_some none f) (record { pos = o.pos; kept = o.kept }) refl (sym (ap (λ (k : Option Open). on_some k f) y) ∙ z ∙ ap (λ (k : Option Open). on_some k f) e)
      go (some a) y z = (a, y)

  pub open-sym : SameOpen u s
  open-sym = record {
    position = λ n. sym (h.position n);
    on_file = λ n o e. let a = there n o e in swap n (h.on_file n a.0 a.1);
    sharing = λ n m. sym (h.sharing n m);
  }

-- and by way of a third, in which a file has one name
module _ (s t u : State) (ot : Shaped t) (h : SameOpen s t) (k : SameOpen t u) where
  pub open-trans : SameOpen s u
  open-trans = record {
    position = λ n. h.position n ∙ k.position n;
    on_file = λ n o e. first n (h.on_file n o e);
    sharing = λ n m. h.sharing n m ∙ k.sharing n m;
  }
    where
      two : (n : ℕ) → On s t n → On t u n → On s u n
      two n (inl x) (inl y) =
          let c : x.2.held.id ≡ y.1.held.id = ap (λ (o : Open). o.id) (some_inj (sym x.2.is_open ∙ y.1.is_open)) in
          let p : x.0 ≡ y.0 = ot.one_name x.0 y.0 y.1.held.id (x.2.is_there ∙ ap (λ (i : ℕ). some (file i)) c) y.1.is_there in
          inl (y.0, subst (StandsAt s n) p x.1, y.2)
      two n (inr x) (inr y) =
          let c : x.2.held.id ≡ y.1.held.id = ap (λ (o : Open). o.id) (some_inj (sym x.2.is_open ∙ y.1.is_open)) in
          let f : x.0 ≡ y.0 = some_inj (sym x.2.is_file ∙ ap (file_of t.files) c ∙ y.1.is_file) in
          inr (y.0, subst (StandsRemoved s n) f x.1, y.2)
      two n (inl x) (inr y) =
          let c : x.2.held.id ≡ y.1.held.id = ap (λ (o : Open). o.id) (some_inj (sym x.2.is_open ∙ y.1.is_open)) in
          absurd (false≢true (sym y.1.no_name ∙ is_true (is_named t.tree y.1.held.id) (at_named t.tree x.0 y.1.held.id (x.2.is_there ∙ ap (λ (i : ℕ). some (file i)) c))))
      two n (inr x) (inl y) =
          let c : y.1.held.id ≡ x.2.held.id = ap (λ (o : Open). o.id) (some_inj (sym y.1.is_open ∙ x.2.is_open)) in
          absurd (false≢true (sym x.2.no_name ∙ is_true (is_named t.tree x.2.held.id) (at_named t.tree y.0 x.2.held.id (y.1.is_there ∙ ap (λ (i : ℕ). some (file i)) c))))

      first : (n : ℕ) → On s t n → On s u n
      first n (inl x) = two n (inl x) (k.on_file n x.2.held x.2.is_open)
      first n (inr x) = two n (inr x) (k.on_file n x.2.held x.2.is_open)

-- the open files of one state
module _ (s : State) (o : Shaped s) where
  pub open-refl : SameOpen s s
  open-refl = record { position = λ n. refl; on_file = λ n a e. go n a e (is_named s.tree a.id) refl; sharing = λ n m. refl }
    where
      go : (n : ℕ) (a : Open) → open_of s.opens n ≡ some a → (b : Bool) → is_named s.tree a.id ≡ b → On s s n
      go n a e true y =
          let p = named_at s.tree o.paths a.id (of_true y) in
          let x : StandsAt s n p.0 = record { held = a; is_open = e; is_there = p.1 } in
          inl (p.0, x, x)
      go n a e false y =
          let f = o.stands n a e in
          let x : StandsRemoved s n f.0 = record { held = a; is_open = e; no_name = y; is_file = f.1 } in
          inr (f.0, x, x)

-- ---- alike is an equivalence

pub alike_refl : (s : State) → Shaped s → Alike s s
alike_refl s o = record { entries = λ p. refl; names = λ p q. refl; opens = open-refl s o; current = refl; umask = refl; entry_limit = refl; byte_limit = refl }

pub alike-sym : (s u : State) → Alike s u → Alike u s
alike-sym s u h = record {
  entries = λ p. sym (h.entries p);
  names = λ p q. sym (h.names p q);
  opens = open-sym s u h.opens;
  current = sym h.current;
  umask = sym h.umask;
  entry_limit = sym h.entry_limit;
  byte_limit = sym h.byte_limit;
}

pub alike-trans : (s t u : State) → Shaped t → Alike s t → Alike t u → Alike s u
alike-trans s t u o h k = record {
  entries = λ p. h.entries p ∙ k.entries p;
  names = λ p q. h.names p q ∙ k.names p q;
  opens = open-trans s t u o h.opens k.opens;
  current = h.current ∙ k.current;
  umask = h.umask ∙ k.umask;
  entry_limit = h.entry_limit ∙ k.entry_limit;
  byte_limit = h.byte_limit ∙ k.byte_limit;
}

-- ---- the same use of space

has_same : (s u : State) → Alike s u → HasEverything s u
has_same s u h p e x = sym (h.entries p) ∙ x

-- so what is left of a call is within the limits if a store spells it
pub alike-used : (s u : State) → Shaped s → Shaped u → Alike s u → (entries_used s ≡ entries_used u) × (bytes_used s ≡ bytes_used u)
alike-used s u os ou h =
    let a = shaped-uses s u os ou (has_same s u h) h.opens in
    let b = shaped-uses u s ou os (has_same u s (alike-sym s u h)) (open-sym s u h.opens) in
    (omega (arith, a.0, b.0), omega (arith, a.1, b.1))

-- ---- the fuller state

-- whichever of alike states are meant
pub fuller-alike : (s u s' u' : State) → Shaped s → Shaped u → Shaped s' → Shaped u' → Alike s' s → Alike u' u → Fuller s u → Fuller s' u'
fuller-alike s u s' u' os ou os' ou' h k f =
    let a = alike-used s' s os' os h in
    let b = alike-used u' u ou' ou k in
    record {
      current = h.current ∙ f.current ∙ sym k.current;
      umask = h.umask ∙ f.umask ∙ sym k.umask;
      opens = open-trans s' s u' os h.opens (open-trans s u u' ou f.opens (open-sym u' u k.opens));
      everything = λ p e x. k.entries p ∙ f.everything p e (sym (h.entries p) ∙ x);
      entries = omega (arith, a.0, b.0, h.entry_limit, k.entry_limit, f.entries);
      bytes = omega (arith, a.1, b.1, h.byte_limit, k.byte_limit, f.bytes);
    }

-- ---- names of one file

path_no : (p q : Path) → (p ≡ q → ⊥) → same_path p q ≡ false
path_no p q n = is_false (same_path p q) (λ t. n (path-equal p q t))

-- in a state in which a file has one name, two names of one file are one name
one_name_lem : (s : State) → Shaped s → (p q : Path) → one_file s p q ≡ same_file (look s.tree p) (look s.tree p) && same_path p q
unfolding one_file
one_name_lem s o p q = go (look s.tree p) refl (look s.tree q) refl (path-dec p q)
  where
    apart : (i : ℕ) (b : Bool) → b ≡ false → (p ≡ q → ⊥) → b ≡ eqb i i && same_path p q
    apart i b e n = e ∙ sym (ap₂ ◌&&◌ (eq-eqb i i refl) (path_no p q n))

    go : (a : Option Node) → look s.tree p ≡ a → (b : Option Node) → look s.tree q ≡ b → Dec (p ≡ q) → same_file a b ≡ same_file a a && same_path p q
    go none x b y d = refl
    go (some (dir m)) x b y d = refl
    go (some (link m t)) x b y d = refl
    go (some (file i)) x b y (yes e) =
        ap (same_file (some (file i))) (sym y ∙ ap (look s.tree) (sym e) ∙ x) ∙ eq-eqb i i refl ∙ sym (ap₂ ◌&&◌ (eq-eqb i i refl) (path-yes p q e))
    go (some (file i)) x none y (no n) = apart i false refl n
    go (some (file i)) x (some (dir m)) y (no n) = apart i false refl n
    go (some (file i)) x (some (link m t)) y (no n) = apart i false refl n
    go (some (file i)) x (some (file j)) y (no n) =
        apart i (eqb i j) (ne_eqb i j (λ e. n (o.one_name p q i x (y ∙ ap (λ (k : ℕ). some (file k)) (sym e))))) n

-- a file is shown as one
abbrev is_file : Option Shown → Bool
is_file none = false
is_file (some (shown_dir m)) = false
is_file (some (shown_file m b)) = true
is_file (some (shown_link m b)) = false

file-shown : (s : State) → Shaped s → (p : Path) → same_file (look s.tree p) (look s.tree p) ≡ is_file (shown s p)
unfolding shown shown_node
file-shown s o p = go (look s.tree p) refl
  where
    go : (a : Option Node) → look s.tree p ≡ a → same_file a a ≡ is_file (on_some a (shown_node s))
    go none x = refl
    go (some (dir m)) x = refl
    go (some (link m t)) x = refl
    go (some (file i)) x = let f = o.nodes p i x in eq-eqb i i refl ∙ rw f.1

-- so what is shown at each path settles who shares a file
pub names-alike : (s u : State) → Shaped s → Shaped u → ((p : Path) → shown s p ≡ shown u p) → (p q : Path) → one_file s p q ≡ one_file u p q
names-alike s u os ou h p q =
    one_name_lem s os p q ∙ ap (λ (b : Bool). b && same_path p q) (file-shown s os p ∙ ap is_file (h p) ∙ sym (file-shown u ou p)) ∙ sym (one_name_lem u ou p q)
