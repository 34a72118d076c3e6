-- A state with its entries in order: it obeys the rules if the state does, and what is alike to it is alike to the state.
-- Assumes nothing.
use mathlib.Core.Bool.{◌||◌, false≢true}
use mathlib.Core.List.{[], ◌∷◌, ◌++◌}
use mathlib.Core.Logic.{◌⊎◌, inl, inr}
use mathlib.Core.Option.{Option, none, some}
use mathlib.Core.Path.{◌≡◌, refl, sym, ap, ap₂, ◌∙◌}
use Prim.Native.Nat.{ℕ}
use native.Mathlib.Omega.{arith}
use lib.Dec.{T}
use Rattle.model.specs.Tree.{Path, File, Node, dir, file, link, Entries, look}
use Rattle.model.specs.Prog.{on_some, answer}
use Rattle.model.specs.Calls.States.{State, is_named, is_held}
use Rattle.model.specs.Rules.{Obeys}
use Rattle.model.specs.Fuller.{shown, shown_node, position_of, StandsAt, StandsRemoved, share}
use Rattle.model.proofs.Demand.Contents.{or_elim, or_left, or_right, named_at, at_named}
use Rattle.model.proofs.Entries.{is_true, is_false, Apart}
use Rattle.model.specs.Alike.{same_file, one_file, Alike}
use Rattle.layout.proofs.Climbing.{Ascends, ascends-apart}
use Rattle.layout.proofs.Spelled.Sorting.{sort, sort-look, sort-ascends, sort-length, sort-bytes}

abbrev pub sorted : State → State
sorted s = record { tree = sort s.tree; files = s.files; opens = s.opens; here = s.here; mask = s.mask; most = s.most; room = s.room }

-- a name is one in the other order too
sort-named : (t : Entries) → Apart t → (i : ℕ) → T (is_named t i) → T (is_named (sort t) i)
sort-named t a i h = let p = named_at t a i h in at_named (sort t) p.0 i (sort-look t p.0 ∙ p.1)

module _ (s : State) (o : Obeys s) where
  -- what stands in the one order stands in the other
  back : (p : Path) (n : Node) → look (sort s.tree) p ≡ some n → look s.tree p ≡ some n
  back p n e = sym (sort-look s.tree p) ∙ e

  still_used : (i : ℕ) → T (is_named s.tree i) ⊎ T (is_held s.opens i) → T (is_named (sort s.tree) i || is_held s.opens i)
  still_used i (inl t) = or_left (is_named (sort s.tree) i) (is_held s.opens i) (sort-named s.tree o.paths i t)
  still_used i (inr t) = or_right (is_named (sort s.tree) i) (is_held s.opens i) t

  pub sorted-obeys : Obeys (sorted s)
  sorted-obeys =
      record {
        entry_limit = o.entry_limit;
        byte_limit = o.byte_limit;
        entries_fit = omega (arith, sort-length s.tree, o.entries_fit);
        bytes_fit = omega (arith, sort-bytes s.tree, o.bytes_fit);
        paths = ascends-apart (sort s.tree) (sort-ascends s.tree o.paths);
        root = λ n e. o.root n (back [] n e);
        parents = λ p x n e. let h = o.parents p x n (back (p ++ (x ∷ [])) n e) in (h.0, sort-look s.tree p ∙ h.1);
        named = λ p n e. o.named p n (back p n e);
        nodes = λ p n e. o.nodes p n (back p n e);
        files = o.files;
        each_file = o.each_file;
        one_name = λ p q i x y. o.one_name p q i (back p _ x) (back q _ y);
        used = λ i f e. still_used i (or_elim (is_named s.tree i) (is_held s.opens i) (o.used i f e));
        numbers = o.numbers;
        opens = o.opens;
        current = o.current;
        umask = o.umask;
      }

  pub sorted-ascends : Ascends (sorted s).tree
  sorted-ascends = sort-ascends s.tree o.paths

  -- ---- what is alike to it

  module _ (v : State) (a : Alike v (sorted s)) where
    stands : (n : ℕ) (p : Path) → StandsAt (sorted s) n p → StandsAt s n p
    stands n p h = record { held = h.held; is_open = h.is_open; is_there = back p _ h.is_there }

    removed : (n : ℕ) (f : File) → StandsRemoved (sorted s) n f → StandsRemoved s n f
    removed n f h =
        record {
          held = h.held;
          is_open = h.is_open;
          no_name = is_false (is_named s.tree h.held.id)
              (λ t. false≢true (sym h.no_name ∙ is_true (is_named (sort s.tree) h.held.id) (sort-named s.tree o.paths h.held.id t)));
          is_file = h.is_file;
        }

    on-file : (n : ℕ) → ((p : Path) × StandsAt v n p × StandsAt (sorted s) n p) ⊎ ((f : File) × StandsRemoved v n f × StandsRemoved (sorted s) n f)
        → ((p : Path) × StandsAt v n p × StandsAt s n p) ⊎ ((f : File) × StandsRemoved v n f × StandsRemoved s n f)
    on-file n (inl h) = inl (h.0, h.1, stands n h.0 h.2)
    on-file n (inr h) = inr (h.0, h.1, removed n h.0 h.2)

    same_position : (n : ℕ) → position_of (sorted s) n ≡ position_of s n
    unfolding position_of answer
    same_position n = refl

    same_share : (n m : ℕ) → share (sorted s) n m ≡ share s n m
    unfolding share
    same_share n m = refl

    same_shown : (p : Path) → shown (sorted s) p ≡ shown s p
    unfolding shown shown_node
    same_shown p = ap (λ (n : Option Node). on_some n (shown_node (sorted s))) (sort-look s.tree p) ∙ go (look s.tree p)
      where
        go : (x : Option Node) → on_some x (shown_node (sorted s)) ≡ on_some x (shown_node s)
        go none = refl
        go (some (dir m)) = refl
        go (some (file i)) = refl
        go (some (link m t)) = refl

    same_files : (p q : Path) → one_file (sorted s) p q ≡ one_file s p q
    unfolding one_file
    same_files p q = ap₂ same_file (sort-look s.tree p) (sort-look s.tree q)

    pub alike-sorted : Alike v s
    alike-sorted =
        record {
          entries = λ p. a.entries p ∙ same_shown p;
          names = λ p q. a.names p q ∙ same_files p q;
          opens = record {
            position = λ n. a.opens.position n ∙ same_position n;
            on_file = λ n b e. on-file n (a.opens.on_file n b e);
            sharing = λ n m. a.opens.sharing n m ∙ same_share n m;
          };
          current = a.current;
          umask = a.umask;
          entry_limit = a.entry_limit;
          byte_limit = a.byte_limit;
        }
