-- Two states as demand 3 has them are two worlds as the two runs keep them: a pair of files is one at a path of both trees, or a
-- removed one under a number, and since a file has one name, pairs are one to one.
-- Assumes nothing.
use mathlib.Core.Bool.{false, false≢true}
use mathlib.Core.List.{[]}
use mathlib.Core.Logic.{◌⊎◌, inl, inr}
use mathlib.Core.Option.{Option, none, some}
use mathlib.Core.Path.{◌≡◌, refl, sym, ap, ◌∙◌}
use Prim.Native.Nat.{ℕ}
use native.Mathlib.Omega.{arith}
use lib.Dec.{eqb}
use borrow.Author.Tests.{eqb-true, eq-eqb}
use Rattle.text.specs.Utf8.{Bytes}
use Rattle.model.specs.Tree.{Path, Meta, File, Node, dir, file, link, Entries, Open, look, file_of, open_of}
use Rattle.model.specs.Prog.{Position, answer, on_some}
use Rattle.model.specs.Calls.{State, is_named, world_of}
use Rattle.model.specs.Rules.{Obeys}
use Rattle.model.specs.Shaped.{HasFile, Shaped}
use Rattle.model.specs.Fuller.{Shown, shown_dir, shown_file, shown_link, shown_node, shown, position_of, StandsAt, StandsRemoved, same_id, share, HasEverything, SameOpen}
use Rattle.model.proofs.Demand.Contents.{at_named}
use Rattle.model.proofs.Entries.{clash, some_inj, is_true, look_none}
use Rattle.model.proofs.Demand.Over.{erase, file-inj, Paired, at_place, by_number, SameNumber, Over}
use Rattle.model.proofs.Demand.Places.{Place, in_tree, in_hand, seen}
use Rattle.model.proofs.Demand.Tidy.{Tidy}

-- ---- entries that are shown alike

file-shown : (f g : File) → some (shown_file f.meta f.bytes) ≡ some (shown_file g.meta g.bytes) → f ≡ g
file-shown f g e =
    let a : f.meta ≡ g.meta = cc in
    let b : f.bytes ≡ g.bytes = cc in
    λ i. record { meta = a i; bytes = b i }

-- they are alike, and files have the same contents
record Seen (a b : State) (n m : Node) : Type 0 where
  like : erase n ≡ erase m
  same : (i j : ℕ) → n ≡ file i → m ≡ file j → (f : File) × (file_of a.files i ≡ some f) × (file_of b.files j ≡ some f)

node-kinds : {A : Type 0} {m : Meta} {i : ℕ} → dir m ≡ file i → A
node-kinds e = absurd (let z : ◌≡◌ {A = ℕ} 0 1 = cc in omega arith)

link-kinds : {A : Type 0} {m : Meta} {s : Bytes} {i : ℕ} → link m s ≡ file i → A
link-kinds e = absurd (let z : ◌≡◌ {A = ℕ} 0 1 = cc in omega arith)

seen_alike : (v w : State) (n m : Node) (e : Shown) → shown_node v n ≡ some e → shown_node w m ≡ some e → Seen v w n m
unfolding shown_node erase
seen_alike v w (dir a) (dir b) e x y = record { like = (let z : a ≡ b = cc in ap dir z); same = λ i j p q. node-kinds p }
seen_alike v w (dir a) (link b t) e x y = absurd (let z : ◌≡◌ {A = ℕ} 0 1 = cc in omega arith)
seen_alike v w (link a s) (dir b) e x y = absurd (let z : ◌≡◌ {A = ℕ} 0 1 = cc in omega arith)
seen_alike v w (link a s) (link b t) e x y =
    record { like = (let p : a ≡ b = cc in let q : s ≡ t = cc in λ k. link (p k) (q k)); same = λ i j p q. link-kinds p }
seen_alike v w (dir a) (file j) e x y = go (file_of w.files j) y
  where
    go : (o : Option File) → on_some o (λ f. some (shown_file f.meta f.bytes)) ≡ some e → Seen v w (dir a) (file j)
    go none z = clash none e refl z
    go (some f) z = absurd (let q : ◌≡◌ {A = ℕ} 0 1 = cc in omega arith)
seen_alike v w (link a s) (file j) e x y = go (file_of w.files j) y
  where
    go : (o : Option File) → on_some o (λ f. some (shown_file f.meta f.bytes)) ≡ some e → Seen v w (link a s) (file j)
    go none z = clash none e refl z
    go (some f) z = absurd (let q : ◌≡◌ {A = ℕ} 0 1 = cc in omega arith)
seen_alike v w (file i) (dir b) e x y = go (file_of v.files i) x
  where
    go : (o : Option File) → on_some o (λ f. some (shown_file f.meta f.bytes)) ≡ some e → Seen v w (file i) (dir b)
    go none z = clash none e refl z
    go (some f) z = absurd (let q : ◌≡◌ {A = ℕ} 0 1 = cc in omega arith)
seen_alike v w (file i) (link b t) e x y = go (file_of v.files i) x
  where
    go : (o : Option File) → on_some o (λ f. some (shown_file f.meta f.bytes)) ≡ some e → Seen v w (file i) (link b t)
    go none z = clash none e refl z
    go (some f) z = absurd (let q : ◌≡◌ {A = ℕ} 0 1 = cc in omega arith)
seen_alike v w (file i) (file j) e x y = go (file_of v.files i) refl (file_of w.files j) refl x y
  where
    go : (o : Option File) → file_of v.files i ≡ o → (p : Option File) → file_of w.files j ≡ p → on_some o (λ f. some (shown_file f.meta f.bytes)) ≡ some e
        → on_some p (λ f. some (shown_file f.meta f.bytes)) ≡ some e → Seen v w (file i) (file j)
    go none k p l z q = clash none e refl z
    go (some f) k none l z q = clash none e refl q
    go (some f) k (some g) l z y =
        let d : f ≡ g = file-shown f g (z ∙ sym y) in
        record {
          like = refl;
          same = λ a b p q. (f, ap (file_of v.files) (sym (file-inj p)) ∙ k, ap (file_of w.files) (sym (file-inj q)) ∙ l ∙ ap some (sym d));
        }

shown_some : (s : State) (n : Node) → ((i : ℕ) → n ≡ file i → HasFile s.files i) → (e : Shown) × (shown_node s n ≡ some e)
unfolding shown_node
shown_some s (dir m) h = (shown_dir m, refl)
shown_some s (file i) h = (shown_file (h i refl).0.meta (h i refl).0.bytes, rw (h i refl).1)
shown_some s (link m g) h = (shown_link m g, refl)

pub shaped : (s : State) → Obeys s → Shaped s
shaped s o = record { paths = o.paths; nodes = λ p i e. o.nodes p (file i) e; one_name = o.one_name; files = o.files; used = o.used; numbers = o.numbers; stands = λ n u e. (o.opens n u e).3 }

-- ---- two states

module _ (s u : State) (os : Shaped s) (ou : Shaped u) (every : HasEverything s u) (same : SameOpen s u) where
  at_alike : (p : Path) (n : Node) → look s.tree p ≡ some n → (m : Node) × (look u.tree p ≡ some m) × Seen s u n m
  unfolding shown
  at_alike p n k =
      let h = shown_some s n (λ i e. os.nodes p i (k ∙ ap some e)) in
      go (look u.tree p) refl h.0 h.1
      (every p h.0 (ap (λ (o : Option Node). on_some o (shown_node s)) k ∙ h.1))
    where
      go : (o : Option Node) → look u.tree p ≡ o → (e : Shown) → shown_node s n ≡ some e → on_some (look u.tree p) (shown_node u) ≡ some e
          → (m : Node) × (look u.tree p ≡ some m) × Seen s u n m
      go none l e x y = clash (on_some (look u.tree p) (shown_node u)) e (ap (λ (o : Option Node). on_some o (shown_node u)) l) y
      go (some m) l e x y =
          (m, l, seen_alike s u n m e x (sym (ap (λ (o : Option Node). on_some o (shown_node u)) l) ∙ y))

  -- a pair at a path of both trees, or removed in both
  data Pair (i j : ℕ) : Type 0 where
    standing : (p : Path) → look s.tree p ≡ some (file i) → look u.tree p ≡ some (file j) → Pair i j
    removed : (n : ℕ) (a b : Open) (f : File) → open_of s.opens n ≡ some a → open_of u.opens n ≡ some b → a.id ≡ i → b.id ≡ j
        → is_named s.tree i ≡ false → is_named u.tree j ≡ false → file_of s.files i ≡ some f → file_of u.files j ≡ some f → Pair i j

  pair_of : (i j : ℕ) → Paired (world_of s) (world_of u) i j → Pair i j
  pair_of i j (at_place (in_tree p) x y) = standing p x y
  pair_of i j (at_place (in_hand p) x y) = clash (look [] p) (file i) (look_none p) x
  pair_of i j (by_number n a b x y p q) = go (same.on_file n a x)
    where
      go : ((r : Path) × StandsAt s n r × StandsAt u n r) ⊎ ((f : File) × StandsRemoved s n f × StandsRemoved u n f) → Pair i j
      go (inl z) =
          let c : z.1.held ≡ a = some_inj (sym z.1.is_open ∙ x) in
          let d : z.2.held ≡ b = some_inj (sym z.2.is_open ∙ y) in
          standing z.0 (z.1.is_there ∙ ap (λ (o : Open). some (file o.id)) c ∙ ap (λ (k : ℕ). some (file k)) p)
          (z.2.is_there ∙ ap (λ (o : Open). some (file o.id)) d ∙ ap (λ (k : ℕ). some (file k)) q)
      go (inr z) =
          let c : z.1.held.id ≡ i = ap (λ (o : Open). o.id) (some_inj (sym z.1.is_open ∙ x)) ∙ p in
          let d : z.2.held.id ≡ j = ap (λ (o : Open). o.id) (some_inj (sym z.2.is_open ∙ y)) ∙ q in
          removed n a b z.0 x y p q (ap (is_named s.tree) (sym c) ∙ z.1.no_name) (ap (is_named u.tree) (sym d) ∙ z.2.no_name)
          (ap (file_of s.files) (sym c) ∙ z.1.is_file) (ap (file_of u.files) (sym d) ∙ z.2.is_file)

  -- a file that has no name stands nowhere
  nameless : {A : Type 0} (t : Entries) (p : Path) (i : ℕ) → look t p ≡ some (file i) → is_named t i ≡ false → A
  nameless t p i x e = absurd (false≢true (sym e ∙ is_true (is_named t i) (at_named t p i x)))

  -- two numbers on one file of the one state are on one file of the other
  shared : (n m : ℕ) (a b c d : Open) → open_of s.opens n ≡ some a → open_of s.opens m ≡ some b → open_of u.opens n ≡ some c → open_of u.opens m ≡ some d
      → eqb a.id b.id ≡ eqb c.id d.id
  unfolding share
  shared n m a b c d x y z t =
      sym (ap (λ (o : Option Open). same_id o (open_of s.opens m)) x ∙ ap (λ (o : Option Open). same_id (some a) o) y)
      ∙ same.sharing n m
      ∙ (ap (λ (o : Option Open). same_id o (open_of u.opens m)) z ∙ ap (λ (o : Option Open). same_id (some c) o) t)

  one_first : (i k j : ℕ) → Pair i j → Pair k j → i ≡ k
  one_first i k j (standing p x y) (standing q z t) = file-inj (some_inj (sym x ∙ ap (look s.tree) (ou.one_name p q j y t) ∙ z))
  one_first i k j (standing p x y) (removed n a b f z t c d e g l m) = nameless u.tree p j y g
  one_first i k j (removed n a b f z t c d e g l m) (standing p x y) = nameless u.tree p j y g
  one_first i k j (removed n a b f x y p q e g l r) (removed m c d h z t v w o ρ σ τ) =
      sym p ∙ eqb-true a.id c.id (shared n m a c b d x z y t ∙ eq-eqb b.id d.id (q ∙ sym w)) ∙ v

  one_second : (i j k : ℕ) → Pair i j → Pair i k → j ≡ k
  one_second i j k (standing p x y) (standing q z t) = file-inj (some_inj (sym y ∙ ap (look u.tree) (os.one_name p q i x z) ∙ t))
  one_second i j k (standing p x y) (removed n a b f z t c d e g l m) = nameless s.tree p i x e
  one_second i j k (removed n a b f z t c d e g l m) (standing p x y) = nameless s.tree p i x e
  one_second i j k (removed n a b f x y p q e g l r) (removed m c d h z t v w o ρ σ τ) =
      sym q ∙ eqb-true b.id d.id (sym (shared n m a c b d x z y t) ∙ eq-eqb a.id c.id (p ∙ sym v)) ∙ w

  same-file : (i j : ℕ) → Pair i j → (f : File) × (file_of s.files i ≡ some f) × (file_of u.files j ≡ some f)
  same-file i j (standing p x y) =
      let h = at_alike p (file i) x in
      h.2.same i j refl (some_inj (sym h.1 ∙ y))
  same-file i j (removed n a b f x y p q e g l r) = (f, l, r)

  cover : (i j : ℕ) → Pair i j → (q : Path) → look u.tree q ≡ some (file j) → look s.tree q ≡ some (file i)
  cover i j (standing p x y) q z = ap (look s.tree) (ou.one_name q p j z y) ∙ x
  cover i j (removed n a b f x y p r e g l m) q z = nameless u.tree q j z g

  number-alike : (n : ℕ) → SameNumber (open_of s.opens n) (open_of u.opens n)
  unfolding position_of answer
  number-alike n = go (open_of s.opens n) (open_of u.opens n) (same.position n)
    where
      f : Open → Option Position
      f o = some (record { pos = o.pos; kept = o.kept })

      go : (a b : Option Open) → on_some a f ≡ on_some b f → SameNumber a b
      go none none e = tt
      go none (some b) e = clash (on_some none f) (record { pos = b.pos; kept = b.kept }) refl e
      go (some a) none e = clash (on_some none f) (record { pos = a.pos; kept = a.kept }) refl (sym e)
      go (some a) (some b) e =
          (ap (λ (p : Position). p.pos) (some_inj e), ap (λ (p : Position). p.kept) (some_inj e))

  pub shaped_over : Over (world_of s) (world_of u)
  shaped_over =
      record {
        has = has;
        numbers = number-alike;
        alike = λ i j p. same-file i j (pair_of i j p);
        first = λ i k j p q. one_first i k j (pair_of i j p) (pair_of k j q);
        second = λ i j k p q. one_second i j k (pair_of i j p) (pair_of i k q);
        covers = λ i j p pl e. covers i j (pair_of i j p) pl e;
        grounded = grounded;
      }
    where
      has : (pl : Place) (n : Node) → seen (world_of s) pl ≡ some n → (m : Node) × (seen (world_of u) pl ≡ some m) × (erase n ≡ erase m)
      has (in_tree p) n k = let h = at_alike p n k in (h.0, h.1, h.2.like)
      has (in_hand p) n k = clash (look [] p) n (look_none p) k

      covers : (i j : ℕ) → Pair i j → (pl : Place) → seen (world_of u) pl ≡ some (file j) → seen (world_of s) pl ≡ some (file i)
      covers i j p (in_tree q) e = cover i j p q e
      covers i j p (in_hand q) e = clash (look [] q) (file j) (look_none q) e

      grounded : (pl : Place) (j : ℕ) → seen (world_of u) pl ≡ some (file j) → HasFile u.files j
      grounded (in_tree q) j e = ou.nodes q j e
      grounded (in_hand q) j e = clash (look [] q) (file j) (look_none q) e

pub shaped-tidy : (s : State) → Shaped s → Tidy (world_of s)
shaped-tidy s o = record { tree = o.paths; hand = tt; files = o.files; numbers = o.numbers }

pub start_over : (s u : State) → Obeys s → Obeys u → HasEverything s u → SameOpen s u → Over (world_of s) (world_of u)
start_over s u os ou e o = shaped_over s u (shaped s os) (shaped u ou) e o

pub start-tidy : (s : State) → Obeys s → Tidy (world_of s)
start-tidy s o = shaped-tidy s (shaped s o)
