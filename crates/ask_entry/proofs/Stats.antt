-- What the model answers of an entry is what its slot says: its kind, its metadata, its bytes.
-- Assumes nothing.
use mathlib.Core.Bool.{Bool, true, false, cond}
use mathlib.Core.List.{List}
use mathlib.Core.Option.{Option, some}
use mathlib.Core.Path.{◌≡◌, refl, sym, ap, ◌∙◌, subst}
use Prim.Native.Nat.{ℕ, ◌<◌}
use native.Mathlib.Omega.{arith}
use lib.Dec.{eqb}
use lib.ListN.{length, get_or}
use borrow.Author.Tests.{eqb-true}
use Rattle.text.specs.Utf8.{Bytes}
use Rattle.model.specs.Tree.{Path, File, Node, dir, file, link}
use Rattle.model.specs.Prog.{World, Kind, a_dir, aFile, a_link, kind_number, Stat, node_kind, stat_of, bytes_of, target_of, on_some, kind?, stat?, answer}
use Rattle.model.specs.Calls.States.{world_of}
use Rattle.model.proofs.Entries.{some_inj}
use Rattle.layout.specs.declared.kind.Kind as shown
use Rattle.layout.specs.Kinds.{kind_from}
use Rattle.layout.specs.Fields.{slot_of, len_of}
use Rattle.layout.specs.Fields as fields
use Rattle.layout.specs.Store.{Store, count, meta_at, bytes_at, kind_at, node_at, state}
use Rattle.layout.specs.Lawful.{Lawful}
use Rattle.layout.proofs.Slotted.{bytes-length}
use Rattle.layout.proofs.Entered.{has_file}
use Rattle.ask_find.specs.Paths.{slot_at, path_at}
use Rattle.ask_find.proofs.Records.{slot-low, path-look}
use Rattle.ask_find.specs.declared.Spot.{Spot}
use Rattle.ask_find.specs.Spots.{At}
use Rattle.ask_entry.specs.Reads.{world_in, kind_by, stat_at, Contents}

-- two kinds with different numbers
other_kind : {A : Type 0} (a b : Kind) → a ≡ b → (kind_number a ≡ kind_number b → ⊥) → A
other_kind a b e f = absurd (f (ap kind_number e))

module _ (st : Store) (l : Lawful st) where
  abbrev world : World
  world = world_in st

  -- ---- an entry with the slot k

  -- its node, by two tests of the slot's kind
  abbrev node : ℕ → Bool → Bool → Node
  node k a b = cond a (dir (meta_at st k)) (cond b (file k) (link (meta_at st k) (bytes_at st k)))

  -- the bytes of a slot are as many as its word says
  long_at : (k : ℕ) → k < length st.heads → length (bytes_at st k) ≡ len_of (get_or st.heads k 0)
  long_at k h = bytes-length st k (omega (arith, l.space, l.exact.bytes)) h

  -- its kind
  kind-at : (k : ℕ) → node_kind (node_at st k) ≡ kind_by (kind_at st k)
  unfolding node_kind
  kind-at k = go (eqb (kind_at st k) 1) (eqb (kind_at st k) 2)
    where
      go : (a b : Bool) → node_kind (node k a b) ≡ cond a a_dir (cond b aFile a_link)
      go true b = refl
      go false true = refl
      go false false = refl

  -- its metadata
  pub stat-at : (k : ℕ) → k < length st.heads → stat_of (world_of (state st)) (node_at st k) ≡ some (stat_at st k)
  unfolding stat_of
  stat-at k h = go (eqb (kind_at st k) 1) (eqb (kind_at st k) 2) refl refl
    where
      go : (a b : Bool) → eqb (kind_at st k) 1 ≡ a → eqb (kind_at st k) 2 ≡ b
          → stat_of (world_of (state st)) (node k a b) ≡ some (record { kind = cond a a_dir (cond b aFile a_link); size = cond b (len_of (get_or st.heads k 0)) 0; meta = meta_at st k })
      go true true d e = absurd (omega (arith, eqb-true (kind_at st k) 1 d, eqb-true (kind_at st k) 2 e))
      go true false d e = refl
      go false true d e =
          ap (λ (o : Option File). on_some {B = Stat} o (λ f. some (record { kind = aFile; size = length f.bytes; meta = f.meta }))) (has_file st l k h (eqb-true (kind_at st k) 2 e))
          ∙ ap (λ (n : ℕ). some (record { kind = aFile; size = n; meta = meta_at st k })) (long_at k h)
      go false false d e = refl

  -- the bytes of a file and the target of a link
  contents_at : (k : ℕ) → k < length st.heads
      → (node_kind (node_at st k) ≡ aFile → bytes_of (world_of (state st)) (node_at st k) ≡ some (bytes_at st k)) × (node_kind (node_at st k) ≡ a_link → target_of (node_at st k) ≡ some (bytes_at st k))
  unfolding node_kind bytes_of target_of
  contents_at k h = go (eqb (kind_at st k) 1) (eqb (kind_at st k) 2) refl
    where
      go : (a b : Bool) → eqb (kind_at st k) 2 ≡ b
          → (node_kind (node k a b) ≡ aFile → bytes_of (world_of (state st)) (node k a b) ≡ some (bytes_at st k)) × (node_kind (node k a b) ≡ a_link → target_of (node k a b) ≡ some (bytes_at st k))
      go true b e = (λ z. other_kind a_dir aFile z (λ w. omega arith), λ z. other_kind a_dir a_link z (λ w. omega arith))
      go false true e =
          (λ z. ap (λ (o : Option File). on_some {B = Bytes} o (λ f. some f.bytes)) (has_file st l k h (eqb-true (kind_at st k) 2 e)), λ z. other_kind aFile a_link z (λ w. omega arith))
      go false false e = (λ z. other_kind a_link aFile z (λ w. omega arith), λ z. refl)

  -- ---- the entry of record i

  module _ (i : ℕ) (h : i < count st) where
    -- what is answered of its path
    pub kind-told : answer (kind? (path_at st i)) world ≡ some (kind_by (kind_at st (slot_at st i)))
    unfolding answer
    kind-told =
        ap (λ (o : Option Node). on_some {B = Kind} o (λ n. some (node_kind n))) (path-look st l i h)
        ∙ ap some (kind-at (slot_at st i))

    pub stat-told : answer (stat? (path_at st i)) world ≡ some (stat_at st (slot_at st i))
    unfolding answer
    stat-told =
        ap (λ (o : Option Node). on_some {B = Stat} o (stat_of (world_of (state st)))) (path-look st l i h)
        ∙ stat-at (slot_at st i) (slot-low st l i h)

    contents-told : Contents (world_in st) (path_at st i) (bytes_at st (slot_at st i))
    unfolding answer
    contents-told =
        let k = slot_at st i in
        let t = contents_at k (slot-low st l i h) in
        let kind : (m : Kind) → answer (kind? (path_at st i)) world ≡ some m → node_kind (node_at st k) ≡ m =
        λ m z. kind-at k ∙ some_inj (sym kind-told ∙ z) in
        record {
          file = λ z. ap (λ (o : Option Node). on_some {B = Bytes} o (bytes_of (world_of (state st)))) (path-look st l i h) ∙ t.0 (kind aFile z);
          link = λ z. ap (λ (o : Option Node). on_some {B = Bytes} o target_of) (path-look st l i h) ∙ t.1 (kind a_link z);
        }

  -- ---- the entry at a spot, whose slot is k

  module _ {s : Spot} {p : Path} (a : At st s p) {k : ℕ} (z : k ≡ slot_at st s.at) where
    pub spot-kind : {h : ℕ} (r : shown.Kind) → h ≡ get_or st.heads k 0 → kind_from r ≡ kind_by (fields.kind_of h) → answer (kind? p) world ≡ some (kind_from r)
    spot-kind r e f =
        ap (λ (q : Path). answer (kind? q) world) (sym a.path) ∙ kind-told s.at a.within
        ∙ ap (λ (m : ℕ). some (kind_by (kind_at st m))) (sym z) ∙ ap (λ (m : ℕ). some (kind_by (fields.kind_of m))) (sym e) ∙ ap some (sym f)

    pub spot-stat : (u : Stat) → u ≡ stat_at st k → answer (stat? p) world ≡ some u
    spot-stat u e =
        ap (λ (q : Path). answer (stat? q) world) (sym a.path) ∙ stat-told s.at a.within ∙ ap (λ (m : ℕ). some (stat_at st m)) (sym z) ∙ ap some (sym e)

    pub spot-contents : (u : Bytes) → u ≡ bytes_at st k → Contents (world_in st) p u
    spot-contents u e =
        subst (λ (q : Path). Contents (world_in st) q u) a.path (subst (λ (b : Bytes). Contents (world_in st) (path_at st s.at) b) (sym (e ∙ ap (bytes_at st) z)) (contents-told s.at a.within))

-- the slot of a record, by the records that were read
pub slot-by : {ws : List ℕ} (st : Store) (i : ℕ) {w k : ℕ} → st.records ≡ ws → w ≡ get_or ws i 0 → k ≡ slot_of w → k ≡ slot_at st i
slot-by st i e f g = g ∙ ap slot_of (f ∙ ap (λ (us : List ℕ). get_or us i 0) (sym e))
