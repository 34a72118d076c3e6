-- A call answers and leaves the same, and is left out by demand 3 for the same, whatever bound its lookups have on last links, from
-- the number of links in the tree on: every lookup is, and no call makes a link before it looks up.
-- Assumes nothing.
use mathlib.Core.Bool.{Bool, true, false, ◌||◌, not}
use mathlib.Core.List.{[], ◌∷◌, ◌++◌}
use mathlib.Core.Path.{◌≡◌, refl, sym, ap, ap₂, ◌∙◌}
use Prim.Native.Nat.{ℕ, ◌≤◌}
use native.Mathlib.Omega.{arith}
use Rattle.text.specs.Utf8.{Bytes}
use Rattle.path.specs.Path.{is_absolute}
use Rattle.model.specs.Tree.{Path, Time, links_in, same_path}
use Rattle.model.specs.Prog.{World, bytes?, open?, answer, take, give, edits, apply, Prog, ret, stop, ask, edit, ◌>>=◌, ◌>>◌, is_nil, Out, done, refused, run}
use Rattle.model.specs.Lookup.{Where, lookup, text_or}
use Rattle.model.specs.Operations as O
use Rattle.model.specs.Operations.{Reply, Parted}
use Rattle.model.specs.Calls as Calls
use Rattle.model.specs.Calls.{Op, program}
use Rattle.model.specs.Fuller.{excepts_ask, excepts}
use Rattle.model.proofs.Lookups.LinkCount.{links-cut}
use Rattle.model.proofs.Lookups.Ends.{later, excepts-bind, lookup-bound}
use Rattle.model.proofs.Lookups.Loops.{bounds}
use Rattle.model.proofs.Lookups.Pure.{pure-need}
use Rattle.model.proofs.Running.{then, run_bind, Pure, After, pure-after}
use Rattle.model.proofs.Refusals.Tests.{pure-ask, pure-lookup, pure-absolute, pure-parted, pure-only_file, pure-leads, pure-directory, pure-last_entry, pure-open_walk, pure-source_at, pure-replaces}

-- what asks nothing behind a program adds no exception
silent-end : {A B : Type 0} (p : Prog A) (f : A → Prog B) (w v : World) → ((a : A) (x y : World) → excepts (f a) x y ≡ false) → excepts (p >>= f) w v ≡ excepts p w v
unfolding excepts ◌>>=◌
silent-end (ret a) f w v h = h a w v
silent-end (stop n) f w v h = refl
silent-end (ask q k) f w v h = ap (λ (b : Bool). excepts_ask q w v || b) (silent-end (k (answer q w)) f w v h)
silent-end (edit e p) f w v h = silent-end p f (apply e w) (apply e v) h

-- two programs that run alike on the first world and are left out for the same
abbrev Twin : {A : Type 0} → World → World → Prog A → Prog A → Type 0
Twin w v p q = (run p w ≡ run q w) × (excepts p w v ≡ excepts q w v)

module _ (w v : World) where
  same : {A : Type 0} (p : Prog A) → Twin w v p p
  same p = (refl, refl)

  -- one part after the other, where the first edits nothing
  twin-bind : {A B : Type 0} (p q : Prog A) (f g : A → Prog B) → Pure p → Pure q → Twin w v p q → ((x : A) → Twin w v (f x) (g x)) → Twin w v (p >>= f) (q >>= g)
  twin-bind {A} p q f g hp hq t k = (
    run_bind p f w ∙ go (run p w) (pure-after p w hp) ∙ ap (λ (o : Out A). then o (λ x u. run (g x) u)) t.0 ∙ sym (run_bind q g w),
    excepts-bind p f w v hp ∙ ap₂ ◌||◌ t.1 (on (run p w))
        ∙ ap (λ (o : Out A). excepts q w v || later o (λ x. excepts (g x) w v)) t.0 ∙ sym (excepts-bind q g w v hq),
  )
    where
      go : (o : Out A) → After o (λ x u. u ≡ w) → then o (λ x u. run (f x) u) ≡ then o (λ x u. run (g x) u)
      go (done x u) e = rw e (k x).0
      go (refused n) e = refl

      on : (o : Out A) → later o (λ x. excepts (f x) w v) ≡ later o (λ x. excepts (g x) w v)
      on (done x u) = (k x).1
      on (refused n) = refl

  -- the same part before both
  twin_then : {A B : Type 0} (p : Prog A) (f g : A → Prog B) → Pure p → ((x : A) → Twin w v (f x) (g x)) → Twin w v (p >>= f) (p >>= g)
  twin_then p f g h k = twin-bind p p f g h h (same p) k

  -- an answer behind both
  twin-end : {A B : Type 0} (p q : Prog A) (f : A → B) → Twin w v p q → Twin w v (p >>= λ x. ret (f x)) (q >>= λ x. ret (f x))
  unfolding excepts
  twin-end {A} {B} p q f t = (
    run_bind p _ w ∙ ap (λ (o : Out A). then o (λ x u. run (ret (f x)) u)) t.0 ∙ sym (run_bind q _ w),
    silent-end p (λ x. ret (f x)) w v (λ x y z. refl) ∙ t.1 ∙ sym (silent-end q (λ x. ret (f x)) w v (λ x y z. refl)),
  )

module _ (a b : ℕ) (w v : World) (ha : links_in w.at ≤ a) (hb : links_in w.at ≤ b) where
  twin-lookup : (p : Path) → Twin w v (lookup a p) (lookup b p)
  twin-lookup p = (bounds w a b p [] ha hb, lookup-bound w v a b p ha hb)

  -- a lookup, and what follows
  twin-look : {B : Type 0} (p : Path) (f g : Where → Prog B) → ((x : Where) → Twin w v (f x) (g x)) → Twin w v (lookup a p >>= f) (lookup b p >>= g)
  twin-look p f g k = twin-bind w v (lookup a p) (lookup b p) f g (pure-lookup a p) (pure-lookup b p) (twin-lookup p) k

  twin-leads : (p : Path) → Twin w v (O.leads a p) (O.leads b p)
  unfolding O.leads
  twin-leads p = twin-look p _ _ λ x. same w v _

  -- an entry that is there, and what follows
  twin-led : {B : Type 0} (p : Path) (f : O.There → Prog B) → Twin w v (O.leads a p >>= f) (O.leads b p >>= f)
  twin-led p f = twin-bind w v _ _ f f (pure-leads a p) (pure-leads b p) (twin-leads p) λ x. same w v _

  twin-directory : (p : Path) → Twin w v (O.directory a p) (O.directory b p)
  unfolding O.directory
  twin-directory p = twin-led p _

  twin-last_entry : (p : Path) → Twin w v (O.last_entry a p) (O.last_entry b p)
  unfolding O.last_entry
  twin-last_entry p =
      twin_then w v _ _ _ (pure-parted p) λ l.
      twin-bind w v _ _ _ _ (pure-directory a l.before) (pure-directory b l.before) (twin-directory l.before) λ d. same w v _

  -- the entry of a last name, and what follows
  twin_last : {B : Type 0} (p : Path) (f : Where → Prog B) → Twin w v (O.last_entry a p >>= f) (O.last_entry b p >>= f)
  twin_last p f = twin-bind w v _ _ f f (pure-last_entry a p) (pure-last_entry b p) (twin-last_entry p) λ x. same w v _

  twin-open_walk : (p : Path) → Twin w v (O.open_walk a p) (O.open_walk b p)
  unfolding O.open_walk
  twin-open_walk p = twin-look p _ _ λ x. same w v _

  twin-source_at : (p : Path) → Twin w v (O.source_at a p) (O.source_at b p)
  unfolding O.source_at
  twin-source_at p = twin-bind w v _ _ _ _ (pure-open_walk a p) (pure-open_walk b p) (twin-open_walk p) λ x. same w v _

  twin-write_to : (t : Time) (s : Bytes) (p : Path) → Twin w v (O.write_to a t s p) (O.write_to b t s p)
  unfolding O.write_to
  twin-write_to t s p = twin-bind w v _ _ _ _ (pure-open_walk a p) (pure-open_walk b p) (twin-open_walk p) λ x. same w v _

  twin-metadata : (lent : ℕ) (p : Path) → Twin w v (O.metadata_at a lent p) (O.metadata_at b lent p)
  unfolding O.metadata_at
  twin-metadata lent p = twin-led p _

  -- a path, or two, made absolute
  twin-path : (s : Bytes) (f g : Path → Prog Reply) → ((p : Path) → Twin w v (f p) (g p)) → Twin w v (O.on_path s f) (O.on_path s g)
  unfolding O.on_path
  twin-path s f g k = twin_then w v _ _ _ (pure-absolute s) k

  twin-paths : (s d : Bytes) (f g : Path → Path → Prog Reply) → ((p q : Path) → Twin w v (f p q) (g p q)) → Twin w v (O.on_paths s d f) (O.on_paths s d g)
  unfolding O.on_paths
  twin-paths s d f g k = twin_then w v _ _ _ (pure-absolute s) λ p. twin_then w v _ _ _ (pure-absolute d) λ q. k p q

-- rename's lookup after the old entry is out
twin-take : (a b : ℕ) (w v : World) → links_in w.at ≤ a → links_in w.at ≤ b → (old : Path) (new : Parted) (t : Time)
    → Twin w v (O.take_then_make a old new t) (O.take_then_make b old new t)
unfolding O.take_then_make ◌>>◌ ◌>>=◌ run excepts apply
twin-take a b w v ha hb old new t =
    twin-look a b (apply (take old) w) (apply (take old) v) (omega (arith, links-cut old w.at)) (omega (arith, links-cut old w.at)) new.before rest rest
    λ x. same (apply (take old) w) (apply (take old) v) (rest x)
  where
    rest : Where → Prog (Unit {0})
    rest d = O.make_missing (O.fresh_dir t) [] d.path >> edits (give (d.path ++ (new.name ∷ [])))

module _ (a b : ℕ) (w v : World) (ha : links_in w.at ≤ a) (hb : links_in w.at ≤ b) where
  twin-apart : (t : Time) (p q : Path) → Twin w v (O.rename_apart a t p q) (O.rename_apart b t p q)
  unfolding O.rename_apart ◌>>◌
  twin-apart t p q =
      twin_then w v _ _ _ (pure-parted p) λ _.
      twin_then w v _ _ _ (pure-parted q) λ m.
      twin-bind w v _ _ _ _ (pure-leads a p) (pure-leads b p) (twin-leads a b w v ha hb p) λ x.
      twin_then w v _ _ _ (pure-need _ 11) λ _.
      twin-look a b w v ha hb q _ _ λ y.
      twin_then w v _ _ _ (pure-replaces x.kind y.path y.kind) λ _.
      twin-bind w v _ _ _ _ (pure-last_entry a p) (pure-last_entry b p) (twin-last_entry a b w v ha hb p) λ o.
      twin-end w v (O.take_then_make a o.path m t) (O.take_then_make b o.path m t) _ (twin-take a b w v ha hb o.path m t)

  twin-rename : (e : Bool) (t : Time) (p q : Path) → Twin w v (O.rename_by e a t p q) (O.rename_by e b t p q)
  unfolding O.rename_by
  twin-rename true t p q = same w v _
  twin-rename false t p q = twin-apart t p q

  -- every call
  twins : (o : Op) → Twin w v (program a o) (program b o)
  unfolding program O.on_given O.on_raw O.canonicalize_at O.set_current_dir_at O.create_dir_at O.open_at O.read_at O.write_at O.copy_at O.hard_link_at O.link_at O.remove_at O.rename_at O.set_permissions_at O.set_times_at O.list_at O.metadata_on ◌>>◌
  twins (Calls.canonicalize s k) = twin_then w v _ _ _ (pure-need (not (is_nil s)) 8) λ _. twin-path a b w v ha hb s _ _ λ p. twin-led a b w v ha hb p _
  twins (Calls.set_current_dir s) = twin_then w v _ _ _ (pure-need (not (is_nil s)) 8) λ _. twin-path a b w v ha hb s _ _ λ p. twin-led a b w v ha hb p _
  twins (Calls.set_umask m) = same w v _
  twins (Calls.create_dir s t) = twin-path a b w v ha hb s _ _ λ p. twin-look a b w v ha hb p _ _ λ x. same w v _
  twins (Calls.open_file n s f m t) =
      twin-path a b w v ha hb s _ _ λ p.
      twin-bind w v _ _ _ _ (pure-open_walk a p) (pure-open_walk b p) (twin-open_walk a b w v ha hb p) λ x. same w v _
  twins (Calls.read_file s k) =
      twin-path a b w v ha hb s _ _ λ p.
      twin-bind w v _ _ _ _ (pure-source_at a p) (pure-source_at b p) (twin-source_at a b w v ha hb p) λ x. same w v _
  twins (Calls.write_file s d t) = twin-path a b w v ha hb s _ _ λ p. twin-end w v _ _ _ (twin-write_to a b w v ha hb t d p)
  twins (Calls.copy_file s d t) =
      twin-paths a b w v ha hb s d _ _ λ p q.
      twin-bind w v _ _ _ _ (pure-source_at a p) (pure-source_at b p) (twin-source_at a b w v ha hb p) λ f.
      twin-end w v _ _ _ (twin-write_to a b w v ha hb t f.bytes q)
  twins (Calls.hard_link s d t) =
      twin-paths a b w v ha hb s d _ _ λ p q.
      twin-bind w v _ _ _ _ (pure-leads a p) (pure-leads b p) (twin-leads a b w v ha hb p) λ e.
      twin_then w v _ _ _ (pure-only_file e.kind) λ _.
      twin_then w v _ _ _ (pure-ask (bytes? e.path)) λ f.
      twin-end w v _ _ _ (twin-write_to a b w v ha hb t (text_or f) q)
  twins (Calls.link_file g s t) = twin-path a b w v ha hb s _ _ λ p. twin_last a b w v ha hb p _
  twins (Calls.remove_file s) = twin-path a b w v ha hb s _ _ λ p. twin_last a b w v ha hb p _
  twins (Calls.remove_dir s) = twin-path a b w v ha hb s _ _ λ p. twin_last a b w v ha hb p _
  twins (Calls.remove_tree s) = twin-path a b w v ha hb s _ _ λ p. twin_last a b w v ha hb p _
  twins (Calls.rename s d t) = twin-paths a b w v ha hb s d _ _ λ p q. twin-rename (same_path p q) t p q
  twins (Calls.metadata s r) = twin-path a b w v ha hb s _ _ λ p. twin-metadata a b w v ha hb r p
  twins (Calls.symlink_metadata s r) = same w v _
  twins (Calls.read_link s k) = same w v _
  twins (Calls.set_permissions s m) = twin-path a b w v ha hb s _ _ λ p. twin-led a b w v ha hb p _
  twins (Calls.set_times s f g) = twin_then w v _ _ _ (pure-need (is_absolute s) 8) λ _. twin-led a b w v ha hb _ _
  twins (Calls.list s k r) = twin-path a b w v ha hb s _ _ λ p. twin-led a b w v ha hb p _
  twins (Calls.close_number n) = same w v _
  twins (Calls.read_number n k) = same w v _
  twins (Calls.seek_number n o k) = same w v _
  twins (Calls.set_length n k) = same w v _
  twins (Calls.set_mode_number n m) = same w v _
  twins (Calls.set_times_number n f c d) = same w v _
  twins (Calls.metadata_number n r) = twin_then w v _ _ _ (pure-ask (open? n)) λ o. twin-metadata a b w v ha hb r _

-- any two bounds from the number of links on
pub any_bound : (o : Op) (a b : ℕ) (w : World) → links_in w.at ≤ a → links_in w.at ≤ b → run (program a o) w ≡ run (program b o) w
any_bound o a b w ha hb = (twins a b w w ha hb o).0

-- and what is left out
pub same_exceptions : (o : Op) (a b : ℕ) (w v : World) → links_in w.at ≤ a → links_in w.at ≤ b → excepts (program a o) w v ≡ excepts (program b o) w v
same_exceptions o a b w v ha hb = (twins a b w v ha hb o).1
