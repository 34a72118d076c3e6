-- Metadata by what the lookup found: the record of the entry, where there is room for one.
-- Assumes nothing.
use mathlib.Core.Bool.{Bool, true, false}
use mathlib.Core.List.{List}
use mathlib.Core.Option.{Option, none, some}
use mathlib.Core.Path.{◌≡◌, refl, sym, ap, ◌∙◌, subst}
use Prim.Native.Nat.{ℕ, ◌/◌, ◌≤◌, ◌<◌, ◌^◌}
use native.Mathlib.Omega.{arith}
use lib.Dec.{leb}
use lib.IntN.{ℤ}
use lib.ListN.{length, take}
use Rattle.text.specs.Utf8.{Bytes}
use Rattle.path.specs.Path.{names}
use Rattle.model.specs.Tree.{Path, File, Node, dir, file, link, look, file_of, contents_length}
use Rattle.model.specs.Prog.{World, aFile, Stat, stat?, stat_of, answer, on_some, Prog, ret, asks, ◌>>=◌, ◌>>◌, done, refused, run}
use Rattle.model.specs.Operations.Steps as model
use Rattle.model.specs.Operations.Steps.{Reply, stat_reply, fits}
use Rattle.model.specs.Operations.Shows.{metadata_at}
use Rattle.model.specs.Buffers.{row_numbers}
use Rattle.model.specs.Calls.States.{State, world_of}
use Rattle.model.proofs.Running.{allowed, need-run}
use Rattle.model.proofs.Entries.{clash, some_inj}
use Rattle.model.proofs.Sound.Settled.{contents-file}
use Rattle.std.specs.Prelude.{Ok, Err}
use Rattle.refusal.specs.Numbers.{number_of}
use Rattle.refusal.specs.declared.Refusal.{Refusal}
use Rattle.layout.specs.Store.{Store}
use Rattle.store.specs.Shows.{Shows, says}
use Rattle.walk.specs.declared.There as led
use Rattle.walk.specs.Leads.{Leads}
use Rattle.op.specs.Lending.{in_rows}
use Rattle.op.specs.Doing.{Does}
use Rattle.op.proofs.Doing.{shown-fits, does-refused, does-told}
use Rattle.op.proofs.Leading.{row-short, row_fits, led_there, led-refused}
use Rattle.op_look.specs.Rows.{RowIs, put, short}

-- ---- the size in a record

-- it is at most the bytes of all files, which a store has room for
pub size_low : (st : Store) (s : State) → Shows st s → (p : Path) (x : Stat) → says (stat? p) s ≡ some x → x.size < 2 ^ 63
unfolding answer stat_of
size_low st s h p x e = go (look s.tree p) e
  where
    low : (n : ℕ) → n ≤ contents_length s.files → n < 2 ^ 63
    low n k = omega (arith, (shown-fits st s h).1, h.alike.byte_limit, h.roomy.lawful.byte_limit.1, k)

    held : (o : Option File) → ((f : File) → o ≡ some f → length f.bytes ≤ contents_length s.files)
        → on_some {B = Stat} o (λ f. some (record { kind = aFile; size = length f.bytes; meta = f.meta })) ≡ some x → x.size < 2 ^ 63
    held none k z = clash none x refl z
    held (some f) k z = subst (λ (y : Stat). y.size < 2 ^ 63) (some_inj z) (low (length f.bytes) (k f refl))

    go : (o : Option Node) → on_some o (stat_of (world_of s)) ≡ some x → x.size < 2 ^ 63
    go none z = clash none x refl z
    go (some (dir m)) z = subst (λ (y : Stat). y.size < 2 ^ 63) (some_inj z) (omega arith)
    go (some (file i)) z = held (file_of s.files i) (λ f q. contents-file s.files i f q) z
    go (some (link m t)) z = subst (λ (y : Stat). y.size < 2 ^ 63) (some_inj z) (omega arith)

-- ---- one record

-- the record of the entry at p, behind the links ls
unfoldable pub show_it : (lent : ℕ) → Path → List Path → Prog Reply
show_it lent p ls = asks (stat? p) >>= λ s. fits 1 lent >> ret (stat_reply s (length ls))

pub show-run : (w : World) (lent : ℕ) (p : Path) (ls : List Path) (x : Stat) → answer (stat? p) w ≡ some x
    → run (show_it lent p ls) w ≡ allowed (leb 1 lent) 14 (done (stat_reply (some x) (length ls)) w)
unfolding show_it run ◌>>=◌ fits
show-run w lent p ls x e = need-run (leb 1 lent) 14 (ret (stat_reply (answer (stat? p) w) (length ls))) w ∙ ap (λ (o : Option Stat). allowed (leb 1 lent) 14 (done (stat_reply o (length ls)) w)) e

-- ---- what a program comes to that ends in one record

module _ (p : Prog Reply) (s : State) (st : Store) (h : Shows st s) (path : Path) (ls : List Path) (rows after : List ℤ) (r links : ℕ)
    (e : run p (world_of s) ≡ run (show_it (length rows / 7) path ls) (world_of s)) (x : RowIs s path rows after r) where
  abbrev w : World
  w = world_of s

  -- by whether there is room
  by-room : (b : Bool) (y : Stat) → says (stat? path) s ≡ some y → leb 1 (length rows / 7) ≡ b → run p w ≡ allowed b 14 (done (stat_reply (some y) (length ls)) w)
  by-room b y q f = e ∙ show-run w (length rows / 7) path ls y q ∙ ap (λ (t : Bool). allowed t 14 (done (stat_reply (some y) (length ls)) w)) f

  -- 14
  pub row-refused : (r ≡ 0 → ⊥) → Does p s st (in_rows rows links) (in_rows after links) r
  row-refused z = go x
    where
      go : RowIs s path rows after r → Does p s st (in_rows rows links) (in_rows after links) r
      go (put y q f a n) = absurd (z n)
      go (short y q f a n) =
          subst (λ (l : List ℤ). Does p s st (in_rows rows links) (in_rows l links) r) (sym a)
          (does-refused p s st h (in_rows rows links) r (by-room false y q (row-short (length rows) f) ∙ ap refused (sym n)))

  -- the record is put there, with the count of links
  pub row-shown : r ≡ 0 → (c : ℕ) → length ls ≡ c → Does p s st (in_rows rows links) (in_rows after c) 0
  unfolding row_numbers
  row-shown z c k = go x
    where
      go : RowIs s path rows after r → Does p s st (in_rows rows links) (in_rows after c) 0
      go (put y q f a n) =
          does-told p s st h (stat_reply (some y) c) (by-room true y q (row_fits (length rows) f) ∙ ap (λ (m : ℕ). done (stat_reply (some y) m) w) k)
          (in_rows rows links) (in_rows after c) (ap (λ (l : List ℤ). in_rows l c) a)
      go (short y q f a n) = absurd (omega (arith, z, n))

-- ---- metadata

pub metadata-refused : {st : Store} {s : State} (b : ℕ) {text out : Bytes} {e : Refusal} (lent : ℕ) → Leads (model.leads b) st s (world_of s) text out (Err e)
    → run (metadata_at b lent (names text)) (world_of s) ≡ refused (number_of e)
unfolding metadata_at show_it
metadata-refused b lent l = led-refused l (λ t. show_it lent t.path t.links)

pub metadata_there : {st : Store} {s : State} (b : ℕ) {text out : Bytes} {t : led.There} (lent : ℕ) (l : Leads (model.leads b) st s (world_of s) text out (Ok t))
    → run (metadata_at b lent (names text)) (world_of s) ≡ run (show_it lent (names (take t.len out)) l.links) (world_of s)
unfolding metadata_at show_it
metadata_there b lent l = led_there l (λ t. show_it lent t.path t.links)
