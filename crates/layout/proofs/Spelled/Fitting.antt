-- What stands in each slot fits its fields: kinds are below 256, lengths below the byte limit, metadata and bytes as the rules say.
-- Assumes nothing.
use mathlib.Core.List.{[]}
use mathlib.Core.Option.{some}
use mathlib.Core.Path.{◌≡◌, sym, ap, ◌∙◌, subst}
use Prim.Native.Nat.{ℕ, ◌<◌, ◌≤◌}
use native.Mathlib.Omega.{arith}
use lib.Dec.{T, leb, leb→le}
use lib.ListN.{length}
use Rattle.text.specs.Utf8.{Bytes}
use Rattle.path.specs.Path.{all_short, lengths_ok, pieces}
use Rattle.path.proofs.Laws.{and_left}
use Rattle.model.specs.Tree.{File, Node, dir, link, file_of}
use Rattle.model.specs.Calls.States.{State}
use Rattle.model.specs.Rules.{time_ok, meta_ok, bytes_ok, target_ok, NodeOk, Obeys}
use Rattle.model.proofs.Sound.Settled.{contents-file}
use Rattle.model.proofs.Sound.Paths.{target-text, target-lengths}
use Rattle.layout.proofs.Spelled.Byted.{text-bytes}
use Rattle.layout.proofs.Spelled.Items.{Item, no_meta, file_item, node_in, path_in, look_in, item}
use Rattle.layout.proofs.Spelled.Housing.{Is, free, a_dir, a_link, named, loose, is}

pub record Fits (i : Item) : Type 0 where
  pub kind : i.kind < 256
  pub length : length i.bytes < 16777216
  pub meta : T (meta_ok i.meta)
  pub bytes : T (bytes_ok i.bytes)

-- a target has at most 1,024 bytes
target-short : (t : Bytes) → T (target_ok t) → length t ≤ 1024
unfolding lengths_ok
target-short t h = leb→le (length t) 1024 (and_left (leb (length t) 1024) (all_short (pieces t)) (target-lengths t h))

no-meta : T (meta_ok no_meta)
unfolding meta_ok time_ok
no-meta = tt

pub no_bytes_lem : T (bytes_ok [])
unfolding bytes_ok
no_bytes_lem = tt

module _ (s : State) (o : Obeys s) where
  -- the rules of an entry by its place
  pub node_ok : (k : ℕ) (n : Node) → k < length s.tree → node_in s.tree k ≡ n → NodeOk s.files n
  node_ok k n h e = o.nodes (path_in s.tree k) n (look_in s.tree o.paths k h ∙ ap some e)

  file-fits : (j : ℕ) (f : File) → file_of s.files j ≡ some f → Fits (file_item j f)
  file-fits j f e =
      let h = o.each_file j f e in
      record {
        kind = omega arith;
        length = omega (arith, contents-file s.files j f e, o.bytes_fit, o.byte_limit.1);
        meta = h.0;
        bytes = h.1;
      }

  is_fits : (k : ℕ) → Is s o k → Fits (item s k)
  is_fits k (free e h) = subst Fits (sym e) (record { kind = omega arith; length = omega arith; meta = no-meta; bytes = no_bytes_lem })
  is_fits k (a_dir m n e h) =
      subst Fits (sym e) (record { kind = omega arith; length = omega arith; meta = node_ok k (dir m) h n; bytes = no_bytes_lem })
  is_fits k (a_link m t n e h) =
      let w = node_ok k (link m t) h n in
      subst Fits (sym e) (record { kind = omega arith; length = omega (arith, target-short t w.1); meta = w.0; bytes = text-bytes t (target-text t w.1) })
  is_fits k (named j f x n e y h) = subst Fits (sym e) (file-fits j f x)
  is_fits k (loose j f x e y u h) = subst Fits (sym e) (file-fits j f x)

  pub fits : (k : ℕ) → Fits (item s k)
  fits k = is_fits k (is s o k)
