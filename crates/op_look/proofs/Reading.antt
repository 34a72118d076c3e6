-- Operations that answer bytes: their programs end in a test of the lent buffer. Canonicalize answers the path that was led to, read link
-- the target of a last link, read the bytes of the file that a lookup came to.
-- Assumes nothing.
use mathlib.Core.Bool.{Bool, true, false}
use mathlib.Core.List.{List, [], ◌∷◌}
use mathlib.Core.Option.{Option, none, some}
use mathlib.Core.Path.{◌≡◌, refl, sym, ap, ◌∙◌, subst}
use Prim.Native.Nat.{ℕ, ◌≤◌}
use native.Mathlib.Omega.{arith}
use lib.Dec.{leb}
use lib.ListN.{length, take}
use lib.Seq.{length-take-le}
use borrow.Author.Tests.{le-leb, lt-leb}
use Rattle.text.specs.Utf8.{Bytes}
use Rattle.path.specs.Path.{Name, names, body, render}
use Rattle.model.specs.Tree.{Path}
use Rattle.model.specs.Prog.{World, Kind, bytes?, answer, Prog, ret, asks, ◌>>=◌, ◌>>◌, Out, done, refused, run}
use Rattle.model.specs.Lookup.{text_or, Where, lookup}
use Rattle.model.specs.Operations.Steps as model
use Rattle.model.specs.Operations.Steps.{Reply, bytes_reply, must, only_file, fits, parted}
use Rattle.model.specs.Operations.Contents.{open_walk, Source, source_at, read_at}
use Rattle.model.specs.Operations.Directories.{canonicalize_at}
use Rattle.model.specs.Buffers.{row_numbers, in_front}
use Rattle.model.specs.Calls.States.{State, world_of}
use Rattle.model.proofs.Running.{then, run_bind, allowed, need-run}
use Rattle.std.specs.Prelude.{Result, Ok, Err}
use Rattle.refusal.specs.Numbers.{number_of}
use Rattle.refusal.specs.declared.Refusal.{Refusal}
use Rattle.layout.specs.Kinds.{kind_from}
use Rattle.layout.specs.declared.kind.Kind as kind
use Rattle.layout.specs.declared.kind.Kind.TheVariants.{Directory, File, Link}
use Rattle.layout.specs.Store.{Store}
use Rattle.ask_entry.specs.Reads.{Contents}
use Rattle.store.specs.Shows.{Shows}
use Rattle.walk.specs.declared.There as led
use Rattle.walk.specs.declared.lookup.Absent.{Absent}
use Rattle.walk.specs.Meets.{Plain}
use Rattle.walk.specs.Lookups.{reaches, Looked, Looks}
use Rattle.walk.specs.Leads.{Leads}
use Rattle.op.specs.Lending.{in_bytes, PutIs, put, short}
use Rattle.op.specs.Doing.{Does}
use Rattle.op.proofs.Doing.{does-refused, does-told}
use Rattle.op.proofs.Leading.{led_there, led-refused}

-- ---- bytes as an answer

-- the bytes t, behind the links ls
unfoldable pub tell_it : (lent : ℕ) → Bytes → List Path → Prog Reply
tell_it lent t ls = fits (length t) lent >> ret (bytes_reply t (length ls))

tell-run : (w : World) (lent : ℕ) (t : Bytes) (ls : List Path) → run (tell_it lent t ls) w ≡ allowed (leb (length t) lent) 14 (done (bytes_reply t (length ls)) w)
unfolding tell_it fits run
tell-run w lent t ls = need-run (leb (length t) lent) 14 (ret (bytes_reply t (length ls))) w

-- what a program comes to that ends so
module _ (p : Prog Reply) (s : State) (st : Store) (h : Shows st s) (t : Bytes) (ls : List Path) (out after : Bytes) (number numberAfter r links : ℕ)
    (e : run p (world_of s) ≡ run (tell_it (length out) t ls) (world_of s)) (x : PutIs t out number after numberAfter r) where
  -- by whether there is room
  by-room : (b : Bool) → leb (length t) (length out) ≡ b → run p (world_of s) ≡ allowed b 14 (done (bytes_reply t (length ls)) (world_of s))
  by-room b f = e ∙ tell-run (world_of s) (length out) t ls ∙ ap (λ (b : Bool). allowed b 14 (done (bytes_reply t (length ls)) (world_of s))) f

  -- 14
  pub bytes-refused : (r ≡ 0 → ⊥) → Does p s st (in_bytes out number links) (in_bytes after numberAfter links) r
  bytes-refused z = go x
    where
      go : PutIs t out number after numberAfter r → Does p s st (in_bytes out number links) (in_bytes after numberAfter links) r
      go (put f a m n) = absurd (z n)
      go (short f a m n) =
          subst (λ (l : Bytes). Does p s st (in_bytes out number links) (in_bytes l numberAfter links) r) (sym a)
          (subst (λ (k : ℕ). Does p s st (in_bytes out number links) (in_bytes out k links) r) (sym m)
          (does-refused p s st h (in_bytes out number links) r (by-room false (lt-leb (length t) (length out) f) ∙ ap refused (sym n))))

  -- the bytes are put there, with the count of links
  pub bytes-told : r ≡ 0 → (c : ℕ) → length ls ≡ c → Does p s st (in_bytes out number links) (in_bytes after numberAfter c) 0
  unfolding row_numbers
  bytes-told z c k = go x
    where
      go : PutIs t out number after numberAfter r → Does p s st (in_bytes out number links) (in_bytes after numberAfter c) 0
      go (put f a m n) =
          does-told p s st h (bytes_reply t c) (by-room true (le-leb (length t) (length out) f) ∙ ap (λ (i : ℕ). done (bytes_reply t i) (world_of s)) k)
          (in_bytes out number links) (in_bytes after numberAfter c) (ap (λ (l : Bytes). in_bytes l numberAfter c) a ∙ ap (λ (i : ℕ). in_bytes (in_front t out) i c) m)
      go (short f a m n) = absurd (omega (arith, z, n))

-- ---- paths in a working buffer

-- an empty one is the root
plain-root : (t : Bytes) → Plain t → length t ≡ 0 → names t ≡ []
unfolding body
plain-root t h z = go (names t) refl
  where
    go : (p : Path) → names t ≡ p → names t ≡ []
    go [] e = e
    go (x ∷ p) e = absurd (let k : length (body (x ∷ p)) ≡ 0 = ap (λ (q : Path). length (body q)) (sym e) ∙ ap (λ (l : Bytes). length l) h ∙ z in omega (arith, k))

-- any other has a last name
plain-named : (t : Bytes) → Plain t → (length t ≡ 0 → ⊥) → (x : Name) × (p : Path) × (names t ≡ x ∷ p)
unfolding body
plain-named t h z = go (names t) refl
  where
    go : (p : Path) → names t ≡ p → (x : Name) × (p : Path) × (names t ≡ x ∷ p)
    go [] e = absurd (z (sym (ap (λ (q : Path). length (body q)) (sym e) ∙ ap (λ (l : Bytes). length l) h)))
    go (x ∷ p) e = (x, p, e)

-- in front of the buffer
front-root : (out : Bytes) (n : ℕ) → Plain (take n out) → n ≡ 0 → names (take n out) ≡ []
front-root out n h z = plain-root (take n out) h (length-take-le n out (omega (arith, z)) ∙ z)

front-named : (out : Bytes) (n : ℕ) → Plain (take n out) → (n ≡ 0 → ⊥) → n ≤ length out → (x : Name) × (p : Path) × (names (take n out) ≡ x ∷ p)
front-named out n h z k = plain-named (take n out) h (λ e. z (sym (length-take-le n out k) ∙ e))

-- as it is shown
pub root-shown : (t : Bytes) → Plain t → length t ≡ 0 → 47 ∷ [] ≡ render (names t)
unfolding render
root-shown t h z = sym (ap render (plain-root t h z))

pub named-shown : (t : Bytes) → Plain t → (length t ≡ 0 → ⊥) → t ≡ render (names t)
unfolding render
named-shown t h z =
    let y = plain-named t h z in
    sym h ∙ ap body y.2 ∙ sym (ap render y.2)

-- bytes that are the same are put alike
pub put_same : {a b out after : Bytes} {number numberAfter r : ℕ} → a ≡ b → PutIs a out number after numberAfter r → PutIs b out number after numberAfter r
put_same {out = out} {after = after} {number = number} {numberAfter = numberAfter} {r = r} e x = subst (λ (t : Bytes). PutIs t out number after numberAfter r) e x

-- ---- canonicalize

pub canonical-refused : {st : Store} {s : State} (b : ℕ) {text out : Bytes} {e : Refusal} (lent : ℕ) → Leads (model.leads b) st s (world_of s) text out (Err e)
    → run (canonicalize_at b lent (names text)) (world_of s) ≡ refused (number_of e)
unfolding canonicalize_at tell_it
canonical-refused b lent l = led-refused l (λ t. tell_it lent (render t.path) t.links)

pub canonical_there : {st : Store} {s : State} (b : ℕ) {text out : Bytes} {t : led.There} (lent : ℕ) (l : Leads (model.leads b) st s (world_of s) text out (Ok t))
    → run (canonicalize_at b lent (names text)) (world_of s) ≡ run (tell_it lent (render (names (take t.len out))) l.links) (world_of s)
unfolding canonicalize_at tell_it
canonical_there b lent l = led_there l (λ t. tell_it lent (render t.path) t.links)

-- ---- read

-- by what it was found to be
pub as_looked : {st : Store} {s : State} {hide b : ℕ} {text out : Bytes} {q p : Looked} → q ≡ p → Looks st s (world_of s) hide b text out (Ok q) → Looks st s (world_of s) hide b text out (Ok p)
as_looked {st = st} {s = s} {hide = hide} {b = b} {text = text} {out = out} e l = subst (λ (k : Looked). Looks st s (world_of s) hide b text out (Ok k)) e l

module _ (lent : ℕ) where
  -- the steps behind the lookup: the last name, the file, its bytes
  abbrev apart : Where → Prog Where
  apart a = parted a.path >>= λ _. ret a

  abbrev source : Where → Prog Source
  source a = must a.kind >>= λ k. only_file k >> (asks (bytes? a.path) >>= λ t. ret (record { bytes = text_or t; link_count = length a.links }))

  abbrev tells : Source → Prog Reply
  tells f = fits (length f.bytes) lent >> ret (bytes_reply f.bytes f.link_count)

  abbrev finish : Out Where → Out Reply
  finish o = then (then (then o (λ a u. run (apart a) u)) (λ a u. run (source a) u)) (λ f u. run (tells f) u)

  by_end : {st : Store} {s : State} {hide b : ℕ} {text out : Bytes} {r : Result Looked Refusal} (l : Looks st s (world_of s) hide b text out r)
      → run (read_at b lent (names text)) (world_of s) ≡ finish (reaches (world_of s) l.links out r)
  unfolding read_at source_at open_walk
  by_end {s = s} {b = b} {text = text} l =
      run_bind (source_at b (names text)) tells (world_of s)
      ∙ ap (λ (o : Out Source). then o (λ f u. run (tells f) u)) (run_bind (open_walk b (names text)) source (world_of s) ∙ ap (λ (o : Out Where). then o (λ a u. run (source a) u)) (run_bind (lookup b (names text)) apart (world_of s)))
      ∙ ap finish (l.answer [])

  -- what was looked up, at the path p
  module _ (w : World) (ls : List Path) where
    abbrev at : Option Kind → Path → Out Where
    at k p = done (record { path = p; kind = k; links = ls }) w

    -- 5: it is the root's
    at-root : (k : Option Kind) (p : Path) → p ≡ [] → finish (at k p) ≡ refused 5
    unfolding parted run ◌>>=◌
    at-root k p e = ap (λ (q : Path). finish (at k q)) e

    -- what follows where it has a last name
    abbrev onward : (k : Option Kind) → Path → Out Reply
    onward k p = then (run (source (record { path = p; kind = k; links = ls })) w) (λ f u. run (tells f) u)

    at_name : (k : Option Kind) (p : Path) → (x : Name) × (q : Path) × (p ≡ x ∷ q) → finish (at k p) ≡ onward k p
    unfolding parted run ◌>>=◌
    at_name k p y =
        ap (λ (q : Path). finish (at k q)) y.2 ∙ ap (λ (q : Path). onward k q) (sym y.2)

    -- 10: not a file
    source-wrong : (k : kind.Kind) (p : Path) → (k ≡ File → ⊥) → onward (some (kind_from k)) p ≡ refused 10
    unfolding must only_file run ◌>>=◌ ◌>>◌
    source-wrong Directory p f = refl
    source-wrong File p f = absurd (f refl)
    source-wrong Link p f = refl

    source-file : (k : kind.Kind) (p : Path) (t : Bytes) → k ≡ File → answer (bytes? p) w ≡ some t → onward (some (kind_from k)) p ≡ run (tell_it lent t ls) w
    unfolding must only_file run ◌>>=◌ ◌>>◌ tell_it
    source-file k p t f y = ap (λ (j : kind.Kind). onward (some (kind_from j)) p) f ∙ ap (λ (o : Option Bytes). run (tell_it lent (text_or o) ls) w) y

  pub read-refused : {st : Store} {s : State} {hide b : ℕ} {text out : Bytes} {e : Refusal} → Looks st s (world_of s) hide b text out (Err e)
      → run (read_at b lent (names text)) (world_of s) ≡ refused (number_of e)
  read-refused l = by_end l

  -- what is not there
  module _ {st : Store} {s : State} {hide b : ℕ} {text out : Bytes} {a : Absent} (l : Looks st s (world_of s) hide b text out (Ok (Err a))) where
    pub read-no-name : a.len ≡ 0 → run (read_at b lent (names text)) (world_of s) ≡ refused 5
    read-no-name z = by_end l ∙ at-root (world_of s) l.links none _ (front-root out a.len l.place.0.plain z)

    pub read-missing : (a.len ≡ 0 → ⊥) → 1024 ≤ length out → run (read_at b lent (names text)) (world_of s) ≡ refused 8
    unfolding must run ◌>>=◌
    read-missing z m = by_end l ∙ at_name (world_of s) l.links none _ (front-named out a.len l.place.0.plain z (omega (arith, l.place.0.fits, m)))

  -- what is
  module _ {st : Store} {s : State} {hide b : ℕ} {text out : Bytes} {t : led.There} (l : Looks st s (world_of s) hide b text out (Ok (Ok t))) where
    pub read-root : t.len ≡ 0 → run (read_at b lent (names text)) (world_of s) ≡ refused 5
    read-root z = by_end l ∙ at-root (world_of s) l.links _ _ (front-root out t.len l.place.0.plain z)

    named : (t.len ≡ 0 → ⊥) → 1024 ≤ length out → run (read_at b lent (names text)) (world_of s) ≡ onward (world_of s) l.links (some (kind_from t.kind)) (names (take t.len out))
    named z m = by_end l ∙ at_name (world_of s) l.links _ _ (front-named out t.len l.place.0.plain z (omega (arith, l.place.0.fits, m)))

    pub read-wrong : (t.len ≡ 0 → ⊥) → 1024 ≤ length out → (t.kind ≡ File → ⊥) → run (read_at b lent (names text)) (world_of s) ≡ refused 10
    read-wrong z m f = named z m ∙ source-wrong (world_of s) l.links t.kind (names (take t.len out)) f

    pub read-file : (t.len ≡ 0 → ⊥) → 1024 ≤ length out → t.kind ≡ File → (bs : Bytes) → Contents (world_of s) (names (take t.len out)) bs
        → run (read_at b lent (names text)) (world_of s) ≡ run (tell_it lent bs l.links) (world_of s)
    read-file z m f bs x =
        named z m ∙ source-file (world_of s) l.links t.kind (names (take t.len out)) bs f (x.file (l.place.2 ∙ ap (λ (j : kind.Kind). some (kind_from j)) f))
