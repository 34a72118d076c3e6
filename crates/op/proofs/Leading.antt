-- What a path leads to, as a step of an operation: its program goes on with the entry that was found, or is refused as the lookup was.
-- Assumes nothing.
use mathlib.Core.Bool.{true, false}
use mathlib.Core.List.{[], ◌∷◌}
use mathlib.Core.Option.{some}
use mathlib.Core.Path.{◌≡◌, ap, ◌∙◌, subst}
use Prim.Native.Nat.{ℕ, ◌/◌, ◌≤◌, ◌<◌}
use native.Mathlib.Omega.{arith}
use lib.Dec.{leb}
use lib.ListN.{length, take}
use borrow.Author.Tests.{le-leb, lt-leb}
use Rattle.text.specs.Utf8.{Bytes}
use Rattle.path.specs.Path.{names}
use Rattle.path.specs.declared.answer.TooLong.{TooLong}
use Rattle.model.specs.Tree.{Path, dir, file, link, Entries, links_in}
use Rattle.model.specs.Prog.{World, kind?, Prog, ◌>>=◌, Out, refused, run}
use Rattle.model.specs.Operations.Steps as model
use Rattle.model.specs.Operations.Steps.{Reply, to_absolute, on_path}
use Rattle.model.specs.Calls.States.{State, world_of}
use Rattle.model.proofs.Running.{then, run_bind}
use Rattle.std.specs.Prelude.{Result, Ok, Err}
use Rattle.refusal.specs.Numbers.{number_of}
use Rattle.refusal.specs.declared.Refusal.{Refusal}
use Rattle.layout.specs.Kinds.{kind_from}
use Rattle.layout.specs.Store.{Store}
use Rattle.layout.specs.Numbers.{most_entries}
use Rattle.store.specs.Shows.{Shows, Stands, Asked, whole, says}
use Rattle.walk.specs.declared.There as led
use Rattle.walk.specs.Lookups.{Looked, Looks}
use Rattle.walk.specs.Meets.{Plain}
use Rattle.walk.specs.Leads.{Leads}
use Rattle.op.specs.Testing.{AbsoluteIs}
use Rattle.op.proofs.Doing.{shown-fits}

-- ---- how many

links-in : (t : Entries) → links_in t ≤ length t
unfolding links_in
links-in [] = omega arith
links-in ((p, dir m) ∷ t) = omega (arith, links-in t)
links-in ((p, file i) ∷ t) = omega (arith, links-in t)
links-in ((p, link m s) ∷ t) = omega (arith, links-in t)

-- as many last links as there are in a tree
pub links-few : (st : Store) (s : State) → Shows st s → links_in s.tree ≤ most_entries
links-few st s h = omega (arith, links-in s.tree, (shown-fits st s h).0, h.alike.entry_limit, h.roomy.lawful.entry_limit.1)

-- a number from the entry limit on hides nothing
pub asked_whole : (st : Store) (s : State) → Shows st s → Asked st s most_entries (world_of s)
asked_whole st s h = whole (omega (arith, h.roomy.lawful.counted, h.roomy.lawful.entry_limit.1))

-- lookups with one bound and another that is the same
pub same_leads : {m n : ℕ} {st : Store} {s : State} {w : World} {text out : Bytes} {r : Result led.There Refusal} → m ≡ n → Leads (model.leads m) st s w text out r → Leads (model.leads n) st s w text out r
same_leads {st = st} {s = s} {w = w} {text = text} {out = out} {r = r} e l = subst (λ (b : ℕ). Leads (model.leads b) st s w text out r) e l

pub same_looks : {h m n : ℕ} {st : Store} {s : State} {w : World} {text out : Bytes} {r : Result Looked Refusal} → m ≡ n → Looks st s w h m text out r → Looks st s w h n text out r
same_looks {h = h} {st = st} {s = s} {w = w} {text = text} {out = out} {r = r} e l = subst (λ (b : ℕ). Looks st s w h b text out r) e l

-- ---- rows

pub row-short : (n : ℕ) → n < 7 → leb 1 (n / 7) ≡ false
row-short n h = lt-leb 1 (n / 7) (omega arith)

pub row_fits : (n : ℕ) → 7 ≤ n → leb 1 (n / 7) ≡ true
row_fits n h = le-leb 1 (n / 7) (omega arith)

-- ---- an entry that is there

module _ {step : Path → Prog model.There} {st : Store} {s : State} {text out : Bytes} {t : led.There} (l : Leads step st s (world_of s) text out (Ok t)) where
  -- what was found
  abbrev pub there : model.There
  there = record { path = names (take t.len out); kind = kind_from t.kind; links = l.links }

  pub led_there : {A : Type 0} (f : model.There → Prog A) → run (step (names text) >>= f) (world_of s) ≡ run (f there) (world_of s)
  led_there f = run_bind (step (names text)) f (world_of s) ∙ ap (λ (o : Out model.There). then o (λ a u. run (f a) u)) l.answer

  -- how many links led there
  pub led-count : length l.links ≡ t.links
  led-count = l.place.0.counted

  -- where it stands, and its kind
  pub led-stands : Stands st t.spot (names (take t.len out))
  led-stands = l.place.1.at

  pub led-kind : says (kind? (names (take t.len out))) s ≡ some (kind_from t.kind)
  led-kind = l.place.2

  -- its path in front of the buffer
  pub led-front : (t.len ≤ 1024) × Plain (take t.len out)
  led-front = (l.place.0.fits, l.place.0.plain)

pub led-refused : {step : Path → Prog model.There} {st : Store} {s : State} {text out : Bytes} {e : Refusal} → Leads step st s (world_of s) text out (Err e)
    → {A : Type 0} (f : model.There → Prog A) → run (step (names text) >>= f) (world_of s) ≡ refused (number_of e)
led-refused {step = step} {s = s} {text = text} l f = run_bind (step (names text)) f (world_of s) ∙ ap (λ (o : Out model.There). then o (λ a u. run (f a) u)) l.answer

-- ---- a given path

module _ {s : State} {path out : Bytes} (f : Path → Prog Reply) where
  pub path-formed : {n : ℕ} → AbsoluteIs s path out (Ok n) → run (on_path path f) (world_of s) ≡ run (f (names (take n out))) (world_of s)
  unfolding on_path
  path-formed a = run_bind (to_absolute path) f (world_of s) ∙ ap (λ (o : Out Path). then o (λ p u. run (f p) u)) a.answer

  pub path-long : {e : TooLong} → AbsoluteIs s path out (Err e) → run (on_path path f) (world_of s) ≡ refused 6
  unfolding on_path
  path-long a = run_bind (to_absolute path) f (world_of s) ∙ ap (λ (o : Out Path). then o (λ p u. run (f p) u)) a.answer
