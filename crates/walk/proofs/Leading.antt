-- What a lookup says of the entry that a path leads to, and that of the directory: a test of what it ended in. The entry of a last name is
-- then one question more.
-- Assumes nothing.
use mathlib.Core.List.{[], ◌∷◌, ◌++◌, drop_last}
use mathlib.Core.Option.{Option, some}
use mathlib.Core.Path.{◌≡◌, refl, sym, ap, ◌∙◌}
use Prim.Native.Nat.{ℕ}
use lib.ListN.{take}
use Rattle.std.specs.Prelude.{Ok, Err}
use Rattle.std.specs.Result.{result_or}
use Rattle.text.specs.Utf8.{Bytes}
use Rattle.path.specs.Path.{Name, names, last_name}
use Rattle.path.proofs.Reading.{drop_last-snoc}
use Rattle.model.specs.Tree.{Path}
use Rattle.model.specs.Prog.{World, Kind, a_dir, aFile, a_link, kind?, answer, Prog, ret, ◌>>=◌, ◌>>◌, Out, done, refused, run}
use Rattle.model.specs.Lookup.{find, Where, lookup}
use Rattle.model.specs.Operations.Steps as model
use Rattle.model.specs.Operations.Steps.{must, is_directory, leads, directory, Parted, parted, last_entry}
use Rattle.model.specs.Calls.States.{State}
use Rattle.model.proofs.Running.{then, run_bind}
use Rattle.model.proofs.Lookups.Pure.{no_answer, same_answer}
use Rattle.layout.specs.Store.{Store}
use Rattle.ask_find.specs.declared.Gap.{Gap}
use Rattle.ask_find.specs.declared.Spot.{Spot}
use Rattle.layout.specs.declared.kind.Kind as own
use Rattle.layout.specs.declared.kind.Kind.TheVariants as is
use Rattle.layout.specs.Kinds.{kind_from}
use Rattle.refusal.specs.declared.Refusal.{Refusal}
use Rattle.refusal.specs.declared.Refusal.TheVariants.{NotFound, NotDirectory}
use Rattle.store.specs.Shows.{says, Stands, There, LookIs}
use Rattle.walk.specs.declared.There as led
use Rattle.walk.specs.Lookups.{Looked, Looks}
use Rattle.walk.specs.Leads.{Leads, DirInFront, LastIs}

-- ---- an entry that is there

-- the step behind the lookup
there : Where → Prog model.There
there w = must w.kind >>= λ k. ret (record { path = w.path; kind = k; links = w.links })

leads-run : (w : World) (b : ℕ) (p : Path) (o : Out Where) → run (lookup b p) w ≡ o → run (leads b p) w ≡ then o (λ a u. run (there a) u)
unfolding leads there
leads-run w b p o e = run_bind (lookup b p) there w ∙ ap (λ (x : Out Where). then x (λ a u. run (there a) u)) e

module _ {st : Store} {s : State} {w : World} {h b : ℕ} {text out : Bytes} where
  pub leads-looked : (r : Looked) → Looks st s w h b text out (Ok r) → Leads (leads b) st s w text out (result_or r (Err NotFound))
  unfolding there must run ◌>>=◌
  leads-looked (Ok t) y = record { links = y.links; answer = leads-run w b (names text) _ (y.answer []); place = y.place }
  leads-looked (Err a) y = record { links = []; answer = leads-run w b (names text) _ (y.answer []); place = tt }

  pub leads-refused : (r : Refusal) → Looks st s w h b text out (Err r) → Leads (leads b) st s w text out (Err r)
  unfolding there must run ◌>>=◌
  leads-refused r y = record { links = []; answer = leads-run w b (names text) _ (y.answer []); place = tt }

-- ---- a directory

directory-run : (w : World) (b : ℕ) (p : Path) (o : Out model.There) → run (leads b p) w ≡ o → run (directory b p) w ≡ then o (λ e u. run (is_directory e.kind >> ret e) u)
unfolding directory
directory-run w b p o e =
    run_bind (leads b p) (λ (t : model.There). is_directory t.kind >> ret t) w ∙ ap (λ (x : Out model.There). then x (λ a u. run (is_directory a.kind >> ret a) u)) e

module _ {st : Store} {s : State} {w : World} (b : ℕ) {text out : Bytes} where
  pub directory_there : (t : led.There) → t.kind ≡ is.Directory → Leads (leads b) st s w text out (Ok t) → Leads (directory b) st s w text out (Ok t)
  unfolding is_directory run ◌>>◌ ◌>>=◌
  directory_there t e y = record {
    links = y.links;
    answer = directory-run w b (names text) _ y.answer ∙ ap (λ (k : own.Kind). run {A = model.There} (is_directory (kind_from k) >> ret (record { path = names (take t.len out); kind = kind_from t.kind; links = y.links })) w) e;
    place = y.place;
  }

  pub directory-file : (t : led.There) → (t.kind ≡ is.Directory → ⊥) → Leads (leads b) st s w text out (Ok t) → Leads (directory b) st s w text out (Err NotDirectory)
  unfolding is_directory run ◌>>◌ ◌>>=◌
  directory-file t n y = record { links = []; answer = directory-run w b (names text) _ y.answer ∙ other t.kind n; place = tt }
    where
      other : (k : own.Kind) → (k ≡ is.Directory → ⊥) → run {A = model.There} (is_directory (kind_from k) >> ret (record { path = names (take t.len out); kind = kind_from t.kind; links = y.links })) w ≡ refused 9
      other is.Directory f = absurd (f refl)
      other is.File f = refl
      other is.Link f = refl

  pub directory-refused : (r : Refusal) → Leads (leads b) st s w text out (Err r) → Leads (directory b) st s w text out (Err r)
  directory-refused r y = record { links = []; answer = directory-run w b (names text) _ y.answer; place = tt }

-- ---- the entry of a last name

last_of : (d : Path) (x : Name) → last_name (d ++ (x ∷ [])) ≡ x
unfolding last_name
last_of [] x = refl
last_of (y ∷ []) x = refl
last_of (y ∷ z ∷ d) x = last_of (z ∷ d) x

parted_of : (d : Path) (x : Name) → parted (d ++ (x ∷ [])) ≡ ret (record { before = d; name = x })
unfolding parted
parted_of [] x = ap (λ (n : Name). ret (record { before = []; name = n })) (last_of [] x)
parted_of (y ∷ d) x =
    ap (λ (n : Name). ret (record { before = drop_last (y ∷ (d ++ (x ∷ []))); name = n })) (last_of (y ∷ d) x) ∙ ap (λ (p : Path). ret (record { before = p; name = x })) (drop_last-snoc (y ∷ d) x)

-- the step behind the directory
named : Name → model.There → Prog Where
named x d = find d.path x >>= λ k. ret (record { path = d.path ++ (x ∷ []); kind = k; links = d.links })

last_run : (w : World) (b : ℕ) (d : Path) (x : Name) (o : Out model.There) → run (directory b d) w ≡ o → run (last_entry b (d ++ (x ∷ []))) w ≡ then o (λ t u. run (named x t) u)
unfolding last_entry named
last_run w b d x o e =
    ap (λ (q : Prog Parted). run (q >>= λ l. directory b l.before >>= named l.name) w) (parted_of d x)
    ∙ unfold ◌>>=◌ in run_bind (directory b d) (named x) w ∙ ap (λ (y : Out model.There). then y (λ t u. run (named x t) u)) e

named-run : (w : World) (x : Name) (t : model.There) → run (named x t) w ≡ done (record { path = t.path ++ (x ∷ []); kind = answer (kind? (t.path ++ (x ∷ []))) w; links = t.links }) w
unfolding named run ◌>>=◌
named-run w x t = refl

-- find_directory_mut's answer is a directory
directory-kind : (w v : World) (b : ℕ) (p : Path) (t : model.There) → run (directory b p) w ≡ done t v → t.kind ≡ a_dir
unfolding is_directory run ◌>>◌ ◌>>=◌
directory-kind w v b p t e = go (run (leads b p) w) (sym (directory-run w b p _ refl) ∙ e)
  where
    tested : (k : Kind) (a : model.There) (u : World) → a.kind ≡ k → run (is_directory k >> ret a) u ≡ done t v → t.kind ≡ a_dir
    tested a_dir a u z g = ap (λ (r : model.There). r.kind) (sym (same_answer g)) ∙ z
    tested aFile a u z g = no_answer g
    tested a_link a u z g = no_answer g

    go : (o : Out model.There) → then o (λ a u. run (is_directory a.kind >> ret a) u) ≡ done t v → t.kind ≡ a_dir
    go (done a u) g = tested a.kind a u refl g
    go (refused n) g = no_answer g

-- the path leads to the directory d, and the entry x is looked for in it
module _ {st : Store} {s : State} {w : World} (h b : ℕ) {text : Bytes} (x : Name) {out : Bytes} (d : led.There) (y : Leads (directory b) st s w text out (Ok d)) where
  abbrev dir-path : Path
  dir-path = names (take d.len out)

  pub dir-stands : Stands st d.spot dir-path
  dir-stands = y.place.1.at

  pub dir-kind : answer (kind? dir-path) w ≡ some a_dir
  dir-kind = y.place.2 ∙ ap some (directory-kind w w b (names text) _ y.answer)

  last_answer : (o : Option Kind) → answer (kind? (dir-path ++ (x ∷ []))) w ≡ o
      → run (last_entry b (names text ++ (x ∷ []))) w ≡ done (record { path = dir-path ++ (x ∷ []); kind = o; links = y.links }) w
  last_answer o z =
      last_run w b (names text) x _ y.answer ∙ named-run w x _ ∙ ap (λ (a : Option Kind). done (record { path = dir-path ++ (x ∷ []); kind = a; links = y.links }) w) z

  in-front : DirInFront w y.links out d.len d.links
  in-front = record { front = y.place.0; dir = dir-kind }

  pub last_found : (at : Spot) (k : own.Kind) → LookIs st s w h dir-path x (Ok at) → (There st s w (dir-path ++ (x ∷ [])) at → says (kind? (dir-path ++ (x ∷ []))) s ≡ some (kind_from k))
      → LastIs st s w h b text x out (Ok (Ok (record { spot = at; kind = k; len = d.len; links = d.links })))
  last_found at k t z = let m = t.kind ∙ z t in record { links = y.links; answer = last_answer _ m; place = (in-front, t, m) }

  pub last_missing : (gap : Gap) → LookIs st s w h dir-path x (Err gap) → LastIs st s w h b text x out (Ok (Err (record { gap = gap; len = d.len; links = d.links })))
  last_missing gap t = record { links = y.links; answer = last_answer _ t.0; place = (in-front, t.0, t.1) }

pub last_refused : {st : Store} {s : State} {w : World} {h : ℕ} (b : ℕ) {text : Bytes} (x : Name) {out : Bytes} (r : Refusal)
    → Leads (directory b) st s w text out (Err r) → LastIs st s w h b text x out (Err r)
last_refused b {text = text} x r y = record { links = []; answer = last_run _ b (names text) x _ y.answer; place = tt }
