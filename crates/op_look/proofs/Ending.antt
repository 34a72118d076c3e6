-- Operations on the end of a path, where a last link is not followed: their programs go on by what the walk ended in. Symlink metadata
-- shows the entry or the link itself; read link goes on with a link alone.
-- Assumes nothing.
use mathlib.Core.List.{[]}
use mathlib.Core.Option.{Option, some}
use mathlib.Core.Path.{◌≡◌, ap, ◌∙◌, subst}
use Prim.Native.Nat.{ℕ}
use lib.ListN.{take}
use lib.Seq.{take-length}
use Rattle.text.specs.Utf8.{Bytes}
use Rattle.path.specs.Path.{names}
use Rattle.model.specs.Tree.{Path}
use Rattle.model.specs.Prog.{World, a_link, kind?, target?, answer, Prog, asks, ◌>>=◌, Out, refused, run}
use Rattle.model.specs.Lookup.{text_or, no_follow, most_links}
use Rattle.model.specs.Lookup as model
use Rattle.model.specs.Operations.Steps.{Reply}
use Rattle.model.specs.Operations.Shows.{end_there, symlink_metadata_at, only_link, read_link_at}
use Rattle.model.specs.Calls.States.{State, world_of}
use Rattle.model.proofs.Running.{then, run_bind}
use Rattle.std.specs.Prelude.{Ok, Err}
use Rattle.refusal.specs.Numbers.{number_of}
use Rattle.refusal.specs.declared.Refusal.{Refusal}
use Rattle.layout.specs.declared.kind.Kind.{Kind}
use Rattle.layout.specs.Store.{Store}
use Rattle.ask_find.specs.declared.Gap.{Gap}
use Rattle.ask_find.specs.declared.Spot.{Spot}
use Rattle.ask_entry.specs.Reads.{Contents}
use Rattle.store.specs.Shows.{Stands}
use Rattle.walk.specs.declared.End.{End}
use Rattle.walk.specs.declared.End.TheVariants as end
use Rattle.walk.specs.declared.lookup.Walked.{Walked}
use Rattle.walk.specs.Meets.{end_of, EndPlaced}
use Rattle.walk.specs.Lookups.{Walks}
use Rattle.op_look.proofs.Showing.{show_it}
use Rattle.op_look.proofs.Reading.{tell_it}

-- the step of symlink metadata behind the walk
abbrev shows : (lent : ℕ) → model.Walked → Prog Reply
shows lent v = end_there v.end >>= λ d. show_it lent d v.links

-- that of read link
abbrev reads : (lent : ℕ) → model.Walked → Prog Reply
reads lent v = only_link v.end >>= λ d. asks (target? d) >>= λ t. tell_it lent (text_or t) v.links

-- the entry or the link at which a walk ended
pub data AtEnd (e : End) (spot : Spot) : Type 0 where
  an_entry : (k : Kind) → e ≡ end.Found spot k → AtEnd e spot
  a_last_link : (d : ℕ) → e ≡ end.LastLink spot d → AtEnd e spot

-- a walk that is refused
module _ {st : Store} {s : State} {hide : ℕ} {text out : Bytes} {e : Refusal} (l : Walks st s (world_of s) hide text out (Err e)) where
  pub symlink-refused : (lent : ℕ) → run (symlink_metadata_at lent (names text)) (world_of s) ≡ refused (number_of e)
  unfolding symlink_metadata_at show_it
  symlink-refused lent = run_bind (no_follow most_links (names text) []) (shows lent) (world_of s) ∙ ap (λ (o : Out model.Walked). then o (λ a u. run (shows lent a) u)) (l.answer [])

  pub target-refused : (lent : ℕ) → run (read_link_at lent (names text)) (world_of s) ≡ refused (number_of e)
  unfolding read_link_at tell_it
  target-refused lent = run_bind (no_follow most_links (names text) []) (reads lent) (world_of s) ∙ ap (λ (o : Out model.Walked). then o (λ a u. run (reads lent a) u)) (l.answer [])

module _ {st : Store} {s : State} {hide : ℕ} {text out : Bytes} {r : Walked} (l : Walks st s (world_of s) hide text out (Ok r)) where
  abbrev w : World
  w = world_of s

  -- the path that the walk came to
  abbrev pub end_path : Path
  end_path = names (take r.len out)

  -- what follows the walk
  ended : {A : Type 0} (f : model.Walked → Prog A) (e : End) → r.end ≡ e
      → run (no_follow most_links (names text) [] >>= f) w ≡ run (f (record { end = end_of (take r.len out) e; links = l.links })) w
  ended f e x =
      run_bind (no_follow most_links (names text) []) f w ∙ ap (λ (o : Out model.Walked). then o (λ a u. run (f a) u)) (l.answer [])
      ∙ ap (λ (k : End). run (f (record { end = end_of (take r.len out) k; links = l.links })) w) x

  placed : (e : End) → r.end ≡ e → EndPlaced st s w hide (take r.len out) e
  placed e x = subst (EndPlaced st s w hide (take r.len out)) x l.place.2

  -- ---- where the entry stands

  pub link-stands : {spot : Spot} {d : ℕ} → r.end ≡ end.LastLink spot d → Stands st spot end_path
  link-stands {spot = spot} {d = d} e =
      subst (λ (t : Bytes). Stands st spot (names t)) (take-length (take r.len out)) (placed (end.LastLink spot d) e).there.at

  link-kind : {spot : Spot} {d : ℕ} → r.end ≡ end.LastLink spot d → answer (kind? end_path) w ≡ some a_link
  link-kind {spot = spot} {d = d} e =
      subst (λ (t : Bytes). answer (kind? (names t)) w ≡ some a_link) (take-length (take r.len out)) (placed (end.LastLink spot d) e).link

  pub end_stands : {spot : Spot} → AtEnd r.end spot → Stands st spot end_path
  end_stands {spot = spot} (an_entry k e) = (placed (end.Found spot k) e).0.at
  end_stands (a_last_link d e) = link-stands e

  module _ (lent : ℕ) where
    -- ---- symlink metadata

    pub symlink-missing : {gap : Gap} {a : ℕ} → r.end ≡ end.Missing gap a → run (symlink_metadata_at lent (names text)) w ≡ refused 8
    unfolding symlink_metadata_at show_it end_there run ◌>>=◌
    symlink-missing {gap = gap} {a = a} e = ended (shows lent) (end.Missing gap a) e

    pub symlink-there : {spot : Spot} → AtEnd r.end spot → run (symlink_metadata_at lent (names text)) w ≡ run (show_it lent end_path l.links) w
    unfolding symlink_metadata_at show_it end_there ◌>>=◌
    symlink-there {spot = spot} (an_entry k e) = ended (shows lent) (end.Found spot k) e
    symlink-there {spot = spot} (a_last_link d e) = ended (shows lent) (end.LastLink spot d) e

    -- ---- read link

    pub target-missing : {gap : Gap} {a : ℕ} → r.end ≡ end.Missing gap a → run (read_link_at lent (names text)) w ≡ refused 8
    unfolding read_link_at tell_it only_link run ◌>>=◌
    target-missing {gap = gap} {a = a} e = ended (reads lent) (end.Missing gap a) e

    pub target_found : {spot : Spot} {k : Kind} → r.end ≡ end.Found spot k → run (read_link_at lent (names text)) w ≡ refused 10
    unfolding read_link_at tell_it only_link run ◌>>=◌
    target_found {spot = spot} {k = k} e = ended (reads lent) (end.Found spot k) e

    pub target-link : {spot : Spot} {d : ℕ} → r.end ≡ end.LastLink spot d → (t : Bytes) → Contents w end_path t → run (read_link_at lent (names text)) w ≡ run (tell_it lent t l.links) w
    unfolding read_link_at tell_it only_link run ◌>>=◌
    target-link {spot = spot} {d = d} e t x = ended (reads lent) (end.LastLink spot d) e ∙ ap (λ (o : Option Bytes). run (tell_it lent (text_or o) l.links) w) (x.link (link-kind e))
