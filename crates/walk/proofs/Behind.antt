-- The path behind a link, formed in the buffer, is the one that the model forms: the buffer's front is the link's directory and the names
-- behind the link, and the target in the world that is asked is the one that the state has.
-- Assumes nothing.
use mathlib.Core.Bool.{Bool}
use mathlib.Core.List.{List, ◌++◌, drop_last}
use mathlib.Core.Option.{Option, some}
use mathlib.Core.Path.{◌≡◌, sym, ap, ◌∙◌, subst}
use Prim.Native.Nat.{ℕ, ◌≤◌}
use native.Mathlib.Omega.{arith}
use lib.ListN.{length, take, drop}
use lib.Seq.{take-take, length-take-le}
use Rattle.std.specs.Prelude.{Ok, Err}
use Rattle.text.specs.Utf8.{Bytes}
use Rattle.path.specs.Path.{Name, names, absolute, followed, body, path_fits}
use Rattle.path.specs.Backward.{part}
use Rattle.path.specs.Answer.{Formed, Forms}
use Rattle.path.proofs.Allowed.{FormedIs, formed_is, absolute-shown}
use Rattle.path.proofs.Cutting.{drop_of_take}
use Rattle.path.proofs.Every.{Every, every_append, every-drop_last}
use Rattle.path.proofs.Laws.{Shown, names-shown, names-body}
use Rattle.path.proofs.Reading.{body-append}
use Rattle.model.specs.Tree.{Path}
use Rattle.model.specs.Refusals.{path_too_long}
use Rattle.model.specs.Prog.{World, target?, answer, ret, ◌>>=◌, ◌>>◌, done, run}
use Rattle.model.specs.Lookup.{text_or, behind_link}
use Rattle.model.specs.Calls.States.{State, world_of}
use Rattle.model.proofs.Entries.{is_true}
use Rattle.model.proofs.Running.{allowed, need-run}
use Rattle.layout.specs.Store.{Store}
use Rattle.ask_find.specs.declared.Spot.{Spot}
use Rattle.ask_entry.specs.Reads.{Contents}
use Rattle.walk.specs.Meets.{LinkAt}
use Rattle.walk.specs.Lookups.{behind, Kept, Follows}

-- what was formed is the model's answer to whether the path fits, and is a path
pub formed-run : (w : World) (q : Path) (before after : Bytes) (r : Formed) → FormedIs q before after r
    → (allowed (path_fits q) path_too_long (done q w) ≡ behind w after r) × Kept after r
formed-run w q before after (Ok n) f = (
  ap (λ (b : Bool). allowed b path_too_long (done q w)) (is_true (path_fits q) f.fits) ∙ ap (λ (p : Path). done p w) (sym f.path),
  (f.few, ap body f.path ∙ sym f.text),
)
formed-run w q before after (Err e) f = (ap (λ (b : Bool). allowed b path_too_long (done q w)) f.0, tt)

-- the model's path behind a link whose target is s
behind-run : (w : World) (d : Path) (r : List Name) (s : Bytes) → answer (target? d) w ≡ some s
    → run (behind_link d r) w ≡ allowed (path_fits (followed (drop_last d) s r)) path_too_long (done (followed (drop_last d) s r) w)
unfolding behind_link run ◌>>=◌ ◌>>◌
behind-run w d r s e =
    let q : Option Bytes → Path = λ o. followed (drop_last d) (text_or o) r in
    need-run (path_fits (q (answer (target? d) w))) path_too_long (ret (q (answer (target? d) w))) w
    ∙ ap (λ (o : Option Bytes). allowed (path_fits (q o)) path_too_long (done (q o) w)) e

module _ {st : Store} {s : State} {w : World} (out : Bytes) (len : ℕ) {spot : Spot} {d e : ℕ} (h : len ≤ length out) (k : LinkAt st s w (take len out) spot d e) where
  abbrev text : Bytes
  text = take len out

  abbrev here : Path
  here = names (take e text)

  abbrev rest : List Name
  rest = names (drop e text)

  pub rest-low : e ≤ len
  rest-low = omega (arith, k.fits, length-take-le len out h)

  dir-text : take d out ≡ body (drop_last here)
  dir-text = sym (take-take d len out (omega (arith, k.up, rest-low))) ∙ k.dir

  dir-shown : Every Shown (drop_last here)
  dir-shown = every-drop_last Shown here (names-shown (take e text))

  dir-names : names (take d out) ≡ drop_last here
  dir-names = ap names dir-text ∙ names-body (drop_last here) dir-shown

  pub dir-plain : body (names (take d out)) ≡ take d out
  dir-plain = ap body dir-names ∙ sym dir-text

  pub follows : (t after : Bytes) (r : Formed) → Contents (world_of s) here t → Forms (body (absolute (names (take d out)) t) ++ part e len out) out after r → Follows w text e after r
  unfolding followed
  follows t after r c f =
      let q : Path = followed (drop_last here) t rest in
      let z : body (absolute (names (take d out)) t) ++ part e len out ≡ body q =
      ap (λ (x : List Name). body (absolute x t) ++ part e len out) dir-names
      ∙ ap (λ (x : Bytes). body (absolute (drop_last here) t) ++ x) (sym (drop_of_take e len out) ∙ k.rest)
      ∙ sym (body-append (absolute (drop_last here) t) rest) in
      let all : Every Shown q = every_append Shown (absolute (drop_last here) t) rest (absolute-shown (drop_last here) t dir-shown) (names-shown (drop e text)) in
      let g = formed-run w q out after r (formed_is q out after r all (subst (λ (x : Bytes). Forms x out after r) z f)) in
      let a : answer (target? here) w ≡ some t = k.there.target ∙ c.link (sym k.there.kind ∙ k.link) in
      record { answer = behind-run w here rest t a ∙ g.0; kept = g.1 }
