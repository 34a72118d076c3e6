-- A lookup that follows the links before the last name, turn by turn: the walk of the path that stands in the buffer meets an end, which is
-- the lookup's, or a link, behind which it goes on with one link less. The links are those of the world that is asked; their number is the same in all.
-- Assumes nothing.
use mathlib.Core.List.{List, [], ◌∷◌, ◌++◌, append-nil, append_assoc}
use mathlib.Core.Path.{◌≡◌, refl, sym, ap, ◌∙◌, subst}
use Prim.Native.Nat.{ℕ, suc, ◌+◌, ◌-◌, ◌≤◌, ◌<◌}
use native.Mathlib.Omega.{arith}
use lib.ListN.{length, take, drop, length-append}
use Rattle.std.specs.Prelude.{Ok, Err}
use Rattle.text.specs.Utf8.{Bytes}
use Rattle.path.specs.Path.{Name, names, body, pieces, keep, vanishes, same}
use Rattle.path.specs.declared.answer.TooLong.{TooLong}
use Rattle.path.specs.Answer.{Formed}
use Rattle.model.specs.Tree.{Path}
use Rattle.model.specs.Prog.{World, Out, done, refused, run}
use Rattle.model.specs.Lookup.{until_symlink, behind_link, ended, no_follow}
use Rattle.model.specs.Lookup as model
use Rattle.model.specs.Calls.States.{State}
use Rattle.model.proofs.Running.{then, run_bind}
use Rattle.model.proofs.Lookups.Pure.{along, no_follow_is}
use Rattle.layout.specs.Store.{Store}
use Rattle.refusal.specs.declared.Refusal.{Refusal}
use Rattle.refusal.specs.declared.Refusal.TheVariants.{LinkLoop, PathTooLong}
use Rattle.refusal.specs.Numbers.{number_of}
use Rattle.ask_find.specs.declared.Spot.{Spot}
use Rattle.store.specs.Shows.{Shows, Asked, Some}
use Rattle.walk.specs.declared.End.{End}
use Rattle.walk.specs.declared.link.Link.{Link}
use Rattle.walk.specs.declared.Met.{Met}
use Rattle.walk.specs.declared.Met.TheVariants.{Ends, MidLink}
use Rattle.walk.specs.Meets.{Plain, PathIn, means, end_of, LinkAt, Meets}
use Rattle.walk.specs.Lookups.{behind, Kept, Follows, SomeLink, Walks}
use Rattle.walk.proofs.Rooted.{some_asked}

-- ---- the worlds that a store shows

-- of every store that has the slices, and of every world that it shows, the entry of record h being out
abbrev pub All : (Store → Store) → ℕ → (Store → State → World → Type 0) → Type 0
All has h say = (st : Store) (s : State) → Shows (has st) s → (w : World) → Asked (has st) s h w → say (has st) s w

-- ---- one walk

-- no name is a path
pub plain_none : (out : Bytes) → Plain (take 0 out)
unfolding body names pieces keep vanishes same
plain_none out = refl

-- a lookup by its first walk
by_walk : (w : World) (k : ℕ) (p : Path) (ls : List Path) (o : Out model.Met) → run (until_symlink [] p) w ≡ o
    → run (no_follow k p ls) w ≡ then o (λ m u. run (ended ls m (along k ls)) u)
by_walk w k p ls o e =
    ap (λ (q : _). run q w) (no_follow_is k p ls) ∙ run_bind (until_symlink [] p) (λ m. ended ls m (along k ls)) w ∙ ap (λ (x : Out model.Met). then x (λ m u. run (ended ls m (along k ls)) u)) e

by_end : (w : World) (k : ℕ) (s : Bytes) (ls : List Path) (e : End) → then (means w s (Ok (Ends e))) (λ m u. run (ended ls m (along k ls)) u) ≡ done (record { end = end_of s e; links = ls }) w
unfolding ended run
by_end w k s ls e = refl

-- ---- one world

-- k links were followed, and the path that they led to is the first n bytes of the buffer
pub record Passed (w : World) (text out : Bytes) (n k : ℕ) : Type 0 where
  pub links : List Path
  pub counted : length links ≡ k
  pub same : (ls : List Path) → run (no_follow 40 (names text) ls) w ≡ run (no_follow (40 - k) (names (take n out)) (ls ++ links)) w

pass-start : (w : World) (out : Bytes) (n : ℕ) → Passed w (take n out) out n 0
pass-start w out n = record {
  links = [];
  counted = refl;
  same = λ ls. ap (λ (l : List Path). run (no_follow 40 (names (take n out)) l) w) (sym (append-nil ls));
}

-- a refusal
pass-refused : (st : Store) (s : State) (w : World) (h : ℕ) (text out : Bytes) (r : Refusal)
    → ((ls : List Path) → run (no_follow 40 (names text) ls) w ≡ refused (number_of r)) → Walks st s w h text out (Err r)
pass-refused st s w h text out r f = record { links = []; answer = f; place = tt }

module _ (st : Store) (s : State) (w : World) (h : ℕ) (text out : Bytes) (n k : ℕ) (g : Passed w text out n k) where
  pass-ended : n ≤ 1024 → k ≤ 40 → Plain (take n out) → (e : End) → Meets st s w h (take n out) (Ok (Ends e)) → Walks st s w h text out (Ok (record { end = e; len = n; links = k }))
  pass-ended fits few plain e m = record {
    links = g.links;
    answer = λ ls. g.same ls ∙ by_walk w (40 - k) (names (take n out)) (ls ++ g.links) _ m.answer ∙ by_end w (40 - k) (take n out) (ls ++ g.links) e;
    place = (record { counted = g.counted; fits = fits; plain = plain }, few, m.place);
  }

  -- a walk that is refused, as at a file where a directory is needed
  pass-stopped : (r : Refusal) → Meets st s w h (take n out) (Err r) → (after : Bytes) → Walks st s w h text after (Err r)
  pass-stopped r m after = pass-refused st s w h text after r (λ ls. g.same ls ∙ by_walk w (40 - k) (names (take n out)) (ls ++ g.links) _ m.answer)

  module _ (l : Link) (m : Meets st s w h (take n out) (Ok (MidLink l))) where
    abbrev here : Path
    here = names (take l.rest (take n out))

    abbrev rest : List Name
    rest = names (drop l.rest (take n out))

    goes : (ls : List Path) (j : ℕ) → 40 - k ≡ j → run (no_follow 40 (names text) ls) w ≡ run (along j (ls ++ g.links) here rest) w
    unfolding ended
    goes ls j z = g.same ls ∙ ap (λ (x : ℕ). run (no_follow x (names (take n out)) (ls ++ g.links)) w) z ∙ by_walk w j (names (take n out)) (ls ++ g.links) _ m.answer

    -- "the 41st link met before the last name is refused (7), before its path is formed or measured"
    pass-loop : k ≡ 40 → (after : Bytes) → Walks st s w h text after (Err LinkLoop)
    unfolding run
    pass-loop z after = pass-refused st s w h text after LinkLoop (λ ls. goes ls 0 (omega arith))

    module _ (low : k < 40) (after : Bytes) where
      one : (r : Formed) → Follows w (take n out) l.rest after r → (ls : List Path) (j : ℕ) → 40 - k ≡ suc j
          → run (no_follow 40 (names text) ls) w ≡ then (behind w after r) (λ q u. run (no_follow j q ((ls ++ g.links) ++ (here ∷ []))) u)
      one r f ls j z =
          goes ls (suc j) z ∙ run_bind (behind_link here rest) (λ q. no_follow j q ((ls ++ g.links) ++ (here ∷ []))) w
          ∙ ap (λ (o : Out Path). then o (λ q u. run (no_follow j q ((ls ++ g.links) ++ (here ∷ []))) u)) f.answer

      pass-long : (x : TooLong) → Follows w (take n out) l.rest after (Err x) → (out₂ : Bytes) → Walks st s w h text out₂ (Err PathTooLong)
      pass-long x f out₂ = pass-refused st s w h text out₂ PathTooLong (λ ls. one (Err x) f ls (39 - k) (omega arith))

      pass_on : (m₂ : ℕ) → Follows w (take n out) l.rest after (Ok m₂) → Passed w text after m₂ (k + 1)
      pass_on m₂ f = record {
        links = g.links ++ (here ∷ []);
        counted = length-append g.links (here ∷ []) ∙ omega (arith, g.counted);
        same = λ ls. one (Ok m₂) f ls (40 - (k + 1)) (omega arith) ∙ ap (λ (l : List Path). run (no_follow (40 - (k + 1)) (names (take m₂ after)) l) w) (append_assoc ls g.links (here ∷ []));
      }

-- ---- all worlds

-- so a link of all worlds is one of some world
pub some_link : (has : Store → Store) (h : ℕ) (text : Bytes) (spot : Spot) (d e : ℕ)
    → Some has → All has h (λ st s w. LinkAt st s w text spot d e) → SomeLink has text spot d e
some_link has h text spot d e y f =
    let a = some_asked (has y.0) y.1 h in
    (y.0, y.1, h, a.0, y.2, a.1, f y.0 y.1 y.2 a.0 a.1)

-- what was promised of a link, in a world where it is one
abbrev pub Following : (Store → Store) → Bytes → Spot → ℕ → ℕ → Bytes → Formed → Type 0
Following has text spot d e out r =
    (st : Store) (s : State) → Shows (has st) s → (h : ℕ) (w : World) → Asked (has st) s h w → LinkAt (has st) s w text spot d e → Follows w text e out r

-- what is kept of the buffer, where some world has the link
pub kept_in_lem : (has : Store → Store) (h : ℕ) (text : Bytes) (spot : Spot) (d e : ℕ) (out : Bytes) (r : Formed)
    → Some has → All has h (λ st s w. LinkAt st s w text spot d e) → Following has text spot d e out r → Kept out r
kept_in_lem has h text spot d e out r y f g =
    let a = some_asked (has y.0) y.1 h in
    (g y.0 y.1 y.2 h a.0 a.1 (f y.0 y.1 y.2 a.0 a.1)).kept

-- k links were followed in all worlds, and the path that they led to is the first n bytes of the buffer
pub record Going (has : Store → Store) (h : ℕ) (text first out : Bytes) (n k : ℕ) : Type 0 where
  pub fits : n ≤ 1024
  pub long : length out ≡ length first
  pub plain : Plain (take n out)
  pub few : k ≤ 40
  pub passed : All has h (λ st s w. Passed w text out n k)

pub go-plain : (has : Store → Store) (h : ℕ) (out : Bytes) (n k : ℕ) → n ≤ 1024 → Plain (take n out) → k ≡ 0 → Going has h (take n out) out out n k
go-plain has h out n k f p z =
    subst (Going has h (take n out) out out n) (sym z)
    (record { fits = f; long = refl; plain = p; few = omega arith; passed = λ st s y w a. pass-start w out n })

pub go-start : (has : Store → Store) (h : ℕ) (out : Bytes) (n : ℕ) → PathIn out n → Going has h (take n out) out out n 0
go-start has h out n p = go-plain has h out n 0 p.few p.plain refl

module _ {has : Store → Store} {h : ℕ} {text first out : Bytes} {n k : ℕ} (g : Going has h text first out n k) where
  pub go-stopped : (r : Refusal) → All has h (λ st s w. Meets st s w h (take n out) (Err r)) → (after : Bytes) → All has h (λ st s w. Walks st s w h text after (Err r))
  go-stopped r met after st s y w a = pass-stopped (has st) s w h text out n k (g.passed st s y w a) r (met st s y w a) after

  module _ (m : Met) (met : All has h (λ st s w. Meets st s w h (take n out) (Ok m))) where
    pub go-ended : (e : End) → m ≡ Ends e → All has h (λ st s w. Walks st s w h text out (Ok (record { end = e; len = n; links = k })))
    go-ended e q st s y w a =
        pass-ended (has st) s w h text out n k (g.passed st s y w a) g.fits g.few g.plain e (subst (λ (x : Met). Meets (has st) s w h (take n out) (Ok x)) q (met st s y w a))

    module _ (l : Link) (q : m ≡ MidLink l) where
      mid : All has h (λ st s w. Meets st s w h (take n out) (Ok (MidLink l)))
      mid st s y w a = subst (λ (x : Met). Meets (has st) s w h (take n out) (Ok x)) q (met st s y w a)

      pub go-link : All has h (λ st s w. LinkAt st s w (take n out) l.spot l.dir l.rest)
      go-link st s y w a = (mid st s y w a).place

      pub go-loop : k ≡ 40 → (after : Bytes) → All has h (λ st s w. Walks st s w h text after (Err LinkLoop))
      go-loop z after st s y w a = pass-loop (has st) s w h text out n k (g.passed st s y w a) l (mid st s y w a) z after

      module _ (low : k < 40) (after : Bytes) where
        pub go-long : (x : TooLong) → Following has (take n out) l.spot l.dir l.rest after (Err x) → (out₂ : Bytes) → All has h (λ st s w. Walks st s w h text out₂ (Err PathTooLong))
        go-long x f out₂ st s y w a =
            pass-long (has st) s w h text out n k (g.passed st s y w a) l (mid st s y w a) low after x (f st s y h w a (go-link st s y w a)) out₂

        pub go_on : Some has → (m₂ : ℕ) → Following has (take n out) l.spot l.dir l.rest after (Ok m₂) → length after ≡ length first → Going has h text first after m₂ (k + 1)
        go_on some m₂ f long =
            let p = kept_in_lem has h (take n out) l.spot l.dir l.rest after (Ok m₂) some go-link f in
            record {
              fits = p.0;
              long = long;
              plain = p.1;
              few = omega arith;
              passed = λ st s y w a. pass_on (has st) s w h text out n k (g.passed st s y w a) l (mid st s y w a) low after m₂ (f st s y h w a (go-link st s y w a));
            }
