-- lookup_entry_detail as the Rust has it, with the set `seen_entries` (01, "Forms of the Rust that can't stay"). No call is defined
-- by it: proofs/Lookups/Loops.antt shows that it refuses the same paths as `following`, which needs no set, and answers alike.
-- Assumes nothing.
use Rattle.std.specs.Prelude.{Bool, false, ◌||◌, not, List, [], ◌∷◌, ◌++◌, ℕ, zero, suc}
use Rattle.model.specs.Refusals.{link_loop}
use Rattle.model.specs.Tree.{Path, same_path}
use Rattle.model.specs.Prog.{Prog, stop, ◌>>=◌, ◌>>◌, need}
use Rattle.model.specs.Lookup.{behind_link, no_follow, most_links, Where, reached}

-- the path is in the set
unfoldable pub is_in : Path → List Path → Bool
is_in q [] = false
is_in q (x ∷ seen) = same_path x q || is_in q seen

-- "if seen_entries.is_empty()": the first last link's own path comes first
abbrev pub begun : List Path → Path → List Path
begun [] d = d ∷ []
begun (x ∷ seen) d = x ∷ seen

-- f no-follow lookups at most: one more would be stopped by 0, which is no refusal. A last link's target is formed and measured
-- (6), then it is a loop if it was seen before (7), else the next lookup starts there, with the count again 0
unfoldable pub hunting : ℕ → Path → List Path → List Path → Prog Where
hunting zero p seen ls = stop 0
hunting (suc f) p seen ls = do
  w ← no_follow most_links p ls
  reached w.end w.links (λ d. do
    q ← behind_link d []
    need (not (is_in q (begun seen d))) link_loop
    hunting f q (q ∷ begun seen d) (w.links ++ (d ∷ [])))
