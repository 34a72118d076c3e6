-- A given path made absolute: the text that is kept of the current directory reads as its path, so what is formed in the buffer is the
-- path that the model forms, and fits exactly where that does.
-- Assumes nothing.
use mathlib.Core.Path.{◌≡◌, ◌∙◌, subst}
use Rattle.text.specs.Utf8.{Bytes}
use Rattle.path.specs.Path.{normal, absolute, body, path_fits}
use Rattle.path.specs.Answer.{Formed, Forms}
use Rattle.path.proofs.Allowed.{formed_is, absolute-shown}
use Rattle.path.proofs.Every.{Every}
use Rattle.path.proofs.Laws.{Shown, names-shown}
use Rattle.model.specs.Refusals.{path_too_long}
use Rattle.model.specs.Tree.{Path}
use Rattle.model.specs.Prog.{World, ret, answer, ◌>>=◌, ◌>>◌, done, run}
use Rattle.model.specs.Operations.Steps.{to_absolute}
use Rattle.model.specs.Calls.States.{State, world_of}
use Rattle.model.proofs.Running.{allowed, need-run}
use Rattle.ask_entry.specs.Reads.{PathIs}
use Rattle.walk.proofs.Behind.{formed-run}
use Rattle.op.specs.Testing.{AbsoluteIs}

absolute-run : (path : Bytes) (w : World) → run (to_absolute path) w ≡ allowed (path_fits (absolute w.here path)) path_too_long (done (absolute w.here path) w)
unfolding to_absolute run ◌>>=◌ ◌>>◌ answer
absolute-run path w = need-run (path_fits (absolute w.here path)) path_too_long (ret (absolute w.here path)) w

pub absolute_is : (s : State) (here path before after : Bytes) (r : Formed) → PathIs s.here here → Forms (body (absolute (normal here) path)) before after r
    → AbsoluteIs s path after r
absolute_is s here path before after r h f =
    let q = absolute s.here path in
    let all : Every Shown q = absolute-shown s.here path (subst (Every Shown) h.names (names-shown here)) in
    let g = formed-run (world_of s) q before after r (formed_is q before after r all (subst (λ (p : Path). Forms (body (absolute p path)) before after r) h.normal f)) in
    record { answer = absolute-run path (world_of s) ∙ g.0; kept = g.1 }
