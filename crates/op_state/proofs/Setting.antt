-- The runs of the operations that set the umask and the current directory: one question or one lookup, and one edit.
-- Assumes nothing.
use mathlib.Core.Path.{◌≡◌, ap, ◌∙◌}
use Prim.Native.Nat.{ℕ}
use lib.ListN.{length, take}
use Rattle.text.specs.Utf8.{Bytes}
use Rattle.path.specs.Path.{names}
use Rattle.model.specs.Prog.{World, mask?, go, umask, apply, answer, ret, edits, Prog, ◌>>=◌, ◌>>◌, done, refused, run}
use Rattle.model.specs.Operations.Steps as model
use Rattle.model.specs.Operations.Steps.{Reply, plain_reply, number_reply}
use Rattle.model.specs.Operations.Directories.{set_current_dir_at, umask_to}
use Rattle.model.specs.Calls.States.{State, world_of}
use Rattle.std.specs.Prelude.{Ok, Err}
use Rattle.refusal.specs.Numbers.{number_of}
use Rattle.refusal.specs.declared.Refusal.{Refusal}
use Rattle.layout.specs.Store.{Store}
use Rattle.walk.specs.declared.There as led
use Rattle.walk.specs.Leads.{Leads}
use Rattle.op.proofs.Leading.{led_there, led-refused, led-count}

pub umask-run : (m old : ℕ) (w : World) → answer mask? w ≡ old → run (umask_to m) w ≡ done (number_reply old 0) (apply (umask m) w)
unfolding umask_to run ◌>>=◌ ◌>>◌
umask-run m old w e = ap (λ (n : ℕ). done (number_reply n 0) (apply (umask m) w)) e

-- behind the lookup
abbrev goes : model.There → Prog Reply
goes e = edits (go e.path) >> ret (plain_reply (length e.links))

pub current-refused : {st : Store} {s : State} (b : ℕ) {text out : Bytes} {e : Refusal} → Leads (model.leads b) st s (world_of s) text out (Err e)
    → run (set_current_dir_at b (names text)) (world_of s) ≡ refused (number_of e)
unfolding set_current_dir_at
current-refused b l = led-refused l goes

pub current-set : {st : Store} {s : State} (b : ℕ) {text out : Bytes} {t : led.There} → Leads (model.leads b) st s (world_of s) text out (Ok t)
    → run (set_current_dir_at b (names text)) (world_of s) ≡ done (plain_reply t.links) (apply (go (names (take t.len out))) (world_of s))
unfolding set_current_dir_at run ◌>>=◌ ◌>>◌
current-set {s = s} b {out = out} {t = t} l =
    led_there l goes ∙ ap (λ (m : ℕ). done (plain_reply m) (apply (go (names (take t.len out))) (world_of s))) (led-count l)
