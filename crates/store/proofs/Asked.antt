-- A store that shows a state answers each question as the state does: what is read back is alike to it, and no question tells alike
-- states apart.
-- Assumes nothing.
use mathlib.Core.Path.{◌≡◌, refl, sym, ◌∙◌}
use Prim.Native.Nat.{ℕ}
use Rattle.std.specs.Prelude as std
use Rattle.std.specs.Prelude.{option_map}
use Rattle.text.specs.Utf8.{Bytes}
use Rattle.model.specs.Tree.{Path}
use Rattle.model.specs.Prog.{Ask, kind?, bytes?, target?, open?}
use Rattle.model.specs.Calls.States.{State, world_of}
use Rattle.model.proofs.Alike.Runs.{answer-alike}
use Rattle.layout.specs.Store.{Store, state}
use Rattle.layout.proofs.Edited.Shapes.{lawful-shape}
use Rattle.edit_room.specs.Extents.{trim}
use Rattle.ask_entry.specs.Reads.{Contents, kept_of}
use Rattle.ask_entry.specs.Reads as reads
use Rattle.ask_entry.specs.declared.Opened.{Opened}
use Rattle.store.specs.Shows.{Shows, says, NumberIs}

pub told : (st : Store) (s : State) → Shows st s → (q : Ask) → says q (state (trim st)) ≡ says q s
told st s h q = answer-alike q (state (trim st)) s (lawful-shape (trim st) h.roomy.lawful) h.shaped h.alike

-- ---- bytes and numbers

pub contents-told : {st : Store} {s : State} → Shows st s → {p : Path} {b : Bytes} → Contents (world_of (state (trim st))) p b → Contents (world_of s) p b
contents-told {st} {s} h {p} x =
    record {
      file = λ e. sym (told st s h (bytes? p)) ∙ x.file (told st s h (kind? p) ∙ e);
      link = λ e. sym (told st s h (target? p)) ∙ x.link (told st s h (kind? p) ∙ e);
    }

pub number-told : {st : Store} {s : State} → Shows st s → (n : ℕ) (r : std.Option Opened) → reads.NumberIs (trim st) n r → NumberIs s n (option_map (λ (o : Opened). o.pos) r)
number-told {st} {s} h n std.None x = sym (told st s h (open? n)) ∙ x
number-told {st} {s} h n (std.Some o) x = (record { pos = o.pos; kept = kept_of (trim st) n }, sym (told st s h (open? n)) ∙ x.1, refl)
