-- `put_name` meets its contract. Assumes nothing.
use mathlib.Core.Path.{◌∙◌, sym, ap, refl}
use Prim.Native.Nat.{◌+◌, ◌-◌}
use native.Mathlib.Omega.{arith}
use lib.ListN.{length, set}
use Rattle.std.proofs.lemmas.Slice.{put_mid-paste}
use Rattle.text.specs.Utf8.{Bytes}
use Rattle.ask_list.proofs.Texts.{put-zero}
use Rattle.ask_list.proofs.put_name.Goals as goal

pub returns : goal.returns
returns c =
    let g = c.args in
    let n = length g.name.now in
    let copied = c.copy_into.ensures ∙ sym (put_mid-paste g.at (g.at + n - g.at) g.out.now g.name.now g.name.now n refl (omega arith) refl) in
    ap (λ (s : Bytes). set s (g.at + n) 0) copied ∙ put-zero g.out.now g.at g.name.now c.requires
