-- `next` meets its contract. Assumes nothing.
use mathlib.Core.Path.{◌≡◌, sym, ap, ◌∙◌, subst}
use lib.ListN.{get_or}
use Rattle.std.proofs.Common.{rules}
use Rattle.std.specs.Option.{option_map}
use Rattle.layout.specs.Fields.{depth_of}
use Rattle.layout.specs.Store.{live}
use Rattle.ask_find.specs.Spots.{At}
use Rattle.ask_list.specs.declared.entries.Entry.{Entry}
use Rattle.ask_list.specs.Entries.{entries_behind}
use Rattle.ask_list.specs.Listed.{behind_in, Rest}
use Rattle.ask_list.proofs.Entered.{left_in}
use Rattle.ask_list.proofs.Given.{Leading, leads-beside, rest_by}
use Rattle.ask_list.proofs.next.Goals as goal

pub returns : goal.returns
returns c =
    λ st e l q a p x i.
    let s = c.args.spot in
    let m : c.map.result ≡ option_map (λ (x : Entry). x.spot) c.next.result = search rules in
    let z : left_in c.behind.result ≡ entries_behind (live st) s (depth_of (get_or (live st) s.at 0)) =
    c.behind.ensures ∙ ap (entries_behind c.args.records.now s) c.depth_of-d.ensures ∙ (λ j. entries_behind (sym e j) s (depth_of (get_or (sym e j) s.at 0))) in
    let y = subst (Leading st l p (behind_in st p s)) (sym z) (leads-beside st l s p x (subst (At st s) i a)) in
    subst (Rest st p (behind_in st p s)) (sym m) (rest_by st l p (behind_in st p s) (left_in c.behind.result) (left_in c.next.new.self) c.next.result y c.next.ensures.steps)
