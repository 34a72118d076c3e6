-- `first` meets its contract. Assumes nothing.
use mathlib.Core.Path.{◌≡◌, sym, ◌∙◌, subst}
use Rattle.std.proofs.Common.{rules}
use Rattle.std.specs.Option.{option_map}
use Rattle.ask_list.specs.declared.entries.Entry.{Entry}
use Rattle.ask_list.specs.Listed.{listing_of, Rest}
use Rattle.ask_list.proofs.Entered.{left_in}
use Rattle.ask_list.proofs.Given.{Leading, by_records, leads-below, rest_by}
use Rattle.ask_list.proofs.first.Goals as goal

pub returns : goal.returns
returns c =
    λ st e l p a.
    let s = c.args.spot in
    let m : c.map.result ≡ option_map (λ (x : Entry). x.spot) c.next.result = search rules in
    let z = c.below.ensures ∙ by_records st l s p a c.args.records.now e in
    let y = subst (Leading st l p (listing_of st p)) (sym z) (leads-below st l s p a) in
    subst (Rest st p (listing_of st p)) (sym m) (rest_by st l p (listing_of st p) (left_in c.below.result) (left_in c.next.new.self) c.next.result y c.next.ensures.steps)
