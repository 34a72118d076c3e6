-- `leads` meets its contract: what it answers is what the lookup comes to, with NotFound where that is nothing. Assumes nothing.
use Rattle.std.proofs.lemmas.Result.{err_from_is_err_and}
use Rattle.walk.proofs.Leading.{leads-looked, leads-refused}
use Rattle.walk.proofs.leads.leads.Goals as goal

pub returns-in_err-lookup_entry_detail : goal.returns-in_err-lookup_entry_detail
returns-in_err-lookup_entry_detail c =
    λ st s h w y.
    let p = err_from_is_err_and c.from_residual.result c.from_residual.ensures.1 in
    rw (p.1, p.2) (leads-refused _ (c.in_err-lookup_entry_detail.ensures st s h w y))

pub returns : goal.returns
returns c = λ st s h w y. rw c.or.ensures (leads-looked _ (c.in_ok-lookup_entry_detail.ensures st s h w y))
