-- `pieces::piece_end` meets its contract: up to what was found no slash stands.
use Rattle.std.proofs.Common.{rules, ◌≢◌, ◌≡◌, ◌-◌, ◌<◌, ℕ, length, take, drop, get_or}
use Rattle.std.specs.List.{All}
use Rattle.path.proofs.Cutting.{whole_before, whole_last}
use Rattle.path.proofs.pieces.piece_end.Goals as goal

pub returns-in-Some : goal.returns-in-Some
returns-in-Some c =
    let s = c.args.s.now in
    let a = c.args.a in
    let t = take (length s - a) (drop a s) in
    let i = c.in-Some.slash in
    let fits : i < length t = search rules in
    let here : get_or t i 0 ≡ 47 = search rules in
    let before : (k : ℕ) → k < i → get_or t k 0 ≢ 47 = search rules in
    whole_before s a c.requires.0 i fits here before c.requires.1

pub returns-in-None : goal.returns-in-None
returns-in-None c =
    let s = c.args.s.now in
    let a = c.args.a in
    let none : All (λ b. b ≢ 47) (take (length s - a) (drop a s)) = search rules in
    whole_last s a c.requires.0 (λ k h. none k 0 h) c.requires.1
