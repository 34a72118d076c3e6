-- `pieces::piece_start` meets its contract: from what was found on no slash stands.
use Rattle.std.proofs.Common.{rules, ◌≢◌, ◌≡◌, ◌+◌, ◌≤◌, ◌<◌, ℕ, length, take, get_or}
use Rattle.std.specs.List.{All}
use Rattle.path.proofs.Cutting.{piece_behind, piece_first}
use Rattle.path.proofs.pieces.piece_start.Goals as goal

pub returns-in-Some : goal.returns-in-Some
returns-in-Some c =
    let t = take c.args.e c.args.s.now in
    let i = c.in-Some.slash in
    let fits : i < length t = search rules in
    let here : get_or t i 0 ≡ 47 = search rules in
    let behind : (k : ℕ) → i + 1 ≤ k → k < length t → get_or t k 0 ≢ 47 = search rules in
    piece_behind c.args.s.now c.args.e c.requires i fits here behind

pub returns-in-None : goal.returns-in-None
returns-in-None c =
    let none : All (λ b. b ≢ 47) (take c.args.e c.args.s.now) = search rules in
    piece_first c.args.s.now c.args.e c.requires (λ k h. none k 0 h)
