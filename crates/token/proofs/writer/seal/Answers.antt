-- The seal: words 0 and 1, then the sums of what then stands before them.
-- Assumes nothing.
use Rattle.token.proofs.Sealed.{seal_law}
use Rattle.token.proofs.writer.seal.Goals as goal

pub returns : goal.returns
returns c =
    let a = c.before.args in
    let p = c.before.requires in
    seal_law a.out.now _ _ _ _ _ _ p.0 p.1 c.frame_head.ensures c.frame_sums-sums.ensures
