use Rattle.std.proofs.Common.{rules}
use Rattle.std.proofs.lemmas.Result.{on_ok_weaker}
use Rattle.lister.proofs.Laws.{go-prints}
use Rattle.lister.proofs.go.Goals as goal

pub returns : goal.returns
returns g c =
    on_ok_weaker c.write_all.result
    (go-prints c.read_full.new.out _ c.in_ok-n.n _ _ _ _ _ _ c.in_ok-n.ensures.in_bounds c.read_full.auto.out (search rules) c.in_ok-n.ensures.bytes c.in_ok-n.ensures.end c.fill-k.ensures.value c.fill-k.ensures.out_after)
    c.write_all.ensures.bytes
