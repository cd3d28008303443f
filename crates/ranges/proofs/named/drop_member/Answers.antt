use native.Mathlib.Omega.{arith}
use Rattle.ranges.proofs.Dropping.{drop-start, drop-it, keep-it, name-inside}
use Rattle.ranges.proofs.named.drop_member.Goals as goal
use Rattle.ranges.proofs.named.drop_member.Goals.{then-not-has_name, else-not-has_name}

pub loop-i-init : goal.loop-i-init
loop-i-init c = drop-start c.args.s.now c.args.name.now c.args.out.now c.args.base

pub has_name-requires : goal.has_name-requires
has_name-requires c = (omega (arith, c.loop-i-test.true, c.requires.room, c.loop-i.invariant.altered.size), name-inside c.args.s.now c.args.name.now c.args.out.now c.args.base c.loop-i.i c.loop-i.k c.loop-i.out c.loop-i.invariant c.loop-i.auto.i c.requires c.loop-i-test.true)

pub loop-i-preserved : goal.loop-i-preserved
loop-i-preserved c = elim c.if-not-has_name.branch [
  | then-not-has_name w ↦ rw (w.k-is, w.out-is, w.move_entry-k.ensures.1)
      (keep-it c.args.s.now c.args.name.now c.args.out.now c.args.base c.loop-i.i c.loop-i.k c.loop-i.out c.loop-i.invariant c.loop-i.auto.i c.has_name.ensures w.if-not-has_name.true (omega (arith, c.loop-i-test.true, c.requires.room, c.loop-i.invariant.altered.size)) w.move_entry-k.ensures.0)
  | else-not-has_name w ↦ rw (w.k-is, w.out-is)
      (drop-it c.args.s.now c.args.name.now c.args.out.now c.args.base c.loop-i.i c.loop-i.k c.loop-i.out c.loop-i.invariant c.loop-i.auto.i c.has_name.ensures w.if-not-has_name.false)
]
